use Rattle.std.proofs.Common.{◌≡◌, map, length, take, replicate, Err, ap, sym, ◌∙◌, ap₂, arith, rules}
use Rattle.std.proofs.lemmas.List.{with_items_is}
use Rattle.replay.specs.Ways.{told}
use Rattle.gnb.specs.declared.marks.Mark.TheVariants.{Negative}
use Rattle.gnb.specs.Plans.{call_of}
use Rattle.link.specs.Played.{opening}
use Rattle.replay.specs.Answers.{numbered_from}
use Rattle.replay.specs.Scripts.{no_entry, exchange_in}
use Rattle.replay.proofs.Exchanges.{plays, play_declined, on_ok}
use Rattle.replay.proofs.playing.play.Goals as goal

pub returns-clause-plays : goal.returns-clause-plays
returns-clause-plays c =
    let s = c.args.script.now in
    let blank : c.default.result ≡ no_entry = search rules in
    let table : c.in_ok-sent.sent.items ≡ replicate s.table c.default.result = search rules in
    let marks : c.in_ok-marks.marks.items ≡ replicate c.len.result c.default-2.result = search rules in
    let negative : c.default-2.result ≡ Negative = search rules in
    let long : length c.in_ok-bytes.bytes.items ≡ 1706 = search rules in
    plays s _ c.as_mut_slice.result.now c.as_mut_slice-2.result.now c.as_mut_slice-3.result.now
    (ap (map call_of) c.as_slice-2.ensures.value ∙ c.in_ok-calls.ensures)
    (c.as_mut_slice.ensures.value ∙ table ∙ ap (replicate s.table) blank)
    (c.as_mut_slice-2.ensures.value ∙ marks ∙ ap (replicate c.len.result) negative ∙ ap (λ n. replicate n Negative) c.len.ensures)
    (ap length c.as_mut_slice-3.ensures.value ∙ long)
    _ c.args.way c.run.new.table c.run.new.digits _ c.in_ok-answers.ensures.answers (sym c.in_ok-exchanged.was ∙ c.run.ensures.exchanged) c.run.ensures.table
    (c.shrink_to_fit.ensures.items ∙ c.truncate.ensures.items ∙ ap (take _) (with_items_is c.in_ok-sent.sent c.run.new.table (omega (arith, c.run.auto.table, c.as_mut_slice.ensures.len))))
    (c.numbered_after.ensures ∙ ap (numbered_from 0) c.as_slice-3.ensures.value)
    (with_items_is c.in_ok-marks.marks c.run.new.marks (omega (arith, c.run.auto.marks, c.as_mut_slice-2.ensures.len)) ∙ c.run.ensures.marks)
    (c.in_ok-digits.ensures
    ∙ ap (map (told c.args.way)) (c.as_slice-4.ensures.value ∙ c.truncate-2.ensures.items
    ∙ ap₂ take c.unwrap_or.ensures (with_items_is c.in_ok-bytes.bytes c.run.new.digits (omega (arith, c.run.auto.digits, c.as_mut_slice-3.ensures.len)))))
    (on_ok _ _ _ c.in_ok-exchanged.was c.run.ensures.digits)

pub returns-in_err-exchanged-clause-fails : goal.returns-in_err-exchanged-clause-fails
returns-in_err-exchanged-clause-fails c =
    let s = c.args.script.now in
    let blank : c.default.result ≡ no_entry = search rules in
    let table : c.in_ok-sent.sent.items ≡ replicate s.table c.default.result = search rules in
    let marks : c.in_ok-marks.marks.items ≡ replicate c.len.result c.default-2.result = search rules in
    let negative : c.default-2.result ≡ Negative = search rules in
    let long : length c.in_ok-bytes.bytes.items ≡ 1706 = search rules in
    let is : opening (exchange_in s) ≡ Err c.in_err-exchanged.field-0.0 =
    play_declined s _ _ _ _ _
    (ap (map call_of) c.as_slice-2.ensures.value ∙ c.in_ok-calls.ensures)
    (c.as_mut_slice.ensures.value ∙ table ∙ ap (replicate s.table) blank)
    (c.as_mut_slice-2.ensures.value ∙ marks ∙ ap (replicate c.len.result) negative ∙ ap (λ n. replicate n Negative) c.len.ensures)
    (ap length c.as_mut_slice-3.ensures.value ∙ long) (sym c.in_err-exchanged.was ∙ c.run.ensures.exchanged) in
    search rules
