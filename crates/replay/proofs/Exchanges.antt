-- What a script's exchange is, and the text of its report. Assumes nothing.
use Rattle.std.proofs.Common.{◌≡◌, ℕ, ◌<◌, Bool, true, false, cond, not, List, [], ◌∷◌, map, replicate, length, get_or, take, ◌≤◌, IfOk, OnOk, Ok, Err, Result, String, vec_items, vec_len, string_bytes, sym, refl, ap, ◌∙◌, subst, ap₂, arith}
use Rattle.std.specs.List.{All}
use Rattle.std.specs.Result.{result_unwrap_or}
use Rattle.std.proofs.lemmas.List.Elements.{All-map}
use Rattle.std.proofs.lemmas.List.{take_at, length-map, length-replicate}
use Rattle.std.proofs.lemmas.Str.Ascii.{IsAscii-from_all, encodes-IsAscii}
use lib.Utf8.{encodes}
use Rattle.sink.specs.Digits.{digit, said}
use Rattle.sink.specs.Written.{written}
use Rattle.sink.proofs.Writing.{written_over}
use Rattle.harq.specs.declared.refusals.Refusal.{Refusal}
use Rattle.harq.specs.declared.sps.SpsEntry.{SpsEntry}
use Rattle.harq.specs.Words.{onward}
use Rattle.ue.specs.declared.declines.Decline.{Decline}
use Rattle.ue.specs.Checks.{judged, length_of}
use Rattle.ue.specs.Reports.{refusal_in, gained_by}
use Rattle.ue.proofs.Accepted.{length_report}
use Rattle.ue.specs.declared.arrivals.SpsOutcome.{SpsOutcome}
use Rattle.ue.specs.declared.slots.Slot.TheVariants as slot
use Rattle.gnb.specs.declared.grants.Call as code
use Rattle.gnb.specs.declared.grants.GrantEntry.{GrantEntry}
use Rattle.gnb.specs.declared.marks.Mark.{Mark}
use Rattle.gnb.specs.declared.marks.Mark.TheVariants.{Negative}
use Rattle.gnb.specs.Plans.{call_of}
use Rattle.gnb.specs.declared.batches.BatchState.{BatchState}
use Rattle.gnb.specs.Opening.{opened, fresh_batch}
use Rattle.gnb.specs.Sending.{Call}
use Rattle.agreement.specs.Exchanges.{Exchange, sps_list, all_arrived, report_answered}
use Rattle.link.specs.declared.exchanges.Batch.{Batch}
use Rattle.link.specs.declared.exchanges.Exchanged.{Exchanged}
use Rattle.link.specs.Played.{exchange_of, opening, exchanged, exchanged_by, table_exchanged, marks_exchanged, if_opened, bits_gained, bits_exchanged}
use Rattle.link.proofs.Bounds.{gained_few}
use Rattle.replay.specs.declared.running.Way.{Way}
use Rattle.replay.specs.declared.running.Way.TheVariants as way
use Rattle.replay.specs.Ways.{aired, told}
use Rattle.replay.specs.Answers.{answers_from, numbered_from}
use Rattle.replay.specs.Scripts.{asked, no_entry, exchange_by, exchange_in}
use Rattle.replay.specs.Played.{Plays, answers_of}
use Rattle.replay.specs.declared.playing.Played.{Played}
use Rattle.replay.proofs.Answering.{numbered_run}
use Rattle.replay.proofs.Calling.{fresh}
use Rattle.replay.specs.declared.scripts.Script.{Script}

-- the exchange of a script, from what a call is given
pub exchange_is : (s : Script) (b : Batch) (calls : List code.Call) (table : List GrantEntry) (marks : List Mark) (room n : ℕ) →
    b.config.now ≡ s.config → b.sps.now ≡ vec_items s.sps → b.calls.now ≡ calls → b.fates.now ≡ vec_items s.fates → room ≡ n →
    exchange_of b table marks (replicate 1706 (slot.One false)) room ≡ exchange_by s (map call_of calls) table marks n
exchange_is s b calls table marks room n d e f h i = rw (d, e, f, h, i) refl

either_small : (b : Bool) (m n : ℕ) → m < 128 → n < 128 → cond b m n < 128
either_small true m n hm hn = hm
either_small false m n hm hn = hn

told_small : (w : Way) (d : ℕ) → told w d < 128
told_small way.Plain d = either_small (said d) 49 48 (omega arith) (omega arith)
told_small way.Inverted d = either_small (not (said d)) 49 48 (omega arith) (omega arith)

-- digits are their own text
pub told_text : {Z E : Type 0} (r : Result (String Z) E) (w : Way) (ds : List ℕ) →
    IfOk r (λ s. string_bytes s ≡ encodes (map (told w) ds)) → IfOk r (λ s. string_bytes s ≡ map (told w) ds)
told_text r w ds h =
    let small : All (λ d. d < 128) (map (told w) ds) = All-map (λ d. d < 128) (told w) ds (λ k d lt. told_small w (get_or ds k d)) in
    subst (λ l. IfOk r (λ s. string_bytes s ≡ l)) (encodes-IsAscii (map (told w) ds) (IsAscii-from_all _ small)) h

-- what calls answer that are made after an opening
pub answers_are : (s : Script) (sps : List SpsEntry) (b : BatchState) (marks n : ℕ) (calls : List Call) (items : List (Result ℕ Refusal)) →
    items ≡ answers_from b n calls → Ok b ≡ opened s.config sps marks → sps ≡ map (λ (r : SpsOutcome). r.entry) (vec_items s.sps) → n ≡ s.table →
    calls ≡ map asked (vec_items s.requests) → items ≡ answers_of (exchange_in s)
answers_are s sps b marks n calls items are is listed long asks =
    are ∙ rw (fresh s.config sps marks b is, listed, long, asks, length-replicate) refl

-- the exchange over what `play` lends
pub script_exchange : (s : Script) (calls : List Call) (table : List GrantEntry) (marks : List Mark) →
    calls ≡ map asked (vec_items s.requests) → table ≡ replicate s.table no_entry → marks ≡ replicate (vec_len s.sps) Negative →
    exchange_by s calls table marks 1706 ≡ exchange_in s
script_exchange s calls table marks e f h = rw (e, f, h) refl

-- the report's length
module _ (x : Exchange) where
  answered_long : (r : Result ℕ Decline) → judged x.config (all_arrived x) x.sps (length x.slots) x.room ≡ r →
      length (gained_by x.config (all_arrived x) x.sps (refusal_in (onward r (λ slots. Ok (length_of x.config slots (length x.sps))))))
      ≡ result_unwrap_or (refusal_in (onward r (λ slots. Ok (length_of x.config slots (length x.sps))))) 0
  answered_long (Ok n) e = length_report x.config (all_arrived x) x.sps (length x.slots) x.room n e
  answered_long (Err d) e = refl

  gained_long : length (bits_gained x) ≡ result_unwrap_or (report_answered x) 0
  gained_long = answered_long (judged x.config (all_arrived x) x.sps (length x.slots) x.room) refl

  pub reported_long : (e : Exchanged) → Ok e ≡ exchanged x → length (bits_exchanged x) ≡ result_unwrap_or e.report 0
  reported_long e is =
      go (opening x) is
    where
      go : (o : Result BatchState Refusal) → Ok e ≡ exchanged_by o x → length (if_opened o (bits_gained x) []) ≡ result_unwrap_or e.report 0
      go (Ok b) is = let same : e.report ≡ report_answered x = cc in gained_long ∙ ap (λ r. result_unwrap_or r 0) (sym same)
      go (Err y) is = let z : ◌≡◌ {A = ℕ} 0 1 = cc in absurd (omega arith)

-- the digits of what the sink took, told as those of the report
digits_again : (w : Way) (bits : List Bool) → map (told w) (map digit (aired w bits)) ≡ map digit bits
digits_again way.Plain [] = refl
digits_again way.Plain (true ∷ bits) = ap (λ l. 49 ∷ l) (digits_again way.Plain bits)
digits_again way.Plain (false ∷ bits) = ap (λ l. 48 ∷ l) (digits_again way.Plain bits)
digits_again way.Inverted [] = refl
digits_again way.Inverted (true ∷ bits) = ap (λ l. 49 ∷ l) (digits_again way.Inverted bits)
digits_again way.Inverted (false ∷ bits) = ap (λ l. 48 ∷ l) (digits_again way.Inverted bits)

length_aired : (w : Way) (bits : List Bool) → length (aired w bits) ≡ length bits
length_aired way.Plain bits = refl
length_aired way.Inverted bits = length-map bits not

pub digits_are : (w : Way) (bits : List Bool) (old after : List ℕ) (n : ℕ) → after ≡ written old 0 (map digit (aired w bits)) →
    length bits ≤ length old → length bits ≡ n → map (told w) (take n after) ≡ map digit bits
digits_are w bits old after n is few long =
    let many : length (map digit (aired w bits)) ≡ length bits = length-map (aired w bits) digit ∙ length_aired w bits in
    ap (λ l. map (told w) (take n l)) (is ∙ written_over old (map digit (aired w bits)) (omega (arith, few, many)))
    ∙ ap (map (told w)) (take_at (map digit (aired w bits)) _ n (many ∙ long))
    ∙ digits_again w bits

-- the report has at most 1,706 bits
few_bits : (x : Exchange) → length (bits_exchanged x) ≤ 1706
few_bits x =
    go (opening x)
  where
    go : (o : Result BatchState Refusal) → length (if_opened o (bits_gained x) []) ≤ 1706
    go (Ok b) = gained_few x.config (all_arrived x) x.sps (length x.slots) x.room
    go (Err e) = omega arith

-- what `play` puts together
module _ (s : Script) (calls : List Call) (table : List GrantEntry) (marks : List Mark) (old : List ℕ)
    (asks : calls ≡ map asked (vec_items s.requests)) (blank : table ≡ replicate s.table no_entry) (clear : marks ≡ replicate (vec_len s.sps) Negative)
    (room : length old ≡ 1706) where
  abbrev lent : Exchange
  lent = exchange_by s calls table marks (length old)

  same : lent ≡ exchange_in s
  same = ap (exchange_by s calls table marks) room ∙ script_exchange s calls table marks asks blank clear

  pub plays : (p : Played) (w : Way) (after : List GrantEntry) (digits : List ℕ) (count : ℕ) →
      vec_items p.answers ≡ answers_of (exchange_in s) → Ok p.exchanged ≡ exchanged lent → after ≡ table_exchanged lent →
      vec_items p.sent ≡ take count after → count ≡ numbered_from 0 (vec_items p.answers) → vec_items p.marks ≡ marks_exchanged lent →
      string_bytes p.digits ≡ map (told w) (take (result_unwrap_or p.exchanged.report 0) digits) →
      digits ≡ written old 0 (map digit (aired w (bits_exchanged lent))) → Plays (exchange_in s) p
  plays p w after digits count answers is left sent many marked says wrote =
      let x = exchange_in s in
      let is-x : Ok p.exchanged ≡ exchanged x = is ∙ ap exchanged same in
      let long = reported_long x p.exchanged is-x in
      let same-long = ap (λ y. length (bits_exchanged y)) same in
      let few = few_bits x in
      let run = numbered_run (fresh_batch x.config (sps_list x)) x.table x.calls in
      record {
        answers = answers;
        exchanged = is-x;
        sent = sent ∙ ap₂ take (many ∙ ap (numbered_from 0) answers ∙ run) (left ∙ ap table_exchanged same);
        marks = marked ∙ ap marks_exchanged same;
        digits = says ∙ digits_are w (bits_exchanged lent) old digits _ wrote (omega (arith, same-long, few, room)) (same-long ∙ long) ∙ ap (λ y. map digit (bits_exchanged y)) same;
      }

-- an exchange that is declined was declined at its opening
pub declined : (x : Exchange) (e : Refusal) → Err e ≡ exchanged x → opening x ≡ Err e
declined x e is =
    go (opening x) is
  where
    go : (o : Result BatchState Refusal) → Err e ≡ exchanged_by o x → o ≡ Err e
    go (Ok b) is = let z : ◌≡◌ {A = ℕ} 0 1 = cc in absurd (omega arith)
    go (Err y) is = let same : e ≡ y = cc in ap (λ z. Err z) (sym same)

-- the same of what `play` runs
pub play_declined : (s : Script) (calls : List Call) (table : List GrantEntry) (marks : List Mark) (room : ℕ) (e : Refusal) →
    calls ≡ map asked (vec_items s.requests) → table ≡ replicate s.table no_entry → marks ≡ replicate (vec_len s.sps) Negative → room ≡ 1706 →
    Err e ≡ exchanged (exchange_by s calls table marks room) → opening (exchange_in s) ≡ Err e
play_declined s calls table marks room e asks blank clear long is =
    declined (exchange_in s) e (is ∙ ap exchanged (ap (exchange_by s calls table marks) long ∙ script_exchange s calls table marks asks blank clear))

-- what holds where a call succeeds
pub on_ok : {A E : Type 0} (r : Result A E) (x : A) (P : Type 0) → r ≡ Ok x → OnOk r P → P
on_ok r x P is h = subst (λ q. OnOk q P) is h
