use Rattle.std.proofs.Common.{ℕ, ◌+◌, ◌*◌, List, ◌++◌, length, take, drop, is_some, sym, ap, ◌∙◌, ap₂}
use Rattle.harq.specs.Configs.{bits_per_place}
use Rattle.gnb.specs.declared.counts.Counts.{Counts}
use Rattle.gnb.specs.declared.grants.GrantEntry.{GrantEntry}
use Rattle.gnb.specs.declared.marks.Mark.{Mark}
use Rattle.gnb.specs.Readings.{bits_heard, entry_read, firsts, mark_by, entry_marks, with_marks, none_counted, table_read, sps_read}
use Rattle.gnb.proofs.Firsts.{firsts_front, take_front}
use Rattle.gnb.proofs.Tallies.{with_more, marks_alone}
use Rattle.gnb.proofs.states.reports.Awaiting.settle.Goals as goal

pub returns : goal.returns
returns c =
    let b = c.args.self.batch in
    let answers = is_some c.args.report in
    let bits = bits_heard c.args.report in
    let table = c.args.table.now in
    let marks = c.args.marks.now in
    let entry : ℕ → GrantEntry → GrantEntry = λ _ e. entry_read b.config answers bits e in
    let mark : ℕ → ℕ → Mark → Mark = λ w i _. mark_by answers bits (w * b.numbered + i) in
    let entries = c.mark_entries.ensures in
    let sps = c.mark_sps.ensures ∙ ap (λ (w : ℕ). firsts (mark w) 0 (length (take b.sps marks)) (take b.sps marks)) c.bits_per_place.ensures in
    record {
      counts =
          c.with_all-2.ensures.is
          ∙ ap₂ with_marks
          (c.with_all.ensures.is
          ∙ ap₂ (λ (k : Counts) (l : List GrantEntry). with_marks k (entry_marks l)) c.none.ensures (entries ∙ sym (take_front entry 0 b.numbered table)))
          (marks_alone _ ∙ sps ∙ sym (take_front (mark (bits_per_place b.config)) 0 b.sps marks))
          ∙ with_more (none_counted b.granted) (entry_marks (take b.numbered (table_read b answers bits table))) (take b.sps (sps_read b answers bits marks));
      table = ap (λ (l : List GrantEntry). l ++ drop b.numbered table) entries ∙ firsts_front entry 0 b.numbered table;
      marks = ap (λ (l : List Mark). l ++ drop b.sps marks) sps ∙ firsts_front (mark (bits_per_place b.config)) 0 b.sps marks;
    }
