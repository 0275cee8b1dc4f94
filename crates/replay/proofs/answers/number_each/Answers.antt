use Rattle.std.proofs.Common.{◌≤◌, [], ◌∷◌, length, vec_items, sym, refl, ap, ◌∙◌, subst, arith}
use Rattle.std.proofs.lemmas.Slice.{pushed}
use Rattle.gnb.specs.declared.batches.BatchState.{BatchState}
use Rattle.replay.proofs.Answering.{answer_more}
use Rattle.replay.proofs.Calling.{numbered_fits, sps_stays}
use Rattle.replay.proofs.answers.number_each.Goals as goal

pub loop-call-preserved : goal.loop-call-preserved
loop-call-preserved c =
    let l = c.loop-call in
    let b = l.numbering.batch in
    let n = length l.table in
    let fits : c.number.new.self.batch.numbered ≤ n = subst (λ (s : BatchState). s.numbered ≤ n) (sym c.number.ensures.batch) (numbered_fits b n _ _ l.invariant.1) in (
      answer_more c.args.calls.now l.call-index _ (vec_items l.answers) _ _ c.number.result b _ n _ c.loop-call-test.true l.invariant.0
          (pushed (c.number.result ∷ []) refl c.in_ok-push.was c.push.ensures.items) c.number.ensures.answer c.number.ensures.batch c.number.auto.table,
      omega (arith, fits, c.number.auto.table),
      ap (λ (s : BatchState). s.sps) c.number.ensures.batch ∙ sps_stays b n _ _ ∙ l.invariant.2,
    )
