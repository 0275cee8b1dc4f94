use Rattle.std.proofs.Common.{◌≡◌, sum_by, refl, sym, ◌∙◌, arith, rules}
use Rattle.std.proofs.iter.runs.Made.{chains}
use Rattle.std.proofs.lemmas.List.Recursion.{is_sum_by}
use Rattle.gnb.specs.declared.grants.Grant.{Grant}
use Rattle.gnb.specs.Marks.{answered_blocks}
use Rattle.gnb.specs.Calls.{blocks_in}
use Rattle.gnb.proofs.Calling.{blocks_few}
use Rattle.gnb.proofs.states.calls.count_blocks.Goals as goal

pub returns : goal.returns
returns c =
    let gs = c.args.grants.now in
    let sums : c.sum.result ≡ sum_by (λ (a : Grant). answered_blocks a.blocks) gs = search (rules, chains) in
    let is : c.sum.result ≡ blocks_in gs = sums ∙ sym (is_sum_by blocks_in (λ a. answered_blocks a.blocks) refl (λ _ _. refl) gs) in
    record { is = is; few = omega (arith, is, blocks_few gs) }
