use Rattle.std.proofs.Common.{◌≡◌, ℕ, ◌+◌, ◌<◌, length, drop, sym, subst, ◌∙◌, arith}
use Rattle.std.proofs.lemmas.List.{at_drop_all}
use Rattle.std.proofs.lemmas.Bool.Decides.{nat_tests}
use Rattle.harq.specs.Placers.{placer_after}
use Rattle.sink.specs.Written.{written}
use Rattle.sink.proofs.Writing.{written_none}
use Rattle.gnb.specs.Calls.{entries_of}
use Rattle.gnb.proofs.Calling.{placer_on, written_on}
use Rattle.gnb.proofs.states.calls.Numbering.place_entries.Goals as goal

pub loop-i-preserved : goal.loop-i-preserved
loop-i-preserved c =
    let g = c.args.self.now.batch.config in
    let gs = c.args.call.now.grants.now in
    let i = c.loop-i.i in
    let k = c.args.self.now.batch.numbered + i in
    let total = c.args.self.now.batch.numbered + length gs in
    let span = c.span-span.result in
    let some : 0 < span = grind (arith, nat_tests, c.span-span.ensures) in
    let small : k < 4294967295 = omega arith in
    let all = written c.args.table.now c.args.self.now.batch.numbered (entries_of g c.args.call.now.occasion total c.args.self.now.batch.numbered gs) in
    let on : k + 1 ≡ c.args.self.now.batch.numbered + (i + 1) = omega arith in
    subst (λ (n : ℕ). (c.place.new.self ≡ placer_after span n) × (written c.place.new.slots n (entries_of g c.args.call.now.occasion total n (drop (i + 1) gs)) ≡ all)) on (
      placer_on span some k small c.loop-i.placer c.loop-i.invariant.0 _ c.counter_of.ensures _ (length c.loop-i.table) (omega arith) c.place.ensures.placer,
      written_on span some k small c.loop-i.placer c.loop-i.invariant.0 _ c.counter_of.ensures g c.args.call.now.occasion _ gs i record { cell = 0; format = 0; blocks = 0 } c.loop-i.table _ _ _
          c.loop-i-test.true c.entry_of.ensures c.place.ensures.slots c.loop-i.invariant.1,
    )

pub returns : goal.returns
returns c =
    let k = c.args.self.now.batch.numbered + c.loop-i.i in
    let total = c.args.self.now.batch.numbered + length c.args.call.now.grants.now in
    sym (at_drop_all (λ l. written c.loop-i.table k (entries_of c.args.self.now.batch.config c.args.call.now.occasion total k l)) c.args.call.now.grants.now c.loop-i.i c.loop-i-test.false ∙ written_none c.loop-i.table k)
    ∙ c.loop-i.invariant.1
