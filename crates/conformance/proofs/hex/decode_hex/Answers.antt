use Rattle.std.proofs.Common.{◌≡◌, ◌<◌, [], ◌∷◌, ◌++◌, length, Some, vec_items, sym, ap, ◌∙◌, append-nil, arith, rules}
use Rattle.std.specs.Slice.Iter.{chunks_rest}
use Rattle.conformance.proofs.Decoding.{behind, hex_none, hex_one, pair_more, pair_bad}
use Rattle.conformance.proofs.hex.decode_hex.Goals as goal
use Rattle.conformance.proofs.hex.decode_hex.Goals.{in_default-via-then-pair-lt2, in_default-via-else-pair-lt2+else-pair-lt3}

pub returns-in_default : goal.returns-in_default
returns-in_default c =
    let l = c.loop-pair in
    let s = c.in-Some.ensures.steps.1 in
    let size = l.invariant.0 in
    let few : length c.in-Some.pair.now < 2 = elim c.in_default.branch [
      | in_default-via-then-pair-lt2 w ↦ search rules
      | in_default-via-else-pair-lt2+else-pair-lt3 w ↦ search rules
    ] in
    let some : 0 < length (chunks_rest l.pair-iterator) = search rules in
    sym (l.invariant.1 ∙ ap (behind (vec_items l.bytes)) (hex_one (chunks_rest l.pair-iterator) (omega arith) some))

pub returns-in_default-byte_value : goal.returns-in_default-byte_value
returns-in_default-byte_value c =
    let s = c.in-Some.ensures.steps.1 in
    let two : length c.in-Some.pair.now ≡ 2 = omega (arith, c.in-len2.len_at_least, c.in-len2.len_below) in
    sym (pair_bad _ _ _ c.in-Some.pair.now _ c.loop-pair.invariant.1 s.0 two _ c.byte_value.ensures c.in_default-byte_value.is)

pub loop-pair-preserved : goal.loop-pair-preserved
loop-pair-preserved c =
    let s = c.in-Some.ensures.steps in
    let two : length c.in-Some.pair.now ≡ 2 = omega (arith, c.in-len2.len_at_least, c.in-len2.len_below) in
    let items : vec_items c.push.new.self ≡ vec_items c.loop-pair.bytes ++ c.in-Some-byte_value.byte ∷ [] = search rules in
    (s.0 ∙ c.loop-pair.invariant.0, pair_more _ _ _ c.in-Some.pair.now _ c.loop-pair.invariant.1 s.1.0 two _ c.byte_value.ensures _ _ c.in-Some-byte_value.is items)

pub returns : goal.returns
returns c =
    let l = c.loop-pair in
    sym (l.invariant.1 ∙ ap (behind (vec_items l.bytes)) (hex_none (chunks_rest l.pair-iterator) c.in-None.ensures.steps.1.0) ∙ ap Some (append-nil (vec_items l.bytes)))
