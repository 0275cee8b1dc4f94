-- What a sink gains, by its room, and through an inverter.
use Rattle.std.proofs.Common.{◌≡◌, ℕ, ◌+◌, ◌-◌, ◌<◌, ◌≤◌, Bool, not, List, [], ◌∷◌, ◌++◌, map, length, get_or, take, Ok, Err, sym, refl, ap, ◌∙◌, arith}
use Rattle.std.proofs.Math.Bool.{not-not}
use Rattle.std.proofs.lemmas.Bool.Decides.{nat_tests}
use Rattle.std.proofs.lemmas.List.{map-append, length-map, length_push, append_assoc, take_more}
use Rattle.harq.specs.declared.refusals.Refusal.{Refusal}
use Rattle.sink.specs.Sink.{answer_at, gained, all_gained, accepted, room_after}

-- with room the list gains the bit
pub gained_room : (n : ℕ) (t : List Bool) (b : Bool) → 0 < n → gained n t b ≡ t ++ (b ∷ [])
gained_room n t b h = grind (arith, nat_tests)

-- with room at both, two sinks gain the same
pub gained_same : (m n : ℕ) (t : List Bool) (b : Bool) → 0 < m → 0 < n → gained m t b ≡ gained n t b
gained_same m n t b h k = grind (arith, nat_tests)

pub length_gained : (n : ℕ) (t : List Bool) (b : Bool) → 0 < n → length (gained n t b) ≡ length t + 1
length_gained n t b h = grind (arith, nat_tests, length_push)

-- with room the list gains the whole run
pub all_gained_room : (n : ℕ) (t bits : List Bool) → length bits ≤ n → all_gained n t bits ≡ t ++ bits
all_gained_room n t bits h = grind (arith, nat_tests)

-- no more is taken than there is room for
pub accepted_few : (n : ℕ) (bits : List Bool) → length (accepted n bits) ≤ n
accepted_few n bits = grind (arith, nat_tests)

-- the room falls by what is taken
pub room_fallen : (n : ℕ) (bits : List Bool) → room_after n bits ≡ n - length (accepted n bits)
room_fallen n bits = grind (arith, nat_tests)

-- a bit that was accepted had room
pub ok_room : (n : ℕ) (u : Unit {0}) → Ok u ≡ answer_at n → 0 < n
ok_room n u e = grind (arith, nat_tests)

-- a bit that was refused had none
pub err_room : (n : ℕ) (e : Refusal) → Err e ≡ answer_at n → n ≡ 0
err_room n e p = grind (arith, nat_tests)

-- a run, one bit on
pub run_more : (t bits : List Bool) (i : ℕ) (d : Bool) → i < length bits → (t ++ take i bits) ++ (get_or bits i d ∷ []) ≡ t ++ take (i + 1) bits
run_more t bits i d h = append_assoc t (take i bits) (get_or bits i d ∷ []) ∙ ap (λ x. t ++ x) (sym (take_more bits i d h))

pub flip_twice : (bits : List Bool) → map not (map not bits) ≡ bits
flip_twice [] = refl
flip_twice (b ∷ bits) = ap (λ x. x ∷ map not (map not bits)) (not-not b) ∙ ap (λ t. b ∷ t) (flip_twice bits)

-- what a list gained, by what the flipped list gained
pub flip_back : (after before more : List Bool) → map not after ≡ map not before ++ more → after ≡ before ++ map not more
flip_back after before more e =
    sym (flip_twice after) ∙ ap (map not) e ∙ map-append not (map not before) more ∙ ap (λ t. t ++ map not more) (flip_twice before)

-- the flipped list gains the run flipped
pub all_gained_below : (n : ℕ) (t bits : List Bool) → map not (all_gained n t bits) ≡ all_gained n (map not t) (map not bits)
all_gained_below n t bits = grind (arith, nat_tests, map-append, length-map)

-- below an inverter the list gains the run flipped
pub all_gained_flipped : (n : ℕ) (t t' bits : List Bool) → map not t' ≡ all_gained n (map not t) bits → t' ≡ all_gained n t (map not bits)
all_gained_flipped n t t' bits e =
    sym (flip_twice t') ∙ ap (map not) e ∙ all_gained_below n (map not t) bits ∙ ap (λ v. all_gained n v (map not bits)) (flip_twice t)
