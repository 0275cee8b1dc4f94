-- What a sink answers and becomes, by its list of bits and its room. Assumes nothing.
use Rattle.std.specs.Prelude.{ℕ, ◌-◌, Bool, cond, List, [], ◌∷◌, ◌++◌, length, Ok, Err, Result, nat_le, nat_lt}
use Rattle.harq.specs.declared.refusals.Refusal.{Refusal}
use Rattle.harq.specs.declared.refusals.Refusal.TheVariants.{Room}

-- the answer to one bit, at that room
abbrev pub answer_at : ℕ → Result Unit Refusal
answer_at n = cond (nat_lt 0 n) (Ok tt) (Err Room)

-- the list after one bit, at that room
abbrev pub gained : ℕ → List Bool → Bool → List Bool
gained n taken bit = cond (nat_lt 0 n) (taken ++ (bit ∷ [])) taken

-- the answer to a run of bits, all of it or nothing: how many there are
abbrev pub all_answer : ℕ → List Bool → Result ℕ Refusal
all_answer n bits = cond (nat_le (length bits) n) (Ok (length bits)) (Err Room)

-- the list after a run of bits
abbrev pub all_gained : ℕ → List Bool → List Bool → List Bool
all_gained n taken bits = cond (nat_le (length bits) n) (taken ++ bits) taken

-- the bits that are taken of a run
abbrev pub accepted : ℕ → List Bool → List Bool
accepted n bits = all_gained n [] bits

-- the room after a run of bits
abbrev pub room_after : ℕ → List Bool → ℕ
room_after n bits = cond (nat_le (length bits) n) (n - length bits) n
