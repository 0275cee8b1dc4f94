-- What each of a list of numbering calls answers. Assumes nothing.
use Rattle.std.specs.Prelude.{ℕ, List, [], ◌∷◌, Ok, Err, Result}
use Rattle.harq.specs.declared.refusals.Refusal.{Refusal}
use Rattle.gnb.specs.declared.batches.BatchState.{BatchState}
use Rattle.gnb.specs.Calls.{call_answer, batch_after}
use Rattle.gnb.specs.Sending.{Call}

-- each call gets what the one before it left, with a grant table of that length
abbrev pub answers_from : BatchState → ℕ → List Call → List (Result ℕ Refusal)
answers_from b table [] = []
answers_from b table (c ∷ cs) =
    call_answer b table c.occasion c.grants ∷ answers_from (batch_after b table c.occasion c.grants) table cs

-- how many are numbered by what a call answers, where n were before it
abbrev pub numbered_by : ℕ → Result ℕ Refusal → ℕ
numbered_by n (Ok m) = m
numbered_by n (Err e) = n

-- how many are numbered after the last accepted call, where n were before
abbrev pub numbered_from : ℕ → List (Result ℕ Refusal) → ℕ
numbered_from n [] = n
numbered_from n (r ∷ rs) = numbered_from (numbered_by n r) rs
