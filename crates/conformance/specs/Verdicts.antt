-- What comparing a line comes to. Assumes nothing.
use Rattle.std.specs.Prelude.{ℕ, ◌+◌, Bool, true, false, cond, List, ◌++◌, Some, None, string_bytes, codes, decimal, Option}
use Rattle.std.specs.Str.{bytes_eq}
use Rattle.trace.specs.Answers.{line_of}
use Rattle.conformance.specs.Hex.{written_bytes}
use Rattle.outside.specs.Vectors.{Said, passed_over, vector_in}
use Rattle.conformance.specs.declared.verdicts.Tally.{Tally}
use Rattle.conformance.specs.declared.verdicts.Verdict.{Verdict}
use Rattle.conformance.specs.declared.verdicts.Verdict.TheVariants as verdict

-- a line passed over, one that agrees, what was expected and what came, or why a line cannot be compared
pub data Outcome : Type 0 where
  passed : Outcome
  agreed : Outcome
  differed : List ℕ → List ℕ → Outcome
  not_a_vector : Outcome
  unknown : List ℕ → Outcome
  not_bytes : Outcome

-- what came beside what was expected
abbrev pub compared : List ℕ → List ℕ → Outcome
compared expected came = cond (bytes_eq came expected) agreed (differed expected came)

-- the line of a trace beside the one that was expected
abbrev pub trace_outcome : List ℕ → Option (List ℕ) → Outcome
trace_outcome expected None = not_bytes
trace_outcome expected (Some bytes) = compared expected (line_of bytes)

-- a vector by its kind
abbrev pub said_outcome : Said → Outcome
said_outcome v = cond (bytes_eq v.kind (codes "trace")) (trace_outcome v.expected (written_bytes v.input)) (unknown v.kind)

abbrev pub vector_outcome : Option Said → Outcome
vector_outcome None = not_a_vector
vector_outcome (Some v) = said_outcome v

-- a line
abbrev pub line_outcome : List ℕ → Outcome
line_outcome line = cond (passed_over line) passed (vector_outcome (vector_in line))

-- what the code holds of an outcome
abbrev pub outcome_of : Verdict → Outcome
outcome_of verdict.PassedOver = passed
outcome_of verdict.Agrees = agreed
outcome_of (verdict.Differs expected came) = differed expected.now (string_bytes came)
outcome_of verdict.Malformed = not_a_vector
outcome_of (verdict.UnknownKind kind) = unknown kind.now
outcome_of verdict.NotHex = not_bytes

-- a line that is not passed over is compared
abbrev pub is_compared : Outcome → Bool
is_compared passed = false
is_compared agreed = true
is_compared (differed expected came) = true
is_compared not_a_vector = true
is_compared (unknown kind) = true
is_compared not_bytes = true

-- a compared line that does not agree differs
abbrev pub is_difference : Outcome → Bool
is_difference passed = false
is_difference agreed = false
is_difference (differed expected came) = true
is_difference not_a_vector = true
is_difference (unknown kind) = true
is_difference not_bytes = true

-- one line more
abbrev pub counted : Tally → Outcome → Tally
counted t o = record { compared = t.compared + cond (is_compared o) 1 0; differ = t.differ + cond (is_difference o) 1 0 }

-- what is told of a line
abbrev pub outcome_text : Outcome → List ℕ
outcome_text passed = codes "passed over"
outcome_text agreed = codes "agrees"
outcome_text (differed expected came) = codes "expected \"" ++ (expected ++ (codes "\", came \"" ++ (came ++ codes "\"")))
outcome_text not_a_vector = codes "not KIND INPUT => EXPECTED"
outcome_text (unknown kind) = codes "unknown kind \"" ++ (kind ++ codes "\"")
outcome_text not_bytes = codes "input not in hexadecimal"

-- what is told of all lines
abbrev pub tally_text : Tally → List ℕ
tally_text t = decimal t.compared ++ (codes " compared, " ++ (decimal t.differ ++ codes " differ"))
