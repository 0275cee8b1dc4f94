-- What an exchange leaves. Assumes nothing.
use Rattle.std.specs.Prelude.{◌≡◌, ℕ, List, map, length, take, Ok, Err, Result, vec_items, string_bytes}
use Rattle.harq.specs.declared.refusals.Refusal.{Refusal}
use Rattle.sink.specs.Digits.{digit}
use Rattle.gnb.specs.declared.grants.GrantEntry.{GrantEntry}
use Rattle.gnb.specs.Opening.{fresh_batch}
use Rattle.agreement.specs.Exchanges.{Exchange, sps_list, batch_left}
use Rattle.link.specs.Played.{opening, exchanged, table_exchanged, marks_exchanged, bits_exchanged}
use Rattle.replay.specs.Answers.{answers_from}
use Rattle.replay.specs.declared.failures.Failure.{Failure}
use Rattle.replay.specs.declared.failures.Failure.TheVariants as failure
use Rattle.replay.specs.declared.playing.Played.{Played}

-- what each numbering call answers
abbrev pub answers_of : Exchange → List (Result ℕ Refusal)
answers_of x = answers_from (fresh_batch x.config (sps_list x)) (length x.table) x.calls

-- the entries of the assignments sent, as reading leaves them
abbrev pub entries_sent : Exchange → List GrantEntry
entries_sent x = take (batch_left x).numbered (table_exchanged x)

-- all that an exchange leaves
pub record Plays (x : Exchange) (p : Played) : Type 0 where
  pub answers : vec_items p.answers ≡ answers_of x
  pub exchanged : Ok p.exchanged ≡ exchanged x
  pub sent : vec_items p.sent ≡ entries_sent x
  pub marks : vec_items p.marks ≡ marks_exchanged x
  pub digits : string_bytes p.digits ≡ map digit (bits_exchanged x)

-- opening is declined by that refusal, or there was no memory
abbrev pub Fails : Exchange → Failure → Type 0
Fails x (failure.Declined e) = opening x ≡ Err e
Fails x (failure.Memory e) = Unit {0}
