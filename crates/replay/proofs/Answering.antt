-- The answers of calls, one call more at a time. Assumes nothing.
use Rattle.std.proofs.Common.{◌≡◌, ℕ, ◌+◌, ◌<◌, ◌≤◌, List, [], ◌∷◌, ◌++◌, map, length, get_or, drop, Result, Option, Some, None, sym, refl, ap, ◌∙◌, append_assoc, append-nil}
use Rattle.std.proofs.lemmas.List.{at_drop_more, at_drop_all}
use Rattle.harq.specs.declared.refusals.Refusal.{Refusal}
use Rattle.gnb.specs.declared.batches.BatchState.{BatchState}
use Rattle.gnb.specs.declared.grants.Call as code
use Rattle.gnb.specs.declared.grants.GrantEntry.{GrantEntry}
use Rattle.gnb.specs.Calls.{call_refused, call_answer, batch_after, batch_by, answer_by, table_after, table_by}
use Rattle.gnb.specs.Plans.{call_of}
use Rattle.gnb.specs.Sending.{Call, batch_run}
use Rattle.gnb.proofs.Accepted.{taken}
use Rattle.gnb.proofs.Runs.{length_table_after}
use Rattle.replay.specs.Answers.{answers_from, numbered_by, numbered_from}

-- what is kept of the answers, and what is to come
abbrev pub with_rest : List (Result ℕ Refusal) → BatchState → ℕ → List Call → List (Result ℕ Refusal)
with_rest front b table calls = front ++ answers_from b table calls

-- one call more
pub answer_more : (calls : List code.Call) (i : ℕ) (d : code.Call) (front next all : List (Result ℕ Refusal)) (r : Result ℕ Refusal) (b b' : BatchState) (n n' : ℕ) →
    i < length calls → with_rest front b n (map call_of (drop i calls)) ≡ all → next ≡ front ++ r ∷ [] →
    r ≡ call_answer b n (get_or calls i d).occasion (get_or calls i d).grants.now →
    b' ≡ batch_after b n (get_or calls i d).occasion (get_or calls i d).grants.now → n' ≡ n →
    with_rest next b' n' (map call_of (drop (i + 1) calls)) ≡ all
answer_more calls i d front next all r b b' n n' inside kept pushed answered after long =
    rw (pushed, after, long, answered)
    (append_assoc front _ _
    ∙ sym (at_drop_more (λ (l : List code.Call). with_rest front b n (map call_of l)) calls i d inside)
    ∙ kept)

pub numbered_more : (n : ℕ) (rs : List (Result ℕ Refusal)) (r : Result ℕ Refusal) → numbered_from n (rs ++ r ∷ []) ≡ numbered_by (numbered_from n rs) r
numbered_more n [] r = refl
numbered_more n (s ∷ rs) r = numbered_more (numbered_by n s) rs r

pub numbered_one : (rs : List (Result ℕ Refusal)) (r : Result ℕ Refusal) (a b : ℕ) → a ≡ numbered_from 0 rs → b ≡ numbered_by a r → b ≡ numbered_from 0 (rs ++ r ∷ [])
numbered_one rs r a b e f = f ∙ ap (λ n. numbered_by n r) e ∙ sym (numbered_more 0 rs r)

-- a call leaves the table as long as it was
length_table : (b : BatchState) (t : List GrantEntry) (c : Call) → length (table_after b c.occasion c.grants t) ≡ length t
length_table b t c =
    go (call_refused b (length t) c.occasion c.grants) refl
  where
    go : (o : Option Refusal) → call_refused b (length t) c.occasion c.grants ≡ o → length (table_by o b c.occasion c.grants t) ≡ length t
    go None is = length_table_after b c t (taken b (length t) c is).space
    go (Some e) is = refl

-- how many are numbered by an answer is what the state says
numbered_call : (b : BatchState) (table : ℕ) (c : Call) → numbered_by b.numbered (call_answer b table c.occasion c.grants) ≡ (batch_after b table c.occasion c.grants).numbered
numbered_call b table c =
    go (call_refused b table c.occasion c.grants)
  where
    go : (o : Option Refusal) → numbered_by b.numbered (answer_by o (b.numbered + length c.grants)) ≡ (batch_by o b c.occasion c.grants).numbered
    go None = refl
    go (Some e) = refl

pub numbered_run : (b : BatchState) (t : List GrantEntry) (cs : List Call) → numbered_from b.numbered (answers_from b (length t) cs) ≡ (batch_run b t cs).numbered
numbered_run b t [] = refl
numbered_run b t (c ∷ cs) =
    let b' = batch_after b (length t) c.occasion c.grants in
    let t' = table_after b c.occasion c.grants t in
    ap (λ n. numbered_from n (answers_from b' (length t) cs)) (numbered_call b (length t) c)
    ∙ ap (λ n. numbered_from b'.numbered (answers_from b' n cs)) (sym (length_table b t c))
    ∙ numbered_run b' t' cs
