-- What a list of calls leaves at the gNB, from any state on. Assumes nothing.
use Rattle.std.proofs.Common.{◌≡◌, ℕ, zero, suc, ◌+◌, ◌-◌, ◌*◌, ◌≤◌, false, cond, not, eqb, List, [], ◌∷◌, ◌++◌, map, length, take, drop, None, sym, refl, ap, ◌∙◌, subst, ap₂, mul-suc, arith}
use Rattle.std.proofs.lemmas.List.{append_assoc, map-append, length-append, length-map, length-take-le, length-drop, take-append-drop, take_at, drop_at, drop-drop}
use Rattle.std.proofs.lemmas.Bool.{ne_eqb}
use Rattle.harq.specs.declared.configs.Config.{Config}
use Rattle.harq.specs.Words.{those, counting_from}
use Rattle.gnb.specs.declared.batches.BatchState.{BatchState}
use Rattle.gnb.specs.declared.grants.Grant.{Grant}
use Rattle.gnb.specs.declared.grants.GrantEntry.{GrantEntry}
use Rattle.gnb.specs.declared.marks.Marks.{Marks}
use Rattle.gnb.specs.Limits.{next_occasion}
use Rattle.gnb.specs.Marks.{answered_blocks, unanswered}
use Rattle.gnb.specs.Calls.{entry_of, entries_of, blocks_in, batch_by, table_by}
use Rattle.gnb.specs.Sending.{Call, Assignment, accepted_calls, assignments, numbered_from, with_grant, blocks_sent, batch_run, table_run, assignment_in}
use Rattle.gnb.proofs.Calling.{length_entries}
use Rattle.gnb.proofs.Accepted.{taken, after_call, AllTaken, by_refusal}

-- what accepted calls leave of the state and of the table
abbrev pub after_calls : BatchState → List Call → BatchState
after_calls b [] = b
after_calls b (c ∷ cs) = after_calls (after_call b c) cs

abbrev pub table_after_call : BatchState → Call → List GrantEntry → List GrantEntry
table_after_call b c t = table_by None b c.occasion c.grants t

abbrev pub table_after_calls : BatchState → List GrantEntry → List Call → List GrantEntry
table_after_calls b t [] = t
table_after_calls b t (c ∷ cs) = table_after_calls (after_call b c) (table_after_call b c t) cs

-- an accepted call in the table: the first n, its entries, and what stands behind them
module _ (b : BatchState) (c : Call) (t : List GrantEntry) (space : b.numbered + length c.grants ≤ length t) where
  placed : List GrantEntry
  placed = take b.numbered t ++ entries_of b.config c.occasion (b.numbered + length c.grants) b.numbered c.grants

  length_placed : length placed ≡ b.numbered + length c.grants
  unfolding placed
  length_placed =
      let n = b.numbered in
      let es = entries_of b.config c.occasion (n + length c.grants) n c.grants in
      omega (arith, length-append (take n t) es, length-take-le n t (omega arith), length_entries b.config c.occasion (n + length c.grants) n c.grants)

  table_splits : table_after_call b c t ≡ placed ++ drop (b.numbered + length c.grants) t
  unfolding placed
  table_splits = sym (append_assoc (take b.numbered t) _ _)

  pub length_table_after : length (table_after_call b c t) ≡ length t
  length_table_after =
      let n = b.numbered + length c.grants in
      ap length table_splits ∙ length-append placed (drop n t) ∙ omega (arith, length_placed, length-drop n t)

  pub take_table_after : take (b.numbered + length c.grants) (table_after_call b c t)
      ≡ take b.numbered t ++ entries_of b.config c.occasion (b.numbered + length c.grants) b.numbered c.grants
  unfolding placed
  take_table_after = ap (take (b.numbered + length c.grants)) table_splits ∙ take_at placed _ _ length_placed

  pub drop_table_after : drop (b.numbered + length c.grants) (table_after_call b c t) ≡ drop (b.numbered + length c.grants) t
  drop_table_after = ap (drop (b.numbered + length c.grants)) table_splits ∙ drop_at placed _ _ length_placed

-- a run of calls is a run of those accepted: the others leave all as it was
abbrev RunsAs : BatchState → List GrantEntry → List Call → List Call → Type 0
RunsAs b t calls accepted =
    (batch_run b t calls ≡ after_calls b accepted) × (table_run b t calls ≡ table_after_calls b t accepted)

pub run_accepted : (b : BatchState) (t : List GrantEntry) (calls : List Call) →
    (batch_run b t calls ≡ after_calls b (accepted_calls b (length t) calls)) ×
    (table_run b t calls ≡ table_after_calls b t (accepted_calls b (length t) calls))
run_accepted b t [] = (refl, refl)
run_accepted b t (c ∷ cs) =
    by_refusal
    (λ o accepted.
    (batch_run (batch_by o b c.occasion c.grants) (table_by o b c.occasion c.grants t) cs ≡ after_calls b accepted) ×
    (table_run (batch_by o b c.occasion c.grants) (table_by o b c.occasion c.grants t) cs ≡ table_after_calls b t accepted))
    b (length t) c cs
    (λ is.
    subst (λ n. RunsAs (after_call b c) (table_after_call b c t) cs (accepted_calls (after_call b c) n cs))
    (length_table_after b c t (taken b (length t) c is).space)
    (run_accepted (after_call b c) (table_after_call b c t) cs))
    (λ e is. run_accepted b t cs)

-- the assignments of a call: as many as its grants, numbered on
pub length_assignments : (g : Config) (m total n : ℕ) (gs : List Grant) → length (assignments g m total n gs) ≡ length gs
length_assignments g m total n [] = refl
length_assignments g m total n (a ∷ gs) = ap suc (length_assignments g m total (n + 1) gs)

pub counting_from_append : (a m n : ℕ) → counting_from a (m + n) ≡ counting_from a m ++ counting_from (a + m) n
counting_from_append a zero n =
    let e : 0 + n ≡ n = omega arith in
    let f : a ≡ a + 0 = omega arith in
    ap (counting_from a) e ∙ ap (λ k. counting_from k n) f
counting_from_append a (suc m) n =
    let e : suc m + n ≡ suc (m + n) = omega arith in
    let f : (a + 1) + m ≡ a + suc m = omega arith in
    ap (counting_from a) e ∙ ap (λ (l : List ℕ). a ∷ l) (counting_from_append (a + 1) m n ∙ ap (λ k. counting_from (a + 1) m ++ counting_from k n) f)

pub numbers_of : (g : Config) (m total n : ℕ) (gs : List Grant) →
    map (λ (a : Assignment). a.number) (assignments g m total n gs) ≡ counting_from (n + 1) (length gs)
numbers_of g m total n [] = refl
numbers_of g m total n (a ∷ gs) = ap (λ (l : List ℕ). (n + 1) ∷ l) (numbers_of g m total (n + 1) gs)

pub numbers_from : (g : Config) (n : ℕ) (cs : List Call) →
    map (λ (a : Assignment). a.number) (numbered_from g n cs) ≡ counting_from (n + 1) (length (numbered_from g n cs))
numbers_from g n [] = refl
numbers_from g n (c ∷ cs) =
    let k = length c.grants in
    let here = assignments g c.occasion (n + k) n c.grants in
    let rest = numbered_from g (n + k) cs in
    let next : (n + k) + 1 ≡ (n + 1) + k = omega arith in
    let all : k + length rest ≡ length (here ++ rest) = omega (arith, length-append here rest, length_assignments g c.occasion (n + k) n c.grants) in
    map-append (λ (a : Assignment). a.number) here rest
    ∙ ap₂ ◌++◌ (numbers_of g c.occasion (n + k) n c.grants) (numbers_from g (n + k) cs ∙ ap (λ i. counting_from i (length rest)) next)
    ∙ sym (counting_from_append (n + 1) k (length rest))
    ∙ ap (counting_from (n + 1)) all

-- the entries of accepted calls, numbered on behind n, hold the assignments, none of them answered
abbrev pub entries_from : Config → ℕ → List Call → List GrantEntry
entries_from g n [] = []
entries_from g n (c ∷ cs) =
    entries_of g c.occasion (n + length c.grants) n c.grants ++ entries_from g (n + length c.grants) cs

pub held_of : (g : Config) (m total n : ℕ) (gs : List Grant) → map assignment_in (entries_of g m total n gs) ≡ assignments g m total n gs
held_of g m total n [] = refl
held_of g m total n (a ∷ gs) = ap (λ (l : List Assignment). assignment_in (entry_of g m total (n + 1) a) ∷ l) (held_of g m total (n + 1) gs)

pub held_from : (g : Config) (n : ℕ) (cs : List Call) → map assignment_in (entries_from g n cs) ≡ numbered_from g n cs
held_from g n [] = refl
held_from g n (c ∷ cs) =
    let k = length c.grants in
    map-append assignment_in (entries_of g c.occasion (n + k) n c.grants) (entries_from g (n + k) cs)
    ∙ ap₂ ◌++◌ (held_of g c.occasion (n + k) n c.grants) (held_from g (n + k) cs)

pub length_entries_from : (g : Config) (n : ℕ) (cs : List Call) → length (entries_from g n cs) ≡ length (numbered_from g n cs)
length_entries_from g n cs = sym (length-map (entries_from g n cs) assignment_in) ∙ ap length (held_from g n cs)

pub unmarked_of : (g : Config) (m total n : ℕ) (gs : List Grant) →
    map (λ (e : GrantEntry). e.marks) (entries_of g m total n gs) ≡ map (λ (a : Assignment). unanswered a.blocks) (assignments g m total n gs)
unmarked_of g m total n [] = refl
unmarked_of g m total n (a ∷ gs) = ap (λ (l : List Marks). unanswered a.blocks ∷ l) (unmarked_of g m total (n + 1) gs)

pub unmarked_from : (g : Config) (n : ℕ) (cs : List Call) →
    map (λ (e : GrantEntry). e.marks) (entries_from g n cs) ≡ map (λ (a : Assignment). unanswered a.blocks) (numbered_from g n cs)
unmarked_from g n [] = refl
unmarked_from g n (c ∷ cs) =
    let k = length c.grants in
    map-append (λ (e : GrantEntry). e.marks) (entries_of g c.occasion (n + k) n c.grants) (entries_from g (n + k) cs)
    ∙ ap₂ ◌++◌ (unmarked_of g c.occasion (n + k) n c.grants) (unmarked_from g (n + k) cs)
    ∙ sym (map-append (λ (a : Assignment). unanswered a.blocks) (assignments g c.occasion (n + k) n c.grants) (numbered_from g (n + k) cs))

-- the numbers of the state are those of the assignments
pub numbered_after : (b : BatchState) (cs : List Call) →
    (after_calls b cs).numbered ≡ b.numbered + length (numbered_from b.config b.numbered cs)
numbered_after b [] = omega arith
numbered_after b (c ∷ cs) =
    let n = b.numbered + length c.grants in
    let here = assignments b.config c.occasion n b.numbered c.grants in
    let rest = numbered_from b.config n cs in
    omega (arith, numbered_after (after_call b c) cs, length-append here rest, length_assignments b.config c.occasion n b.numbered c.grants)

blocks_append : (xs ys : List Assignment) → blocks_sent (xs ++ ys) ≡ blocks_sent xs + blocks_sent ys
blocks_append [] ys = omega arith
blocks_append (x ∷ xs) ys = omega (arith, blocks_append xs ys)

pub blocks_of : (g : Config) (m total n : ℕ) (gs : List Grant) → blocks_sent (assignments g m total n gs) ≡ blocks_in gs
blocks_of g m total n [] = refl
blocks_of g m total n (a ∷ gs) = ap (λ k. answered_blocks a.blocks + k) (blocks_of g m total (n + 1) gs)

pub granted_after : (b : BatchState) (cs : List Call) →
    (after_calls b cs).granted ≡ b.granted + blocks_sent (numbered_from b.config b.numbered cs)
granted_after b [] = omega arith
granted_after b (c ∷ cs) =
    let n = b.numbered + length c.grants in
    let here = assignments b.config c.occasion n b.numbered c.grants in
    let rest = numbered_from b.config n cs in
    omega (arith, granted_after (after_call b c) cs, blocks_append here rest, blocks_of b.config c.occasion n b.numbered c.grants)

pub config_after : (b : BatchState) (cs : List Call) → (after_calls b cs).config ≡ b.config
config_after b [] = refl
config_after b (c ∷ cs) = config_after (after_call b c) cs

pub sps_after : (b : BatchState) (cs : List Call) → (after_calls b cs).sps ≡ b.sps
sps_after b [] = refl
sps_after b (c ∷ cs) = sps_after (after_call b c) cs

-- the table: the first n as they were, the entries of the calls, and every other entry as it was
drop_on : {X : Type 0} (n m : ℕ) (xs ys : List X) → n ≤ m → drop n xs ≡ drop n ys → drop m xs ≡ drop m ys
drop_on n m xs ys le e =
    let on : n + (m - n) ≡ m = omega arith in
    subst (λ k. drop k xs ≡ drop k ys) on (sym (drop-drop (m - n) n xs) ∙ ap (drop (m - n)) e ∙ drop-drop (m - n) n ys)

pub table_after_is : (b : BatchState) (t : List GrantEntry) (cs : List Call) → AllTaken b (length t) cs →
    table_after_calls b t cs ≡ take b.numbered t ++ (entries_from b.config b.numbered cs ++ drop (after_calls b cs).numbered t)
table_after_is b t [] all = sym (take-append-drop b.numbered t)
table_after_is b t (c ∷ cs) all =
    let n = b.numbered + length c.grants in
    let space = all.0.space in
    let kept = length_table_after b c t space in
    let here = entries_of b.config c.occasion n b.numbered c.grants in
    let rest = entries_from b.config n cs in
    let last = (after_calls (after_call b c) cs).numbered in
    table_after_is (after_call b c) (table_after_call b c t) cs (subst (λ k. AllTaken (after_call b c) k cs) (sym kept) all.1)
    ∙ ap₂ (λ (u v : List GrantEntry). u ++ (rest ++ v)) (take_table_after b c t space)
    (drop_on n last (table_after_call b c t) t (omega (arith, numbered_after (after_call b c) cs)) (drop_table_after b c t space))
    ∙ append_assoc (take b.numbered t) here (rest ++ drop last t)
    ∙ ap (λ (u : List GrantEntry). take b.numbered t ++ u) (sym (append_assoc here rest (drop last t)))

pub length_table_after_calls : (b : BatchState) (t : List GrantEntry) (cs : List Call) → AllTaken b (length t) cs → length (table_after_calls b t cs) ≡ length t
length_table_after_calls b t [] all = refl
length_table_after_calls b t (c ∷ cs) all =
    let kept = length_table_after b c t all.0.space in
    length_table_after_calls (after_call b c) (table_after_call b c t) cs (subst (λ k. AllTaken (after_call b c) k cs) (sym kept) all.1) ∙ kept

-- at most one for each cell and call with a grant
few_step : (cells k : ℕ) (c : Call) (ws : List Call) → k ≤ cells → k + cells * length ws ≤ cells * length (cond (not (eqb k 0)) (c ∷ ws) ws)
few_step cells zero c ws le = omega arith
few_step cells (suc k) c ws le =
    let some : eqb (suc k) 0 ≡ false = ne_eqb (suc k) 0 (λ e. omega arith) in
    rw some (omega (arith, mul-suc cells (length ws)))

pub few_after : (b : BatchState) (table : ℕ) (cs : List Call) → AllTaken b table cs →
    (after_calls b cs).numbered ≤ b.numbered + b.config.cells * length (those with_grant cs)
few_after b table [] all = omega arith
few_after b table (c ∷ cs) all =
    omega (arith, few_after (after_call b c) table cs all.1, few_step b.config.cells (length c.grants) c (those with_grant cs) all.0.few)

-- the occasions have not run out, and each had at most 16
pub sound_after : (b : BatchState) (table : ℕ) (cs : List Call) → AllTaken b table cs → b.config.cells ≤ 16 →
    (next_occasion b.last ≤ b.config.occasions) × (b.numbered ≤ 16 * next_occasion b.last) →
    (next_occasion (after_calls b cs).last ≤ b.config.occasions) × ((after_calls b cs).numbered ≤ 16 * next_occasion (after_calls b cs).last)
sound_after b table [] all cells sound = sound
sound_after b table (c ∷ cs) all cells sound =
    sound_after (after_call b c) table cs all.1 cells
    (omega (arith, all.0.within), omega (arith, all.0.few, all.0.later, sound.1))
