-- One turn of the loops of a numbering call. Assumes nothing.
use Rattle.std.proofs.Common.{◌≡◌, ℕ, suc, ◌+◌, ◌*◌, ◌<◌, ◌≤◌, cond, ltb, List, [], ◌∷◌, ◌++◌, length, get_or, take, drop, set, Some, None, Ok, Err, Option, sym, refl, ap, ◌∙◌, arith}
use Rattle.std.proofs.lemmas.List.{at_drop_more}
use Rattle.std.proofs.lemmas.Bool.{cond-true, lt-ltb}
use Rattle.std.proofs.lemmas.Bool.Decides.{nat_tests}
use Rattle.dai.specs.Values.{value}
use Rattle.harq.specs.declared.configs.Config.{Config}
use Rattle.harq.specs.declared.placing.Placer.{Placer}
use Rattle.harq.specs.declared.refusals.Refusal.{Refusal}
use Rattle.harq.specs.Words.{or_else}
use Rattle.harq.specs.Placers.{placer_after, advanced, place_at}
use Rattle.harq.proofs.Placers.{place_next, placer_next}
use Rattle.sink.specs.Written.{written}
use Rattle.sink.proofs.Writing.{written_at}
use Rattle.gnb.specs.declared.grants.Grant.{Grant}
use Rattle.gnb.specs.declared.grants.GrantEntry.{GrantEntry}
use Rattle.gnb.specs.Marks.{answered_blocks}
use Rattle.gnb.specs.Calls.{allowed, grant_refused, grants_refused, entry_of, entries_of, blocks_in}

pub allowed_none : (o : Option Refusal) (u : Unit {0}) → Ok u ≡ allowed o → o ≡ None
allowed_none None u e = refl
allowed_none (Some y) u e = let z : ◌≡◌ {A = ℕ} 0 1 = cc in absurd (omega arith)

pub allowed_some : (o : Option Refusal) (y : Refusal) → Err y ≡ allowed o → o ≡ Some y
allowed_some None y e = let z : ◌≡◌ {A = ℕ} 0 1 = cc in absurd (omega arith)
allowed_some (Some x) y e = let s : x ≡ y = cc in ap Some s

-- a grant that is accepted is of a cell of its own
pub grant_within : (g : Config) (m lowest : ℕ) (a : Grant) → grant_refused g m lowest a ≡ None → (a.cell < g.cells) × (lowest ≤ a.cell)
grant_within g m lowest a e = (grind (arith, nat_tests), grind (arith, nat_tests))

module _ (g : Config) (m lowest : ℕ) (gs : List Grant) (i : ℕ) (all : Option Refusal) (inv : grants_refused g m lowest (drop i gs) ≡ all)
    (d : Grant) (within : i < length gs) where
  turn : or_else (grant_refused g m lowest (get_or gs i d)) (grants_refused g m ((get_or gs i d).cell + 1) (drop (i + 1) gs)) ≡ all
  turn = sym (at_drop_more (grants_refused g m lowest) gs i d within) ∙ inv

  pub stops : (y : Refusal) → Err y ≡ allowed (grant_refused g m lowest (get_or gs i d)) → Err y ≡ allowed all
  stops y e =
      ap allowed (sym (ap (λ o. or_else o (grants_refused g m ((get_or gs i d).cell + 1) (drop (i + 1) gs))) (allowed_some _ y e)) ∙ turn)

-- a grant asks an answer for at most two blocks
blocks_one : (blocks : ℕ) → answered_blocks blocks ≤ 2
blocks_one blocks = grind (arith, nat_tests)

pub blocks_few : (gs : List Grant) → blocks_in gs ≤ 2 * length gs
blocks_few [] = omega arith
blocks_few (a ∷ gs) = omega (arith, blocks_one a.blocks, blocks_few gs)

pub written_step : {A : Type 0} (xs : List A) (i : ℕ) (y : A) (ys : List A) → written (set xs i y) (i + 1) ys ≡ written xs i (y ∷ ys)
unfolding written
written_step xs i y ys = let e : i + 1 ≡ suc i = omega arith in ap (λ n. written (set xs i y) n ys) e

-- one entry more placed
module _ (span : ℕ) (some : 0 < span) (k : ℕ) (small : k < 4294967295) (p : Placer) (at-k : p ≡ placer_after span k) (v : ℕ) (counter : v ≡ value span (k + 1)) where
  here : place_at p v ≡ k
  here = ap (λ (r : Placer). place_at r v) at-k ∙ ap (place_at (placer_after span k)) counter ∙ place_next span some k small

  pub placer_on : (q : Placer) (n : ℕ) → k < n → q ≡ cond (ltb (place_at p v) n) (advanced p v) p → q ≡ placer_after span (k + 1)
  placer_on q n space is =
      is ∙ cond-true (ltb (place_at p v) n) _ _ (lt-ltb _ n (omega (arith, here)))
      ∙ ap (λ (r : Placer). advanced r v) at-k ∙ ap (advanced (placer_after span k)) counter ∙ placer_next span some k small

  pub written_on : (g : Config) (m total : ℕ) (gs : List Grant) (i : ℕ) (d : Grant) (t t' all : List GrantEntry) (e : GrantEntry) → i < length gs →
      e ≡ entry_of g m total (k + 1) (get_or gs i d) → t' ≡ set t (place_at p v) e →
      written t k (entries_of g m total k (drop i gs)) ≡ all → written t' (k + 1) (entries_of g m total (k + 1) (drop (i + 1) gs)) ≡ all
  written_on g m total gs i d t t' all e within entry wrote inv =
      let rest : List GrantEntry = entries_of g m total (k + 1) (drop (i + 1) gs) in
      ap (λ (l : List GrantEntry). written l (k + 1) rest) (wrote ∙ ap (λ n. set t n e) here ∙ ap (set t k) entry)
      ∙ written_step t k (entry_of g m total (k + 1) (get_or gs i d)) rest
      ∙ sym (ap (written t k) (at_drop_more (entries_of g m total k) gs i d within)) ∙ inv

pub length_entries : (g : Config) (m total n : ℕ) (gs : List Grant) → length (entries_of g m total n gs) ≡ length gs
length_entries g m total n [] = refl
length_entries g m total n (a ∷ gs) = ap suc (length_entries g m total (n + 1) gs)

-- the entries stand behind the first n, and every other entry as it was
pub entries_stand : (g : Config) (m total n : ℕ) (gs : List Grant) (t : List GrantEntry) → n + length gs ≤ length t →
    written t n (entries_of g m total n gs) ≡ take n t ++ (entries_of g m total n gs ++ drop (n + length gs) t)
entries_stand g m total n gs t space =
    let l = length_entries g m total n gs in
    written_at t n (entries_of g m total n gs) (omega arith)
    ∙ ap (λ k. take n t ++ (entries_of g m total n gs ++ drop (n + k) t)) l
