-- The assignments sent as a row: numbers, occasions, and the total that each is sent with. Assumes nothing.
use Rattle.std.proofs.Common.{◌≡◌, ℕ, zero, suc, ◌+◌, ◌-◌, ◌<◌, ◌≤◌, Bool, false, cond, not, eqb, leb, List, [], ◌∷◌, ◌++◌, map, length, get_or, Some, None, Option, sym, refl, ap, ◌∙◌, subst, arith}
use Rattle.std.specs.List.{AllByRecursion, filter}
use Rattle.std.proofs.ByRecursion.{All-append, All-get_or, All-from_get_or}
use Rattle.std.proofs.lemmas.Bool.{cond-true, cond-false, le-leb, lt-leb, ne_eqb}
use Rattle.harq.specs.declared.configs.Config.{Config}
use Rattle.harq.specs.Words.{last_or}
use Rattle.gnb.specs.declared.batches.BatchState.{BatchState}
use Rattle.gnb.specs.declared.grants.Grant.{Grant}
use Rattle.gnb.specs.Limits.{next_occasion}
use Rattle.gnb.specs.Opening.{fresh_batch}
use Rattle.gnb.specs.Sending.{Call}
use Rattle.gnb.specs.Sending.{Assignment, assignments, numbered_from, with_grant, ReadsBack}
use Rattle.gnb.proofs.Accepted.{after_call, AllTaken, accepted_taken}
use Rattle.gnb.proofs.Order.{Sendable, InOrder, sent_in_order}
use Rattle.gnb.proofs.ReadBack.{call_read_back}
use Rattle.agreement.specs.Exchanges.{Exchange, sps_list, calls_accepted, all_sent, last_occasion_used}
use Rattle.agreement.proofs.Picked.{all_both, Climbs}

-- the number and the occasion of an assignment
abbrev pub number_of : Assignment → ℕ
number_of a = a.number

abbrev pub occasion_of : Assignment → ℕ
occasion_of a = a.occasion

-- it is sent up to an occasion
abbrev pub early : ℕ → Assignment → Bool
early m a = leb a.occasion m

-- numbered on behind n, in no occasion before the one before it
abbrev pub Row : ℕ → ℕ → List Assignment → Type 0
Row n low [] = Unit {0}
Row n low (a ∷ rest) = (a.number ≡ n + 1) × (low ≤ a.occasion) × Row (n + 1) a.occasion rest

-- a row from a lower occasion on, and a call before a row
row_lower : (n low high : ℕ) (xs : List Assignment) → low ≤ high → Row n high xs → Row n low xs
row_lower n low high [] le h = tt
row_lower n low high (a ∷ xs) le h = (h.0, omega (arith, h.1), h.2)

row_call : (g : Config) (m total n low : ℕ) (gs : List Grant) (rest : List Assignment) (k : ℕ) → low ≤ m → n + length gs ≡ k → Row k (m + 1) rest →
    Row n low (assignments g m total n gs ++ rest)
row_call g m total n low [] rest k le e h =
    let same : k ≡ n = omega arith in
    subst (λ j. Row j low rest) same (row_lower k low (m + 1) rest (omega arith) h)
row_call g m total n low (a ∷ gs) rest k le e h = (refl, le, row_call g m total (n + 1) m gs rest k (omega arith) (omega arith) h)

-- the assignments of accepted calls are one
row_calls : (b : BatchState) (table : ℕ) (cs : List Call) → AllTaken b table cs →
    Row b.numbered (next_occasion b.last) (numbered_from b.config b.numbered cs)
row_calls b table [] all = tt
row_calls b table (c ∷ cs) all =
    let n = b.numbered + length c.grants in
    row_call b.config c.occasion n b.numbered (next_occasion b.last) c.grants (numbered_from b.config n cs) n all.0.later refl
    (row_calls (after_call b c) table cs all.1)

-- the number at an index
pub row_at : (n low : ℕ) (xs : List Assignment) → Row n low xs → (i : ℕ) (d : Assignment) → i < length xs → (get_or xs i d).number ≡ n + i + 1
row_at n low [] h i d lt = absurd (omega arith)
row_at n low (a ∷ xs) h zero d lt = omega (arith, h.0)
row_at n low (a ∷ xs) h (suc i) d lt = omega (arith, row_at (n + 1) a.occasion xs h.2 i d (omega arith))

-- numbers and occasions do not fall
pub row_numbers : (n low : ℕ) (xs : List Assignment) → Row n low xs → Climbs number_of n xs
row_numbers n low [] h = tt
row_numbers n low (a ∷ xs) h =
    (omega (arith, h.0), subst (λ k. Climbs number_of k xs) (sym h.0) (row_numbers (n + 1) a.occasion xs h.2))

pub row_occasions : (n low : ℕ) (xs : List Assignment) → Row n low xs → Climbs occasion_of low xs
row_occasions n low [] h = tt
row_occasions n low (a ∷ xs) h = (h.1, row_occasions (n + 1) a.occasion xs h.2)

-- how many are sent up to an occasion, it included
abbrev pub till : List Assignment → ℕ → ℕ
till xs m = length (filter (early m) xs)

-- one more of them, none of them, those of a call
till_one : (a : Assignment) (xs : List Assignment) (m : ℕ) → a.occasion ≤ m → till (a ∷ xs) m ≡ suc (till xs m)
till_one a xs m le = ap length (cond-true (leb a.occasion m) (a ∷ filter (early m) xs) _ (le-leb a.occasion m le))

till_none : (n low m : ℕ) (xs : List Assignment) → m < low → Row n low xs → till xs m ≡ 0
till_none n low m [] lt h = refl
till_none n low m (a ∷ xs) lt h =
    ap length (cond-false (leb a.occasion m) (a ∷ filter (early m) xs) _ (lt-leb a.occasion m (omega (arith, h.1))))
    ∙ till_none (n + 1) a.occasion m xs (omega (arith, h.1)) h.2

till_call : (g : Config) (m total n : ℕ) (gs : List Grant) (rest : List Assignment) (k : ℕ) → m ≤ k →
    till (assignments g m total n gs ++ rest) k ≡ length gs + till rest k
till_call g m total n [] rest k le = omega arith
till_call g m total n (a ∷ gs) rest k le = till_one _ (assignments g m total (n + 1) gs ++ rest) k le ∙ omega (arith, till_call g m total (n + 1) gs rest k le)

-- no number is above the total of its occasion
number_till : (n low : ℕ) (xs : List Assignment) (T : ℕ → ℕ) → Row n low xs → ((m : ℕ) → low ≤ m → T m ≡ n + till xs m) →
    AllByRecursion (λ (a : Assignment). a.number ≤ T a.occasion) xs
number_till n low [] T h is = tt
number_till n low (a ∷ xs) T h is =
    let here : T a.occasion ≡ n + till (a ∷ xs) a.occasion = is a.occasion h.1 in (
      omega (arith, h.0, till_one a xs a.occasion (omega arith)),
      number_till (n + 1) a.occasion xs T h.2 (λ m le. is m (omega (arith, h.1)) ∙ omega (arith, till_one a xs m le)),
    )

-- each is read back with the total of its occasion
call_occasion : (g : Config) (m total n : ℕ) (gs : List Grant) → AllByRecursion (λ (a : Assignment). a.occasion ≡ m) (assignments g m total n gs)
call_occasion g m total n [] = tt
call_occasion g m total n (a ∷ gs) = (refl, call_occasion g m total (n + 1) gs)

reads_call : (g : Config) (m total n : ℕ) (gs : List Grant) (T : ℕ → ℕ) → total ≡ T m → AllByRecursion (ReadsBack g total) (assignments g m total n gs) →
    AllByRecursion (λ (a : Assignment). ReadsBack g (T a.occasion) a) (assignments g m total n gs)
reads_call g m total n gs T e h =
    all_both (ReadsBack g total) (λ (a : Assignment). a.occasion ≡ m) (λ (a : Assignment). ReadsBack g (T a.occasion) a)
    (λ a r o. subst (λ t. ReadsBack g t a) (e ∙ ap T (sym o)) r) (assignments g m total n gs) h (call_occasion g m total n gs)

-- and so of every call, T being the total of each occasion
reads_calls : (b : BatchState) (table : ℕ) (cs : List Call) (T : ℕ → ℕ) → AllTaken b table cs →
    ((m : ℕ) → next_occasion b.last ≤ m → T m ≡ b.numbered + till (numbered_from b.config b.numbered cs) m) →
    AllByRecursion (λ (a : Assignment). ReadsBack b.config (T a.occasion) a) (numbered_from b.config b.numbered cs)
reads_calls b table [] T all is = tt
reads_calls b table (c ∷ cs) T all is =
    let n = b.numbered + length c.grants in
    let here = assignments b.config c.occasion n b.numbered c.grants in
    let rest = numbered_from b.config n cs in
    let on : (m : ℕ) → c.occasion ≤ m → T m ≡ n + till rest m = λ m le.
    is m (omega (arith, all.0.later)) ∙ omega (arith, till_call b.config c.occasion n b.numbered c.grants rest m le) in
    let none = till_none n (c.occasion + 1) c.occasion rest (omega arith) (row_calls (after_call b c) table cs all.1) in
    All-append (λ (a : Assignment). ReadsBack b.config (T a.occasion) a) here rest
    (reads_call b.config c.occasion n b.numbered c.grants T (omega (arith, on c.occasion (omega arith)))
    (call_read_back b.config c.occasion 0 n b.numbered c.grants all.0.each))
    (reads_calls (after_call b c) table cs T all.1 (λ m le. on m (omega arith)))

-- the last occasion used is that of the last one sent
abbrev pub occasions : List Assignment → List (Option ℕ)
occasions xs = map (λ (a : Assignment). Some a.occasion) xs

last_call : (g : Config) (m total n : ℕ) (gs : List Grant) (rest : List Assignment) →
    last_or (Some m) (occasions (assignments g m total n gs ++ rest)) ≡ last_or (Some m) (occasions rest)
last_call g m total n [] rest = refl
last_call g m total n (a ∷ gs) rest = last_call g m total (n + 1) gs rest

last_used : (g : Config) (n : ℕ) (cs : List Call) (d : Option ℕ) →
    last_or d (map (λ (c : Call). Some c.occasion) (filter with_grant cs)) ≡ last_or d (occasions (numbered_from g n cs))
last_used g n [] d = refl
last_used g n (c ∷ cs) d = go c.grants (n + length c.grants) (last_used g (n + length c.grants) cs)
  where
    go : (gs : List Grant) (k : ℕ) →
        ((d : Option ℕ) → last_or d (map (λ (c : Call). Some c.occasion) (filter with_grant cs)) ≡ last_or d (occasions (numbered_from g k cs))) →
        last_or d (map (λ (c : Call). Some c.occasion) (cond (not (eqb (length gs) 0)) (c ∷ filter with_grant cs) (filter with_grant cs)))
        ≡ last_or d (occasions (assignments g c.occasion k n gs ++ numbered_from g k cs))
    go [] k ih = ih d
    go (a ∷ gs) k ih =
        let some : eqb (suc (length gs)) 0 ≡ false = ne_eqb (suc (length gs)) 0 (λ e. omega arith) in
        rw some (ih (Some c.occasion) ∙ sym (last_call g c.occasion k (n + 1) gs (numbered_from g k cs)))

-- what is known of all that is sent
pub record Sends (g : Config) (xs : List Assignment) : Type 0 where
  pub row : Row 0 0 xs
  pub order : InOrder g None xs
  pub reads : AllByRecursion (λ (a : Assignment). ReadsBack g (till xs a.occasion) a) xs

pub sends : (x : Exchange) → Sends x.config (all_sent x)
sends x =
    let b = fresh_batch x.config (sps_list x) in
    let taken = accepted_taken b (length x.table) x.calls in
    record {
      row = row_calls b (length x.table) (calls_accepted x) taken;
      order = sent_in_order x.config (sps_list x) (length x.table) x.calls;
      reads = reads_calls b (length x.table) (calls_accepted x) (till (all_sent x)) taken (λ m le. omega arith);
    }

pub last_used_sent : (x : Exchange) → last_occasion_used x ≡ last_or None (occasions (all_sent x))
last_used_sent x = last_used x.config 0 (calls_accepted x) None

-- what is known of one of them
pub record Known (g : Config) (xs : List Assignment) (d a : Assignment) : Type 0 where
  pub sendable : Sendable g a
  pub reads : ReadsBack g (till xs a.occasion) a
  pub first : 0 < a.number
  pub last : a.number ≤ length xs
  pub at : get_or xs (a.number - 1) d ≡ a
  pub total : a.number ≤ till xs a.occasion

all_sendable : (g : Config) (last : Option (ℕ × ℕ)) (xs : List Assignment) → InOrder g last xs → AllByRecursion (Sendable g) xs
all_sendable g last [] h = tt
all_sendable g last (a ∷ xs) h = (h.0, all_sendable g (Some (a.occasion, a.cell)) xs h.2)

pub known : (g : Config) (xs : List Assignment) (d : Assignment) → Sends g xs → AllByRecursion (Known g xs d) xs
known g xs d s = All-from_get_or (Known g xs d) xs d (λ i lt.
    let number : (get_or xs i d).number ≡ i + 1 = row_at 0 0 xs s.row i d lt ∙ omega arith in
    let index : (get_or xs i d).number - 1 ≡ i = omega arith in
    record {
      sendable = All-get_or (Sendable g) xs i d lt (all_sendable g None xs s.order);
      reads = All-get_or (λ (a : Assignment). ReadsBack g (till xs a.occasion) a) xs i d lt s.reads;
      first = omega arith;
      last = omega arith;
      at = ap (λ k. get_or xs k d) index;
      total = All-get_or (λ (a : Assignment). a.number ≤ till xs a.occasion) xs i d lt (number_till 0 0 xs (till xs) s.row (λ m le. omega arith));
    })
