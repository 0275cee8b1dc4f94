-- Which bit of the report is whose, by the numbers sent. Assumes nothing.
use Rattle.std.proofs.Common.{◌≡◌, ℕ, zero, suc, ◌+◌, ◌-◌, ◌*◌, ◌<◌, ◌≤◌, Bool, true, false, cond, eqb, List, [], ◌∷◌, ◌++◌, map, length, get_or, take, sym, refl, ap, ◌∙◌, arith, flat_map}
use Rattle.std.proofs.lemmas.Simd.{map-map}
use Rattle.std.proofs.lemmas.List.{length-map, length-take, get_or-map, get_or-take, get_or-append-add}
use Rattle.std.proofs.lemmas.Bool.{both_ways}
use Rattle.harq.specs.declared.configs.Config.{Config}
use Rattle.harq.specs.Configs.{bits_per_place}
use Rattle.harq.specs.Losses.{numbers}
use Rattle.sink.specs.Bits.{bits_of}
use Rattle.sink.proofs.Packing.{length_bits as bytes-long}
use Rattle.ue.specs.declared.arrivals.Arrival.{Arrival}
use Rattle.ue.specs.declared.arrivals.SpsOutcome.{SpsOutcome}
use Rattle.ue.specs.Slots.{slot_of, place_bits}
use Rattle.ue.specs.Batches.{counted, slots_in}
use Rattle.ue.specs.Reports.{places_of, held, sps_bit, report_bits}
use Rattle.ue.specs.Clause.{place_of_arrival, bit_of, ReportFor}
use Rattle.ue.proofs.Accepted.{length_counted_places, length_slot_bits}
use Rattle.gnb.specs.Sending.{Assignment}
use Rattle.agreement.specs.declared.fates.Fate.{Fate}
use Rattle.agreement.specs.Fates.{fate_of, arrival_of, arrivals_of}

-- the fate of an assignment, and what arrives of it
abbrev pub fate_at : List Fate → Assignment → Fate
fate_at fates a = fate_of fates a.number

abbrev pub arrival_at : List Fate → Assignment → Arrival
arrival_at fates a = arrival_of a (fate_at fates a)

-- whether each arrived
abbrev pub arrived_flags : List Fate → List Assignment → List Bool
arrived_flags fates sent = map (λ (a : Assignment). (fate_at fates a).arrived) sent

-- numbers that arrived lie above n
numbers_above : (bs : List Bool) (n j : ℕ) → j < length (numbers n bs) → n < get_or (numbers n bs) j 0
numbers_above [] n j h = absurd (omega arith)
numbers_above (true ∷ bs) n zero h = omega arith
numbers_above (true ∷ bs) n (suc j) h = omega (arith, numbers_above bs (n + 1) j (omega arith))
numbers_above (false ∷ bs) n j h = omega (arith, numbers_above bs (n + 1) j h)

-- a number among those that arrived did arrive
numbers_arrived : (bs : List Bool) (n j i : ℕ) → j < length (numbers n bs) → get_or (numbers n bs) j 0 ≡ n + i + 1 → get_or bs i false ≡ true
numbers_arrived [] n j i h e = absurd (omega arith)
numbers_arrived (true ∷ bs) n j zero h e = refl
numbers_arrived (true ∷ bs) n zero (suc i) h e = absurd (omega arith)
numbers_arrived (true ∷ bs) n (suc j) (suc i) h e = numbers_arrived bs (n + 1) j i (omega arith) (omega arith)
numbers_arrived (false ∷ bs) n j zero h e = absurd (omega (arith, numbers_above bs (n + 1) j h))
numbers_arrived (false ∷ bs) n j (suc i) h e = numbers_arrived bs (n + 1) j i h (omega arith)

-- arrival a stands among arrivals where number k stands among their numbers
record StandsBy (arrivals : List Arrival) (ns : List ℕ) (k : ℕ) (a : Arrival) : Type 0 where
  before : List Arrival
  after : List Arrival
  splits : arrivals ≡ before ++ (a ∷ after)
  number : get_or ns (length before) 0 ≡ k
  below : length before < length ns

-- the first of them
first_stands : (v : Bool) (a : Arrival) (arrivals : List Arrival) (bs : List Bool) (n : ℕ) → v ≡ true →
    StandsBy (cond v (a ∷ arrivals) arrivals) (numbers n (v ∷ bs)) (n + 0 + 1) a
first_stands true a arrivals bs n is = record { before = []; after = arrivals; splits = refl; number = omega arith; below = omega arith }
first_stands false a arrivals bs n is = let z : ◌≡◌ {A = ℕ} 0 1 = cc in absurd (omega arith)

-- one behind the first
later_stands : (v : Bool) (x a : Arrival) (arrivals : List Arrival) (bs : List Bool) (n i : ℕ) → StandsBy arrivals (numbers (n + 1) bs) (n + 1 + i + 1) a →
    StandsBy (cond v (x ∷ arrivals) arrivals) (numbers n (v ∷ bs)) (n + suc i + 1) a
later_stands true x a arrivals bs n i s =
    record { before = x ∷ s.before; after = s.after; splits = ap (λ (l : List Arrival). x ∷ l) s.splits; number = omega (arith, s.number); below = omega (arith, s.below) }
later_stands false x a arrivals bs n i s =
    record { before = s.before; after = s.after; splits = s.splits; number = omega (arith, s.number); below = s.below }

-- an assignment that arrived stands among the arrivals
arrived_stands : (fates : List Fate) (sent : List Assignment) (n i : ℕ) (d : Assignment) → i < length sent → (fate_at fates (get_or sent i d)).arrived ≡ true →
    StandsBy (arrivals_of fates sent) (numbers n (arrived_flags fates sent)) (n + i + 1) (arrival_at fates (get_or sent i d))
arrived_stands fates [] n i d h came = absurd (omega arith)
arrived_stands fates (a ∷ sent) n zero d h came =
    first_stands (fate_at fates a).arrived (arrival_at fates a) (arrivals_of fates sent) (arrived_flags fates sent) n came
arrived_stands fates (a ∷ sent) n (suc i) d h came =
    later_stands (fate_at fates a).arrived (arrival_at fates a) (arrival_at fates (get_or sent i d)) (arrivals_of fates sent) (arrived_flags fates sent) n i
    (arrived_stands fates sent (n + 1) i d (omega arith) came)

-- a report with a slot for each assignment, in which every arrival counts and is placed by its own number
module _ (g : Config) (fates : List Fate) (sent : List Assignment) (sps : List SpsOutcome) (bits : List Bool)
    (report : ReportFor g (arrivals_of fates sent) sps bits)
    (whole : counted g (arrivals_of fates sent) ≡ arrivals_of fates sent)
    (exact : places_of g (arrivals_of fates sent) ≡ map (λ k. k - 1) (numbers 0 (arrived_flags fates sent)))
    (all : slots_in g (arrivals_of fates sent) ≡ length sent)
    (i : ℕ) (none : Assignment) (h : i < length sent) (d : ℕ) (hd : d < bits_per_place g) where
  -- the arrivals, and their numbers
  abbrev arrivals : List Arrival
  arrivals = arrivals_of fates sent

  abbrev ns : List ℕ
  ns = numbers 0 (arrived_flags fates sent)

  -- the place of an arrival is that of its number
  place_at : (j : ℕ) → j < length ns → place_of_arrival g arrivals j ≡ get_or ns j 0 - 1
  place_at j l = ap (λ (l : List ℕ). get_or l j 0) exact ∙ get_or-map (λ k. k - 1) ns j 0 0 l

  -- at the place of a number that arrived its own outcomes stand
  pub bit_arrived : (fate_at fates (get_or sent i none)).arrived ≡ true → bit_of g bits i d ≡ get_or (place_bits g.mode (slot_of (arrival_at fates (get_or sent i none)))) d false
  bit_arrived came =
      let s = arrived_stands fates sent 0 i none h came in
      let p : place_of_arrival g arrivals (length s.before) ≡ i = omega (arith, place_at (length s.before) s.below, s.number) in
      ap (λ q. bit_of g bits q d) (sym p) ∙ report.own s.before s.after (arrival_at fates (get_or sent i none)) (whole ∙ s.splits) d hd

  -- at the place of a number that did not a NACK
  pub bit_lost : (fate_at fates (get_or sent i none)).arrived ≡ false → bit_of g bits i d ≡ false
  bit_lost lost =
      report.nacks i (omega arith)
      (λ j l e.
      let many : j < length ns = omega (arith, length_counted_places g arrivals, ap length exact, length-map ns (λ k. k - 1)) in
      let at : get_or ns j 0 ≡ 0 + i + 1 = omega (arith, place_at j many, numbers_above (arrived_flags fates sent) 0 j many) in
      both_ways _ lost (sym (get_or-map (λ (a : Assignment). (fate_at fates a).arrived) sent i none false h) ∙ numbers_arrived (arrived_flags fates sent) 0 j i many at))
      d hd

-- behind the slots the SPS outcomes stand
pub sps_bit_at : (g : Config) (arrivals : List Arrival) (sps : List SpsOutcome) (i : ℕ) → i < length sps →
    get_or (report_bits g arrivals sps) (bits_per_place g * slots_in g arrivals + i) false ≡ eqb (get_or (map (λ (s : SpsOutcome). s.outcome) sps) i 0) 1
sps_bit_at g arrivals sps i h =
    let outcomes = map (λ (s : SpsOutcome). s.outcome) sps in
    ap (λ n. get_or (report_bits g arrivals sps) (n + i) false) (sym (length_slot_bits g arrivals))
    ∙ get_or-append-add (flat_map (place_bits g.mode) (held g arrivals)) (map sps_bit sps) i false
    ∙ ap (λ (l : List Bool). get_or l i false) (sym (map-map (λ n. eqb n 1) (λ (s : SpsOutcome). s.outcome) sps))
    ∙ get_or-map (λ n. eqb n 1) outcomes i 0 false (omega (arith, length-map sps (λ (s : SpsOutcome). s.outcome)))

-- bytes that hold a list of bits have those bits, and are long enough
pub held_bit : (bytes : List ℕ) (bits : List Bool) → take (length bits) (bits_of bytes) ≡ bits → (i : ℕ) → i < length bits → get_or (bits_of bytes) i false ≡ get_or bits i false
held_bit bytes bits holds i h = sym (get_or-take (length bits) (bits_of bytes) i false h) ∙ ap (λ (l : List Bool). get_or l i false) holds

pub held_long : (bytes : List ℕ) (bits : List Bool) → take (length bits) (bits_of bytes) ≡ bits → length bits ≤ 8 * length bytes
held_long bytes bits holds = omega (arith, length-take (length bits) (bits_of bytes), ap length holds, bytes-long bytes)
