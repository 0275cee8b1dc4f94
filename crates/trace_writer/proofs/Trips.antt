-- A whole trace, written and read back. Assumes nothing.
use Rattle.std.proofs.Common.{◌≡◌, ℕ, zero, suc, ◌+◌, ◌-◌, ◌^◌, ◌<◌, ◌≤◌, true, ◌&&◌, ltb, leb, List, [], ◌∷◌, ◌++◌, length, map, take, drop, replicate, cond, is_some, Some, None, Ok, Option, Result, sym, refl, ap, ◌∙◌, append_assoc, add-zero, zero-add, arith, length-append, length-take}
use Rattle.std.specs.List.{flat_map, filter_map, cons_option, AllByRecursion}
use Rattle.std.specs.Option.{option_map}
use Rattle.std.proofs.ByRecursion.{All-take}
use Rattle.std.proofs.lemmas.List.{take-append-drop, drop_at}
use Rattle.std.proofs.lemmas.Bool.{cond-true, cond-false, le-ltb}
use Rattle.std.proofs.lemmas.Bool.Decides.{nat_tests}
use Rattle.harq.specs.declared.configs.Config.{Config}
use Rattle.ue.specs.declared.arrivals.Arrival.{Arrival}
use Rattle.ue.specs.declared.arrivals.SpsOutcome.{SpsOutcome}
use Rattle.trace.specs.declared.faults.Fault.{Fault}
use Rattle.trace.specs.Faults.{after}
use Rattle.trace.specs.Records.{Entry, offset_of, configuration, assignment, sps, may_stand, record_at}
use Rattle.trace.specs.Files.{and_then, entries_from, entries}
use Rattle.trace.specs.Batches.{numbers_from, outcomes_of, config_of, config_in, arrival_of, sps_of, offsets_by, Contents, contents_of}
use Rattle.trace_writer.specs.Coding.{coded}
use Rattle.trace_writer.specs.Writing.{record_of, config_numbers, arrival_numbers, config_body, arrival_body, sps_body, config_record, arrival_record, sps_record, trace_of}
use Rattle.trace_writer.specs.Laws.{Padded, ConfigSayable, ArrivalSayable, SpsSayable, starts, batch_of, ReadsWritten}
use Rattle.trace_writer.proofs.Appending.{length_coded}
use Rattle.trace_writer.proofs.Fields.{past, room, numbers_coded}
use Rattle.trace_writer.proofs.Bodies.{end_of, sps_read, assignment_read, configuration_read}
use Rattle.trace_writer.proofs.Heads.{body_from, body_alone, record_coded}

-- what counts of a padded array, with its zeros
module _ (width n : ℕ) (xs : List ℕ) (p : Padded width n xs) where
  pub counted : length (take n xs) ≡ n
  counted = length-take n xs ∙ omega (arith, p.wide, p.fits)

  pub padded_is : take n xs ++ replicate (width - length (take n xs)) 0 ≡ xs
  padded_is = ap (λ m. take n xs ++ replicate (width - m) 0) counted ∙ ap (λ l. take n xs ++ l) (sym p.zeros) ∙ take-append-drop n xs

two_outcomes : (xs : List ℕ) → length xs ≤ 2 → outcomes_of xs ≡ xs ++ replicate (2 - length xs) 0
two_outcomes [] h = refl
two_outcomes (x ∷ []) h = refl
two_outcomes (x ∷ y ∷ []) h = refl
two_outcomes (x ∷ y ∷ z ∷ xs) h = absurd (omega arith)

-- what f gives of an entry, with the entry's offset
abbrev pub placed_by : {X : Type 0} → (Entry → Option X) → Entry → Option (X × ℕ)
placed_by f e = option_map (λ x. (x, offset_of e)) (f e)

-- the first parts of pairs, and the second
abbrev pub firsts : {X Y : Type 0} → List (X × Y) → List X
firsts = map (λ p. p.0)

abbrev pub seconds : {X Y : Type 0} → List (X × Y) → List Y
seconds = map (λ p. p.1)

-- the parts of what f gives of entries with their offsets
one_first : {X : Type 0} (at : ℕ) (o : Option X) (xs : List X) (ps : List (X × ℕ)) → xs ≡ firsts ps → cons_option o xs ≡ firsts (cons_option (option_map (λ x. (x, at)) o) ps)
one_first at None xs ps h = h
one_first at (Some x) xs ps h = ap (λ l. x ∷ l) h

said_firsts : {X : Type 0} (f : Entry → Option X) (es : List Entry) → filter_map f es ≡ firsts (filter_map (placed_by f) es)
said_firsts f [] = refl
said_firsts f (e ∷ es) = one_first (offset_of e) (f e) _ _ (said_firsts f es)

one_second : {X : Type 0} (e : Entry) (o : Option X) (es : List Entry) (ps : List (X × ℕ)) → map offset_of es ≡ seconds ps → map offset_of (cond (is_some o) (e ∷ es) es) ≡ seconds (cons_option (option_map (λ x. (x, offset_of e)) o) ps)
one_second e None es ps h = h
one_second e (Some x) es ps h = ap (λ l. offset_of e ∷ l) h

said_seconds : {X : Type 0} (f : Entry → Option X) (es : List Entry) → offsets_by f es ≡ seconds (filter_map (placed_by f) es)
said_seconds f [] = refl
said_seconds f (e ∷ es) = one_second e (f e) _ _ (said_seconds f es)

-- a record that was read, by what it says
pub record Read (bs : List ℕ) (at size : ℕ) (arrival : Option (Arrival × ℕ)) (sps-said : Option (SpsOutcome × ℕ)) : Type 0 where
  pub entry : Entry
  pub is : record_at bs at ≡ Ok (Some (entry, at + size))
  pub arrival_is : placed_by arrival_of entry ≡ arrival
  pub sps_is : placed_by sps_of entry ≡ sps-said

module _ (bs : List ℕ) (short : length bs ≤ 65536) where
  body_short : (at kind : ℕ) (body rest : List ℕ) → drop at bs ≡ record_of kind body ++ rest → length body < 2 ^ 32
  body_short at kind body rest e =
      omega (arith, room bs at (record_of kind body) rest e, length-append (coded kind) (coded (length body) ++ body), length-append (coded (length body)) body)

  stands_later : (at : ℕ) → 0 < at → (may_stand 2 at ≡ true) × (may_stand 3 at ≡ true)
  stands_later at h = (grind (arith, nat_tests), grind (arith, nat_tests))

  pub arrival_reads : (at : ℕ) (a : Arrival) (rest : List ℕ) → 0 < at → ArrivalSayable a → drop at bs ≡ arrival_record a ++ rest → Read bs at (length (arrival_record a)) (Some (a, at)) None
  arrival_reads at a rest h say e =
      let body = arrival_body a in
      let small = body_short at 2 body rest e in
      let next = body_from at 2 body in
      let out = take a.blocks a.outcomes in
      let few : length out ≤ 2 = omega (arith, counted 2 a.blocks a.outcomes say.padded, say.padded.fits) in
      let whole : outcomes_of out ≡ a.outcomes = two_outcomes out few ∙ padded_is 2 a.blocks a.outcomes say.padded in
      record {
        entry = assignment at a.cell a.occasion a.format a.field a.blocks (end_of next (arrival_numbers a)) out;
        is = record_coded bs at 2 body rest e (omega arith) small (stands_later at h).0 _ (assignment_read (take (next + length body) bs) at next a say.small (counted 2 a.blocks a.outcomes say.padded) (body_alone bs at 2 body rest e (omega arith) small));
        arrival_is = ap (λ o. Some (record { cell = a.cell; occasion = a.occasion; format = a.format; field = a.field; blocks = a.blocks; outcomes = o }, at)) whole;
        sps_is = refl;
      }

  pub sps_reads : (at : ℕ) (s : SpsOutcome) (rest : List ℕ) → 0 < at → SpsSayable s → drop at bs ≡ sps_record s ++ rest → Read bs at (length (sps_record s)) None (Some (s, at))
  sps_reads at s rest h say e =
      let body = sps_body s in
      let small = body_short at 3 body rest e in
      let next = body_from at 3 body in
      record {
        entry = sps at s.entry.cell s.entry.configuration s.entry.slot s.outcome;
        is = record_coded bs at 3 body rest e (omega arith) small (stands_later at h).1 _ (sps_read (take (next + length body) bs) at next s say.small (body_alone bs at 3 body rest e (omega arith) small));
        arrival_is = refl;
        sps_is = refl;
      }

  -- the configuration at the start
  pub config_reads : (g : Config) (rest : List ℕ) → ConfigSayable g → bs ≡ config_record g ++ rest → record_at bs 0 ≡ Ok (Some (configuration 0 g.cells g.occasions g.width g.mode (end_of (body_from 0 1 (config_body g)) (config_numbers g)) (flat_map coded (take g.cells g.first)), 0 + length (config_record g)))
  config_reads g rest say e =
      let body = config_body g in
      let small = body_short 0 1 body rest e in
      let next = body_from 0 1 body in
      record_coded bs 0 1 body rest e (omega arith) small refl _ (configuration_read (take (next + length body) bs) 0 next g say.small (All-take (λ v. v < 2 ^ 32) g.cells g.first say.firsts) (counted 16 g.cells g.first say.padded) (body_alone bs 0 1 body rest e (omega arith) small))

-- the records from an offset on, by what they say
pub record Rest (n : ℕ) (bs : List ℕ) (at : ℕ) (arrivals : List (Arrival × ℕ)) (receptions : List (SpsOutcome × ℕ)) : Type 0 where
  pub found : List Entry
  pub is : entries_from n bs at ≡ Ok found
  pub arrivals_are : filter_map (placed_by arrival_of) found ≡ arrivals
  pub receptions_are : filter_map (placed_by sps_of) found ≡ receptions

rest_none : (n : ℕ) (bs : List ℕ) (at : ℕ) → 0 < n → 0 < at → length bs ≤ at → Rest n bs at [] []
rest_none zero bs at some h e = absurd (omega arith)
rest_none (suc n) bs at some h e =
    let ended : (ltb 0 at && leb (length bs) at) ≡ true = grind (arith, nat_tests) in
    record {
      found = [];
      is = ap (λ r. after r (and_then (entries_from n bs))) (cond-true (ltb 0 at && leb (length bs) at) _ _ ended);
      arrivals_are = refl;
      receptions_are = refl;
    }

rest_more : (n : ℕ) (bs : List ℕ) (at size : ℕ) (arrival : Option (Arrival × ℕ)) (reception : Option (SpsOutcome × ℕ)) (arrivals : List (Arrival × ℕ)) (receptions : List (SpsOutcome × ℕ)) → Read bs at size arrival reception → Rest n bs (at + size) arrivals receptions → Rest (suc n) bs at (cons_option arrival arrivals) (cons_option reception receptions)
rest_more n bs at size arrival reception arrivals receptions r more = record {
  found = r.entry ∷ more.found;
  is = ap (λ q. after q (and_then (entries_from n bs))) r.is ∙ ap (λ q. after q (λ es. Ok (r.entry ∷ es))) more.is;
  arrivals_are = ap (λ o. cons_option o (filter_map (placed_by arrival_of) more.found)) r.arrival_is ∙ ap (cons_option arrival) more.arrivals_are;
  receptions_are = ap (λ o. cons_option o (filter_map (placed_by sps_of) more.found)) r.sps_is ∙ ap (cons_option reception) more.receptions_are;
}

-- each element with the offset of its record
abbrev pub placed : {X : Type 0} → (X → List ℕ) → ℕ → List X → List (X × ℕ)
placed bytes at [] = []
placed bytes at (x ∷ xs) = (x, at) ∷ placed bytes (at + length (bytes x)) xs

placed_firsts : {X : Type 0} (bytes : X → List ℕ) (at : ℕ) (xs : List X) → firsts (placed bytes at xs) ≡ xs
placed_firsts bytes at [] = refl
placed_firsts bytes at (x ∷ xs) = ap (λ l. x ∷ l) (placed_firsts bytes (at + length (bytes x)) xs)

placed_seconds : {X : Type 0} (bytes : X → List ℕ) (at : ℕ) (xs : List X) → seconds (placed bytes at xs) ≡ starts bytes at xs
placed_seconds bytes at [] = refl
placed_seconds bytes at (x ∷ xs) = ap (λ l. at ∷ l) (placed_seconds bytes (at + length (bytes x)) xs)

-- a record has a byte at least
some_bytes : (kind : ℕ) (body : List ℕ) → 0 < length (record_of kind body)
some_bytes kind body = omega (arith, length-append (coded kind) (coded (length body) ++ body), length_coded kind)

module _ (bs : List ℕ) (short : length bs ≤ 65536) where
  sps_rest : (n at : ℕ) (ss : List SpsOutcome) → AllByRecursion SpsSayable ss → 0 < at → drop at bs ≡ flat_map sps_record ss → length bs - at < n → Rest n bs at [] (placed sps_record at ss)
  sps_rest n at [] say h e fuel = rest_none n bs at (omega arith) h (omega (arith, room bs at [] [] e))
  sps_rest zero at (s ∷ ss) say h e fuel = absurd (omega arith)
  sps_rest (suc n) at (s ∷ ss) say h e fuel =
      let size = length (sps_record s) in
      let left = room bs at (sps_record s) (flat_map sps_record ss) e in
      rest_more n bs at size _ _ _ _ (sps_reads bs short at s (flat_map sps_record ss) h say.0 e)
      (sps_rest n (at + size) ss say.1 (omega arith) (past bs at (sps_record s) (flat_map sps_record ss) e) (omega (arith, left, some_bytes 3 (sps_body s))))

  arrivals_rest : (n at : ℕ) (xs : List Arrival) (ss : List SpsOutcome) → AllByRecursion ArrivalSayable xs → AllByRecursion SpsSayable ss → 0 < at → drop at bs ≡ flat_map arrival_record xs ++ flat_map sps_record ss → length bs - at < n → Rest n bs at (placed arrival_record at xs) (placed sps_record (at + length (flat_map arrival_record xs)) ss)
  arrivals_rest n at [] ss say says h e fuel = rw add-zero (sps_rest n at ss says h e fuel)
  arrivals_rest zero at (x ∷ xs) ss say says h e fuel = absurd (omega arith)
  arrivals_rest (suc n) at (x ∷ xs) ss say says h e fuel =
      let size = length (arrival_record x) in
      let behind = flat_map arrival_record xs ++ flat_map sps_record ss in
      let d = e ∙ append_assoc (arrival_record x) (flat_map arrival_record xs) (flat_map sps_record ss) in
      let left = room bs at (arrival_record x) behind d in
      let same : at + size + length (flat_map arrival_record xs) ≡ at + length (flat_map arrival_record (x ∷ xs)) = omega (arith, length-append (arrival_record x) (flat_map arrival_record xs)) in
      let all =
      rest_more n bs at size _ _ _ _ (arrival_reads bs short at x behind h say.0 d)
      (arrivals_rest n (at + size) xs ss say.1 says (omega arith) (past bs at (arrival_record x) behind d) (omega (arith, left, some_bytes 2 (arrival_body x)))) in
      rw (sym same) all

-- a batch from its configuration, its arrivals and its SPS receptions, each with an offset
abbrev made_of : Config → List (Arrival × ℕ) → List (SpsOutcome × ℕ) → Contents
made_of g xs ss = record {
  config = g;
  arrivals = firsts xs;
  arrival_offsets = seconds xs;
  sps = firsts ss;
  sps_offsets = seconds ss;
}

-- a batch by its entries
contents_placed : (es : List Entry) → ◌≡◌ {A = Result Contents Fault} (Ok (contents_of es)) (Ok (made_of (config_in es) (filter_map (placed_by arrival_of) es) (filter_map (placed_by sps_of) es)))
contents_placed es =
    let g = config_in es in
    let ps = filter_map (placed_by arrival_of) es in
    let qs = filter_map (placed_by sps_of) es in
    ap (λ l. Ok (record { config = g; arrivals = l; arrival_offsets = offsets_by arrival_of es; sps = filter_map sps_of es; sps_offsets = offsets_by sps_of es })) (said_firsts arrival_of es)
    ∙ ap (λ l. Ok (record { config = g; arrivals = firsts ps; arrival_offsets = l; sps = filter_map sps_of es; sps_offsets = offsets_by sps_of es })) (said_seconds arrival_of es)
    ∙ ap (λ l. Ok (record { config = g; arrivals = firsts ps; arrival_offsets = seconds ps; sps = l; sps_offsets = offsets_by sps_of es })) (said_firsts sps_of es)
    ∙ ap (λ l. Ok (record { config = g; arrivals = firsts ps; arrival_offsets = seconds ps; sps = firsts qs; sps_offsets = l })) (said_seconds sps_of es)

made_placed : (g : Config) (xs : List Arrival) (ss : List SpsOutcome) → made_of g (placed arrival_record (length (config_record g)) xs) (placed sps_record (length (config_record g) + length (flat_map arrival_record xs)) ss) ≡ batch_of g xs ss
made_placed g xs ss =
    let at = length (config_record g) in
    let later = at + length (flat_map arrival_record xs) in
    let ps = placed arrival_record at xs in
    let qs = placed sps_record later ss in
    ap (λ l. record { config = g; arrivals = l; arrival_offsets = seconds ps; sps = firsts qs; sps_offsets = seconds qs }) (placed_firsts arrival_record at xs)
    ∙ ap (λ l. record { config = g; arrivals = xs; arrival_offsets = l; sps = firsts qs; sps_offsets = seconds qs }) (placed_seconds arrival_record at xs)
    ∙ ap (λ l. record { config = g; arrivals = xs; arrival_offsets = starts arrival_record at xs; sps = l; sps_offsets = seconds qs }) (placed_firsts sps_record later ss)
    ∙ ap (λ l. record { config = g; arrivals = xs; arrival_offsets = starts arrival_record at xs; sps = ss; sps_offsets = l }) (placed_seconds sps_record later ss)

-- the configuration that the first record says
config_said : (g : Config) (from : ℕ) → ConfigSayable g → config_of (configuration 0 g.cells g.occasions g.width g.mode from (flat_map coded (take g.cells g.first))) ≡ g
config_said g from say =
    let vs = take g.cells g.first in
    let few : length vs ≤ 16 = omega (arith, counted 16 g.cells g.first say.padded, say.padded.fits) in
    let first : numbers_from 16 (flat_map coded vs) 0 ≡ g.first = numbers_coded 16 (flat_map coded vs) 0 vs (All-take (λ v. v < 2 ^ 32) g.cells g.first say.firsts) few refl ∙ padded_is 16 g.cells g.first say.padded in
    ap (λ l. record { cells = g.cells; occasions = g.occasions; width = g.width; mode = g.mode; first = l }) first

pub reads_written : ReadsWritten
reads_written g xs ss say says receptions short =
    let bs = trace_of g xs ss in
    let rest = flat_map arrival_record xs ++ flat_map sps_record ss in
    let size = length (config_record g) in
    let from = end_of (body_from 0 1 (config_body g)) (config_numbers g) in
    let e = configuration 0 g.cells g.occasions g.width g.mode from (flat_map coded (take g.cells g.first)) in
    let head : record_at bs 0 ≡ Ok (Some (e, size)) = config_reads bs short g rest say refl ∙ ap (λ n. Ok (Some (e, n))) (zero-add size) in
    let some : 0 < size = some_bytes 1 (config_body g) in
    let stands : drop size bs ≡ rest = drop_at (config_record g) rest size refl in
    let fuel : length bs - size < length bs = omega (arith, length-append (config_record g) rest) in
    let more = arrivals_rest bs short (length bs) size xs ss says receptions some stands fuel in
    let found : entries bs ≡ Ok (e ∷ more.found) =
    ap (λ r. after r (λ _. entries_from (suc (length bs)) bs 0)) (cond-false (ltb 65536 (length bs)) _ _ (le-ltb 65536 (length bs) short))
    ∙ ap (λ r. after r (and_then (entries_from (length bs) bs))) head
    ∙ ap (λ r. after r (λ es. Ok (e ∷ es))) more.is in
    ap (λ r. after r (λ es. Ok (contents_of es))) found
    ∙ contents_placed (e ∷ more.found)
    ∙ ap (λ k. Ok (made_of k (filter_map (placed_by arrival_of) more.found) (filter_map (placed_by sps_of) more.found))) (config_said g from say)
    ∙ ap (λ l. Ok (made_of g l (filter_map (placed_by sps_of) more.found))) more.arrivals_are
    ∙ ap (λ l. Ok (made_of g (placed arrival_record size xs) l)) more.receptions_are
    ∙ ap Ok (made_placed g xs ss)
