-- What records say, and where they stand, from the records as they are held. Assumes nothing.
use Rattle.std.proofs.Common.{◌≡◌, ℕ, Bool, true, false, cond, List, [], ◌∷◌, map, filter, is_some, Ok, Option, Result, vec_items, sym, refl, ap, ◌∙◌}
use Rattle.std.specs.List.{filter_map, cons_option}
use Rattle.harq.specs.declared.configs.Config.{Config}
use Rattle.ue.specs.declared.arrivals.Arrival.{Arrival}
use Rattle.ue.specs.declared.arrivals.SpsOutcome.{SpsOutcome}
use Rattle.trace.specs.declared.batches.Batch.{Batch}
use Rattle.trace.specs.declared.faults.Fault.{Fault}
use Rattle.trace.specs.declared.records.Record.{Record}
use Rattle.trace.specs.Faults.{after}
use Rattle.trace.specs.Records.{Entry, entry_of, offset_of}
use Rattle.trace.specs.Files.{entries}
use Rattle.trace.specs.Batches.{config_in, arrival_of, sps_of, offsets_by, Contents, contents_of, contents, held}

pub said_under : {X : Type 0} (f : Entry → Option X) (rs : List Record) → filter_map (λ r. f (entry_of r)) rs ≡ filter_map f (map entry_of rs)
said_under f [] = refl
said_under f (r ∷ rs) = ap (cons_option (f (entry_of r))) (said_under f rs)

-- one record more, if it is kept
kept : (b : Bool) (r : Record) (es : List Entry) (rs : List Record) → map offset_of es ≡ map (λ q. offset_of (entry_of q)) rs → map offset_of (cond b (entry_of r ∷ es) es) ≡ map (λ q. offset_of (entry_of q)) (cond b (r ∷ rs) rs)
kept true r es rs e = ap (λ l. offset_of (entry_of r) ∷ l) e
kept false r es rs e = e

pub offsets_under : {X : Type 0} (f : Entry → Option X) (rs : List Record) → offsets_by f (map entry_of rs) ≡ map (λ r. offset_of (entry_of r)) (filter (λ r. is_some (f (entry_of r))) rs)
offsets_under f [] = refl
offsets_under f (r ∷ rs) = kept (is_some (f (entry_of r))) r _ _ (offsets_under f rs)

-- a batch by its parts
pub batch_held : (bs : List ℕ) (b : Batch) (es : List Entry) → entries bs ≡ Ok es → b.config ≡ config_in es →
    vec_items b.arrivals ≡ filter_map arrival_of es → vec_items b.arrival_offsets ≡ offsets_by arrival_of es →
    vec_items b.sps ≡ filter_map sps_of es → vec_items b.sps_offsets ≡ offsets_by sps_of es → contents bs ≡ Ok (held b)
batch_held bs b es read config arrivals arrived receptions received =
    let made : Config → List Arrival → List ℕ → List SpsOutcome → List ℕ → Result Contents Fault = λ k xs ms ys ns. Ok (record { config = k; arrivals = xs; arrival_offsets = ms; sps = ys; sps_offsets = ns }) in
    ap (λ r. after r (λ l. Ok (contents_of l))) read
    ∙ ap (λ k. made k (filter_map arrival_of es) (offsets_by arrival_of es) (filter_map sps_of es) (offsets_by sps_of es)) (sym config)
    ∙ ap (λ xs. made b.config xs (offsets_by arrival_of es) (filter_map sps_of es) (offsets_by sps_of es)) (sym arrivals)
    ∙ ap (λ ms. made b.config (vec_items b.arrivals) ms (filter_map sps_of es) (offsets_by sps_of es)) (sym arrived)
    ∙ ap (λ ys. made b.config (vec_items b.arrivals) (vec_items b.arrival_offsets) ys (offsets_by sps_of es)) (sym receptions)
    ∙ ap (λ ns. made b.config (vec_items b.arrivals) (vec_items b.arrival_offsets) (vec_items b.sps) ns) (sym received)
