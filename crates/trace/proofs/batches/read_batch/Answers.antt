use Rattle.std.proofs.Common.{map, ap, ◌∙◌}
use Rattle.std.specs.List.{filter_map}
use Rattle.trace.specs.declared.batches.Batch.{Batch}
use Rattle.trace.specs.Records.{entry_of}
use Rattle.trace.specs.Batches.{config_in, arrival_of, sps_of, offsets_by}
use Rattle.trace.proofs.Said.{said_under, batch_held}
use Rattle.trace.proofs.batches.read_batch.Goals as goal

pub returns : goal.returns
returns c =
    let batch : Batch = record {
      config = c.configuration-config.result;
      arrivals = c.in_ok-arrivals.arrivals;
      arrival_offsets = c.in_ok-arrival_offsets.arrival_offsets;
      sps = c.in_ok-sps.sps;
      sps_offsets = c.in_ok-sps_offsets.sps_offsets;
    } in
    batch_held c.args.input.now batch (map entry_of c.in_ok-records.records.items) c.in_ok-records.ensures
    (c.configuration-config.ensures ∙ ap (λ l. config_in (map entry_of l)) c.as_slice.ensures.value)
    (c.in_ok-arrivals.ensures ∙ said_under arrival_of c.as_slice-2.result.now ∙ ap (λ l. filter_map arrival_of (map entry_of l)) c.as_slice-2.ensures.value)
    (c.in_ok-arrival_offsets.ensures ∙ ap (λ l. offsets_by arrival_of (map entry_of l)) c.as_slice-3.ensures.value)
    (c.in_ok-sps.ensures ∙ said_under sps_of c.as_slice-4.result.now ∙ ap (λ l. filter_map sps_of (map entry_of l)) c.as_slice-4.ensures.value)
    (c.in_ok-sps_offsets.ensures ∙ ap (λ l. offsets_by sps_of (map entry_of l)) c.as_slice-5.ensures.value)
