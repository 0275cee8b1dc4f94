use Rattle.std.specs.List.{list_all}
use Rattle.std.proofs.Common.{◌≡◌, List, length, take, sym, refl, ap, ◌∙◌, subst, ap₂, arith}
use Rattle.std.proofs.lemmas.Result.{err_from_is_err_and}
use Rattle.sink.specs.Bits.{bits_of}
use Rattle.ue.specs.declared.arrivals.Arrival.{Arrival}
use Rattle.ue.specs.Reports.{gained_by}
use Rattle.gnb.specs.declared.batches.BatchState.{BatchState}
use Rattle.gnb.specs.declared.grants.GrantEntry.{GrantEntry}
use Rattle.gnb.specs.declared.marks.Mark.{Mark}
use Rattle.gnb.specs.Calls.{expected}
use Rattle.gnb.specs.Readings.{table_read, sps_read, counted, too_short, has_place}
use Rattle.agreement.specs.Agreement.{Hold}
use Rattle.agreement.specs.Exchanges.{Exchange, all_arrived, batch_left, table_left, marks_left}
use Rattle.link.specs.Reported.{IsReported}
use Rattle.link.specs.Played.{exchange_of, is_expected}
use Rattle.link.proofs.Layers.{aired_none}
use Rattle.link.proofs.Playing.{batch_is, table_is, sent_fit, arrived_is, own, lent}
use Rattle.link.proofs.Exchanging.{declined, played}
use Rattle.link.proofs.exchanges.Batch.exchange.Goals as goal

pub returns-in_err-numbering : goal.returns-in_err-numbering
returns-in_err-numbering g c =
    let x : Exchange = exchange_of c.args.self.now c.args.table.now c.args.marks.now c.args.slots.now (g.S.BitSink.room c.args.sink.now) in
    let way = g.met.W.Way in
    let p = err_from_is_err_and c.from_residual.result c.from_residual.ensures.1 in
    rw (p.1, p.2, c.open.ensures.marks)
    (declined g.S.BitSink.taken g.S.BitSink.room g.S.BitSink.took g.W.Way.aired x c.args.sink.now (aired_none g.W.Way.aired way.same_length way.undoes) _
    c.in_err-numbering.ensures.answer)

pub slice_bounds-arrive-end : goal.slice_bounds-arrive-end
slice_bounds-arrive-end g c =
    let x : Exchange = exchange_of c.args.self.now c.args.table.now c.args.marks.now c.args.slots.now (g.S.BitSink.room c.args.sink.now) in
    let b = c.in_ok-numbering.numbering.batch in
    let is = c.in_ok-numbering.ensures.answer in
    omega (arith, sent_fit x b is, ap (λ (s : BatchState). s.numbered) (batch_is x b is), ap length (table_is x b is), c.number_all-sent.ensures.answer, ap length c.number_all-sent.ensures.table)

pub settle-counts-requires-clause-lent : goal.settle-counts-requires-clause-lent
settle-counts-requires-clause-lent g c =
    let x : Exchange = exchange_of c.args.self.now c.args.table.now c.args.marks.now c.args.slots.now (g.S.BitSink.room c.args.sink.now) in
    let b = c.in_ok-numbering.numbering.batch in
    let is = c.in_ok-numbering.ensures.answer in
    let batch : c.close-expected.result.1.batch ≡ batch_left x = c.close-expected.ensures.batch ∙ c.number_all-sent.ensures.batch ∙ batch_is x b is in
    let table : c.number_all-sent.new.table ≡ table_left x = c.number_all-sent.ensures.table ∙ table_is x b is in
    ap₂ (λ (s : BatchState) (t : List GrantEntry). too_short s (length t) (length c.open.new.marks)) batch table
    ∙ ap (λ (m : List Mark). too_short (batch_left x) (length (table_left x)) (length m)) c.open.ensures.marks ∙ lent x b is

pub settle-counts-requires-clause-own : goal.settle-counts-requires-clause-own
settle-counts-requires-clause-own g c =
    let x : Exchange = exchange_of c.args.self.now c.args.table.now c.args.marks.now c.args.slots.now (g.S.BitSink.room c.args.sink.now) in
    let b = c.in_ok-numbering.numbering.batch in
    let is = c.in_ok-numbering.ensures.answer in
    let batch : c.close-expected.result.1.batch ≡ batch_left x = c.close-expected.ensures.batch ∙ c.number_all-sent.ensures.batch ∙ batch_is x b is in
    let table : c.number_all-sent.new.table ≡ table_left x = c.number_all-sent.ensures.table ∙ table_is x b is in
    ap₂ (λ (s : BatchState) (t : List GrantEntry). list_all (has_place s.numbered) (take s.numbered t)) batch table ∙ own x b is

pub returns : goal.returns
returns g c =
    let x : Exchange = exchange_of c.args.self.now c.args.table.now c.args.marks.now c.args.slots.now (g.S.BitSink.room c.args.sink.now) in
    let b = c.in_ok-numbering.numbering.batch in
    let is = c.in_ok-numbering.ensures.answer in
    let batch : c.close-expected.result.1.batch ≡ batch_left x = c.close-expected.ensures.batch ∙ c.number_all-sent.ensures.batch ∙ batch_is x b is in
    let table : c.number_all-sent.new.table ≡ table_left x = c.number_all-sent.ensures.table ∙ table_is x b is in
    let marks : c.open.new.marks ≡ marks_left x = c.open.ensures.marks in
    let came : c.deref.result.now ≡ all_arrived x =
    c.deref.ensures.0 ∙ c.arrive.ensures ∙ arrived_is x b is _ _ (omega (arith, c.number_all-sent.ensures.answer)) c.number_all-sent.ensures.table
    in
    let r = c.report_heard-report.result.report in
    let bytes = c.report_heard-report.result.bytes in
    let reported =
    subst (λ (l : List Arrival). IsReported g.S.BitSink.taken g.S.BitSink.room g.S.BitSink.took g.W.Way.aired x.config l x.sps x.slots c.args.sink.now r c.report_heard-report.new.slots c.report_heard-report.new.sink)
    came c.report_heard-report.ensures.reported
    in
    let heard = subst (λ (l : List Arrival). Hold bytes (gained_by x.config l x.sps r)) came c.report_heard-report.ensures.heard in
    let a = is_expected (expected (batch_left x)) r in
    let read-table =
    c.settle-counts.ensures.table ∙ ap₂ (λ (s : BatchState) (t : List GrantEntry). table_read s (is_expected (expected s) r) (bits_of bytes) t) batch table
    in
    let read-marks =
    c.settle-counts.ensures.marks ∙ ap₂ (λ (s : BatchState) (m : List Mark). sps_read s (is_expected (expected s) r) (bits_of bytes) m) batch marks
    in
    played g.S.BitSink.taken g.S.BitSink.room g.S.BitSink.took g.W.Way.aired x c.args.sink.now refl b is r c.report_heard-report.new.slots c.report_heard-report.new.sink reported bytes heard
    _ _ _ _ (c.close-expected.ensures.length ∙ ap expected (c.number_all-sent.ensures.batch ∙ batch_is x b is)) read-table read-marks
    (c.settle-counts.ensures.counts
    ∙ ap₂ (counted c.close-expected.result.1.batch) (sym c.settle-counts.ensures.table ∙ read-table) (sym c.settle-counts.ensures.marks ∙ read-marks)
    ∙ ap (λ (s : BatchState). counted s (table_read (batch_left x) a (bits_of bytes) (table_left x)) (sps_read (batch_left x) a (bits_of bytes) (marks_left x))) batch)
