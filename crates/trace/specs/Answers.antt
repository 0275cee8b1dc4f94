-- The line that is printed for a trace. Assumes nothing.
use Rattle.std.specs.Prelude.{ℕ, List, map, length, Ok, Err, Result, slice_index_or}
use Rattle.sink.specs.Digits.{digit}
use Rattle.ue.specs.declared.declines.Decline.{Decline}
use Rattle.ue.specs.declared.declines.Part.{Part}
use Rattle.ue.specs.declared.declines.Part.TheVariants as part
use Rattle.ue.specs.Reports.{report_bits, report_answer}
use Rattle.trace.specs.declared.faults.Fault.{Fault}
use Rattle.trace.specs.declared.faults.Layer.TheVariants as layer
use Rattle.trace.specs.Batches.{Contents, contents}
use Rattle.trace.specs.Lines.{fault_bytes, report_bytes}

-- the place that a decline blames: the first byte of the record that failed, the end of the trace where it is the whole
abbrev pub offset_of : Contents → ℕ → Part → ℕ
offset_of c end part.Configuration = 0
offset_of c end (part.Arrival i) = slice_index_or c.arrival_offsets i end
offset_of c end (part.Sps i) = slice_index_or c.sps_offsets i end
offset_of c end part.Whole = end

-- a decline of the report as a fault of the trace
abbrev pub fault_by : Contents → ℕ → Decline → Fault
fault_by c end d = record { refusal = d.refusal; layer = layer.Report; offset = offset_of c end d.part }

-- the line of what the report answered
abbrev pub line_by : Contents → ℕ → Result ℕ Decline → List ℕ
line_by c end (Ok n) = report_bytes n (map digit (report_bits c.config c.arrivals c.sps))
line_by c end (Err d) = fault_bytes (fault_by c end d)

-- the line of a batch, whose report has 1,706 slots and room for 1,706 bits
abbrev pub batch_line : Contents → ℕ → List ℕ
batch_line c end = line_by c end (report_answer c.config c.arrivals c.sps 1706 1706)

-- the line of what was read: the whole trace is read before its report is made
abbrev pub line_read : ℕ → Result Contents Fault → List ℕ
line_read end (Ok c) = batch_line c end
line_read end (Err f) = fault_bytes f

-- the line of a trace
abbrev pub line_of : List ℕ → List ℕ
line_of bytes = line_read (length bytes) (contents bytes)
