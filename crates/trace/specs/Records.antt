-- Records of a trace: kind, length of the body, body. Assumes nothing.
use Rattle.std.specs.Prelude.{ℕ, zero, suc, ◌+◌, ◌-◌, Bool, cond, ◌&&◌, ◌||◌, List, length, take, drop, Some, None, Ok, Err, Option, Result, ◌==◌, nat_le, nat_lt, slice_index}
use Rattle.trace.specs.declared.faults.Fault.{Fault}
use Rattle.trace.specs.declared.faults.Layer.TheVariants as layer
use Rattle.trace.specs.declared.records.Record.{Record}
use Rattle.trace.specs.declared.records.Record.TheVariants as held
use Rattle.trace.specs.Faults.{broken_at, after}
use Rattle.trace.specs.Numbers.{number_at}

-- what a record says and where it stands; `from` is the offset of the bytes that it ends with
pub data Entry : Type 0 where
  configuration : (at cells occasions width mode from : ℕ) (first : List ℕ) → Entry
  assignment : (at cell occasion format field blocks from : ℕ) (outcomes : List ℕ) → Entry
  sps : (at cell configuration slot outcome : ℕ) → Entry

-- a record as the program holds it
abbrev pub entry_of : Record → Entry
entry_of (held.Configuration at c m w mode f) = configuration at c m w mode f.at f.bytes.now
entry_of (held.Assignment at c m f d b o) = assignment at c m f d b o.at o.bytes.now
entry_of (held.Sps at c k s o) = sps at c k s o

-- the offset of a record
abbrev pub offset_of : Entry → ℕ
offset_of (configuration at c m w mode from first) = at
offset_of (assignment at c m f d b from o) = at
offset_of (sps at c k s o) = at

-- a number in the body of the record at `at`: a body with no byte left is the record's fault
abbrev pub field_at : List ℕ → ℕ → ℕ → Result (ℕ × ℕ) Fault
field_at bs at next = cond (nat_lt next (length bs)) (number_at bs next) (Err (broken_at layer.Record at))

-- the offset after some numbers of a body
abbrev pub fields_at : List ℕ → ℕ → ℕ → ℕ → Result ℕ Fault
fields_at bs at next zero = Ok next
fields_at bs at next (suc n) = after (field_at bs at next) (λ p. fields_at bs at p.1 n)

-- a record whose body ends as it must, or its fault
abbrev pub ending : Bool → ℕ → Entry → Result Entry Fault
ending ends at e = cond ends (Ok e) (Err (broken_at layer.Record at))

-- kind 1: cells, occasions, width, mode, then the first occasion of each cell
abbrev pub configuration_at : List ℕ → ℕ → ℕ → Result Entry Fault
configuration_at bs at next =
    after (field_at bs at next) (λ cells.
    after (field_at bs at cells.1) (λ occasions.
    after (field_at bs at occasions.1) (λ width.
    after (field_at bs at width.1) (λ mode.
    after (fields_at bs at mode.1 cells.0) (λ end.
    ending (end == length bs) at
    (configuration at cells.0 occasions.0 width.0 mode.0 mode.1 (drop mode.1 bs)))))))

-- kind 2: cell, occasion, format, field, blocks, then an outcome byte for each block
abbrev pub assignment_at : List ℕ → ℕ → ℕ → Result Entry Fault
assignment_at bs at next =
    after (field_at bs at next) (λ cell.
    after (field_at bs at cell.1) (λ occasion.
    after (field_at bs at occasion.1) (λ format.
    after (field_at bs at format.1) (λ field.
    after (field_at bs at field.1) (λ blocks.
    ending (length bs - blocks.1 == blocks.0) at
    (assignment at cell.0 occasion.0 format.0 field.0 blocks.0 blocks.1 (drop blocks.1 bs)))))))

-- kind 3: cell, configuration, slot, then one outcome byte
abbrev pub sps_at : List ℕ → ℕ → ℕ → Result Entry Fault
sps_at bs at next =
    after (field_at bs at next) (λ cell.
    after (field_at bs at cell.1) (λ number.
    after (field_at bs at number.1) (λ slot.
    ending (length bs - slot.1 == 1) at (sps at cell.0 number.0 slot.0 (slice_index bs slot.1)))))

-- a body by its kind; the list ends where the body does
abbrev pub body_at : ℕ → List ℕ → ℕ → ℕ → Result Entry Fault
body_at kind bs at next =
    cond (kind == 1) (configuration_at bs at next) (cond (kind == 2) (assignment_at bs at next) (sps_at bs at next))

-- a configuration stands first, and nowhere else
abbrev pub may_stand : ℕ → ℕ → Bool
may_stand kind at = cond (at == 0) (kind == 1) (kind == 2 || kind == 3)

-- a record's kind, and where its body begins and ends
abbrev pub head_at : List ℕ → ℕ → Result (ℕ × ℕ × ℕ) Fault
head_at bs at =
    after (field_at bs at at) (λ kind.
    cond (may_stand kind.0 at)
    (after (field_at bs at kind.1) (λ size.
    cond (nat_le size.0 (length bs - size.1)) (Ok (kind.0, size.1, size.1 + size.0)) (Err (broken_at layer.Record at))))
    (Err (broken_at layer.Record at)))

-- the record at an offset and the offset after it; none at the end of a trace, which has a record at least
abbrev pub record_at : List ℕ → ℕ → Result (Option (Entry × ℕ)) Fault
record_at bs at =
    cond (nat_lt 0 at && nat_le (length bs) at) (Ok None)
    (after (head_at bs at) (λ head.
    after (body_at head.0 (take head.2 bs) at head.1) (λ e. Ok (Some (e, head.2)))))

-- what the readers answer, with the record as it is held
abbrev pub viewed : Result Record Fault → Result Entry Fault
viewed (Ok r) = Ok (entry_of r)
viewed (Err e) = Err e

abbrev pub viewed_next : Result (Option (Record × ℕ)) Fault → Result (Option (Entry × ℕ)) Fault
viewed_next (Ok None) = Ok None
viewed_next (Ok (Some p)) = Ok (Some (entry_of p.0, p.1))
viewed_next (Err e) = Err e
