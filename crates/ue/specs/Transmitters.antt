-- What the transmitter makes of a report. Assumes nothing.
use Rattle.std.specs.Prelude.{Bool, not, List, map}

-- the bits as they go on air: 0 is ACK
abbrev pub on_air : List Bool → List Bool
on_air bits = map not bits
