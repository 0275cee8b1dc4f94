-- What was sent, and what became of it. Assumes nothing.
use Rattle.std.specs.Prelude.{Bool, List}
use Rattle.gnb.specs.declared.grants.GrantEntry.{GrantEntry}
use Rattle.agreement.specs.declared.fates.Fate.{Fate}
use Rattle.agreement.specs.Fates.{fate_of}
use Rattle.scenario.specs.declared.playing.Sent.{Sent}

-- an entry with the fate of its assignment
abbrev pub with_fate : List Fate → GrantEntry → Sent
with_fate fates e = record { entry = e; fate = fate_of fates e.number }

-- the assignment arrives
abbrev pub arrived : Sent → Bool
arrived s = s.fate.arrived
