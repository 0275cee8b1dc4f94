-- Totals that arrived. Assumes nothing.
use Rattle.std.specs.Prelude.{ℕ, Bool, ◌&&◌, List, find, Option, ◌==◌}
use Rattle.std.specs.Option.{option_map}
use Rattle.harq.specs.declared.configs.Config.{Config}
use Rattle.harq.specs.Configs.{carries_total}
use Rattle.scenario.specs.declared.playing.Sent.{Sent}
use Rattle.scenario.specs.Arrived.{arrived}

-- an assignment arrived with a total of the occasion
abbrev pub brings_total : Config → ℕ → Sent → Bool
brings_total g occasion s = arrived s && (s.entry.occasion == occasion && carries_total g s.entry.format)

-- the number of the first that did, of those sent
abbrev pub first_total : Config → ℕ → List Sent → Option ℕ
first_total g occasion sent = option_map (λ (s : Sent). s.entry.number) (find (brings_total g occasion) sent)
