-- An exchange from a script. Assumes nothing.
use Rattle.std.specs.Prelude.{ℕ, false, List, map, replicate, vec_items, vec_len}
use Rattle.ue.specs.declared.slots.Slot.TheVariants as slot
use Rattle.gnb.specs.declared.grants.GrantEntry.{GrantEntry}
use Rattle.gnb.specs.declared.marks.Mark.{Mark}
use Rattle.gnb.specs.declared.marks.Mark.TheVariants.{Negative}
use Rattle.gnb.specs.declared.marks.Marks.TheVariants.{One}
use Rattle.gnb.specs.Sending.{Call}
use Rattle.agreement.specs.Exchanges.{Exchange}
use Rattle.replay.specs.declared.scripts.Request.{Request}
use Rattle.replay.specs.declared.scripts.Script.{Script}

-- a numbering call, by its values
abbrev pub asked : Request → Call
asked r = record { occasion = r.occasion; grants = vec_items r.grants }

-- an entry that nothing was numbered in
abbrev pub no_entry : GrantEntry
no_entry = record { cell = 0; occasion = 0; format = 0; blocks = 0; number = 0; field = 0; marks = One Negative }

-- the exchange of a script by these calls, over what is lent; the UE's slots are as many as the longest report has bits
abbrev pub exchange_by : Script → List Call → List GrantEntry → List Mark → ℕ → Exchange
exchange_by s calls table marks room = record {
  config = s.config;
  sps = vec_items s.sps;
  calls = calls;
  fates = vec_items s.fates;
  table = table;
  marks = marks;
  slots = replicate 1706 (slot.One false);
  room = room;
}

-- the exchange of a script: a table as long as it says, and room for the longest report
abbrev pub exchange_in : Script → Exchange
exchange_in s = exchange_by s (map asked (vec_items s.requests)) (replicate s.table no_entry) (replicate (vec_len s.sps) Negative) 1706
