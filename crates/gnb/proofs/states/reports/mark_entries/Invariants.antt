use Rattle.std.proofs.Common.{◌≡◌, is_some}
use Rattle.gnb.specs.Readings.{bits_heard, firsts, entry_read}
use Rattle.gnb.proofs.states.reports.mark_entries.Given as goal

abbrev pub invariant-loop-entry : goal.invariant-loop-entry
invariant-loop-entry l = l.entries ≡ firsts (λ _ e. entry_read l.config (is_some l.report) (bits_heard l.report) e) 0 l.entry-index l.initial.entries
