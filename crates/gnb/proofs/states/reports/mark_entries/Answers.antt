use Rattle.std.proofs.Common.{is_some, arith}
use Rattle.gnb.specs.declared.marks.Mark.TheVariants.{Negative}
use Rattle.gnb.specs.declared.marks.Marks.TheVariants.{One}
use Rattle.gnb.specs.Readings.{bits_heard, entry_read}
use Rattle.gnb.proofs.Firsts.{firsts_turn}
use Rattle.gnb.proofs.states.reports.mark_entries.Goals as goal

pub loop-entry-preserved : goal.loop-entry-preserved
loop-entry-preserved c =
    firsts_turn (λ _ e. entry_read c.args.config.now (is_some c.args.report) (bits_heard c.args.report) e) c.loop-entry.entry-index c.args.entries.now c.loop-entry.entries _
    record { cell = 0; occasion = 0; format = 0; blocks = 0; number = 0; field = 0; marks = One Negative }
    c.loop-entry.invariant (omega arith) (simp c.marks_at-entry.ensures)
