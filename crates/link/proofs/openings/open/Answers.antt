use Rattle.std.proofs.Common.{◌≡◌, List, map, length, take, ap, ◌∙◌}
use Rattle.harq.specs.declared.sps.SpsEntry.{SpsEntry}
use Rattle.ue.specs.declared.arrivals.SpsOutcome.{SpsOutcome}
use Rattle.gnb.specs.Opening.{opened, marks_opened}
use Rattle.link.proofs.Cutting.{opened_cut, marks_cut}
use Rattle.link.proofs.openings.open.Goals as goal

pub returns : goal.returns
returns c =
    let g = c.args.config.now in
    let m = c.args.marks.now in
    let entries : List SpsEntry = map (λ (s : SpsOutcome). s.entry) c.args.sps.now in
    let copied : c.deref.result.now ≡ take 65 entries = c.deref.ensures.0 ∙ c.entries_of.ensures in
    record {
      answer = c.open.ensures.answer ∙ ap (λ (l : List SpsEntry). opened g l (length m)) copied ∙ opened_cut g entries (length m);
      marks = c.open.ensures.marks ∙ ap (λ (l : List SpsEntry). marks_opened g l m) copied ∙ marks_cut g entries m;
    }
