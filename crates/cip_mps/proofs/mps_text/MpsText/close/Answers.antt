use Rattle.std.proofs.lemmas.Grind.{common_steps}
use Rattle.std.proofs.Common.{◌≡◌, Bool, cond, sym, ap, ◌∙◌, arith}
use Rattle.cip_text.proofs.Streams.{ends_with}
use Rattle.cip_text_rules.specs.LineEnds.{Open, Ended}
use Rattle.cip_text_rules.specs.MpsOutcome.{mps_reading}
use Rattle.cip_text_rules.specs.MpsSteps.{mps_steps}
use Rattle.cip_mps.specs.LinesRead.{state_of_lines}
use Rattle.cip_mps.specs.MpsTexts.{kept_of, stage_of}
use Rattle.cip_mps.proofs.mps_text.MpsText.close.Goals.{then-self, else-self}
use Rattle.cip_mps.proofs.mps_text.MpsText.close.Goals as goal

pub returns-clause-outcome : goal.returns-clause-outcome
returns-clause-outcome c = λ text h.
    let now = c.args.self.now in
    let after = c.read_last.new.self in
    let state = state_of_lines after.lines in
    let end_kind : c.if-self.end_kind ≡ mps_steps.end_fault (stage_of after) =
    elim c.if-self.branch [
      | then-self w ↦ w.end_kind-is ∙ sym (ap (λ (b : Bool). mps_steps.end_fault (cond b (Ended state) (Open state))) w.if-self.true)
      | else-self w ↦ w.end_kind-is ∙ sym (ap (λ (b : Bool). mps_steps.end_fault (cond b (Ended state) (Open state))) w.if-self.false)
    ] in
    ends_with mps_reading mps_steps c.texts_are_read.ensures text (kept_of now) (kept_of after) (stage_of now) (stage_of after) c.in_ok-last_kind.last_kind c.if-self.end_kind c.fault_at_end.result h c.in_ok-last_kind.ensures.read c.read_last.ensures.kept end_kind c.fault_at_end.ensures

pub returns-clause-kinds : goal.returns-clause-kinds
returns-clause-kinds c = grind (arith, common_steps)
