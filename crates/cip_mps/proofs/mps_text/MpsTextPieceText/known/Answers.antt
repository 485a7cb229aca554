use Rattle.std.proofs.Common.{subst}
use Rattle.cip_text.specs.TextFaults.{IsSaid}
use Rattle.cip_text.proofs.FaultsTold.{told_by}
use Rattle.cip_text_rules.specs.MpsOutcome.{mps_reading}
use Rattle.cip_text_rules.specs.MpsSteps.{mps_steps}
use Rattle.cip_mps.specs.MpsKindTexts.{kind_number}
use Rattle.cip_mps.specs.MpsTexts.{kept_of, stage_of}
use Rattle.cip_mps.proofs.mps_text.MpsTextPieceText.known.Goals as goal

pub returns : goal.returns
returns c = λ bytes h.
    let text = c.args.self.now in
    told_by mps_reading mps_steps c.faults_of_ended_lines.ensures bytes (kept_of text) (stage_of text) h kind_number c.told.result (subst (λ known. IsSaid kind_number known c.told.result) c.known_fault.ensures c.told.ensures)
