use Rattle.cip_text_rules.proofs.LineFaults.{ended_faults}
use Rattle.cip_text_rules.proofs.LineEnded.{GoodStage}
use Rattle.cip_text_rules.specs.MpsOutcome.{mps_records, mps_reading}
use Rattle.cip_text_rules.specs.MpsSteps.{record_steps, mps_steps}
use Rattle.cip_text_rules.proofs.ReadLines.{GoodState, steps_stand}
use Rattle.cip_text_rules.proofs.step_laws.faults_of_ended_lines.Goals as goal

pub returns : goal.returns
returns c = ended_faults mps_reading mps_steps (GoodStage mps_records record_steps GoodState) steps_stand
