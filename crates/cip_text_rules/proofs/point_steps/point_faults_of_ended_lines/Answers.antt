use Rattle.cip_text_rules.proofs.LineFaults.{ended_faults}
use Rattle.cip_text_rules.specs.PointRules.{point_reading}
use Rattle.cip_text_rules.specs.PointSteps.{point_steps}
use Rattle.cip_text_rules.proofs.PointSame.{Keeps, stands}
use Rattle.cip_text_rules.proofs.point_steps.point_faults_of_ended_lines.Goals as goal

pub returns : goal.returns
returns c = λ program d. ended_faults (point_reading program) (point_steps program) (Keeps program) (stands program d)
