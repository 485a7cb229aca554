use Rattle.cip_text_rules.proofs.LineFaults.{faults_stay}
use Rattle.cip_text_rules.specs.PointRules.{point_reading}
use Rattle.cip_text_rules.specs.PointSteps.{point_steps}
use Rattle.cip_text_rules.proofs.PointSame.{Keeps, stands}
use Rattle.cip_text_rules.proofs.point_steps.point_faults_stay.Goals as goal

pub returns : goal.returns
returns c = λ program d. faults_stay (point_reading program) (point_steps program) (Keeps program) (stands program d)
