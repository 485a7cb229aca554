use Rattle.cip_text_rules.proofs.LineOutcomes.{faults_are_first}
use Rattle.cip_text_rules.specs.PointRules.{point_reading}
use Rattle.cip_text_rules.proofs.points.point_faults_are_first.Goals as goal

pub returns : goal.returns
returns c = λ program. faults_are_first (point_reading program)
