use Rattle.cip_text_rules.proofs.LineSame.{texts_are_read}
use Rattle.cip_text_rules.specs.PointRules.{point_reading}
use Rattle.cip_text_rules.specs.PointSteps.{point_steps}
use Rattle.cip_text_rules.proofs.PointSame.{Keeps, stands}
use Rattle.cip_text_rules.proofs.point_steps.points_are_read.Goals as goal

pub returns : goal.returns
returns c = λ program d. texts_are_read (point_reading program) (point_steps program) (Keeps program) (stands program d)
