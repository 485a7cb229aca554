use Rattle.cip_text_rules.proofs.LineOutcomes.{one_outcome}
use Rattle.cip_text_rules.specs.PointRules.{point_reading}
use Rattle.cip_text_rules.proofs.points.points_have_one_outcome.Goals as goal

pub returns : goal.returns
returns c = λ program. one_outcome (point_reading program)
