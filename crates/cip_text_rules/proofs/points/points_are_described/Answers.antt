use Rattle.cip_text_rules.proofs.LineOutcomes.{results_are_described}
use Rattle.cip_text_rules.specs.PointRules.{point_reading}
use Rattle.cip_text_rules.proofs.points.points_are_described.Goals as goal

pub returns : goal.returns
returns c = λ program. results_are_described (point_reading program)
