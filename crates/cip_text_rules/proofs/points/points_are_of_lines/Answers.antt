use Rattle.cip_text_rules.proofs.PointLaws.{points_are_of_lines}
use Rattle.cip_text_rules.proofs.points.points_are_of_lines.Goals as goal

pub returns : goal.returns
returns c = points_are_of_lines
