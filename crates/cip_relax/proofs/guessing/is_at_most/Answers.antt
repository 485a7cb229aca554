use Rattle.std.proofs.Common.{◌∙◌}
use Rattle.cip_rational.proofs.Comparisons.{is_le-compare}
use Rattle.cip_relax.proofs.guessing.is_at_most.Goals as goal

pub returns : goal.returns
returns c = c.le.ensures ∙ is_le-compare _ _
