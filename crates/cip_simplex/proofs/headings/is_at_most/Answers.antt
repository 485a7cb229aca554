use Rattle.std.proofs.Common.{◌∙◌, not, ap}
use Rattle.cip_simplex.proofs.WholeOrder.{not_below}
use Rattle.cip_simplex.proofs.headings.is_at_most.Goals as goal

pub returns : goal.returns
returns c = ap not c.is_below.ensures ∙ not_below c.args.a c.args.b
