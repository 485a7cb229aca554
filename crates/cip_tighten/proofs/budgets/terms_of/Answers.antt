use Rattle.std.proofs.lemmas.Grind.{common_steps}
use Rattle.std.proofs.Common.{arith}
use Rattle.cip_tighten.proofs.budgets.terms_of.Goals as goal

pub offset_bounds-own-row-index : goal.offset_bounds-own-row-index
offset_bounds-own-row-index c = grind (arith, common_steps)
