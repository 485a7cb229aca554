use Rattle.std.proofs.lemmas.Grind.{common_steps}
use Rattle.std.proofs.Common.{arith}
use Rattle.cip_presolve.proofs.rules.has_fixed.Goals as goal

pub is_fixed-requires : goal.is_fixed-requires
is_fixed-requires c = grind (arith, common_steps)

pub offset_bounds-terms-term-index : goal.offset_bounds-terms-term-index
offset_bounds-terms-term-index c = grind (arith, common_steps)
