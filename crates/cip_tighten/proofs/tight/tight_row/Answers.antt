use Rattle.std.proofs.lemmas.Grind.{common_steps}
use Rattle.std.proofs.Common.{arith}
use Rattle.cip_tighten.proofs.tight.tight_row.Goals as goal

pub offset_bounds-terms-term-index : goal.offset_bounds-terms-term-index
offset_bounds-terms-term-index c = grind (arith, common_steps)

pub bounds-terms-term-index : goal.bounds-terms-term-index
bounds-terms-term-index c = grind (arith, common_steps)
