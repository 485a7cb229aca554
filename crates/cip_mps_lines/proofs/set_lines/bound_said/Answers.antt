use Rattle.std.proofs.lemmas.Grind.{common_steps}
use Rattle.std.proofs.Common.{arith}
use Rattle.cip_mps_lines.proofs.set_lines.bound_said.Goals as goal

pub returns-in_default : goal.returns-in_default
returns-in_default c = grind (arith, common_steps)

pub slice_bounds-bound_kind_of-end : goal.slice_bounds-bound_kind_of-end
slice_bounds-bound_kind_of-end c = grind (arith, common_steps)
