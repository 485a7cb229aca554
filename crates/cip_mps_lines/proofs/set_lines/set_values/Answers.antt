use Rattle.std.proofs.lemmas.Grind.{common_steps}
use Rattle.std.proofs.Common.{arith}
use Rattle.cip_mps_lines.proofs.set_lines.set_values.Goals as goal

pub returns-in-Some : goal.returns-in-Some
returns-in-Some c = grind (arith, common_steps)

pub returns-then-words-eq0 : goal.returns-then-words-eq0
returns-then-words-eq0 c = grind (arith, common_steps)

pub returns-in-None : goal.returns-in-None
returns-in-None c = grind (arith, common_steps)

pub slice_bounds-values_in_set-end-in-Some : goal.slice_bounds-values_in_set-end-in-Some
slice_bounds-values_in_set-end-in-Some c = grind (arith, common_steps)
