use Rattle.std.proofs.lemmas.Grind.{common_steps}
use Rattle.std.proofs.Common.{arith}
use Rattle.cip_presolve.proofs.forms.ColumnForm.is_same.Goals as goal

pub returns-then-eq-2 : goal.returns-then-eq-2
returns-then-eq-2 c = grind (arith, common_steps)

pub returns-else-eq-2 : goal.returns-else-eq-2
returns-else-eq-2 c = grind (arith, common_steps)
