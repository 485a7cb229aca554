use Rattle.std.proofs.lemmas.Grind.{common_steps}
use Rattle.std.proofs.Common.{arith}
use Rattle.cip_presolve.proofs.forms.form_of.Goals as goal

pub returns : goal.returns
returns c = grind (arith, common_steps)

pub div-requires-2 : goal.div-requires-2
div-requires-2 c = grind (arith, common_steps)

pub div-requires : goal.div-requires
div-requires c = grind (arith, common_steps)
