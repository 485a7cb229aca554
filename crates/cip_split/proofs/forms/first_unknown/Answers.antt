use Rattle.std.proofs.lemmas.Grind.{common_steps}
use Rattle.std.proofs.Common.{arith}
use Rattle.cip_split.proofs.forms.first_unknown.Goals as goal

pub loop-term-preserved : goal.loop-term-preserved
loop-term-preserved c = grind (arith, common_steps)

pub returns-then-column-columns : goal.returns-then-column-columns
returns-then-column-columns c = grind (arith, common_steps)

pub returns : goal.returns
returns c = grind (arith, common_steps)

pub offset_bounds-form-term-index : goal.offset_bounds-form-term-index
offset_bounds-form-term-index c = grind (arith, common_steps)
