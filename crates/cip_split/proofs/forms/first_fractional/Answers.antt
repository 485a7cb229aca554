use Rattle.std.proofs.lemmas.Grind.{common_steps}
use Rattle.std.proofs.Common.{arith}
use Rattle.cip_split.proofs.forms.first_fractional.Goals as goal

pub loop-term-preserved : goal.loop-term-preserved
loop-term-preserved c = grind (arith, common_steps)

pub returns-then-column-whole : goal.returns-then-column-whole
returns-then-column-whole c = grind (arith, common_steps)

pub returns : goal.returns
returns c = grind (arith, common_steps)

pub bounds-whole-column : goal.bounds-whole-column
bounds-whole-column c = grind (arith, common_steps)

pub offset_bounds-form-term-index : goal.offset_bounds-form-term-index
offset_bounds-form-term-index c = grind (arith, common_steps)
