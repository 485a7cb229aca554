use Rattle.std.proofs.lemmas.Grind.{common_steps}
use Rattle.std.proofs.Common.{arith}
use Rattle.cip_text.proofs.fraction_text.slashed.Goals as goal

pub returns-then-below-eq0 : goal.returns-then-below-eq0
returns-then-below-eq0 c = grind (arith, common_steps)

pub returns-in_default-grow : goal.returns-in_default-grow
returns-in_default-grow c = grind (arith, common_steps)

pub grow-requires-2-clause-are_digits : goal.grow-requires-2-clause-are_digits
grow-requires-2-clause-are_digits c = grind (arith, common_steps)

pub returns-in_default : goal.returns-in_default
returns-in_default c = grind (arith, common_steps)

pub grow-requires-clause-are_digits : goal.grow-requires-clause-are_digits
grow-requires-clause-are_digits c = grind (arith, common_steps)

pub returns-then-not-are_digits : goal.returns-then-not-are_digits
returns-then-not-are_digits c = grind (arith, common_steps)

pub grow-requires-2-clause-small : goal.grow-requires-2-clause-small
grow-requires-2-clause-small c = grind (arith, common_steps)
