use Rattle.std.proofs.lemmas.Grind.{common_steps}
use Rattle.std.proofs.Common.{arith}
use Rattle.cip_text.proofs.parts.all_digits.Goals as goal

pub all-requires-clause-callable : goal.all-requires-clause-callable
all-requires-clause-callable c = grind (arith, common_steps)

pub all-requires-clause-can : goal.all-requires-clause-can
all-requires-clause-can c = grind (arith, common_steps)

pub all-requires-clause-finite : goal.all-requires-clause-finite
all-requires-clause-finite c = grind (arith, common_steps)
