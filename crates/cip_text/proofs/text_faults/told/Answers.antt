use Rattle.std.proofs.lemmas.Grind.{common_steps}
use Rattle.std.proofs.Common.{arith}
use Rattle.cip_text.proofs.text_faults.told.Goals as goal

pub of-requires-clause-some : goal.of-requires-clause-some
of-requires-clause-some g c = grind (arith, common_steps)

pub of-requires-clause-few : goal.of-requires-clause-few
of-requires-clause-few g c = grind (arith, common_steps)

pub returns-in-Some : goal.returns-in-Some
returns-in-Some g c = grind (arith, common_steps)

pub returns-in-None : goal.returns-in-None
returns-in-None g c = grind (arith, common_steps)
