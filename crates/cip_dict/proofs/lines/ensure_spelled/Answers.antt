use Rattle.std.proofs.lemmas.Grind.{common_steps}
use Rattle.std.proofs.Common.{arith}
use Rattle.cip_dict.proofs.lines.ensure_spelled.Goals as goal

pub returns-else-not-spelled-clause-done : goal.returns-else-not-spelled-clause-done
returns-else-not-spelled-clause-done c = grind (arith, common_steps)

pub returns-else-not-spelled-clause-has : goal.returns-else-not-spelled-clause-has
returns-else-not-spelled-clause-has c = grind (arith, common_steps)

pub returns-in_err-spell-clause-has : goal.returns-in_err-spell-clause-has
returns-in_err-spell-clause-has c = grind (arith, common_steps)
