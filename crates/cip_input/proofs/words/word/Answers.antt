use Rattle.std.proofs.lemmas.Grind.{common_steps}
use Rattle.std.proofs.Common.{arith}
use Rattle.cip_input.proofs.words.word.Goals as goal

pub returns-else-flag-clause-local : goal.returns-else-flag-clause-local
returns-else-flag-clause-local c = grind (arith, common_steps)

pub returns-else-flag-clause-rule : goal.returns-else-flag-clause-rule
returns-else-flag-clause-rule c = grind (arith, common_steps)

pub returns-then-flag-clause-local : goal.returns-then-flag-clause-local
returns-then-flag-clause-local c = grind (arith, common_steps)

pub returns-then-flag-clause-rule : goal.returns-then-flag-clause-rule
returns-then-flag-clause-rule c = grind (arith, common_steps)

pub returns-then-required-clause-local : goal.returns-then-required-clause-local
returns-then-required-clause-local c = grind (arith, common_steps)

pub returns-then-required-clause-rule : goal.returns-then-required-clause-rule
returns-then-required-clause-rule c = grind (arith, common_steps)
