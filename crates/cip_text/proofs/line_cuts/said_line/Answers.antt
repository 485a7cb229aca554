use Rattle.std.proofs.lemmas.Grind.{common_steps}
use Rattle.std.proofs.Common.{arith}
use Rattle.cip_text.proofs.line_cuts.said_line.Goals as goal

pub bounds-line-0-2 : goal.bounds-line-0-2
bounds-line-0-2 c = grind (arith, common_steps)

pub bounds-line-0 : goal.bounds-line-0
bounds-line-0 c = grind (arith, common_steps)

pub returns-in_default-clause-says : goal.returns-in_default-clause-says
returns-in_default-clause-says c = grind (arith, common_steps)

pub returns-then-is_empty-clause-says : goal.returns-then-is_empty-clause-says
returns-then-is_empty-clause-says c = grind (arith, common_steps)

pub returns-in-len1-up-clause-says : goal.returns-in-len1-up-clause-says
returns-in-len1-up-clause-says c = grind (arith, common_steps)

pub returns-else-is_empty-clause-says : goal.returns-else-is_empty-clause-says
returns-else-is_empty-clause-says c = grind (arith, common_steps)

pub returns-in-empty-clause-says : goal.returns-in-empty-clause-says
returns-in-empty-clause-says c = grind (arith, common_steps)

pub returns-else-is_empty-clause-is_number : goal.returns-else-is_empty-clause-is_number
returns-else-is_empty-clause-is_number c = grind (arith, common_steps)

pub returns-then-is_empty-clause-is_number : goal.returns-then-is_empty-clause-is_number
returns-then-is_empty-clause-is_number c = grind (arith, common_steps)

pub returns-in_default-clause-is_number : goal.returns-in_default-clause-is_number
returns-in_default-clause-is_number c = grind (arith, common_steps)

pub returns-in-len1-up-clause-is_number : goal.returns-in-len1-up-clause-is_number
returns-in-len1-up-clause-is_number c = grind (arith, common_steps)

pub returns-in-empty-clause-is_number : goal.returns-in-empty-clause-is_number
returns-in-empty-clause-is_number c = grind (arith, common_steps)
