use Rattle.std.proofs.lemmas.Grind.{common_steps}
use Rattle.std.proofs.Common.{arith}
use Rattle.cip_presolve.proofs.left_programs.left_out.Goals as goal

pub returns-clause-may : goal.returns-clause-may
returns-clause-may c = c.in-Ok.ensures.may

pub returns-clause-sources : goal.returns-clause-sources
returns-clause-sources c = c.in-Ok.ensures.sources

pub returns-clause-rows : goal.returns-clause-rows
returns-clause-rows c = c.in-Ok.ensures.rows

pub numbers_kept-requires : goal.numbers_kept-requires
numbers_kept-requires c = grind (arith, common_steps)

pub returns-clause-gone : goal.returns-clause-gone
returns-clause-gone c = grind (arith, common_steps)

pub returns-clause-lists : goal.returns-clause-lists
returns-clause-lists c = grind (arith, common_steps)

pub returns-in_default-to_vec-clause-sources : goal.returns-in_default-to_vec-clause-sources
returns-in_default-to_vec-clause-sources c = grind (arith, common_steps)

pub returns-in_default-to_vec-clause-gone : goal.returns-in_default-to_vec-clause-gone
returns-in_default-to_vec-clause-gone c = grind (arith, common_steps)

pub returns-in_default-to_vec-clause-may : goal.returns-in_default-to_vec-clause-may
returns-in_default-to_vec-clause-may c = grind (arith, common_steps)

pub returns-in_default-to_vec-clause-lists : goal.returns-in_default-to_vec-clause-lists
returns-in_default-to_vec-clause-lists c = grind (arith, common_steps)

pub returns-in_default-to_vec-clause-rows : goal.returns-in_default-to_vec-clause-rows
returns-in_default-to_vec-clause-rows c = grind (arith, common_steps)

pub returns-in_default-clause-gone : goal.returns-in_default-clause-gone
returns-in_default-clause-gone c = grind (arith, common_steps)

pub returns-in_default-clause-rows : goal.returns-in_default-clause-rows
returns-in_default-clause-rows c = grind (arith, common_steps)

pub returns-in_default-clause-may : goal.returns-in_default-clause-may
returns-in_default-clause-may c = grind (arith, common_steps)

pub returns-in_default-clause-sources : goal.returns-in_default-clause-sources
returns-in_default-clause-sources c = grind (arith, common_steps)

pub returns-in_default-clause-lists : goal.returns-in_default-clause-lists
returns-in_default-clause-lists c = grind (arith, common_steps)
