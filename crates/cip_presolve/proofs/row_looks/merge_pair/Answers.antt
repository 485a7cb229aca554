use Rattle.cip_search.proofs.Pairing.{exact_self}
use Rattle.std.proofs.lemmas.Grind.{common_steps}
use Rattle.std.proofs.Common.{arith}
use Rattle.cip_presolve.proofs.row_looks.merge_pair.Goals as goal

pub overflow_cast-stays-2 : goal.overflow_cast-stays-2
overflow_cast-stays-2 c = omega arith

pub returns-in-Err-clause-rows : goal.returns-in-Err-clause-rows
returns-in-Err-clause-rows c = omega arith

pub returns-in-Err-clause-step : goal.returns-in-Err-clause-step
returns-in-Err-clause-step c = grind (arith, common_steps)

pub returns-in-Ok-Gone-clause-end : goal.returns-in-Ok-Gone-clause-end
returns-in-Ok-Gone-clause-end c = grind (arith, common_steps)

pub returns-in-Ok-Gone-clause-rows : goal.returns-in-Ok-Gone-clause-rows
returns-in-Ok-Gone-clause-rows c = omega arith

pub returns-in-Ok-Gone-clause-step : goal.returns-in-Ok-Gone-clause-step
returns-in-Ok-Gone-clause-step c = grind (arith, common_steps)

pub returns-in-Ok-NoPoint-clause-end : goal.returns-in-Ok-NoPoint-clause-end
returns-in-Ok-NoPoint-clause-end c = grind (arith, common_steps)

pub returns-in-Ok-NoPoint-clause-rows : goal.returns-in-Ok-NoPoint-clause-rows
returns-in-Ok-NoPoint-clause-rows c = omega arith

pub returns-in-Ok-NoPoint-clause-step : goal.returns-in-Ok-NoPoint-clause-step
returns-in-Ok-NoPoint-clause-step c = grind (arith, common_steps)

pub returns-in-Ok-clause-rows : goal.returns-in-Ok-clause-rows
returns-in-Ok-clause-rows c = omega arith

pub returns-in-Ok-clause-step : goal.returns-in-Ok-clause-step
returns-in-Ok-clause-step c = grind (arith, common_steps)

pub try_merge-requires-clause-first : goal.try_merge-requires-clause-first
try_merge-requires-clause-first c = omega arith

pub try_merge-requires-clause-second : goal.try_merge-requires-clause-second
try_merge-requires-clause-second c = omega arith

pub overflow_cast-stays : goal.overflow_cast-stays
overflow_cast-stays c = grind (arith, common_steps)

pub overflow_cast-gone : goal.overflow_cast-gone
overflow_cast-gone c = grind (arith, common_steps)

pub overflow_cast-stays-else-gone-count : goal.overflow_cast-stays-else-gone-count
overflow_cast-stays-else-gone-count c = grind (arith, common_steps)

pub returns-in-Ok-clause-end : goal.returns-in-Ok-clause-end
returns-in-Ok-clause-end c = grind (arith, common_steps)

pub returns-in-Err-clause-end : goal.returns-in-Err-clause-end
returns-in-Err-clause-end c = grind (arith, common_steps)

pub returns-then-not-alike-clause-end : goal.returns-then-not-alike-clause-end
returns-then-not-alike-clause-end c = grind (arith, common_steps)

pub returns-then-not-alike-clause-rows : goal.returns-then-not-alike-clause-rows
returns-then-not-alike-clause-rows c = grind (arith, common_steps)

pub returns-then-not-alike-clause-step : goal.returns-then-not-alike-clause-step
returns-then-not-alike-clause-step c = exact_self c.args.draft.now
