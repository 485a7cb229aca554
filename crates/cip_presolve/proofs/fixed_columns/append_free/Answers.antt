use Rattle.std.proofs.lemmas.Grind.{common_steps}
use Rattle.std.proofs.Common.{arith}
use Rattle.cip_presolve.proofs.fixed_columns.append_free.Goals as goal

pub loop-term-preserved : goal.loop-term-preserved
loop-term-preserved c = grind (arith, common_steps)

pub returns : goal.returns
returns c = grind (arith, common_steps)

pub sides-requires : goal.sides-requires
sides-requires c = grind (arith, common_steps)

pub bounds-terms-term-index : goal.bounds-terms-term-index
bounds-terms-term-index c = grind (arith, common_steps)

pub offset_bounds-terms-term-index : goal.offset_bounds-terms-term-index
offset_bounds-terms-term-index c = grind (arith, common_steps)

pub loop-term-preserved-then-is_some : goal.loop-term-preserved-then-is_some
loop-term-preserved-then-is_some c = grind (arith, common_steps)

pub returns-in-Err-NoMemory : goal.returns-in-Err-NoMemory
returns-in-Err-NoMemory c = grind (arith, common_steps)

pub returns-in-Err : goal.returns-in-Err
returns-in-Err c = grind (arith, common_steps)
