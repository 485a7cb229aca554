use Rattle.std.proofs.lemmas.Grind.{common_steps}
use Rattle.std.proofs.Common.{arith}
use Rattle.cip_lp.proofs.pieces.cut_number.Goals as goal

pub returns-then-length-gt0-clause-rest : goal.returns-then-length-gt0-clause-rest
returns-then-length-gt0-clause-rest c = grind (arith, common_steps)

pub returns-then-length-gt0-clause-piece : goal.returns-then-length-gt0-clause-piece
returns-then-length-gt0-clause-piece c = grind (arith, common_steps)

pub returns-else-length-gt0-clause-piece : goal.returns-else-length-gt0-clause-piece
returns-else-length-gt0-clause-piece c = grind (arith, common_steps)

pub slice_bounds-result-end : goal.slice_bounds-result-end
slice_bounds-result-end c = grind (arith, common_steps)

pub returns-else-length-gt0-clause-rest : goal.returns-else-length-gt0-clause-rest
returns-else-length-gt0-clause-rest c = grind (arith, common_steps)

pub overflow_sub-result : goal.overflow_sub-result
overflow_sub-result c = grind (arith, common_steps)

pub slice_bounds-result-count : goal.slice_bounds-result-count
slice_bounds-result-count c = grind (arith, common_steps)

pub slice_bounds-result-start : goal.slice_bounds-result-start
slice_bounds-result-start c = grind (arith, common_steps)
