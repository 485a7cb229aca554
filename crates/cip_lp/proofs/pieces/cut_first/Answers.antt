use Rattle.std.proofs.lemmas.Grind.{common_steps}
use Rattle.std.proofs.Common.{arith}
use Rattle.cip_lp.proofs.pieces.cut_first.Goals as goal

pub cut_number-requires : goal.cut_number-requires
cut_number-requires c = grind (arith, common_steps)

pub returns-then-begins_name-clause-rest : goal.returns-then-begins_name-clause-rest
returns-then-begins_name-clause-rest c = grind (arith, common_steps)

pub slice_bounds-result-end : goal.slice_bounds-result-end
slice_bounds-result-end c = grind (arith, common_steps)

pub returns-else-begins_number-clause-piece : goal.returns-else-begins_number-clause-piece
returns-else-begins_number-clause-piece c = grind (arith, common_steps)

pub returns-then-begins_number-clause-piece : goal.returns-then-begins_number-clause-piece
returns-then-begins_number-clause-piece c = grind (arith, common_steps)

pub returns-else-begins_number-clause-rest : goal.returns-else-begins_number-clause-rest
returns-else-begins_number-clause-rest c = grind (arith, common_steps)

pub returns-then-begins_number-clause-rest : goal.returns-then-begins_number-clause-rest
returns-then-begins_number-clause-rest c = grind (arith, common_steps)

pub overflow_add-result : goal.overflow_add-result
overflow_add-result c = grind (arith, common_steps)

pub slice_bounds-result-count : goal.slice_bounds-result-count
slice_bounds-result-count c = grind (arith, common_steps)

pub slice_bounds-result-start : goal.slice_bounds-result-start
slice_bounds-result-start c = grind (arith, common_steps)
