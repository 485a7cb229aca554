use Rattle.std.proofs.lemmas.Grind.{common_steps}
use Rattle.std.proofs.Common.{arith}
use Rattle.cip_text.proofs.parts.cut_at.Goals as goal

pub returns-then-place-bytes-clause-after : goal.returns-then-place-bytes-clause-after
returns-then-place-bytes-clause-after c = grind (arith, common_steps)

pub returns-else-place-bytes-clause-before : goal.returns-else-place-bytes-clause-before
returns-else-place-bytes-clause-before c = grind (arith, common_steps)

pub returns-else-place-bytes-clause-after : goal.returns-else-place-bytes-clause-after
returns-else-place-bytes-clause-after c = grind (arith, common_steps)

pub slice_bounds-result-end : goal.slice_bounds-result-end
slice_bounds-result-end c = grind (arith, common_steps)

pub overflow_add-result : goal.overflow_add-result
overflow_add-result c = grind (arith, common_steps)

pub returns-then-place-bytes-clause-before : goal.returns-then-place-bytes-clause-before
returns-then-place-bytes-clause-before c = grind (arith, common_steps)

pub slice_bounds-result-count : goal.slice_bounds-result-count
slice_bounds-result-count c = grind (arith, common_steps)

pub slice_bounds-result-start : goal.slice_bounds-result-start
slice_bounds-result-start c = grind (arith, common_steps)
