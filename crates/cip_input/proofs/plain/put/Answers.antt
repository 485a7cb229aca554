use Rattle.std.proofs.lemmas.Grind.{common_steps}
use Rattle.std.proofs.Common.{arith}
use Rattle.cip_input.proofs.plain.put.Goals as goal

pub returns-clause-text : goal.returns-clause-text
returns-clause-text c = grind (arith, common_steps)

pub copy_from_slice-requires : goal.copy_from_slice-requires
copy_from_slice-requires c = grind (arith, common_steps)

pub overflow_add-end : goal.overflow_add-end
overflow_add-end c = grind (arith, common_steps)

pub slice_bounds-copy_from_slice-count : goal.slice_bounds-copy_from_slice-count
slice_bounds-copy_from_slice-count c = grind (arith, common_steps)

pub slice_bounds-copy_from_slice-start : goal.slice_bounds-copy_from_slice-start
slice_bounds-copy_from_slice-start c = grind (arith, common_steps)

pub slice_bounds-copy_from_slice-end : goal.slice_bounds-copy_from_slice-end
slice_bounds-copy_from_slice-end c = grind (arith, common_steps)
