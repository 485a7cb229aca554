use Rattle.std.proofs.lemmas.Grind.{common_steps}
use Rattle.std.proofs.Common.{arith}
use Rattle.cip_text.proofs.pieces.Pieces.looked_at.Goals as goal

pub returns-else-piece-room : goal.returns-else-piece-room
returns-else-piece-room c = grind (arith, common_steps)

pub slice_bounds-result-end : goal.slice_bounds-result-end
slice_bounds-result-end c = grind (arith, common_steps)

pub overflow_sub-room : goal.overflow_sub-room
overflow_sub-room c = grind (arith, common_steps)

pub overflow_add-room : goal.overflow_add-room
overflow_add-room c = grind (arith, common_steps)
