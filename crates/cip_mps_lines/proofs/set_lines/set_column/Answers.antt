use Rattle.std.proofs.lemmas.Grind.{common_steps}
use Rattle.std.proofs.Common.{arith}
use Rattle.cip_mps_lines.proofs.set_lines.set_column.Goals as goal

pub returns-in-len3 : goal.returns-in-len3
returns-in-len3 c = grind (arith, common_steps)

pub returns-in-len2 : goal.returns-in-len2
returns-in-len2 c = grind (arith, common_steps)

pub returns-in-len1 : goal.returns-in-len1
returns-in-len1 c = grind (arith, common_steps)

pub bounds-words-0-then-words-lt4 : goal.bounds-words-0-then-words-lt4
bounds-words-0-then-words-lt4 c = grind (arith, common_steps)

pub bounds-words-0-then-words-lt3 : goal.bounds-words-0-then-words-lt3
bounds-words-0-then-words-lt3 c = grind (arith, common_steps)

pub bounds-words-1-then-words-lt4 : goal.bounds-words-1-then-words-lt4
bounds-words-1-then-words-lt4 c = grind (arith, common_steps)

pub bounds-words-1 : goal.bounds-words-1
bounds-words-1 c = grind (arith, common_steps)

pub bounds-words-0 : goal.bounds-words-0
bounds-words-0 c = grind (arith, common_steps)

pub returns-in_default : goal.returns-in_default
returns-in_default c = grind (arith, common_steps)

pub slice_bounds-result-end-in-len3-2 : goal.slice_bounds-result-end-in-len3-2
slice_bounds-result-end-in-len3-2 c = grind (arith, common_steps)

pub slice_bounds-result-end-in-len2-2 : goal.slice_bounds-result-end-in-len2-2
slice_bounds-result-end-in-len2-2 c = grind (arith, common_steps)

pub slice_bounds-result-end-in-len3 : goal.slice_bounds-result-end-in-len3
slice_bounds-result-end-in-len3 c = grind (arith, common_steps)

pub slice_bounds-result-end-in-len1 : goal.slice_bounds-result-end-in-len1
slice_bounds-result-end-in-len1 c = grind (arith, common_steps)

pub slice_bounds-result-end-in-len2 : goal.slice_bounds-result-end-in-len2
slice_bounds-result-end-in-len2 c = grind (arith, common_steps)
