use Rattle.std.proofs.lemmas.Grind.{common_steps}
use Rattle.std.proofs.Common.{arith}
use Rattle.cip_leaf.proofs.Answered.{first_is_wide}
use Rattle.cip_leaf.proofs.leaves.out_of_range.Goals as goal

pub first_wide-requires-clause-wide : goal.first_wide-requires-clause-wide
first_wide-requires-clause-wide c =
    let e = c.as_slice.ensures.value in
    let f = c.as_slice-2.ensures.value in
    rw (e, f) (first_is_wide _ c.args.moves c.requires.end (omega arith))

pub first_wide-requires-clause-solvable : goal.first_wide-requires-clause-solvable
first_wide-requires-clause-solvable c = grind (arith, common_steps)

pub returns : goal.returns
returns c = grind (arith, common_steps)

pub returns-then-moves-gt0 : goal.returns-then-moves-gt0
returns-then-moves-gt0 c = grind (arith, common_steps)
