use Rattle.std.proofs.lemmas.Grind.{common_steps}
use Rattle.std.proofs.Common.{pos, arith, ◌^◌}
use Rattle.cip_dict.proofs.WholeParts.{below_over, item_below}
use Rattle.cip_dict.proofs.whole.head_at.Goals as goal

pub returns-then-place-wholes-clause-within : goal.returns-then-place-wholes-clause-within
returns-then-place-wholes-clause-within c =
    let b = below_over c.args.wholes.now c.args.place c.args.len (0, pos 0) c.requires.kept c.if-place-wholes.true in omega (arith, b)

pub returns-then-place-wholes-clause-small : goal.returns-then-place-wholes-clause-small
returns-then-place-wholes-clause-small c = item_below (2 ^ 42) c.args.wholes.now c.args.place (0, pos 0) c.requires.small c.if-place-wholes.true

pub returns-then-place-wholes-clause-first : goal.returns-then-place-wholes-clause-first
returns-then-place-wholes-clause-first c = grind (arith, common_steps)

pub returns-else-place-wholes-clause-first : goal.returns-else-place-wholes-clause-first
returns-else-place-wholes-clause-first c = grind (arith, common_steps)

pub bounds-wholes-place : goal.bounds-wholes-place
bounds-wholes-place c = grind (arith, common_steps)

pub offset_bounds-wholes-place : goal.offset_bounds-wholes-place
offset_bounds-wholes-place c = grind (arith, common_steps)

pub returns-then-place-wholes-clause-last : goal.returns-then-place-wholes-clause-last
returns-then-place-wholes-clause-last c = grind (arith, common_steps)
