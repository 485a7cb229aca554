use Rattle.std.proofs.lemmas.Grind.{common_steps}
use Rattle.std.proofs.Common.{arith}
use Rattle.cip_dict.proofs.Places.{all_below}
use Rattle.cip_dict.proofs.kept.variable_at.Goals as goal

pub returns-then-place-entries-clause-within : goal.returns-then-place-entries-clause-within
returns-then-place-entries-clause-within c =
    let b = all_below c.args.entries.now 0 c.args.len c.args.place c.index-entries-place.result c.requires c.if-place-entries.true in
    omega (arith, b)

pub returns-then-place-entries-clause-first : goal.returns-then-place-entries-clause-first
returns-then-place-entries-clause-first c = grind (arith, common_steps)

pub bounds-entries-place-then-place-entries : goal.bounds-entries-place-then-place-entries
bounds-entries-place-then-place-entries c = grind (arith, common_steps)

pub bounds-entries-place : goal.bounds-entries-place
bounds-entries-place c = grind (arith, common_steps)

pub offset_bounds-entries-place : goal.offset_bounds-entries-place
offset_bounds-entries-place c = grind (arith, common_steps)

pub returns-then-place-entries-clause-last : goal.returns-then-place-entries-clause-last
returns-then-place-entries-clause-last c = grind (arith, common_steps)
