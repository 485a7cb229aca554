use Rattle.std.proofs.lemmas.Grind.{common_steps}
use Rattle.std.proofs.Common.{arith}
use Rattle.cip_dict.proofs.listed.is_within.Goals as goal

pub returns-then-place-entries-clause-below : goal.returns-then-place-entries-clause-below
returns-then-place-entries-clause-below g c = grind (arith, common_steps)

pub returns-then-place-entries-clause-past : goal.returns-then-place-entries-clause-past
returns-then-place-entries-clause-past g c = grind (arith, common_steps)

pub returns-else-place-entries-clause-below : goal.returns-else-place-entries-clause-below
returns-else-place-entries-clause-below g c = grind (arith, common_steps)

pub returns-then-place-entries-clause-within : goal.returns-then-place-entries-clause-within
returns-then-place-entries-clause-within g c = grind (arith, common_steps)

pub returns-else-place-entries-clause-past : goal.returns-else-place-entries-clause-past
returns-else-place-entries-clause-past g c = grind (arith, common_steps)

pub bounds-entries-place-then-place-entries : goal.bounds-entries-place-then-place-entries
bounds-entries-place-then-place-entries g c = grind (arith, common_steps)

pub bounds-entries-place : goal.bounds-entries-place
bounds-entries-place g c = grind (arith, common_steps)

pub offset_bounds-entries-place : goal.offset_bounds-entries-place
offset_bounds-entries-place g c = grind (arith, common_steps)
