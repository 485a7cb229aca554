use Rattle.std.proofs.lemmas.Grind.{common_steps}
use Rattle.std.proofs.Common.{arith}
use Rattle.cip_dict.proofs.listed.stands_at.Goals as goal

pub returns-then-place-entries-clause-no : goal.returns-then-place-entries-clause-no
returns-then-place-entries-clause-no g c = grind (arith, common_steps)

pub returns-then-place-entries-clause-yes : goal.returns-then-place-entries-clause-yes
returns-then-place-entries-clause-yes g c = grind (arith, common_steps)

pub returns-then-place-entries-clause-within : goal.returns-then-place-entries-clause-within
returns-then-place-entries-clause-within g c = grind (arith, common_steps)

pub returns-else-place-entries-clause-fits : goal.returns-else-place-entries-clause-fits
returns-else-place-entries-clause-fits g c = grind (arith, common_steps)

pub returns-then-place-entries-clause-fits : goal.returns-then-place-entries-clause-fits
returns-then-place-entries-clause-fits g c = grind (arith, common_steps)

pub returns-else-place-entries-clause-yes : goal.returns-else-place-entries-clause-yes
returns-else-place-entries-clause-yes g c = grind (arith, common_steps)

pub returns-else-place-entries-clause-no : goal.returns-else-place-entries-clause-no
returns-else-place-entries-clause-no g c = grind (arith, common_steps)

pub bounds-entries-place : goal.bounds-entries-place
bounds-entries-place g c = grind (arith, common_steps)

pub bounds-entries-place-then-place-entries : goal.bounds-entries-place-then-place-entries
bounds-entries-place-then-place-entries g c = grind (arith, common_steps)

pub offset_bounds-entries-place : goal.offset_bounds-entries-place
offset_bounds-entries-place g c = grind (arith, common_steps)
