use Rattle.std.proofs.lemmas.Grind.{common_steps}
use Rattle.std.proofs.Common.{arith}
use Rattle.cip_model.proofs.name_hints.put_in.Goals as goal

pub bounds-places-at-then-places-at-eq0 : goal.bounds-places-at-then-places-at-eq0
bounds-places-at-then-places-at-eq0 c = grind (arith, common_steps)

pub place_of-at-requires : goal.place_of-at-requires
place_of-at-requires c = grind (arith, common_steps)

pub bounds-places-at : goal.bounds-places-at
bounds-places-at c = grind (arith, common_steps)

pub offset_bounds-places-at-then-places-at-eq0 : goal.offset_bounds-places-at-then-places-at-eq0
offset_bounds-places-at-then-places-at-eq0 c = grind (arith, common_steps)

pub overflow_cast-places : goal.overflow_cast-places
overflow_cast-places c = grind (arith, common_steps)

pub overflow_add-places : goal.overflow_add-places
overflow_add-places c = grind (arith, common_steps)

pub offset_bounds-places-at : goal.offset_bounds-places-at
offset_bounds-places-at c = grind (arith, common_steps)
