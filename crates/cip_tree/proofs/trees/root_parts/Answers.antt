use Rattle.std.proofs.lemmas.Grind.{common_steps}
use Rattle.std.proofs.Common.{Some, ap, ◌∙◌, arith}
use Rattle.cip_tree.specs.Slots.{slot_at}
use Rattle.cip_tree.proofs.Rooms.{room_one}
use Rattle.cip_tree.proofs.trees.root_parts.Goals as goal

pub returns-clause-started : goal.returns-clause-started
returns-clause-started c = record {
  kept = c.in-Ok-insert.ensures.updates.changed ∙ ap Some c.new_kept.ensures;
  others = λ k d. c.in-Ok-insert.ensures.updates.others k d ∙ ap (λ s. slot_at s k) c.new-kept.ensures.empty;
  queue = c.in-Ok-new.ensures;
  parked = c.in-Ok-with_capacity.ensures.items;
  parked_room = room_one _ _ c.in-Ok-with_capacity.ensures.len c.in-Ok-with_capacity.ensures.capacity;
  log = c.in-Ok-with_capacity-2.ensures.items;
  log_room = room_one _ _ c.in-Ok-with_capacity-2.ensures.len c.in-Ok-with_capacity-2.ensures.capacity;
  work = c.in-Ok-copied.ensures;
}

pub returns-clause-whole : goal.returns-clause-whole
returns-clause-whole c = c.in-Ok.ensures.items_if_clones_equal (λ x y e. e)

pub same-queue : goal.same-queue
same-queue c = grind (arith, common_steps)

pub returns-in_default-with_capacity-2-clause-started : goal.returns-in_default-with_capacity-2-clause-started
returns-in_default-with_capacity-2-clause-started c = grind (arith, common_steps)

pub returns-in_default-with_capacity-2-clause-whole : goal.returns-in_default-with_capacity-2-clause-whole
returns-in_default-with_capacity-2-clause-whole c = grind (arith, common_steps)

pub returns-in_default-with_capacity-clause-started : goal.returns-in_default-with_capacity-clause-started
returns-in_default-with_capacity-clause-started c = grind (arith, common_steps)

pub returns-in_default-with_capacity-clause-whole : goal.returns-in_default-with_capacity-clause-whole
returns-in_default-with_capacity-clause-whole c = grind (arith, common_steps)

pub same-kept : goal.same-kept
same-kept c = grind (arith, common_steps)

pub returns-in_default-insert-clause-started : goal.returns-in_default-insert-clause-started
returns-in_default-insert-clause-started c = grind (arith, common_steps)

pub returns-in_default-insert-clause-whole : goal.returns-in_default-insert-clause-whole
returns-in_default-insert-clause-whole c = grind (arith, common_steps)

pub returns-in_default-copied-clause-started : goal.returns-in_default-copied-clause-started
returns-in_default-copied-clause-started c = grind (arith, common_steps)

pub returns-in_default-copied-clause-whole : goal.returns-in_default-copied-clause-whole
returns-in_default-copied-clause-whole c = grind (arith, common_steps)

pub returns-in_default-clause-started : goal.returns-in_default-clause-started
returns-in_default-clause-started c = grind (arith, common_steps)

pub returns-in_default-clause-whole : goal.returns-in_default-clause-whole
returns-in_default-clause-whole c = grind (arith, common_steps)

pub returns-in_default-new-clause-started : goal.returns-in_default-new-clause-started
returns-in_default-new-clause-started c = grind (arith, common_steps)

pub returns-in_default-new-clause-whole : goal.returns-in_default-new-clause-whole
returns-in_default-new-clause-whole c = grind (arith, common_steps)
