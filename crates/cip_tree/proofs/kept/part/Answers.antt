use Rattle.std.proofs.lemmas.Grind.{common_steps}
use Rattle.std.proofs.Common.{Some, sym, ap, ◌∙◌, arith}
use Rattle.cip_tree.specs.declared.kept.Stage.TheVariants.{Ended}
use Rattle.cip_tree.specs.Slots.{Slot}
use Rattle.cip_tree.proofs.Placing.{replaced, halves_placed}
use Rattle.cip_tree.proofs.kept.part.Goals as goal

pub returns-clause-len : goal.returns-clause-len
returns-clause-len c = grind (arith, common_steps)

pub returns-clause-capacity : goal.returns-clause-capacity
returns-clause-capacity c = grind (arith, common_steps)

pub insert_reserved-low_place-requires : goal.insert_reserved-low_place-requires
insert_reserved-low_place-requires c = grind (arith, common_steps)

pub insert_reserved-requires : goal.insert_reserved-requires
insert_reserved-requires c = grind (arith, common_steps)

pub remove-was-requires : goal.remove-was-requires
remove-was-requires c = grind (arith, common_steps)

pub returns-clause-slots : goal.returns-clause-slots
returns-clause-slots c =
    let slot : Slot = record {
      number = c.was.inside.number;
      origin = c.was.inside.origin;
      notes = c.was.inside.notes.items;
      below = c.was.inside.below;
      stage = c.was.inside.stage;
    } in
    let ended : Slot = record {
      number = c.was.inside.number;
      origin = c.was.inside.origin;
      notes = c.args.notes.items;
      below = 2;
      stage = Ended;
    } in
    let here = replaced c.args.kept.now c.remove-was.new.self c.insert_reserved.new.self c.args.place
    c.insert_reserved.result ended (c.insert_reserved.ensures.key ∙ c.remove-was.ensures.key_is_next)
    c.remove-was.ensures.updates c.insert_reserved.ensures.updates in
    halves_placed c.args.kept.now c.insert_reserved.new.self c.insert_reserved-low_place.new.self
    c.insert_reserved-high_place.new.self c.args.place c.insert_reserved-low_place.result
    c.insert_reserved-high_place.result slot c.args.low c.args.high c.args.notes.items
    (c.remove-was.ensures.value ∙ ap Some (sym c.was.view_is)) here c.insert_reserved-low_place.ensures.was_vacant
    c.insert_reserved-low_place.ensures.updates c.insert_reserved-high_place.ensures.was_vacant
    c.insert_reserved-high_place.ensures.updates
