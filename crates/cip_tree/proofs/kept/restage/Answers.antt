use Rattle.std.proofs.lemmas.Grind.{common_steps}
use Rattle.std.proofs.Common.{Some, sym, ap, ◌∙◌, refl, arith}
use Rattle.cip_tree.specs.Slots.{Slot}
use Rattle.cip_tree.proofs.Placing.{replaced}
use Rattle.cip_tree.proofs.kept.restage.Goals as goal

pub returns-clause-slots : goal.returns-clause-slots
returns-clause-slots c =
    let slot : Slot = record {
      number = c.was.inside.number;
      origin = c.was.inside.origin;
      notes = c.was.inside.notes.items;
      below = c.was.inside.below;
      stage = c.was.inside.stage;
    } in
    let next : Slot = record {
      number = c.was.inside.number;
      origin = c.was.inside.origin;
      notes = c.args.notes.items;
      below = c.was.inside.below;
      stage = c.args.stage;
    } in
    let here = replaced c.args.kept.now c.remove-was.new.self c.insert_reserved.new.self c.args.place
    c.insert_reserved.result next (c.insert_reserved.ensures.key ∙ c.remove-was.ensures.key_is_next)
    c.remove-was.ensures.updates c.insert_reserved.ensures.updates in
    record {
      slot = slot;
      was = c.remove-was.ensures.value
          ∙ ap Some (sym c.was.view_is);
      had_is = refl;
      now = here.changed;
      others = here.others;
    }

pub returns-clause-len : goal.returns-clause-len
returns-clause-len c = grind (arith, common_steps)

pub returns-clause-capacity : goal.returns-clause-capacity
returns-clause-capacity c = grind (arith, common_steps)

pub insert_reserved-requires : goal.insert_reserved-requires
insert_reserved-requires c = grind (arith, common_steps)
