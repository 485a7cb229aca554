use Rattle.std.proofs.lemmas.Grind.{common_steps}
use Rattle.std.proofs.Common.{◌∙◌, arith}
use Rattle.cip_plugin.specs.Delivering.{hears_there}
use Rattle.cip_roster.proofs.Sitting.{said_past, said_there}
use Rattle.cip_roster.proofs.single.RosterSteps.is_to_hear.Goals as goal

pub returns-in-None : goal.returns-in-None
returns-in-None g c =
    said_past _ (hears_there c.args.event.now) c.args.self.now.slots.items _ c.args.id c.deref.ensures.value c.in-None.ensures.lookup.3

pub returns-in-Some : goal.returns-in-Some
returns-in-Some g c =
    c.is_to_hear.ensures ∙ said_there _ (hears_there c.args.event.now) c.args.self.now.slots.items _ c.args.id c.in-Some.slot.now c.deref.ensures.value
    c.in-Some.ensures.lookup.3.0 c.in-Some.ensures.lookup.1

pub get-requires : goal.get-requires
get-requires g c = grind (arith, common_steps)

pub is_to_hear-requires : goal.is_to_hear-requires
is_to_hear-requires g c = grind (arith, common_steps)
