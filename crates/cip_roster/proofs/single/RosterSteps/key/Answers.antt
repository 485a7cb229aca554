use Rattle.std.proofs.lemmas.Grind.{common_steps}
use Rattle.std.proofs.Common.{◌∙◌, arith}
use Rattle.cip_roster.specs.Nexts.{key_of}
use Rattle.cip_roster.proofs.Sitting.{said_past, said_there}
use Rattle.cip_roster.proofs.single.RosterSteps.key.Goals as goal

pub returns-in-None-get : goal.returns-in-None-get
returns-in-None-get g c =
    rw c.in-Some.is
    (said_past _ (key_of c.in-Some.id) c.args.self.now.slots.items _ c.in-Some.id c.deref.ensures.value
    c.in-None-get.ensures.lookup.3)

pub returns-in-Some-get : goal.returns-in-Some-get
returns-in-Some-get g c =
    rw c.in-Some.is
    (c.key.ensures ∙ said_there _ (key_of c.in-Some.id) c.args.self.now.slots.items _ c.in-Some.id
    c.in-Some-get.slot.now c.deref.ensures.value c.in-Some-get.ensures.lookup.3.0 c.in-Some-get.ensures.lookup.1)

pub get-requires : goal.get-requires
get-requires g c = grind (arith, common_steps)

pub key-requires : goal.key-requires
key-requires g c = grind (arith, common_steps)

pub overflow_cast-id : goal.overflow_cast-id
overflow_cast-id g c = grind (arith, common_steps)

pub returns-in-None : goal.returns-in-None
returns-in-None g c = grind (arith, common_steps)
