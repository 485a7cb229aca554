use Rattle.std.proofs.lemmas.Grind.{common_steps}
use Rattle.std.proofs.Common.{Bool, None, Some, ap, cond, sym, ◌∙◌, arith}
use Rattle.cip_plugin.specs.declared.faults.WishFault.TheVariants as faults
use Rattle.cip_plugin.specs.Wishing.{seat_fault}
use Rattle.cip_roster.proofs.Sitting.{said_past, said_there}
use Rattle.cip_roster.proofs.Wishes.{live_there, lives_there}
use Rattle.cip_roster.proofs.single.RosterSteps.live.Goals as goal

pub returns-in-None : goal.returns-in-None
returns-in-None g c =
    sym (said_past _ seat_fault c.args.self.now.slots.items _ c.args.id c.deref.ensures.value
    c.in-None.ensures.lookup.3)

pub returns-then-is_live : goal.returns-then-is_live
returns-then-is_live g c =
    live_there _ c.args.id (c.if-is_live.ensures ∙ said_there _ lives_there c.args.self.now.slots.items _ c.args.id
    c.in-Some.slot.now c.deref.ensures.value c.in-Some.ensures.lookup.3.0 c.in-Some.ensures.lookup.1)

pub returns-else-is_live : goal.returns-else-is_live
returns-else-is_live g c =
    sym (said_there _ seat_fault c.args.self.now.slots.items _ c.args.id c.in-Some.slot.now c.deref.ensures.value
    c.in-Some.ensures.lookup.3.0 c.in-Some.ensures.lookup.1)
    ∙ ap (λ (b : Bool). cond b None (Some faults.Gone)) (sym c.if-is_live.ensures)

pub get-requires : goal.get-requires
get-requires g c = grind (arith, common_steps)

pub is_live-requires : goal.is_live-requires
is_live-requires g c = grind (arith, common_steps)
