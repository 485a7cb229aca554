use Rattle.std.proofs.lemmas.Bool.{ltb-false}
use Rattle.std.specs.Prelude.{is_some}
use Rattle.std.proofs.lemmas.Grind.{common_steps}
use Rattle.std.proofs.Common.{Bool, None, Some, ap, cond, ◌∙◌, arith, sym}
use Rattle.cip_roster.specs.Turns.{ready_key}
use Rattle.cip_roster.proofs.Sitting.{said_there, said_past}
use Rattle.cip_roster.proofs.single.RosterSteps.ready_key.Goals as goal

pub returns-in-Some : goal.returns-in-Some
returns-in-Some g c =
    c.key.ensures ∙ ap (λ (b : Bool). cond b (Some (record {
      rank = record { 0 = c.in-Some.slot.now.priority };
      id = c.args.id;
    })) None) c.if-is_ready.ensures
    ∙ said_there _ (ready_key c.args.kind c.args.id) c.args.self.now.slots.items _ c.args.id c.in-Some.slot.now
    c.deref.ensures.value c.in-Some.ensures.lookup.3.0 c.in-Some.ensures.lookup.1

pub returns-in_default : goal.returns-in_default
returns-in_default g c =
    ap (λ (b : Bool). cond b (Some (record {
      rank = record { 0 = c.in-Some.slot.now.priority };
      id = c.args.id;
    })) None) c.if-is_ready.ensures
    ∙ said_there _ (ready_key c.args.kind c.args.id) c.args.self.now.slots.items _ c.args.id c.in-Some.slot.now
    c.deref.ensures.value c.in-Some.ensures.lookup.3.0 c.in-Some.ensures.lookup.1

pub get-requires : goal.get-requires
get-requires g c = grind (arith, common_steps)

pub key-requires : goal.key-requires
key-requires g c = grind (arith, common_steps)

pub is_ready-requires : goal.is_ready-requires
is_ready-requires g c = grind (arith, common_steps)

pub returns-in_default-2 : goal.returns-in_default-2
returns-in_default-2 g c =
    said_past _ (ready_key c.args.kind c.args.id) c.args.self.now.slots.items c.deref.result.now c.args.id
    c.deref.ensures.value
    (ltb-false _ _ (sym c.get.ensures.lookup.0 ∙ ap is_some c.in_default.is))
