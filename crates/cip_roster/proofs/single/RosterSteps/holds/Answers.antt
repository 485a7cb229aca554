use Rattle.std.proofs.lemmas.Grind.{common_steps}
use Rattle.std.proofs.Common.{sym, ◌∙◌, arith}
use Rattle.cip_plugin.specs.Wishing.{place_fault}
use Rattle.cip_roster.proofs.Coming.{place_empty, place_full}
use Rattle.cip_roster.proofs.Sitting.{said_past, said_there}
use Rattle.cip_roster.proofs.single.RosterSteps.holds.Goals as goal

pub returns-in-None : goal.returns-in-None
returns-in-None g c =
    sym (said_past _ place_fault c.args.self.now.shelf.items _ c.args.place c.deref.ensures.value
    c.in-None.ensures.lookup.3)

pub returns-then-is_some : goal.returns-then-is_some
returns-then-is_some g c =
    sym (said_there _ place_fault c.args.self.now.shelf.items _ c.args.place c.in-Some.held.now c.deref.ensures.value
    c.in-Some.ensures.lookup.3.0 c.in-Some.ensures.lookup.1) ∙ place_full _ c.in-Some.held.now c.if-is_some.ensures

pub returns-else-is_some : goal.returns-else-is_some
returns-else-is_some g c =
    sym (said_there _ place_fault c.args.self.now.shelf.items _ c.args.place c.in-Some.held.now c.deref.ensures.value
    c.in-Some.ensures.lookup.3.0 c.in-Some.ensures.lookup.1) ∙ place_empty _ c.in-Some.held.now c.if-is_some.ensures

pub get-requires : goal.get-requires
get-requires g c = grind (arith, common_steps)
