use Rattle.std.proofs.lemmas.Grind.{common_steps}
use Rattle.std.proofs.Common.{◌≡◌, refl, arith}
use Rattle.cip_plugin.specs.Calls.{InitSolve}
use Rattle.cip_plugin.specs.declared.stages.Stage.TheVariants as stages
use Rattle.cip_plugin.specs.Steps.{IsCalled}
use Rattle.cip_plugin.proofs.Joining.{called_once}
use Rattle.cip_roster.proofs.Sitting.{called_as, sat_there, seat_within, stage_there, stands_there}
use Rattle.cip_roster.proofs.single.RosterSteps.init_solve.Goals as goal

pub index_mut-slot-requires : goal.index_mut-slot-requires
index_mut-slot-requires g c =
    seat_within _ c.args.self.now.slots.items c.args.id _ c.requires.at.seat c.args.self.now.slots.ok.0
    c.requires.at.at

pub returns-clause-run : goal.returns-clause-run
returns-clause-run g c =
    let stands : c.index_mut-slot.result.now.stage ≡ stages.Begun =
    stage_there _ c.args.self.now.slots.items c.args.id c.index_mut-slot.result.now c.requires.at.seat stages.Begun
    c.requires.at.at c.index_mut-slot.ensures.value c.requires.at.stands in
    called_once _ _ c.args.id (InitSolve c.is_ok-answered.result)
    (sat_there _ (IsCalled (InitSolve c.is_ok-answered.result)) _ c.args.id c.index_mut-slot.result.now
    _ c.requires.at.seat _ c.requires.at.at
    c.index_mut-slot.ensures.value c.note.ensures.seats
    (called_as InitSolve _ _ _ _ c.is_ok-answered.ensures.value
    (record { turn = rw stands refl; heard = c.init_solve.ensures.heard; kind = c.init_solve.ensures.kind; same = refl })))
    c.note.ensures.places c.note.ensures.names c.note.ensures.kept c.note.ensures.lines

pub returns-clause-at : goal.returns-clause-at
returns-clause-at g c =
    stands_there _ c.args.self.now.slots.items c.args.id _ c.requires.at.seat _ stages.Playing
    c.requires.at.at
    c.note.ensures.seats refl

pub note-requires : goal.note-requires
note-requires g c = omega arith

pub returns-clause-room : goal.returns-clause-room
returns-clause-room g c = grind (arith, common_steps)

pub returns-clause-rankings : goal.returns-clause-rankings
returns-clause-rankings g c = grind (arith, common_steps)

pub init_solve-requires : goal.init_solve-requires
init_solve-requires g c = grind (arith, common_steps)
