use Rattle.std.proofs.lemmas.Grind.{common_steps}
use Rattle.std.proofs.Common.{◌≡◌, refl, arith}
use Rattle.std.proofs.Math.Facts.{to_z-of_z}
use Rattle.cip_plugin.specs.declared.stages.Stage.TheVariants as stages
use Rattle.cip_plugin.specs.Seats.{Seat}
use Rattle.cip_plugin.proofs.Joining.{ranked_once}
use Rattle.cip_roster.proofs.Sitting.{sat_there, seat_within, stage_there, stands_there}
use Rattle.cip_roster.proofs.single.RosterSteps.set_priority.Goals as goal

pub index_mut-requires : goal.index_mut-requires
index_mut-requires g c =
    seat_within _ c.args.self.now.slots.items c.args.id _ c.requires.at.seat c.args.self.now.slots.ok.0
    c.requires.at.at

pub returns-clause-run : goal.returns-clause-run
returns-clause-run g c =
    ranked_once _ _ c.args.id c.args.priority
    (sat_there _ (λ (s t : Seat). t ≡ record s { priority = c.args.priority }) _ c.args.id c.index_mut.result.now _
    c.requires.at.seat _ c.requires.at.at c.index_mut.ensures.value refl (rw (to_z-of_z c.ranges.priority) refl))
    refl refl refl refl

pub returns-clause-at : goal.returns-clause-at
returns-clause-at g c =
    stands_there _ c.args.self.now.slots.items c.args.id _ c.requires.at.seat _ stages.Playing c.requires.at.at refl
    (stage_there _ c.args.self.now.slots.items c.args.id c.index_mut.result.now c.requires.at.seat stages.Playing
    c.requires.at.at c.index_mut.ensures.value c.requires.at.stands)

pub returns-clause-rankings : goal.returns-clause-rankings
returns-clause-rankings g c = grind (arith, common_steps)

pub returns-clause-room : goal.returns-clause-room
returns-clause-room g c = grind (arith, common_steps)
