use Rattle.std.proofs.lemmas.Grind.{common_steps}
use Rattle.std.proofs.Common.{[], ◌∷◌, ◌++◌, subst, arith}
use Rattle.cip_roster.proofs.Delivery.{ran_more, told_less}
use Rattle.cip_roster.proofs.OneEvent.{where_failed}
use Rattle.cip_roster.proofs.Throughout.{ToldSoFar, told_more}
use Rattle.cip_roster.proofs.delivering.deliver.Goals as goal

pub loop-event-smaller : goal.loop-event-smaller
loop-event-smaller g c =
    omega (
      arith,
      told_less c.args.view.now.node c.in-Some.event (g.R.Seated.state c.loop-event.roster)
          (g.R.Seated.state c.tell.new.roster) c.loop-event.queue c.pop.new.self c.tell.new.queue c.in-Some.ensures
          c.in-Ok.ensures.told,
    )

pub loop-event-preserved : goal.loop-event-preserved
loop-event-preserved g c = record {
  told = (
    c.loop-event.invariant.told.0 ++ c.in-Some.event ∷ [],
    told_more c.args.view.now.node c.args.queue.now c.loop-event.invariant.told.0 c.in-Some.event
        (g.R.Seated.state c.args.roster.now) (g.R.Seated.state c.loop-event.roster) (g.R.Seated.state c.tell.new.roster)
        c.pop.new.self c.tell.new.queue c.loop-event.invariant.sound.settled
        (subst (ToldSoFar c.args.view.now.node c.args.queue.now c.loop-event.invariant.told.0
        (g.R.Seated.state c.args.roster.now) (g.R.Seated.state c.loop-event.roster)) c.in-Some.ensures
        c.loop-event.invariant.told.1)
        c.in-Ok.ensures.told,
  );
  sound = c.tell.ensures.sound;
}

pub returns-in_default-tell-clause-err : goal.returns-in_default-tell-clause-err
returns-in_default-tell-clause-err g c =
    ran_more (g.R.Seated.state c.args.roster.now) (g.R.Seated.state c.loop-event.roster)
    (g.R.Seated.state c.tell.new.roster) c.loop-event.invariant.told.1.steps c.loop-event.invariant.told.1.run
    (where_failed _ c.tell.result c.in_default-tell.not-Ok c.tell.ensures.err)

pub loop-event-init : goal.loop-event-init
loop-event-init g c = grind (arith, common_steps)

pub returns-clause-told : goal.returns-clause-told
returns-clause-told g c = grind (arith, common_steps)

pub returns-in_default-tell-clause-sound : goal.returns-in_default-tell-clause-sound
returns-in_default-tell-clause-sound g c = grind (arith, common_steps)

pub returns-clause-empty : goal.returns-clause-empty
returns-clause-empty g c = grind (arith, common_steps)

pub returns-clause-sound : goal.returns-clause-sound
returns-clause-sound g c = grind (arith, common_steps)

pub returns-in_default-tell-clause-told : goal.returns-in_default-tell-clause-told
returns-in_default-tell-clause-told g c = grind (arith, common_steps)

pub returns-in_default-tell-clause-empty : goal.returns-in_default-tell-clause-empty
returns-in_default-tell-clause-empty g c = grind (arith, common_steps)

pub returns-clause-err : goal.returns-clause-err
returns-clause-err g c = grind (arith, common_steps)
