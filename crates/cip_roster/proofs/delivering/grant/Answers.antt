use Rattle.std.proofs.lemmas.Grind.{common_steps}
use Rattle.std.proofs.Common.{List, [], ◌∷◌, get_or, subst, sym, take, arith}
use Rattle.std.proofs.lemmas.List.{take_all}
use Rattle.cip_plugin.specs.declared.proposals.Wish.{Wish}
use Rattle.cip_plugin.specs.declared.proposals.Wish.TheVariants.{Include}
use Rattle.cip_roster.specs.Wished.{TookQuietly}
use Rattle.cip_roster.proofs.Delivery.{ran_more, ran_same}
use Rattle.cip_roster.proofs.Granting.{took_more, took_none}
use Rattle.cip_roster.proofs.OneEvent.{where_failed}
use Rattle.cip_roster.proofs.Turning.{seat_stays}
use Rattle.cip_roster.proofs.Turning as turning
use Rattle.cip_roster.proofs.delivering.grant.Goals as goal

pub loop-wish-init : goal.loop-wish-init
loop-wish-init g c = record {
  took = took_none c.args.id c.args.view.now.node (g.R.Seated.state c.args.roster.now) c.args.queue.now;
  sound = c.requires.sound;
}

pub grant_one-requires-clause-seat : goal.grant_one-requires-clause-seat
grant_one-requires-clause-seat g c =
    seat_stays (g.R.Seated.state c.args.roster.now) (g.R.Seated.state c.loop-wish.roster) c.args.id
    c.loop-wish.invariant.took.steps c.loop-wish.invariant.took.run c.requires.seat

pub returns-in_default-clause-err : goal.returns-in_default-clause-err
returns-in_default-clause-err g c =
    (ran_more (g.R.Seated.state c.args.roster.now)
    (g.R.Seated.state c.loop-wish.roster) (g.R.Seated.state c.grant_one.new.roster)
    c.loop-wish.invariant.took.steps c.loop-wish.invariant.took.run
    (ran_same (g.R.Seated.state c.loop-wish.roster) (g.R.Seated.state c.grant_one.new.roster)
    (where_failed _ c.grant_one.result c.in_default.not-Ok c.grant_one.ensures.err)))

pub loop-wish-preserved : goal.loop-wish-preserved
loop-wish-preserved g c =
    let d : Wish = Include 0 in
    record {
      took = subst (λ (wishes : List Wish). TookQuietly c.args.id c.args.view.now.node wishes
          (g.R.Seated.state c.args.roster.now) (g.R.Seated.state c.grant_one.new.roster) c.args.queue.now
          c.grant_one.new.queue)
          (sym (turning.take_more c.args.wishes.now c.loop-wish.wish-index d c.loop-wish-test.true))
          (took_more c.args.id c.args.view.now.node (take c.loop-wish.wish-index c.args.wishes.now)
          (get_or c.args.wishes.now c.loop-wish.wish-index d ∷ []) (g.R.Seated.state c.args.roster.now)
          (g.R.Seated.state c.loop-wish.roster) (g.R.Seated.state c.grant_one.new.roster) c.args.queue.now
          c.loop-wish.queue c.grant_one.new.queue c.loop-wish.invariant.took c.in-Ok.ensures.took);
      sound = c.grant_one.ensures.sound;
    }

pub returns-clause-took : goal.returns-clause-took
returns-clause-took g c =
    subst (λ (wishes : List Wish). TookQuietly c.args.id c.args.view.now.node wishes
    (g.R.Seated.state c.args.roster.now) (g.R.Seated.state c.loop-wish.roster) c.args.queue.now c.loop-wish.queue)
    (take_all c.loop-wish.wish-index c.args.wishes.now c.loop-wish-test.false) c.loop-wish.invariant.took

pub returns-in_default-clause-sound : goal.returns-in_default-clause-sound
returns-in_default-clause-sound g c = grind (arith, common_steps)

pub returns-in_default-clause-took : goal.returns-in_default-clause-took
returns-in_default-clause-took g c = grind (arith, common_steps)

pub returns-clause-sound : goal.returns-clause-sound
returns-clause-sound g c = grind (arith, common_steps)

pub grant_one-requires-clause-sound : goal.grant_one-requires-clause-sound
grant_one-requires-clause-sound g c = grind (arith, common_steps)

pub offset_bounds-wishes-wish-index : goal.offset_bounds-wishes-wish-index
offset_bounds-wishes-wish-index g c = grind (arith, common_steps)

pub returns-clause-err : goal.returns-clause-err
returns-clause-err g c = grind (arith, common_steps)
