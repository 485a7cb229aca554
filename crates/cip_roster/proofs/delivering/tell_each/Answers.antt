use Rattle.std.proofs.lemmas.Grind.{common_steps}
use Rattle.std.proofs.Common.{ℕ, List, pos, subst, sym, get_or, arith}
use Rattle.std.proofs.lemmas.List.{take_all}
use Rattle.cip_plugin.specs.declared.kinds.Kind.TheVariants as kinds
use Rattle.cip_plugin.specs.declared.keys.Key.{Key}
use Rattle.cip_plugin.specs.Calling.{ids_of}
use Rattle.cip_roster.proofs.Delivery.{ran_more}
use Rattle.cip_roster.proofs.OneEvent.{ToldTo, told_to_all, told_to_more, told_to_none, where_failed}
use Rattle.cip_roster.proofs.Ranking.{ranked_seated}
use Rattle.cip_roster.proofs.Turning.{ids_next, seat_stays}
use Rattle.cip_roster.proofs.delivering.tell_each.Goals as goal

pub loop-key-init : goal.loop-key-init
loop-key-init g c = record {
  told = told_to_none c.args.view.now.node c.args.event (g.R.Seated.state c.args.roster.now) c.args.queue.now;
  seated = ranked_seated kinds.EventHandler (g.R.Seated.state c.args.roster.now).seats c.args.keys.now
      c.requires.ranking.permutation;
  sound = c.requires.sound;
}

pub tell_one-requires-clause-seat : goal.tell_one-requires-clause-seat
tell_one-requires-clause-seat g c =
    let d : Key = record { rank = record { 0 = pos 0 }; id = 0 } in
    seat_stays (g.R.Seated.state c.args.roster.now) (g.R.Seated.state c.loop-key.roster)
    (get_or c.args.keys.now c.loop-key.key-index d).id c.loop-key.invariant.told.steps
    c.loop-key.invariant.told.run
    (c.loop-key.invariant.seated c.loop-key.key-index d c.loop-key-test.true)

pub returns-in_default-clause-err : goal.returns-in_default-clause-err
returns-in_default-clause-err g c =
    (ran_more (g.R.Seated.state c.args.roster.now)
    (g.R.Seated.state c.loop-key.roster) (g.R.Seated.state c.tell_one.new.roster) c.loop-key.invariant.told.steps
    c.loop-key.invariant.told.run (where_failed _ c.tell_one.result c.in_default.not-Ok c.tell_one.ensures.err))

pub loop-key-preserved : goal.loop-key-preserved
loop-key-preserved g c =
    let d : Key = record { rank = record { 0 = pos 0 }; id = 0 } in
    record {
      told = subst (λ (done : List ℕ). ToldTo c.args.view.now.node c.args.event done
          (g.R.Seated.state c.args.roster.now) (g.R.Seated.state c.tell_one.new.roster) c.args.queue.now
          c.tell_one.new.queue)
          (sym (ids_next c.args.keys.now c.loop-key.key-index d c.loop-key-test.true))
          (told_to_more c.args.view.now.node c.args.event _
          (get_or c.args.keys.now c.loop-key.key-index d).id (g.R.Seated.state c.args.roster.now)
          (g.R.Seated.state c.loop-key.roster) (g.R.Seated.state c.tell_one.new.roster) c.args.queue.now
          c.loop-key.queue c.tell_one.new.queue c.loop-key.invariant.sound.settled c.loop-key.invariant.told
          c.in-Ok.ensures.told);
      seated = c.loop-key.invariant.seated;
      sound = c.tell_one.ensures.sound;
    }

pub returns-clause-told : goal.returns-clause-told
returns-clause-told g c =
    told_to_all c.args.view.now.node c.args.event c.args.keys.now (g.R.Seated.state c.args.roster.now)
    (g.R.Seated.state c.loop-key.roster) c.args.queue.now c.loop-key.queue
    c.requires.ranking.permutation c.requires.ranking.sorted
    (subst (λ (keys : List Key). ToldTo c.args.view.now.node c.args.event (ids_of keys)
    (g.R.Seated.state c.args.roster.now) (g.R.Seated.state c.loop-key.roster) c.args.queue.now c.loop-key.queue)
    (take_all c.loop-key.key-index c.args.keys.now c.loop-key-test.false)
    c.loop-key.invariant.told)

pub returns-in_default-clause-sound : goal.returns-in_default-clause-sound
returns-in_default-clause-sound g c = grind (arith, common_steps)

pub tell_one-requires-clause-sound : goal.tell_one-requires-clause-sound
tell_one-requires-clause-sound g c = grind (arith, common_steps)

pub returns-clause-sound : goal.returns-clause-sound
returns-clause-sound g c = grind (arith, common_steps)

pub returns-in_default-clause-told : goal.returns-in_default-clause-told
returns-in_default-clause-told g c = grind (arith, common_steps)

pub offset_bounds-keys-key-index : goal.offset_bounds-keys-key-index
offset_bounds-keys-key-index g c = grind (arith, common_steps)

pub returns-clause-err : goal.returns-clause-err
returns-clause-err g c = grind (arith, common_steps)
