use Rattle.std.proofs.lemmas.Result.{IfOk-from_err}
use Rattle.std.proofs.lemmas.Grind.{common_steps}
use Rattle.std.proofs.Common.{refl, ◌∙◌, arith, length}
use Rattle.cip_calls.proofs.Noting.{gone_none, gone_further, judged_none, judged_more, seat_noted, judged_all}
use Rattle.cip_calls.proofs.plugins.Plugins.take_sides.Goals as goal

pub loop-told-init : goal.loop-told-init
loop-told-init g c = record {
  gone = gone_none c.args.core.now c.args.node.now (g.R.Seated.state c.args.self.now.roster) (g.R.Seated.room c.args.self.now.roster) c.args.self.now.scratches c.requires.ready c.requires.sound;
  seat = c.requires.seat;
  judged = judged_none c.args.id c.args.self.now.judged.items;
  pool = refl;
}

pub loop-told-preserved : goal.loop-told-preserved
loop-told-preserved g c = record {
  gone = gone_further _ _ _ _ _ _ _ _ _ _ _ _ _ c.loop-told.invariant.gone c.take_side.ensures.gone;
  seat = seat_noted _ _ c.args.id c.take_side.ensures.gone.noted c.loop-told.invariant.seat;
  judged = judged_more c.args.id c.loop-told.told-index _ _ _ c.loop-told.invariant.judged c.in_ok-came.ensures.judged;
  pool = c.take_side.ensures.pool ∙ c.loop-told.invariant.pool;
}

pub returns-in_err-came-clause-gone : goal.returns-in_err-came-clause-gone
returns-in_err-came-clause-gone g c = gone_further _ _ _ _ _ _ _ _ _ _ _ _ _ c.loop-told.invariant.gone c.take_side.ensures.gone

pub returns-in_err-came-clause-pool : goal.returns-in_err-came-clause-pool
returns-in_err-came-clause-pool g c = c.take_side.ensures.pool ∙ c.loop-told.invariant.pool

pub returns-in-Emptied-clause-gone : goal.returns-in-Emptied-clause-gone
returns-in-Emptied-clause-gone g c = gone_further _ _ _ _ _ _ _ _ _ _ _ _ _ c.loop-told.invariant.gone c.take_side.ensures.gone

pub returns-in-Emptied-clause-emptied : goal.returns-in-Emptied-clause-emptied
returns-in-Emptied-clause-emptied g c = λ _. c.in_ok-came.ensures.emptied c.in-Emptied.is

pub returns-in-Emptied-clause-pool : goal.returns-in-Emptied-clause-pool
returns-in-Emptied-clause-pool g c = c.take_side.ensures.pool ∙ c.loop-told.invariant.pool

pub returns-clause-emptied : goal.returns-clause-emptied
returns-clause-emptied g c = omega arith

pub returns-in-Emptied-clause-judged : goal.returns-in-Emptied-clause-judged
returns-in-Emptied-clause-judged g c = grind (arith, common_steps)

pub returns-clause-pool : goal.returns-clause-pool
returns-clause-pool g c = grind (arith, common_steps)

pub returns-clause-gone : goal.returns-clause-gone
returns-clause-gone g c = grind (arith, common_steps)

pub take_side-requires-clause-ready : goal.take_side-requires-clause-ready
take_side-requires-clause-ready g c = c.loop-told.invariant.gone.ready

pub take_side-requires-clause-sound : goal.take_side-requires-clause-sound
take_side-requires-clause-sound g c = c.loop-told.invariant.gone.sound

pub take_side-requires-clause-seat : goal.take_side-requires-clause-seat
take_side-requires-clause-seat g c = c.loop-told.invariant.seat

pub offset_bounds-sides-told-index : goal.offset_bounds-sides-told-index
offset_bounds-sides-told-index g c = grind (arith, common_steps)

pub returns-in_err-came-clause-judged : goal.returns-in_err-came-clause-judged
returns-in_err-came-clause-judged g c = IfOk-from_err c.from_residual.result _ c.from_residual.ensures.0

pub returns-in_err-came-clause-emptied : goal.returns-in_err-came-clause-emptied
returns-in_err-came-clause-emptied g c = IfOk-from_err c.from_residual.result _ c.from_residual.ensures.0

pub returns-clause-judged : goal.returns-clause-judged
returns-clause-judged g c =
    λ _. judged_all c.args.id c.loop-told.told-index (length c.args.sides.now) c.args.self.now.judged.items c.loop-told.self.judged.items
    c.loop-told-test.false c.loop-told.auto.told-index-end c.loop-told.invariant.judged
