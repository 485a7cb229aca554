use Rattle.std.proofs.lemmas.Result.{IfOk-from_err}
use Rattle.std.proofs.lemmas.Grind.{common_steps}
use Rattle.std.proofs.Common.{refl, ◌∙◌, arith, length}
use Rattle.cip_calls.proofs.Noting.{gone_none, gone_further, judged_none, judged_more, seat_noted, judged_all}
use Rattle.cip_calls.proofs.plugins.Plugins.take_points.Goals as goal

pub loop-guess-init : goal.loop-guess-init
loop-guess-init g c = record {
  gone = gone_none c.args.core.now c.args.node.now (g.R.Seated.state c.args.self.now.roster) (g.R.Seated.room c.args.self.now.roster) c.args.self.now.scratches c.requires.ready c.requires.sound;
  seat = c.requires.seat;
  judged = judged_none c.args.id c.args.self.now.judged.items;
  region = refl;
  pool = refl;
}

pub loop-guess-preserved : goal.loop-guess-preserved
loop-guess-preserved g c = record {
  gone = gone_further _ _ _ _ _ _ _ _ _ _ _ _ _ c.loop-guess.invariant.gone c.take_point.ensures.gone;
  seat = seat_noted _ _ c.args.id c.take_point.ensures.gone.noted c.loop-guess.invariant.seat;
  judged = judged_more c.args.id c.loop-guess.guess-index _ _ _ c.loop-guess.invariant.judged c.in_ok-came.ensures.judged;
  region = c.take_point.ensures.region ∙ c.loop-guess.invariant.region;
  pool = c.take_point.ensures.pool ∙ c.loop-guess.invariant.pool;
}

pub returns-in_err-came-clause-gone : goal.returns-in_err-came-clause-gone
returns-in_err-came-clause-gone g c =
    gone_further _ _ _ _ _ _ _ _ _ _ _ _ _ c.loop-guess.invariant.gone c.take_point.ensures.gone

pub returns-in_err-came-clause-region : goal.returns-in_err-came-clause-region
returns-in_err-came-clause-region g c = c.take_point.ensures.region ∙ c.loop-guess.invariant.region

pub returns-in_err-came-clause-pool : goal.returns-in_err-came-clause-pool
returns-in_err-came-clause-pool g c = c.take_point.ensures.pool ∙ c.loop-guess.invariant.pool

pub returns-clause-open_ : goal.returns-clause-open_
returns-clause-open_ g c = c.came_of.ensures.open_

pub returns-clause-pool : goal.returns-clause-pool
returns-clause-pool g c = grind (arith, common_steps)

pub returns-clause-region : goal.returns-clause-region
returns-clause-region g c = grind (arith, common_steps)

pub returns-clause-gone : goal.returns-clause-gone
returns-clause-gone g c = grind (arith, common_steps)

pub take_point-requires-clause-ready : goal.take_point-requires-clause-ready
take_point-requires-clause-ready g c = c.loop-guess.invariant.gone.ready

pub take_point-requires-clause-sound : goal.take_point-requires-clause-sound
take_point-requires-clause-sound g c = c.loop-guess.invariant.gone.sound

pub take_point-requires-clause-seat : goal.take_point-requires-clause-seat
take_point-requires-clause-seat g c = c.loop-guess.invariant.seat

pub offset_bounds-points-guess-index : goal.offset_bounds-points-guess-index
offset_bounds-points-guess-index g c = grind (arith, common_steps)

pub returns-in_err-came-clause-judged : goal.returns-in_err-came-clause-judged
returns-in_err-came-clause-judged g c = IfOk-from_err c.from_residual.result _ c.from_residual.ensures.0

pub returns-in_err-came-clause-open_ : goal.returns-in_err-came-clause-open_
returns-in_err-came-clause-open_ g c = IfOk-from_err c.from_residual.result _ c.from_residual.ensures.0

pub returns-clause-judged : goal.returns-clause-judged
returns-clause-judged g c =
    judged_all c.args.id c.loop-guess.guess-index (length c.args.points.now) c.args.self.now.judged.items c.loop-guess.self.judged.items
    c.loop-guess-test.false c.loop-guess.auto.guess-index-end c.loop-guess.invariant.judged
