use Rattle.std.proofs.lemmas.Result.{IfOk-from_err}
use Rattle.std.proofs.lemmas.Grind.{common_steps}
use Rattle.std.proofs.Common.{refl, ◌∙◌, arith, length}
use Rattle.cip_calls.proofs.Noting.{gone_none, gone_further, judged_none, judged_more, seat_noted, judged_all}
use Rattle.cip_calls.proofs.plugins.Plugins.take_cuts.Goals as goal

pub loop-cut-init : goal.loop-cut-init
loop-cut-init g c = record {
  gone = gone_none c.args.core.now c.args.node.now (g.R.Seated.state c.args.self.now.roster) (g.R.Seated.room c.args.self.now.roster) c.args.self.now.scratches c.requires.ready c.requires.sound;
  seat = c.requires.seat;
  judged = judged_none c.args.id c.args.self.now.judged.items;
  region = refl;
  rows = λ e. refl;
}

pub loop-cut-preserved : goal.loop-cut-preserved
loop-cut-preserved g c = record {
  gone = gone_further _ _ _ _ _ _ _ _ _ _ _ _ _ c.loop-cut.invariant.gone c.take_cut.ensures.gone;
  seat = seat_noted _ _ c.args.id c.take_cut.ensures.gone.noted c.loop-cut.invariant.seat;
  judged = judged_more c.args.id c.loop-cut.cut-index _ _ _ c.loop-cut.invariant.judged c.in_ok-came.ensures.judged;
  region = c.take_cut.ensures.region ∙ c.loop-cut.invariant.region;
  rows = λ e. let both = c.is_any-any.ensures e in c.in_ok-came.ensures.rows both.1 ∙ c.loop-cut.invariant.rows both.0;
}

pub returns-in_err-came-clause-gone : goal.returns-in_err-came-clause-gone
returns-in_err-came-clause-gone g c =
    gone_further _ _ _ _ _ _ _ _ _ _ _ _ _ c.loop-cut.invariant.gone c.take_cut.ensures.gone

pub returns-in_err-came-clause-region : goal.returns-in_err-came-clause-region
returns-in_err-came-clause-region g c = c.take_cut.ensures.region ∙ c.loop-cut.invariant.region

pub returns-clause-open_ : goal.returns-clause-open_
returns-clause-open_ g c = c.came_of.ensures.open_

pub returns-clause-rows : goal.returns-clause-rows
returns-clause-rows g c = λ e. c.loop-cut.invariant.rows (c.came_of.ensures.quiet e)

pub returns-clause-region : goal.returns-clause-region
returns-clause-region g c = grind (arith, common_steps)

pub returns-clause-gone : goal.returns-clause-gone
returns-clause-gone g c = grind (arith, common_steps)

pub take_cut-requires-clause-ready : goal.take_cut-requires-clause-ready
take_cut-requires-clause-ready g c = c.loop-cut.invariant.gone.ready

pub take_cut-requires-clause-sound : goal.take_cut-requires-clause-sound
take_cut-requires-clause-sound g c = c.loop-cut.invariant.gone.sound

pub take_cut-requires-clause-seat : goal.take_cut-requires-clause-seat
take_cut-requires-clause-seat g c = c.loop-cut.invariant.seat

pub offset_bounds-cuts-cut-index : goal.offset_bounds-cuts-cut-index
offset_bounds-cuts-cut-index g c = grind (arith, common_steps)

pub returns-in_err-came-clause-judged : goal.returns-in_err-came-clause-judged
returns-in_err-came-clause-judged g c = IfOk-from_err c.from_residual.result _ c.from_residual.ensures.0

pub returns-in_err-came-clause-rows : goal.returns-in_err-came-clause-rows
returns-in_err-came-clause-rows g c = IfOk-from_err c.from_residual.result _ c.from_residual.ensures.0

pub returns-in_err-came-clause-open_ : goal.returns-in_err-came-clause-open_
returns-in_err-came-clause-open_ g c = IfOk-from_err c.from_residual.result _ c.from_residual.ensures.0

pub returns-clause-judged : goal.returns-clause-judged
returns-clause-judged g c =
    judged_all c.args.id c.loop-cut.cut-index (length c.args.cuts.now) c.args.self.now.judged.items c.loop-cut.self.judged.items
    c.loop-cut-test.false c.loop-cut.auto.cut-index-end c.loop-cut.invariant.judged
