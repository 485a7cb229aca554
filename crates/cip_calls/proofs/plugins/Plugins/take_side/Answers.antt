use Rattle.cip_calls.specs.declared.judged.Judged.{Judged}
use Rattle.cip_calls.specs.Noted.{HasJudged}
use Rattle.std.proofs.lemmas.Result.{IfOk-from_err}
use Rattle.std.proofs.lemmas.Grind.{common_steps}
use Rattle.std.proofs.Common.{◌∙◌, sym, subst, arith, ℕ, List}
use Rattle.cip_problem.specs.WellFormed.{columns}
use Rattle.cip_calls.specs.CoreStates.{reduced_of}
use Rattle.cip_calls.specs.ProposalsJudged.{HaveRoom}
use Rattle.cip_calls.specs.declared.scratches.Scratches.{Scratches}
use Rattle.cip_calls.proofs.Going.{side_goes_on}
use Rattle.cip_calls.proofs.Noting.{noted_none, gone_none, gone_by}
use Rattle.cip_calls.proofs.Pools.{more_same, side_pool, side_node}
use Rattle.cip_calls.proofs.plugins.Plugins.take_side.Goals as goal

pub returns-in_err-reserve-clause-gone : goal.returns-in_err-reserve-clause-gone
returns-in_err-reserve-clause-gone g c =
    gone_none c.args.core.now c.args.node.now (g.R.Seated.state c.args.self.now.roster) (g.R.Seated.room c.args.self.now.roster) c.args.self.now.scratches c.requires.ready c.requires.sound

pub returns-in_err-came-clause-gone : goal.returns-in_err-came-clause-gone
returns-in_err-came-clause-gone g c =
    gone_by _ _ _ _ _ _ _ _ c.judge_reduction.ensures.later
    (record { first = c.judge_reduction.ensures.scratch ∙ c.requires.ready.room.first; second = c.requires.ready.room.second })
    c.requires.sound
    (more_same _ _ (side_pool c.judge_reduction.result c.args.core.now c.judge_reduction.new.core c.args.node.now c.judge_reduction.new.node c.args.told.now.col c.args.told.now.side c.args.told.now.value c.judge_reduction.ensures.after))
    (noted_none (g.R.Seated.state c.args.self.now.roster))

pub returns-in_err-came-clause-pool : goal.returns-in_err-came-clause-pool
returns-in_err-came-clause-pool g c =
    side_pool c.judge_reduction.result c.args.core.now c.judge_reduction.new.core c.args.node.now c.judge_reduction.new.node c.args.told.now.col c.args.told.now.side c.args.told.now.value c.judge_reduction.ensures.after

pub returns-in_err-finish-clause-gone : goal.returns-in_err-finish-clause-gone
returns-in_err-finish-clause-gone g c =
    gone_by _ _ _ _ _ _ _ _ c.judge_reduction.ensures.later
    (subst (λ (s : Scratches). HaveRoom s (columns (reduced_of c.args.core.now))) (sym c.finish.ensures.scratches)
    (record { first = c.judge_reduction.ensures.scratch ∙ c.requires.ready.room.first; second = c.requires.ready.room.second }))
    c.finish.ensures.sound
    (more_same _ _ (side_pool c.judge_reduction.result c.args.core.now c.judge_reduction.new.core c.args.node.now c.judge_reduction.new.node c.args.told.now.col c.args.told.now.side c.args.told.now.value c.judge_reduction.ensures.after))
    c.finish.ensures.noted

pub returns-in_err-finish-clause-pool : goal.returns-in_err-finish-clause-pool
returns-in_err-finish-clause-pool g c =
    side_pool c.judge_reduction.result c.args.core.now c.judge_reduction.new.core c.args.node.now c.judge_reduction.new.node c.args.told.now.col c.args.told.now.side c.args.told.now.value c.judge_reduction.ensures.after

pub returns-clause-gone : goal.returns-clause-gone
returns-clause-gone g c =
    gone_by _ _ _ _ _ _ _ _ c.judge_reduction.ensures.later
    (subst (λ (s : Scratches). HaveRoom s (columns (reduced_of c.args.core.now))) (sym c.finish.ensures.scratches)
    (record { first = c.judge_reduction.ensures.scratch ∙ c.requires.ready.room.first; second = c.requires.ready.room.second }))
    c.finish.ensures.sound
    (more_same _ _ (side_pool c.judge_reduction.result c.args.core.now c.judge_reduction.new.core c.args.node.now c.judge_reduction.new.node c.args.told.now.col c.args.told.now.side c.args.told.now.value c.judge_reduction.ensures.after))
    c.finish.ensures.noted

pub returns-clause-emptied : goal.returns-clause-emptied
returns-clause-emptied g c = λ e.
    (side_goes_on c.args.core.now c.judge_reduction.new.core c.args.node.now c.judge_reduction.new.node c.args.told.now c.in_ok-came.came
    c.judge_reduction.ensures.later c.in_ok-came.ensures.emptied c.in_ok-came.ensures.after).emptied e

pub returns-clause-pool : goal.returns-clause-pool
returns-clause-pool g c =
    side_pool c.judge_reduction.result c.args.core.now c.judge_reduction.new.core c.args.node.now c.judge_reduction.new.node c.args.told.now.col c.args.told.now.side c.args.told.now.value c.judge_reduction.ensures.after

pub returns-clause-node : goal.returns-clause-node
returns-clause-node g c =
    side_node c.args.core.now c.judge_reduction.new.core c.args.node.now c.judge_reduction.new.node c.args.told.now.col c.args.told.now.side c.args.told.now.value c.in_ok-came.came c.in_ok-came.ensures.after

pub judge_reduction-requires-clause-room : goal.judge_reduction-requires-clause-room
judge_reduction-requires-clause-room g c = c.requires.ready.room.first

pub finish-requires-clause-room : goal.finish-requires-clause-room
finish-requires-clause-room g c = omega (arith, c.reserve.ensures.len, c.in_ok-reserve.ensures.ok)

pub judge_reduction-requires-clause-at_work : goal.judge_reduction-requires-clause-at_work
judge_reduction-requires-clause-at_work g c = c.requires.ready.at_work

pub returns-clause-judged : goal.returns-clause-judged
returns-clause-judged g c = subst (λ (items : List (ℕ × Judged)). HasJudged c.args.id 1 items c.finish.new.self.judged.items) c.reserve.ensures.items c.finish.ensures.judged

pub returns-in_err-reserve-clause-pool : goal.returns-in_err-reserve-clause-pool
returns-in_err-reserve-clause-pool g c = grind (arith, common_steps)

pub finish-requires-clause-sound : goal.finish-requires-clause-sound
finish-requires-clause-sound g c = c.requires.sound

pub finish-requires-clause-seat : goal.finish-requires-clause-seat
finish-requires-clause-seat g c = c.requires.seat

pub returns-in_err-finish-clause-node : goal.returns-in_err-finish-clause-node
returns-in_err-finish-clause-node g c = IfOk-from_err c.from_residual-in_err-finish.result _ c.from_residual-in_err-finish.ensures.0

pub returns-in_err-finish-clause-emptied : goal.returns-in_err-finish-clause-emptied
returns-in_err-finish-clause-emptied g c = IfOk-from_err c.from_residual-in_err-finish.result _ c.from_residual-in_err-finish.ensures.0

pub returns-in_err-finish-clause-judged : goal.returns-in_err-finish-clause-judged
returns-in_err-finish-clause-judged g c = IfOk-from_err c.from_residual-in_err-finish.result _ c.from_residual-in_err-finish.ensures.0

pub returns-in_err-came-clause-judged : goal.returns-in_err-came-clause-judged
returns-in_err-came-clause-judged g c = IfOk-from_err c.from_residual-in_err-came.result _ c.from_residual-in_err-came.ensures.0

pub returns-in_err-came-clause-node : goal.returns-in_err-came-clause-node
returns-in_err-came-clause-node g c = IfOk-from_err c.from_residual-in_err-came.result _ c.from_residual-in_err-came.ensures.0

pub returns-in_err-came-clause-emptied : goal.returns-in_err-came-clause-emptied
returns-in_err-came-clause-emptied g c = IfOk-from_err c.from_residual-in_err-came.result _ c.from_residual-in_err-came.ensures.0

pub returns-in_err-reserve-clause-judged : goal.returns-in_err-reserve-clause-judged
returns-in_err-reserve-clause-judged g c = IfOk-from_err c.from_residual.result _ c.from_residual.ensures.0

pub returns-in_err-reserve-clause-node : goal.returns-in_err-reserve-clause-node
returns-in_err-reserve-clause-node g c = IfOk-from_err c.from_residual.result _ c.from_residual.ensures.0

pub returns-in_err-reserve-clause-emptied : goal.returns-in_err-reserve-clause-emptied
returns-in_err-reserve-clause-emptied g c = IfOk-from_err c.from_residual.result _ c.from_residual.ensures.0
