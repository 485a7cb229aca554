use Rattle.cip_calls.specs.declared.judged.Judged.{Judged}
use Rattle.cip_calls.specs.Noted.{HasJudged}
use Rattle.std.proofs.lemmas.Result.{IfOk-from_err}
use Rattle.std.proofs.lemmas.Grind.{common_steps}
use Rattle.std.proofs.Common.{refl, arith, ℕ, List, subst}
use Rattle.cip_calls.proofs.Noting.{gone_none}
use Rattle.cip_calls.proofs.Said.{gone_noted, ready_again, ready_same}
use Rattle.cip_calls.proofs.verdicts.take_word.Goals as goal

pub judge_word-came-requires-clause-at_work : goal.judge_word-came-requires-clause-at_work
judge_word-came-requires-clause-at_work g c = c.requires.ready.at_work

pub judge_word-came-requires-clause-room : goal.judge_word-came-requires-clause-room
judge_word-came-requires-clause-room g c = c.requires.ready.room.first

pub returns-in_err-reserve-clause-gone : goal.returns-in_err-reserve-clause-gone
returns-in_err-reserve-clause-gone g c =
    gone_none c.args.core.now c.args.node.now (g.R.Seated.state c.args.plugins.now.roster) (g.R.Seated.room c.args.plugins.now.roster) c.args.plugins.now.scratches c.requires.ready c.requires.sound

pub returns-in_err-finish-clause-gone : goal.returns-in_err-finish-clause-gone
returns-in_err-finish-clause-gone g c =
    gone_noted c.args.core.now c.args.node.now _ _ _ _
    (ready_same _ _ _ _ c.finish.ensures.scratches (ready_again _ _ _ _ c.requires.ready c.judge_word-came.ensures.scratch refl)) c.finish.ensures.sound c.finish.ensures.noted

pub returns-clause-gone : goal.returns-clause-gone
returns-clause-gone g c =
    gone_noted c.args.core.now c.args.node.now _ _ _ _
    (ready_same _ _ _ _ c.finish.ensures.scratches (ready_again _ _ _ _ c.requires.ready c.judge_word-came.ensures.scratch refl)) c.finish.ensures.sound c.finish.ensures.noted

pub finish-requires-clause-room : goal.finish-requires-clause-room
finish-requires-clause-room g c = omega (arith, c.reserve.ensures.len, c.in_ok-reserve.ensures.ok)

pub returns-clause-judged : goal.returns-clause-judged
returns-clause-judged g c = subst (λ (items : List (ℕ × Judged)). HasJudged c.args.id 1 items c.finish.new.self.judged.items) c.reserve.ensures.items c.finish.ensures.judged

pub returns-clause-verdict : goal.returns-clause-verdict
returns-clause-verdict g c = grind (arith, common_steps)

pub finish-requires-clause-seat : goal.finish-requires-clause-seat
finish-requires-clause-seat g c = c.requires.seat

pub returns-in_err-finish-clause-judged : goal.returns-in_err-finish-clause-judged
returns-in_err-finish-clause-judged g c = IfOk-from_err c.from_residual-in_err-finish.result _ c.from_residual-in_err-finish.ensures.0

pub returns-in_err-reserve-clause-judged : goal.returns-in_err-reserve-clause-judged
returns-in_err-reserve-clause-judged g c = IfOk-from_err c.from_residual.result _ c.from_residual.ensures.0

pub returns-in_err-finish-clause-verdict : goal.returns-in_err-finish-clause-verdict
returns-in_err-finish-clause-verdict g c = IfOk-from_err c.from_residual-in_err-finish.result _ c.from_residual-in_err-finish.ensures.0

pub returns-in_err-reserve-clause-verdict : goal.returns-in_err-reserve-clause-verdict
returns-in_err-reserve-clause-verdict g c = IfOk-from_err c.from_residual.result _ c.from_residual.ensures.0

pub finish-requires-clause-sound : goal.finish-requires-clause-sound
finish-requires-clause-sound g c = c.requires.sound
