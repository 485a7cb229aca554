use Rattle.cip_calls.specs.declared.judged.Judged.{Judged}
use Rattle.cip_calls.specs.Noted.{HasJudged}
use Rattle.std.proofs.lemmas.Result.{IfOk-from_err}
use Rattle.std.proofs.lemmas.Grind.{common_steps}
use Rattle.std.proofs.Common.{sym, ap, subst, arith, ℕ, List}
use Rattle.cip_problem.specs.WellFormed.{columns}
use Rattle.cip_calls.specs.CoreStates.{CoreState, reduced_of}
use Rattle.cip_calls.specs.ProposalsJudged.{HaveRoom}
use Rattle.cip_calls.specs.declared.scratches.Scratches.{Scratches}
use Rattle.cip_calls.proofs.Noting.{noted_none, gone_none, gone_by}
use Rattle.cip_calls.proofs.Pools.{more_same}
use Rattle.cip_calls.proofs.plugins.Plugins.take_point.Goals as goal

pub returns-in_err-reserve-clause-gone : goal.returns-in_err-reserve-clause-gone
returns-in_err-reserve-clause-gone g c =
    gone_none c.args.core.now c.args.node.now (g.R.Seated.state c.args.self.now.roster) (g.R.Seated.room c.args.self.now.roster) c.args.self.now.scratches c.requires.ready c.requires.sound

pub returns-in_err-came-clause-gone : goal.returns-in_err-came-clause-gone
returns-in_err-came-clause-gone g c =
    gone_by _ _ _ _ _ _ _ _ c.judge_guess.ensures.later c.requires.ready.room c.requires.sound
    (more_same _ _ (ap (λ (k : CoreState). k.pool) c.judge_guess.ensures.frame)) (noted_none (g.R.Seated.state c.args.self.now.roster))

pub returns-in_err-came-clause-pool : goal.returns-in_err-came-clause-pool
returns-in_err-came-clause-pool g c = ap (λ (k : CoreState). k.pool) c.judge_guess.ensures.frame

pub returns-in_err-finish-clause-gone : goal.returns-in_err-finish-clause-gone
returns-in_err-finish-clause-gone g c =
    gone_by _ _ _ _ _ _ _ _ c.judge_guess.ensures.later
    (subst (λ (s : Scratches). HaveRoom s (columns (reduced_of c.args.core.now))) (sym c.finish.ensures.scratches) c.requires.ready.room) c.finish.ensures.sound
    (more_same _ _ (ap (λ (k : CoreState). k.pool) c.judge_guess.ensures.frame)) c.finish.ensures.noted

pub returns-in_err-finish-clause-pool : goal.returns-in_err-finish-clause-pool
returns-in_err-finish-clause-pool g c = ap (λ (k : CoreState). k.pool) c.judge_guess.ensures.frame

pub returns-in_err-keep_guess-clause-gone : goal.returns-in_err-keep_guess-clause-gone
returns-in_err-keep_guess-clause-gone g c =
    gone_by _ _ _ _ _ _ _ _ c.judge_guess.ensures.later
    (subst (λ (s : Scratches). HaveRoom s (columns (reduced_of c.args.core.now))) (sym c.finish.ensures.scratches) c.requires.ready.room) c.finish.ensures.sound
    (more_same _ _ (ap (λ (k : CoreState). k.pool) c.judge_guess.ensures.frame)) c.finish.ensures.noted

pub returns-in_err-keep_guess-clause-pool : goal.returns-in_err-keep_guess-clause-pool
returns-in_err-keep_guess-clause-pool g c = ap (λ (k : CoreState). k.pool) c.judge_guess.ensures.frame

pub returns-clause-gone : goal.returns-clause-gone
returns-clause-gone g c =
    gone_by _ _ _ _ _ _ _ _ c.judge_guess.ensures.later
    (subst (λ (s : Scratches). HaveRoom s (columns (reduced_of c.args.core.now))) (sym c.finish.ensures.scratches) c.requires.ready.room) c.finish.ensures.sound
    (more_same _ _ (ap (λ (k : CoreState). k.pool) c.judge_guess.ensures.frame)) c.finish.ensures.noted

pub returns-clause-pool : goal.returns-clause-pool
returns-clause-pool g c = ap (λ (k : CoreState). k.pool) c.judge_guess.ensures.frame

pub finish-requires-clause-room : goal.finish-requires-clause-room
finish-requires-clause-room g c = omega (arith, c.reserve.ensures.len, c.in_ok-reserve.ensures.ok)

pub judge_guess-requires : goal.judge_guess-requires
judge_guess-requires g c = record { at_work = c.requires.ready.at_work }

pub returns-clause-judged : goal.returns-clause-judged
returns-clause-judged g c = subst (λ (items : List (ℕ × Judged)). HasJudged c.args.id 1 items c.finish.new.self.judged.items) c.reserve.ensures.items c.finish.ensures.judged

pub returns-clause-region : goal.returns-clause-region
returns-clause-region g c = c.judge_guess.ensures.region

pub returns-in_err-finish-clause-region : goal.returns-in_err-finish-clause-region
returns-in_err-finish-clause-region g c = c.judge_guess.ensures.region

pub returns-in_err-came-clause-region : goal.returns-in_err-came-clause-region
returns-in_err-came-clause-region g c = c.judge_guess.ensures.region

pub returns-in_err-reserve-clause-region : goal.returns-in_err-reserve-clause-region
returns-in_err-reserve-clause-region g c = grind (arith, common_steps)

pub returns-in_err-reserve-clause-pool : goal.returns-in_err-reserve-clause-pool
returns-in_err-reserve-clause-pool g c = grind (arith, common_steps)

pub returns-in_err-keep_guess-clause-region : goal.returns-in_err-keep_guess-clause-region
returns-in_err-keep_guess-clause-region g c = c.judge_guess.ensures.region

pub finish-requires-clause-sound : goal.finish-requires-clause-sound
finish-requires-clause-sound g c = c.requires.sound

pub returns-in_err-keep_guess-clause-judged : goal.returns-in_err-keep_guess-clause-judged
returns-in_err-keep_guess-clause-judged g c = IfOk-from_err c.from_residual-in_err-keep_guess.result _ c.from_residual-in_err-keep_guess.ensures.0

pub returns-in_err-finish-clause-judged : goal.returns-in_err-finish-clause-judged
returns-in_err-finish-clause-judged g c = IfOk-from_err c.from_residual-in_err-finish.result _ c.from_residual-in_err-finish.ensures.0

pub returns-in_err-came-clause-judged : goal.returns-in_err-came-clause-judged
returns-in_err-came-clause-judged g c = IfOk-from_err c.from_residual-in_err-came.result _ c.from_residual-in_err-came.ensures.0

pub returns-in_err-reserve-clause-judged : goal.returns-in_err-reserve-clause-judged
returns-in_err-reserve-clause-judged g c = IfOk-from_err c.from_residual.result _ c.from_residual.ensures.0

pub finish-requires-clause-seat : goal.finish-requires-clause-seat
finish-requires-clause-seat g c = c.requires.seat
