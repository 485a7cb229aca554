use Rattle.std.proofs.lemmas.Result.{IfOk-from_err}
use Rattle.std.proofs.lemmas.Grind.{common_steps}
use Rattle.std.proofs.Common.{subst, sym, ◌∙◌, arith}
use Rattle.cip_roster.specs.Turns.{IsSound}
use Rattle.cip_roster.specs.Wished.{Ran}
use Rattle.cip_solve.proofs.Coming.{ran_none}
use Rattle.cip_solve.proofs.Using.{told_behind}
use Rattle.cip_solve.proofs.telling.tell_end.Goals as goal

pub returns-in_err-queue_both-clause-sound : goal.returns-in_err-queue_both-clause-sound
returns-in_err-queue_both-clause-sound g c = subst (λ r. IsSound (g.R.Seated.state r) (g.R.Seated.room r)) (sym c.queue_both.ensures.roster) c.requires.sound

pub returns-in_err-queue_both-clause-run : goal.returns-in_err-queue_both-clause-run
returns-in_err-queue_both-clause-run g c = subst (λ r. Ran (g.R.Seated.state c.args.plugins.now.roster) (g.R.Seated.state r)) (sym c.queue_both.ensures.roster) (ran_none (g.R.Seated.state c.args.plugins.now.roster))

pub tell-requires : goal.tell-requires
tell-requires g c = record { sound = subst (λ r. IsSound (g.R.Seated.state r) (g.R.Seated.room r)) (sym c.queue_both.ensures.roster) c.requires.sound }

pub returns-clause-run : goal.returns-clause-run
returns-clause-run g c = subst (λ r. Ran (g.R.Seated.state r) (g.R.Seated.state c.tell.new.self.roster)) c.queue_both.ensures.roster c.tell.ensures.run

pub returns-clause-frame : goal.returns-clause-frame
returns-clause-frame g c = (c.tell.ensures.frame.0 ∙ c.queue_both.ensures.rest.0, c.tell.ensures.frame.1 ∙ c.queue_both.ensures.rest.1)

pub returns-clause-used : goal.returns-clause-used
returns-clause-used g c =
    told_behind (λ r. g.R.Seated.state r) (λ v. v.items) _ _ _ _ c.tell.result _ _ _ c.queue_both.ensures.roster c.queue_both.ensures.rest.1 c.tell.ensures.used

pub returns-clause-sound : goal.returns-clause-sound
returns-clause-sound g c = grind (arith, common_steps)

pub returns-in_err-queue_both-clause-frame : goal.returns-in_err-queue_both-clause-frame
returns-in_err-queue_both-clause-frame g c = grind (arith, common_steps)

pub returns-in_err-queue_both-clause-used : goal.returns-in_err-queue_both-clause-used
returns-in_err-queue_both-clause-used g c = IfOk-from_err c.from_residual.result _ c.from_residual.ensures.0
