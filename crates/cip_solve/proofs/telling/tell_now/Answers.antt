use Rattle.std.proofs.lemmas.Result.{IfOk-from_err}
use Rattle.std.proofs.Common.{refl, subst, sym}
use Rattle.cip_roster.specs.Turns.{IsSound}
use Rattle.cip_calls.proofs.PassedOn.{later_at_itself}
use Rattle.cip_calls.proofs.PassedOn.{come_further}
use Rattle.cip_solve.proofs.Coming.{come_silent, come_told}
use Rattle.cip_solve.proofs.Using.{told_behind}
use Rattle.cip_solve.proofs.telling.tell_now.Goals as goal

pub returns-in_err-queue_if-clause-come : goal.returns-in_err-queue_if-clause-come
returns-in_err-queue_if-clause-come g c =
    come_silent (λ r. g.R.Seated.state r) (λ r. g.R.Seated.room r) _ _ c.args.core.now c.args.core.now c.args.node.now c.args.node.now _ _ c.queue_if.ensures.roster c.queue_if.ensures.rest.0
    (later_at_itself c.args.core.now c.args.node.now c.requires.ready.0.at_work) refl c.requires.ready.0 c.requires.ready.1

pub tell-requires : goal.tell-requires
tell-requires g c = record { sound = subst (λ r. IsSound (g.R.Seated.state r) (g.R.Seated.room r)) (sym c.queue_if.ensures.roster) c.requires.ready.1 }

pub returns-clause-come : goal.returns-clause-come
returns-clause-come g c =
    let first = come_silent (λ r. g.R.Seated.state r) (λ r. g.R.Seated.room r) _ _ c.args.core.now c.args.core.now c.args.node.now c.args.node.now _ _ c.queue_if.ensures.roster c.queue_if.ensures.rest.0
    (later_at_itself c.args.core.now c.args.node.now c.requires.ready.0.at_work) refl c.requires.ready.0 c.requires.ready.1 in
    come_further _ _ _ _ _ _ _ _ _ _ _ _ _ first
    (come_told c.args.core.now c.args.node.now _ _ _ _ _ c.tell.ensures.frame.0 first.ready c.tell.ensures.sound c.tell.ensures.run)

pub returns-clause-used : goal.returns-clause-used
returns-clause-used g c =
    told_behind (λ r. g.R.Seated.state r) (λ v. v.items) _ _ _ _ c.tell.result _ _ _ c.queue_if.ensures.roster c.queue_if.ensures.rest.1 c.tell.ensures.used

pub returns-in_err-queue_if-clause-used : goal.returns-in_err-queue_if-clause-used
returns-in_err-queue_if-clause-used g c = IfOk-from_err c.from_residual.result _ c.from_residual.ensures.0
