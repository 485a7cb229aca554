use Rattle.std.proofs.lemmas.Result.{IfOk-from_err}
use Rattle.std.proofs.lemmas.Grind.{common_steps}
use Rattle.std.proofs.Common.{refl, ap, arith}
use Rattle.std.specs.Prelude.{Bool}
use Rattle.cip_rows.specs.RowPools.{Pool}
use Rattle.cip_solve.proofs.Coming.{come_silent}
use Rattle.cip_solve.proofs.separating.solve_lp.Goals as goal

pub returns-in_err-bounded-clause-come : goal.returns-in_err-bounded-clause-come
returns-in_err-bounded-clause-come g c =
    come_silent (λ r. g.R.Seated.state r) (λ r. g.R.Seated.room r) _ _ c.args.work.now.core c.bound.new.self.core c.args.node.now c.bound.new.node _ _ refl refl
    c.bound.ensures.later (ap (λ (rows : Pool × Bool). rows.0) c.bound.ensures.rows) c.requires.ready.0 c.requires.ready.1

pub offered_kind-offered-requires-clause-at_work : goal.offered_kind-offered-requires-clause-at_work
offered_kind-offered-requires-clause-at_work g c = c.bound.ensures.later.at_work

pub offered_kind-offered-requires-clause-bounded : goal.offered_kind-offered-requires-clause-bounded
offered_kind-offered-requires-clause-bounded g c = c.in_ok-bounded.ensures.bounded

pub returns-in-Err-clause-come : goal.returns-in-Err-clause-come
returns-in-Err-clause-come g c =
    come_silent (λ r. g.R.Seated.state r) (λ r. g.R.Seated.room r) _ _ c.args.work.now.core c.bound.new.self.core c.args.node.now c.bound.new.node _ _ c.queue_both.ensures.roster c.queue_both.ensures.rest.0
    c.bound.ensures.later (ap (λ (rows : Pool × Bool). rows.0) c.bound.ensures.rows) c.requires.ready.0 c.requires.ready.1

pub returns-in-Ok-clause-come : goal.returns-in-Ok-clause-come
returns-in-Ok-clause-come g c =
    come_silent (λ r. g.R.Seated.state r) (λ r. g.R.Seated.room r) _ _ c.args.work.now.core c.bound.new.self.core c.args.node.now c.bound.new.node _ _ c.queue_both.ensures.roster c.queue_both.ensures.rest.0
    c.bound.ensures.later (ap (λ (rows : Pool × Bool). rows.0) c.bound.ensures.rows) c.requires.ready.0 c.requires.ready.1

pub returns-in_err-bounded-clause-silent : goal.returns-in_err-bounded-clause-silent
returns-in_err-bounded-clause-silent g c = (refl, refl)

pub returns-in-Err-clause-silent : goal.returns-in-Err-clause-silent
returns-in-Err-clause-silent g c = (c.queue_both.ensures.roster, c.queue_both.ensures.rest.1)

pub returns-in-Ok-clause-silent : goal.returns-in-Ok-clause-silent
returns-in-Ok-clause-silent g c = (c.queue_both.ensures.roster, c.queue_both.ensures.rest.1)

pub returns-in_err-bounded-clause-region : goal.returns-in_err-bounded-clause-region
returns-in_err-bounded-clause-region g c = c.bound.ensures.region

pub returns-in-Err-clause-region : goal.returns-in-Err-clause-region
returns-in-Err-clause-region g c = c.bound.ensures.region

pub returns-in-Ok-clause-region : goal.returns-in-Ok-clause-region
returns-in-Ok-clause-region g c = c.bound.ensures.region

pub returns-in_err-bounded-clause-pool : goal.returns-in_err-bounded-clause-pool
returns-in_err-bounded-clause-pool g c = ap (λ (rows : Pool × Bool). rows.0) c.bound.ensures.rows

pub returns-in-Err-clause-pool : goal.returns-in-Err-clause-pool
returns-in-Err-clause-pool g c = ap (λ (rows : Pool × Bool). rows.0) c.bound.ensures.rows

pub returns-in-Ok-clause-pool : goal.returns-in-Ok-clause-pool
returns-in-Ok-clause-pool g c = ap (λ (rows : Pool × Bool). rows.0) c.bound.ensures.rows

pub returns-in-Ok-clause-bounded : goal.returns-in-Ok-clause-bounded
returns-in-Ok-clause-bounded g c = c.in_ok-bounded.ensures.bounded

pub returns-in-Err-clause-bounded : goal.returns-in-Err-clause-bounded
returns-in-Err-clause-bounded g c = grind (arith, common_steps)

pub bound-requires : goal.bound-requires
bound-requires g c = grind (arith, common_steps)

pub returns-in_err-bounded-clause-bounded : goal.returns-in_err-bounded-clause-bounded
returns-in_err-bounded-clause-bounded g c = IfOk-from_err c.from_residual.result _ c.from_residual.ensures.0
