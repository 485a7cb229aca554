use Rattle.std.proofs.lemmas.Result.{IfOk-from_err}
use Rattle.std.proofs.lemmas.Grind.{common_steps}
use Rattle.std.proofs.Common.{◌∷◌, [], ◌∙◌, sym, subst, arith}
use Rattle.cip_plugin.specs.Calls.{Separate}
use Rattle.cip_node.specs.Bounding.{IsBounded}
use Rattle.cip_calls.proofs.PassedOn.{come_further}
use Rattle.cip_node.specs.declared.bounding.Bounded.{Bounded}
use Rattle.cip_solve.specs.NodesReached.{IsOpenBounded}
use Rattle.cip_solve.proofs.Standing.{bounded_by, open_by}
use Rattle.cip_solve.proofs.Using.{used_behind}
use Rattle.cip_solve.proofs.separating.separate.Goals as goal

pub returns-in-Empty-clause-used : goal.returns-in-Empty-clause-used
returns-in-Empty-clause-used g c = λ bad. absurd bad

pub returns-in-Empty-clause-bounded : goal.returns-in-Empty-clause-bounded
returns-in-Empty-clause-bounded g c = subst (IsBounded c.solve_lp.new.work.core c.solve_lp.new.node) c.in-Empty.is c.in_ok-solve_lp.ensures.bounded

pub cut_in_rounds-requires-clause-found : goal.cut_in_rounds-requires-clause-found
cut_in_rounds-requires-clause-found g c = subst (IsBounded c.solve_lp.new.work.core c.solve_lp.new.node) c.in-Open.is c.in_ok-solve_lp.ensures.bounded

pub returns-in-Err-clause-come : goal.returns-in-Err-clause-come
returns-in-Err-clause-come g c = come_further _ _ _ _ _ _ _ _ _ _ _ _ _ c.solve_lp.ensures.come c.cut_in_rounds.ensures.come

pub returns-in-Err-clause-region : goal.returns-in-Err-clause-region
returns-in-Err-clause-region g c = c.cut_in_rounds.ensures.region ∙ c.solve_lp.ensures.region

pub returns-in-Ok-clause-come : goal.returns-in-Ok-clause-come
returns-in-Ok-clause-come g c = come_further _ _ _ _ _ _ _ _ _ _ _ _ _ c.solve_lp.ensures.come c.cut_in_rounds.ensures.come

pub returns-in-Ok-clause-region : goal.returns-in-Ok-clause-region
returns-in-Ok-clause-region g c = c.cut_in_rounds.ensures.region ∙ c.solve_lp.ensures.region

pub returns-in-Ok-clause-used : goal.returns-in-Ok-clause-used
returns-in-Ok-clause-used g c = λ still.
    used_behind (λ r. g.R.Seated.state r) (λ v. v.items) _ _ _ _ (Separate ∷ []) _ _ c.solve_lp.ensures.silent.0 c.solve_lp.ensures.silent.1
    (c.in-Ok.ensures.used (open_by c.in-Ok.came c.cut_in_rounds.new.found (subst (λ (b : Bounded). IsOpenBounded b) c.left_by.ensures still)))

pub returns-in-Ok-clause-bounded : goal.returns-in-Ok-clause-bounded
returns-in-Ok-clause-bounded g c =
    let core = c.cut_in_rounds.new.work.core in
    let node = c.cut_in_rounds.new.node in
    subst (λ (b : Bounded). IsBounded core node b) (sym c.left_by.ensures) (bounded_by c.in-Ok.came core node c.cut_in_rounds.new.found c.in-Ok.ensures.found)

pub returns-in-Empty-clause-come : goal.returns-in-Empty-clause-come
returns-in-Empty-clause-come g c = c.solve_lp.ensures.come

pub returns-in-Empty-clause-region : goal.returns-in-Empty-clause-region
returns-in-Empty-clause-region g c = c.solve_lp.ensures.region

pub returns-in_err-solve_lp-clause-region : goal.returns-in_err-solve_lp-clause-region
returns-in_err-solve_lp-clause-region g c = c.solve_lp.ensures.region

pub returns-in_err-solve_lp-clause-come : goal.returns-in_err-solve_lp-clause-come
returns-in_err-solve_lp-clause-come g c = c.solve_lp.ensures.come

pub returns-in-Err-clause-used : goal.returns-in-Err-clause-used
returns-in-Err-clause-used g c = grind (arith, common_steps)

pub returns-in-Err-clause-bounded : goal.returns-in-Err-clause-bounded
returns-in-Err-clause-bounded g c = grind (arith, common_steps)

pub solve_lp-requires : goal.solve_lp-requires
solve_lp-requires g c = record { ready = c.requires.ready }

pub cut_in_rounds-requires-clause-ready : goal.cut_in_rounds-requires-clause-ready
cut_in_rounds-requires-clause-ready g c = (c.solve_lp.ensures.come.ready, c.solve_lp.ensures.come.sound)

pub returns-in_err-solve_lp-clause-bounded : goal.returns-in_err-solve_lp-clause-bounded
returns-in_err-solve_lp-clause-bounded g c = IfOk-from_err c.from_residual.result _ c.from_residual.ensures.0

pub returns-in_err-solve_lp-clause-used : goal.returns-in_err-solve_lp-clause-used
returns-in_err-solve_lp-clause-used g c = IfOk-from_err c.from_residual.result _ c.from_residual.ensures.0
