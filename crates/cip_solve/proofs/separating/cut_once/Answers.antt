use Rattle.std.proofs.lemmas.Result.{IfOk-from_err}
use Rattle.std.proofs.lemmas.Grind.{common_steps}
use Rattle.std.proofs.Common.{◌∷◌, [], ◌∙◌, refl, sym, subst, arith}
use Rattle.cip_plugin.specs.Calls.{Separate}
use Rattle.cip_calls.proofs.PassedOn.{come_further}
use Rattle.cip_calls.proofs.PassedOn.{cuts_not_sides, quiet_left}
use Rattle.cip_calls.proofs.PassedOn.{accepted_open}
use Rattle.cip_node.specs.Bounding.{IsBounded}
use Rattle.cip_solve.specs.NodesReached.{IsFoundAt}
use Rattle.cip_solve.proofs.Standing.{found_by, found_stays}
use Rattle.cip_solve.proofs.Using.{used_before}
use Rattle.cip_solve.proofs.separating.cut_once.Goals as goal

pub returns-in_err-came-clause-region : goal.returns-in_err-came-clause-region
returns-in_err-came-clause-region g c = (c.ask_round.ensures.node cuts_not_sides).region

pub returns-in_default-clause-region : goal.returns-in_default-clause-region
returns-in_default-clause-region g c = (c.ask_round.ensures.node cuts_not_sides).region

pub returns-in_default-clause-found : goal.returns-in_default-clause-found
returns-in_default-clause-found g c =
    let quiet = quiet_left _ (λ e. cuts_not_sides (c.in_ok-came.ensures.sides e)) c.in_default.not-Accepted in
    found_by _ _ _ c.args.found.now (λ e. cuts_not_sides (c.in_ok-came.ensures.sides e))
    (found_stays c.args.work.now.core c.ask_round.new.core c.args.node.now c.ask_round.new.node c.args.found.now c.ask_round.ensures.come.later (c.in_ok-came.ensures.rows quiet)
    (c.ask_round.ensures.node cuts_not_sides) c.requires.found)

pub returns-in_default-clause-come : goal.returns-in_default-clause-come
returns-in_default-clause-come g c = c.ask_round.ensures.come

pub returns-in_default-clause-used : goal.returns-in_default-clause-used
returns-in_default-clause-used g c = grind (arith, common_steps)

pub returns-in_err-solve_lp-in-Accepted-clause-come : goal.returns-in_err-solve_lp-in-Accepted-clause-come
returns-in_err-solve_lp-in-Accepted-clause-come g c = come_further _ _ _ _ _ _ _ _ _ _ _ _ _ c.ask_round.ensures.come c.solve_lp.ensures.come

pub returns-in_err-solve_lp-in-Accepted-clause-region : goal.returns-in_err-solve_lp-in-Accepted-clause-region
returns-in_err-solve_lp-in-Accepted-clause-region g c = c.solve_lp.ensures.region ∙ (c.ask_round.ensures.node cuts_not_sides).region

pub returns-in-Empty-clause-come : goal.returns-in-Empty-clause-come
returns-in-Empty-clause-come g c = come_further _ _ _ _ _ _ _ _ _ _ _ _ _ c.ask_round.ensures.come c.solve_lp.ensures.come

pub returns-in-Empty-clause-region : goal.returns-in-Empty-clause-region
returns-in-Empty-clause-region g c = c.solve_lp.ensures.region ∙ (c.ask_round.ensures.node cuts_not_sides).region

pub returns-in-Open-clause-come : goal.returns-in-Open-clause-come
returns-in-Open-clause-come g c = come_further _ _ _ _ _ _ _ _ _ _ _ _ _ c.ask_round.ensures.come c.solve_lp.ensures.come

pub returns-in-Open-clause-region : goal.returns-in-Open-clause-region
returns-in-Open-clause-region g c = c.solve_lp.ensures.region ∙ (c.ask_round.ensures.node cuts_not_sides).region

pub returns-in-Empty-clause-used : goal.returns-in-Empty-clause-used
returns-in-Empty-clause-used g c = λ other. absurd (other refl)

pub returns-in-Empty-clause-found : goal.returns-in-Empty-clause-found
returns-in-Empty-clause-found g c = subst (IsBounded c.solve_lp.new.work.core c.solve_lp.new.node) c.in-Empty.is c.in_ok-solve_lp-in-Accepted.ensures.bounded

pub returns-in-Open-clause-used : goal.returns-in-Open-clause-used
returns-in-Open-clause-used g c = λ _.
    used_before (λ r. g.R.Seated.state r) (λ v. v.items) _ _ _ _ (Separate ∷ []) _ _ c.solve_lp.ensures.silent.0 c.solve_lp.ensures.silent.1
    (c.in_ok-came.ensures.used (λ e. accepted_open (sym c.in-Accepted.is ∙ e)))

pub returns-in-Open-clause-found : goal.returns-in-Open-clause-found
returns-in-Open-clause-found g c =
    let core = c.solve_lp.new.work.core in
    let node = c.solve_lp.new.node in
    subst (IsFoundAt core node) (sym c.replace.ensures.after) (subst (IsBounded core node) c.in-Open.is c.in_ok-solve_lp-in-Accepted.ensures.bounded)

pub returns-in_err-came-clause-come : goal.returns-in_err-came-clause-come
returns-in_err-came-clause-come g c = c.ask_round.ensures.come

pub ask_round-requires-clause-ready : goal.ask_round-requires-clause-ready
ask_round-requires-clause-ready g c = c.requires.ready.0

pub solve_lp-requires : goal.solve_lp-requires
solve_lp-requires g c = record { ready = (c.ask_round.ensures.come.ready, c.ask_round.ensures.come.sound) }

pub returns-in_err-came-clause-found : goal.returns-in_err-came-clause-found
returns-in_err-came-clause-found g c = IfOk-from_err c.from_residual.result _ c.from_residual.ensures.0

pub returns-in_err-came-clause-used : goal.returns-in_err-came-clause-used
returns-in_err-came-clause-used g c = IfOk-from_err c.from_residual.result _ c.from_residual.ensures.0

pub returns-in_err-solve_lp-in-Accepted-clause-found : goal.returns-in_err-solve_lp-in-Accepted-clause-found
returns-in_err-solve_lp-in-Accepted-clause-found g c = IfOk-from_err c.from_residual-in_err-solve_lp-in-Accepted.result _ c.from_residual-in_err-solve_lp-in-Accepted.ensures.0

pub returns-in_err-solve_lp-in-Accepted-clause-used : goal.returns-in_err-solve_lp-in-Accepted-clause-used
returns-in_err-solve_lp-in-Accepted-clause-used g c = IfOk-from_err c.from_residual-in_err-solve_lp-in-Accepted.result _ c.from_residual-in_err-solve_lp-in-Accepted.ensures.0
