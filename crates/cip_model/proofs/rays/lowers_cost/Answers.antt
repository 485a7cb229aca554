use Rattle.std.proofs.lemmas.Grind.{common_steps}
use Rattle.std.proofs.Common.{◌∙◌, sym, ap, arith}
use Rattle.cip_rational.specs.Rational.{lt_test}
use Rattle.cip_rational.proofs.Comparisons.{is_lt-compare}
use Rattle.cip_frac.specs.Outcomes.{dot_from}
use Rattle.cip_model.specs.RayTests.{cost_falls}
use Rattle.cip_model.proofs.rays.lowers_cost.Goals as goal

pub returns-in-Ok : goal.returns-in-Ok
returns-in-Ok c =
    c.lt.ensures
    ∙ is_lt-compare _ _
    ∙ ap (λ side. lt_test c.in-Ok.change side) c.zero-in-Ok.ensures
    ∙ ap cost_falls (sym c.in-Ok.is ∙ c.cost.ensures ∙ ap (λ start. dot_from start c.args.costs.now c.args.ray.now) c.zero.ensures)

pub returns-in-Err : goal.returns-in-Err
returns-in-Err c = grind (arith, common_steps)
