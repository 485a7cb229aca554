use Rattle.std.proofs.lemmas.Grind.{common_steps}
use Rattle.std.proofs.Common.{◌≡◌, Some, ◌∙◌, ap, sym, arith}
use Rattle.cip_problem.specs.Program.{Sides}
use Rattle.cip_rational.proofs.Comparisons.{is_le-compare}
use Rattle.cip_domain.proofs.changes.is_strong.Goals as goal

pub returns-in-Some : goal.returns-in-Some
returns-in-Some c =
    let low : c.args.sides.low ≡ Some c.in-Some.own = ap (λ (s : Sides). s.low) (sym c.sides.view_is) ∙ c.in-Some.is in
    rw (c.in-Low.is, low) (c.le.ensures ∙ is_le-compare _ _)

pub returns-in-Some-high : goal.returns-in-Some-high
returns-in-Some-high c =
    let high : c.args.sides.high ≡ Some c.in-Some-high.own = ap (λ (s : Sides). s.high) (sym c.sides.view_is) ∙ c.in-Some-high.is in
    rw (c.in-High.is, high) (c.le-in-Some-high.ensures ∙ is_le-compare _ _)

pub returns-in-None-high : goal.returns-in-None-high
returns-in-None-high c = grind (arith, common_steps)

pub returns-in-None : goal.returns-in-None
returns-in-None c = grind (arith, common_steps)
