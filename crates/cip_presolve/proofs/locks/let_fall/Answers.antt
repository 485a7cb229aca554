use Rattle.std.specs.Prelude.{not}
use Rattle.cip_presolve.proofs.Free.{zero_down, zero_up, not_down, not_up}
use Rattle.cip_rational.specs.Rational.{ℚ, zeroℚ, ◌≤ℚ◌}
use Rattle.std.specs.Bool.{OnTrue}
use Rattle.std.proofs.lemmas.Grind.{common_steps}
use Rattle.std.proofs.Common.{arith, Option, IfSome, sym, subst}
use Rattle.cip_presolve.proofs.locks.let_fall.Goals as goal

pub returns-in-Some-None-clause-high : goal.returns-in-Some-None-clause-high
returns-in-Some-None-clause-high c = grind (arith, common_steps)

pub returns-in-None-Some-clause-low : goal.returns-in-None-Some-clause-low
returns-in-None-Some-clause-low c = grind (arith, common_steps)

pub returns-in-None-None-clause-high : goal.returns-in-None-None-clause-high
returns-in-None-None-clause-high c = grind (arith, common_steps)

pub returns-in-None-None-clause-low : goal.returns-in-None-None-clause-low
returns-in-None-None-clause-low c = grind (arith, common_steps)

pub returns-in-Some-Some-clause-high : goal.returns-in-Some-Some-clause-high
returns-in-Some-Some-clause-high c =
    subst (λ (o : Option ℚ). OnTrue c.is_zero.result (IfSome o (λ side. zeroℚ ≤ℚ c.args.coef)))
    (sym c.in-Some-Some.is-1)
    (zero_down c.args.coef c.is_zero.result c.is_zero.ensures)

pub returns-in-Some-Some-clause-low : goal.returns-in-Some-Some-clause-low
returns-in-Some-Some-clause-low c =
    subst (λ (o : Option ℚ). OnTrue c.is_zero.result (IfSome o (λ side. c.args.coef ≤ℚ zeroℚ)))
    (sym c.in-Some-Some.is-0)
    (zero_up c.args.coef c.is_zero.result c.is_zero.ensures)

pub returns-in-None-Some-clause-high : goal.returns-in-None-Some-clause-high
returns-in-None-Some-clause-high c =
    subst (λ (o : Option ℚ). OnTrue (not c.is_negative.result) (IfSome o (λ side. zeroℚ ≤ℚ c.args.coef)))
    (sym c.in-None-Some.is-1)
    (not_down c.args.coef c.is_negative.result c.is_negative.ensures)

pub returns-in-Some-None-clause-low : goal.returns-in-Some-None-clause-low
returns-in-Some-None-clause-low c =
    subst (λ (o : Option ℚ). OnTrue (not c.is_positive.result) (IfSome o (λ side. c.args.coef ≤ℚ zeroℚ)))
    (sym c.in-Some-None.is-0)
    (not_up c.args.coef c.is_positive.result c.is_positive.ensures)
