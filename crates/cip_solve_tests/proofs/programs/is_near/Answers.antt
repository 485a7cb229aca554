use Rattle.std.proofs.Common.{◌^◌, pos, sym, ◌∙◌, subst, arith}
use Rattle.std.proofs.lemmas.Int.{ints}
use Rattle.cip_rational.specs.Rational.{◌<ℚ◌, integer, absolute}
use Rattle.cip_rational.proofs.Comparisons.{is_lt-compare}
use Rattle.cip_rational.proofs.Rational.Order.{<ℚ_of_lt_of_le, lt_of_test}
use Rattle.cip_rational.proofs.Rational.Rounding.{integer_le}
use Rattle.cip_problem.specs.NearSides.{IsNear}
use Rattle.cip_solve_tests.proofs.programs.is_near.Goals as goal

pub returns-in-Some : goal.returns-in-Some
returns-in-Some c = λ t.
    let l : absolute c.in-Some.value <ℚ integer (pos 1000000000) = subst (λ f. absolute c.in-Some.value <ℚ f) c.from.ensures
    (subst (λ a. a <ℚ c.from.result) c.abs.ensures (lt_of_test (sym (c.lt.ensures ∙ is_lt-compare _ _) ∙ t))) in
    subst IsNear (sym c.in-Some.is) (<ℚ_of_lt_of_le l (integer_le (pos 1000000000) (pos (10 ^ 20)) (omega (arith, ints))))
