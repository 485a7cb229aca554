use Rattle.std.proofs.lemmas.Grind.{common_steps}
use Rattle.std.proofs.Common.{◌≡◌, ◌∙◌, Bool, true, false, Some, sym, subst, arith}
use Rattle.std.specs.Prelude.{MatchBool}
use Rattle.cip_rational.specs.Rational.{ℚ, le_test}
use Rattle.cip_rational.proofs.Comparisons.{is_le-compare}
use Rattle.cip_rational.proofs.Rational.Order.{≤ℚ_of_lt, le_of_test, lt_of_le_test}
use Rattle.cip_search.specs.Searched.{NoMore}
use Rattle.cip_core.proofs.raising.is_weaker.Goals as goal

told : (t : Bool) (own bound : ℚ) → t ≡ le_test own bound → MatchBool t (NoMore (Some own) (Some bound)) (NoMore (Some bound) (Some own))
told true own bound e = le_of_test (sym e)
told false own bound e = ≤ℚ_of_lt (lt_of_le_test (sym e))

pub returns-in-Some : goal.returns-in-Some
returns-in-Some c =
    subst (λ o. MatchBool c.le.result (NoMore o (Some c.args.bound)) (NoMore (Some c.args.bound) o)) (sym c.in-Some.is)
    (told c.le.result c.in-Some.own c.args.bound (c.le.ensures ∙ is_le-compare _ _))

pub returns-in-None : goal.returns-in-None
returns-in-None c = grind (arith, common_steps)
