-- A point of the reduced program comes back, and is tested there.
use Rattle.std.proofs.Common.{◌≡◌, ◌∙◌, List, length, refl, sym, ap, subst, Bool, Option, None, Some}
use Rattle.cip_rational.specs.Rational.{ℚ}
use Rattle.cip_problem.specs.WellFormed.{IsWellFormed, columns}
use Rattle.cip_core.specs.Verdicts.{verdict_of}
use Rattle.cip_core.specs.StepsBack.{point_back, FitsBack}
use Rattle.cip_core.specs.HeldPoint.{offered, HeldPoint, is_cheaper, taken_if}
use Rattle.cip_core.specs.Offered.{Offered}
use Rattle.cip_core.specs.Offered.TheVariants.{Taken, NotBetter, Breaks}
use Rattle.cip_core.specs.CoreStates.{CoreState, reduced_of, IsSound}
use Rattle.cip_calls.specs.GuessesJudged.{judged_as, IsGuessJudged, costs_less}
use Rattle.cip_calls.specs.declared.judged.Judged.{Judged}
use Rattle.std.specs.Prelude.{option_map}

-- it has a value for each column of the program as read
pub back_long : (core : CoreState) (values : List ℚ) → IsSound core → IsWellFormed core.program → IsWellFormed (reduced_of core) → length values ≡ columns (reduced_of core) → length (point_back core.steps values) ≡ columns core.program
back_long core values s formed left e = s.back.pair.long values (e ∙ sym left.bounds) ∙ formed.bounds

tested : (core : CoreState) (values : List ℚ) (answer : Offered) → length values ≡ columns (reduced_of core) → FitsBack core.steps values → answer ≡ offered core.incumbent.best (verdict_of core.program (point_back core.steps values)) → IsGuessJudged core values (judged_as answer)
tested core values Taken e f t = record { long = e; fits = f; tested = t }
tested core values NotBetter e f t = record { long = e; fits = f; tested = t }
tested core values (Breaks verdict) e f t = record { long = e; fits = f; tested = t }

-- what the test says of it
pub tested_back : (core : CoreState) (values point : List ℚ) (came : Judged) → length values ≡ columns (reduced_of core) → FitsBack core.steps values → point ≡ point_back core.steps values → came ≡ judged_as (offered core.incumbent.best (verdict_of core.program point)) → IsGuessJudged core values came
tested_back core values point came e f p t =
    let o = offered core.incumbent.best (verdict_of core.program (point_back core.steps values)) in
    subst (IsGuessJudged core values) (sym (t ∙ ap (λ (x : List ℚ). judged_as (offered core.incumbent.best (verdict_of core.program x))) p)) (tested core values o e f refl)

-- whether it is taken, by its cost and the cost held
pub taken_by : (best : Option HeldPoint) (cost : ℚ) (cheaper : Bool) → cheaper ≡ costs_less cost (option_map (λ (h : HeldPoint). h.cost) best) → taken_if (is_cheaper cost best) ≡ taken_if cheaper
taken_by None cost cheaper e = ap taken_if (sym e)
taken_by (Some held) cost cheaper e = ap taken_if (sym e)
