-- A point of the reduced program with a fractional value on a whole column isn't found feasible where it comes back.
use Rattle.std.proofs.Common.{◌≡◌, ℕ, ◌<◌, List, length, true, sym, ◌∙◌, subst}
use Rattle.std.proofs.lemmas.Option.{slice_get_within}
use Rattle.cip_rational.specs.Rational.{ℚ, IsWhole}
use Rattle.cip_problem.specs.Program.{Program}
use Rattle.cip_problem.specs.Points.{AreWhole}
use Rattle.cip_problem.specs.WellFormed.{IsWellFormed, columns}
use Rattle.cip_problem.proofs.Points.AtPlaces.{whole_at}
use Rattle.cip_model.specs.Meaning.{VerdictHolds}
use Rattle.cip_model.proofs.Meaning.Point.{verdict_holds}
use Rattle.cip_core.specs.Pairs.{IsLong, IsPair}
use Rattle.cip_core.specs.StepsBack.{point_back}
use Rattle.cip_core.specs.CoreStates.{CoreState, reduced_of, IsSound}
use Rattle.cip_core.specs.Steps.{IsTriedBack}
use Rattle.cip_search.proofs.Returning.{all_whole}

-- a point that comes back as one with whole values on whole columns has such values
whole_there : (program reduced : Program) (post : List ℚ → List ℚ) (kept : ℕ → ℕ) (point : List ℚ) → IsPair program reduced post kept → IsLong reduced point → length point ≡ length reduced.integral → AreWhole program.integral (post point) → AreWhole reduced.integral point
whole_there program reduced post kept point pair long e h =
    all_whole reduced.integral point e (λ column w. let k = pair.columns column (subst (λ n. column < n) (sym e ∙ long) (slice_get_within reduced.integral column true w)) in
    subst (λ t. IsWhole t) (k.value point long) (whole_at program.integral (post point) (kept column) h (k.whole ∙ w)))

pub fractional_tried : (core : CoreState) (point : List ℚ) → IsWellFormed core.program → IsWellFormed (reduced_of core) → IsSound core → length point ≡ columns (reduced_of core) → ¬ AreWhole (reduced_of core).integral point → IsTriedBack core point
fractional_tried core point formed inner sound e n = λ fits cost found.
    let pair = sound.back.pair in
    let long : IsLong (reduced_of core) point = e ∙ sym inner.bounds in
    let h = verdict_holds core.program (point_back core.steps point) formed (pair.long point long ∙ formed.bounds) in
    let k = subst (VerdictHolds core.program (point_back core.steps point)) found h in
    absurd (n (whole_there core.program (reduced_of core) (point_back core.steps) _ point pair long (e ∙ sym inner.integral) k.0.whole))
