-- What offering a point of the reduced program comes to.
use Rattle.std.proofs.Common.{◌≢◌, List, Result, Ok, Err, IsOk, IsErr, true≢false, refl, sym}
use Rattle.cip_rational.specs.Rational.{ℚ}
use Rattle.cip_presolve.specs.StepsBack.{StepsTaken, form_outcome, OverflowsBack, FitsBack}
use Rattle.cip_presolve.specs.Forms.{placed}
use Rattle.cip_presolve.specs.PostsolveFaults.{IsPostsolveFault}
use Rattle.cip_presolve.specs.declared.faults.PostsolveFault.{PostsolveFault}
use Rattle.cip_presolve.specs.declared.faults.PostsolveFault.TheVariants.{Wide, NoMemory}
use Rattle.cip_core.specs.CoreStates.{CoreState}
use Rattle.cip_core.specs.Steps.{IsTriedBack}

not_both : {A E : Type 0} (r : Result A E) → IsOk r → ¬ IsErr r
not_both (Ok value) o e = absurd (true≢false (sym e))
not_both (Err fault) o e = absurd (true≢false (sym o))

-- a point that comes back in range doesn't overflow on the way
pub never_both : (steps : StepsTaken) (point : List ℚ) → FitsBack steps point → ¬ OverflowsBack steps point
never_both steps point fits o =
    not_both (form_outcome o.form (placed steps.forms point)) (fits o.column o.form o.gone) o.overflows

-- and so was what doesn't come back in range
pub tried_past : (core : CoreState) (point : List ℚ) (fault : PostsolveFault) → IsPostsolveFault core.steps point fault → fault ≢ NoMemory → IsTriedBack core point
tried_past core point Wide o n = λ fits. absurd (never_both core.steps point fits o)
tried_past core point NoMemory o n = absurd (n refl)
