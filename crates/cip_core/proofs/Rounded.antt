-- Bounds that are rounded where costs are whole.
use Rattle.std.proofs.Common.{◌≡◌, ◌∙◌, Bool, true, false, if◌then◌else◌, List, Option, Some, refl, sym, subst}
use Rattle.cip_rational.specs.Rational.{ℚ, ◌≤ℚ◌, IsWhole, integer, ceil}
use Rattle.std.specs.Prelude.{MatchBool}
use Rattle.cip_rational.proofs.Rational.Whole.{IsWhole-integer}
use Rattle.cip_rational.proofs.Rational.Order.{≤ℚ_refl}
use Rattle.cip_rational.proofs.Rational.Rounding.{le_ceil}
use Rattle.cip_problem.specs.Program.{Sides, Program}
use Rattle.cip_problem.specs.Improving.{IsBoundIn}
use Rattle.cip_problem.specs.Cuts.{HasWholeCosts}
use Rattle.cip_problem.proofs.Implied.{whole_bound}
use Rattle.cip_search.specs.Searched.{NoMore}
use Rattle.cip_search.proofs.Roots.{no_more}
use Rattle.cip_core.specs.CoreStates.{CoreState, reduced_of}
use Rattle.cip_core.specs.Steps.{IsRaisedTo}

pub rounded_holds : (program : Program) (held : Option ℚ) (box : List Sides) (b : ℚ) (whole : Bool) → (whole ≡ true → HasWholeCosts program) → IsBoundIn program held box b → IsBoundIn program held box (if whole then integer (ceil b) else b)
rounded_holds program held box b true w h = whole_bound program held box b (w refl) h
rounded_holds program held box b false w h = h

rounded_up : (b : ℚ) (whole : Bool) → b ≤ℚ (if whole then integer (ceil b) else b)
rounded_up b true = le_ceil b
rounded_up b false = ≤ℚ_refl b

-- a rounded bound is whole where costs are
pub whole_rounded : (b : ℚ) (H : Type 0) (whole : Bool) → MatchBool whole H (¬ H) → H → IsWhole (if whole then integer (ceil b) else b)
whole_rounded b H true m h = IsWhole-integer (ceil b)
whole_rounded b H false m h = absurd (m h)

up_rounded : (b : ℚ) (H : Type 0) (whole : Bool) → MatchBool whole H (¬ H) → H → (if whole then integer (ceil b) else b) ≡ integer (ceil b)
up_rounded b H true m h = refl
up_rounded b H false m h = absurd (m h)

pub no_more_rounded : (b r : ℚ) (whole : Bool) (bound : Option ℚ) → r ≡ (if whole then integer (ceil b) else b) → NoMore (Some r) bound → NoMore (Some b) bound
no_more_rounded b r whole bound e l = no_more (Some b) (Some r) bound (subst (λ t. b ≤ℚ t) (sym e) (rounded_up b whole)) l

-- what is no less than a rounded bound
pub raised_to : (core : CoreState) (b r : ℚ) (whole : Bool) (raised : Option ℚ) → MatchBool whole (HasWholeCosts (reduced_of core)) (¬ HasWholeCosts (reduced_of core)) → r ≡ (if whole then integer (ceil b) else b) → NoMore (Some r) raised → IsRaisedTo core b raised
raised_to core b r whole raised m e l = record {
  plain = no_more_rounded b r whole raised e l;
  whole = λ h. subst (λ t. NoMore (Some t) raised) (e ∙ up_rounded b (HasWholeCosts (reduced_of core)) whole m h) l;
}
