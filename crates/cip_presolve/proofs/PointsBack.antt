-- What comes back is a point's values at their places, and those of the forms there.
use Rattle.std.proofs.Common.{◌≡◌, Bool, List, Option, length, sym, ap, ◌∙◌, subst}
use Rattle.std.specs.Prelude.{map, is_none}
use Rattle.cip_rational.specs.Rational.{ℚ}
use Rattle.cip_presolve.specs.Forms.{Form, placed, filled}
use Rattle.cip_presolve.specs.WholeParts.{with_wholes}
use Rattle.cip_search.proofs.Spreading.{length-placed}
use Rattle.cip_presolve.specs.Leaf.{at_wholes}
use Rattle.cip_presolve.specs.Places.{whole_and_left}
use Rattle.cip_presolve.specs.StepsBack.{StepsTaken, whole_point, leaf_back, OverflowsBack, LeafFitsBack, HasOverflow, WholesFit, point_back, FitsBack}
use Rattle.cip_presolve.specs.FilledPoints.{IsFilled}
use Rattle.cip_presolve.proofs.Placed.{left_placed, wholes_placed}

pub is_placed : (forms : List (Option Form)) (left : List Bool) (point at : List ℚ) → left ≡ map is_none forms → at ≡ with_wholes left point → at ≡ placed forms point
is_placed forms left point at l e = e ∙ ap (λ (ls : List Bool). with_wholes ls point) l ∙ left_placed forms point

pub long_placed : (forms : List (Option Form)) (left : List Bool) (point at : List ℚ) → left ≡ map is_none forms → at ≡ with_wholes left point → length forms ≡ length at
long_placed forms left point at l e = sym (ap (λ (vs : List ℚ). length vs) (is_placed forms left point at l e) ∙ length-placed forms point)

pub wide_back : (steps : StepsTaken) (left : List Bool) (point at : List ℚ) → left ≡ map is_none steps.forms → at ≡ with_wholes left point → HasOverflow steps.forms at → OverflowsBack steps point
wide_back steps left point at l e h = subst (λ (vs : List ℚ). HasOverflow steps.forms vs) (is_placed steps.forms left point at l e) h

-- values are those that a point comes back as, and none of them overflows
pub record ComesBackAs (steps : StepsTaken) (point values : List ℚ) : Type 0 where
  pub are : values ≡ point_back steps point
  pub fits : FitsBack steps point

pub filled_back : (steps : StepsTaken) (left : List Bool) (point at values : List ℚ) → left ≡ map is_none steps.forms → at ≡ with_wholes left point → IsFilled steps.forms at values → ComesBackAs steps point values
filled_back steps left point at values l e h =
    let k : IsFilled steps.forms (placed steps.forms point) values = subst (λ (vs : List ℚ). IsFilled steps.forms vs values) (is_placed steps.forms left point at l e) h in
    record { are = k.are; fits = k.fit }

pub ruleset coming_back = (long_placed, wide_back, filled_back)

-- ---- whole values

pub wholes_at : (steps : StepsTaken) (left : List Bool) (wholes at : List ℚ) → left ≡ whole_and_left steps.forms steps.whole → at ≡ with_wholes left wholes → at ≡ placed steps.forms (whole_point steps wholes)
wholes_at steps left wholes at l e = e ∙ ap (λ (ls : List Bool). with_wholes ls wholes) l ∙ wholes_placed steps.forms steps.whole wholes

pub wholes_long : (steps : StepsTaken) (left : List Bool) (wholes at : List ℚ) → left ≡ whole_and_left steps.forms steps.whole → at ≡ with_wholes left wholes → length steps.forms ≡ length at
wholes_long steps left wholes at l e = sym (ap (λ (vs : List ℚ). length vs) (wholes_at steps left wholes at l e) ∙ length-placed steps.forms (whole_point steps wholes))

pub wholes_fit : (steps : StepsTaken) (left : List Bool) (wholes at : List ℚ) → left ≡ whole_and_left steps.forms steps.whole → at ≡ with_wholes left wholes → LeafFitsBack steps wholes → WholesFit steps.forms steps.whole at
wholes_fit steps left wholes at l e h = subst (λ (vs : List ℚ). WholesFit steps.forms steps.whole vs) (sym (wholes_at steps left wholes at l e)) h

pub wholes_back : (steps : StepsTaken) (left : List Bool) (wholes at all : List ℚ) → left ≡ whole_and_left steps.forms steps.whole → at ≡ with_wholes left wholes → all ≡ at_wholes steps.whole (filled steps.forms at at) → all ≡ leaf_back steps wholes
wholes_back steps left wholes at all l e h = h ∙ ap (λ (vs : List ℚ). at_wholes steps.whole (filled steps.forms vs vs)) (wholes_at steps left wholes at l e)

pub leaf_filled : (steps : StepsTaken) (left : List Bool) (wholes at values : List ℚ) → left ≡ whole_and_left steps.forms steps.whole → at ≡ with_wholes left wholes → IsFilled steps.forms at values → LeafFitsBack steps wholes
leaf_filled steps left wholes at values l e h =
    subst (λ (vs : List ℚ). WholesFit steps.forms steps.whole vs) (wholes_at steps left wholes at l e) (λ column form g w. h.fit column form g)

pub ruleset wholes_coming_back = (wholes_long, wholes_fit, wholes_back, leaf_filled)
