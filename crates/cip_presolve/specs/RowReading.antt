-- What the sides of the columns say of a row.
use Rattle.std.specs.Prelude.{List, [], ◌∷◌, length, Option, None, Some, if◌then◌else◌, ⊤}
use Rattle.cip_rational.specs.Rational.{ℚ, ◌+ℚ◌, ◌*ℚ◌, negate}
use Rattle.cip_problem.specs.Program.{Term, Sides, Row}
use Rattle.cip_problem.specs.Activity.{activity, StandsBelow}
use Rattle.cip_problem.specs.Box.{Between, IsInBox, sides_at, sides_equal}
use Rattle.cip_search.specs.RowSteps.{HoldsInAll, HoldsNowhere, IsShifted}
use Rattle.cip_presolve.specs.declared.extents.RowSays.{RowSays}
use Rattle.cip_presolve.specs.declared.extents.RowSays.TheVariants.{HoldsAlways, HoldsNever, Unclear}

-- the terms with the other signs
abbrev pub negated : List Term → List Term
negated [] = []
negated (t ∷ ts) = record t { coefficient = negate t.coefficient } ∷ negated ts

-- the activity lies between these sides at each point of a box
abbrev pub Encloses : List Sides → List Term → Sides → Type 0
Encloses box terms sides =
    (point : List ℚ) → IsInBox box point → Between sides.low sides.high (activity terms point)

-- what was found of a row is right
abbrev pub SaysRightly : List Sides → Row → RowSays → Type 0
SaysRightly box row HoldsAlways = HoldsInAll box row
SaysRightly box row HoldsNever = HoldsNowhere box row
SaysRightly box row Unclear = ⊤

-- ---- columns with equal sides

-- the one value between sides that are equal
abbrev pub only_value : Sides → Option ℚ
only_value sides = if sides_equal sides.low sides.high then sides.low else None

-- a sum with the product of a coefficient and a value, where there is one
abbrev pub with_value : ℚ → ℚ → Option ℚ → ℚ
with_value sum coefficient None = sum
with_value sum coefficient (Some value) = sum +ℚ coefficient *ℚ value

-- a sum with the products of the terms on columns with equal sides
abbrev pub fixed_from : ℚ → List Term → List Sides → ℚ
fixed_from sum [] box = sum
fixed_from sum (t ∷ ts) box = fixed_from (with_value sum t.coefficient (only_value (sides_at box t.column))) ts box

-- a term, where its column has no value yet
abbrev pub before_others : Option ℚ → Term → List Term → List Term
before_others None term others = term ∷ others
before_others (Some value) term others = others

-- the terms on the other columns
abbrev pub free_terms : List Term → List Sides → List Term
free_terms [] box = []
free_terms (t ∷ ts) box = before_others (only_value (sides_at box t.column)) t (free_terms ts box)

-- a row is what is left of another without the columns with equal sides: it has the same value less a shift at each
-- point of the box, and stands on columns of the box
pub record IsLeftRow (box : List Sides) (old new : Row) : Type 0 where
  pub shifted : IsShifted box old new
  pub stands : StandsBelow (length box) new.terms
