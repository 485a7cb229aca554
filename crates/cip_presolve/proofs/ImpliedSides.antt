-- Sides that a row implies for one of its columns.
use Rattle.std.proofs.Common.{◌≡◌, ℕ, zero, suc, ◌<◌, Bool, true, false, List, [], ◌∷◌, length, Option, None, Some, IfSome, slice_get, refl, sym, ap, ◌∙◌, subst, arith}
use Rattle.std.specs.Prelude.{slice_index_or, slice_set}
use Rattle.std.proofs.lemmas.Option.{same_Some, slice_get_within, get_or_from_slice_get}
use Rattle.cip_rational.specs.Rational.{ℚ, ◌+ℚ◌, ◌*ℚ◌, zeroℚ, ◌≤ℚ◌, IsWhole}
use Rattle.cip_rational.proofs.Linear.{linear_le}
use Rattle.cip_problem.specs.Program.{Term, Sides, Row, Program}
use Rattle.cip_problem.specs.Activity.{activity, value_at, StandsBelow}
use Rattle.cip_problem.specs.Box.{Between, IsInBox, sides_at, sides_inside}
use Rattle.cip_problem.specs.Choices.{met, choice_at, is_open}
use Rattle.cip_problem.specs.RowTerms.{column_at, no_term}
use Rattle.cip_problem.specs.Points.{IsSatisfied, IsFeasible}
use Rattle.cip_problem.proofs.Points.AtPlaces.{in_box_at, satisfied_at, whole_at}
use Rattle.cip_problem.proofs.Choices.Meeting.{between_met}
use Rattle.cip_presolve.specs.NarrowedPrograms.{IsExactStep, with_sides}
use Rattle.cip_presolve.specs.RowSteps.{divided_sides}
use Rattle.cip_search.proofs.RowSteps.{divided}
use Rattle.cip_search.proofs.Replacing.{sides_replaced}
use Rattle.cip_presolve.specs.SingleRows.{single_sides}
use Rattle.cip_presolve.proofs.Enclosing.{past_below}
use Rattle.cip_presolve.proofs.Singled.{met_inside, inward_onward}
use Rattle.cip_presolve.specs.Rests.{product_at, IsRestBelow, IsRestAbove, AreRests, IsDifference}
use Rattle.cip_presolve.specs.RowReading.{Encloses}
use Rattle.cip_search.proofs.Inside.{all_hold}
use Rattle.cip_search.proofs.Pairing.{exact_self}
use Rattle.cip_presolve.specs.Taken.{IsEnclosed, IsImplied}

-- ---- the product at a place

low_product : (box : List Sides) (row : Row) (at : ℕ) (rest low : Option ℚ) (x : List ℚ) → IfSome rest (IsRestAbove box row.terms at) → IfSome low (IsDifference row.low rest) → IsInBox box x → IsSatisfied row x → IfSome low (λ side. side ≤ℚ product_at row.terms at x)
low_product box row at rest None x r d w h = tt
low_product box row at rest (Some low) x r d w h =
    let above : activity row.terms x ≤ℚ d.subtrahend +ℚ product_at row.terms at x = subst (λ o. IfSome o (IsRestAbove box row.terms at)) d.is_rest r x w in
    let side : d.minuend ≤ℚ activity row.terms x = subst (λ o. IfSome o (λ s. s ≤ℚ activity row.terms x)) d.is_side h.above in
    let value = d.value in
    linear_le (low ∷ d.minuend ∷ d.subtrahend ∷ activity row.terms x ∷ product_at row.terms at x ∷ []) (λ s w. omega (arith, s.le_out, s.same_out))

high_product : (box : List Sides) (row : Row) (at : ℕ) (rest high : Option ℚ) (x : List ℚ) → IfSome rest (IsRestBelow box row.terms at) → IfSome high (IsDifference row.high rest) → IsInBox box x → IsSatisfied row x → IfSome high (λ side. product_at row.terms at x ≤ℚ side)
high_product box row at rest None x r d w h = tt
high_product box row at rest (Some high) x r d w h =
    let below : d.subtrahend +ℚ product_at row.terms at x ≤ℚ activity row.terms x = subst (λ o. IfSome o (IsRestBelow box row.terms at)) d.is_rest r x w in
    let side : activity row.terms x ≤ℚ d.minuend = subst (λ o. IfSome o (λ s. activity row.terms x ≤ℚ s)) d.is_side h.below in
    let value = d.value in
    linear_le (high ∷ d.minuend ∷ d.subtrahend ∷ activity row.terms x ∷ product_at row.terms at x ∷ []) (λ s w. omega (arith, s.le_out, s.same_out))

term_at_is : (terms : List Term) (at : ℕ) (term : Term) → slice_get terms at ≡ Some term → slice_index_or terms at no_term ≡ term
term_at_is terms at term g = get_or_from_slice_get terms at term no_term g

-- a row implies sides for the column of the term at a place: each point of the box that satisfies it, with a whole
-- value where the column is whole, has its value between them
abbrev pub Implies : List Sides → Row → ℕ → Bool → Sides → Type 0
Implies box row at whole sides =
    (point : List ℚ) → IsInBox box point → IsSatisfied row point
    → (whole ≡ true → IsWhole (value_at point (column_at row.terms at)))
    → Between sides.low sides.high (value_at point (column_at row.terms at))

pub implied_by : (box : List Sides) (row made : Row) (at : ℕ) (whole : Bool) (above below low high : Option ℚ) (term : Term) (sides : Sides) → slice_get row.terms at ≡ Some term → ¬ (term.coefficient ≡ zeroℚ) → IfSome above (IsRestAbove box row.terms at) → IfSome below (IsRestBelow box row.terms at) → IfSome low (IsDifference row.low above) → IfSome high (IsDifference row.high below) → made.low ≡ low → made.high ≡ high → sides ≡ single_sides whole term.coefficient made.low made.high → Implies box row at whole sides
implied_by box row made at whole above below low high term sides g nonzero ra rb dl dh el eh e x w h whole_if =
    let t : slice_index_or row.terms at no_term ≡ term = term_at_is row.terms at term g in
    let c : column_at row.terms at ≡ term.column = ap (λ (u : Term). u.column) t in
    let q : product_at row.terms at x ≡ term.coefficient *ℚ value_at x term.column = ap (λ (u : Term). u.coefficient *ℚ value_at x u.column) t in
    let between : Between made.low made.high (term.coefficient *ℚ value_at x term.column) = record {
      above = subst (λ o. IfSome o (λ side. side ≤ℚ term.coefficient *ℚ value_at x term.column)) (sym el) (subst (λ p. IfSome low (λ side. side ≤ℚ p)) q (low_product box row at above low x ra dl w h));
      below = subst (λ o. IfSome o (λ side. term.coefficient *ℚ value_at x term.column ≤ℚ side)) (sym eh) (subst (λ p. IfSome high (λ side. p ≤ℚ side)) q (high_product box row at below high x rb dh w h));
    } in
    let value : Between (divided_sides term.coefficient made.low made.high).low (divided_sides term.coefficient made.low made.high).high (value_at x term.column) = divided term.coefficient (value_at x term.column) made.low made.high nonzero between in
    let inward : Between (single_sides whole term.coefficient made.low made.high).low (single_sides whole term.coefficient made.low made.high).high (value_at x term.column) = inward_onward whole (divided_sides term.coefficient made.low made.high) (value_at x term.column) (λ o. subst (λ n. IsWhole (value_at x n)) c (whole_if o)) value in
    subst (λ n. Between sides.low sides.high (value_at x n)) (sym c) (subst (λ (s : Sides). Between s.low s.high (value_at x term.column)) (sym e) inward)

-- so it is for each box
pub implied_all : (row made : Row) (at : ℕ) (whole : Bool) (rests : Sides) (low high : Option ℚ) (term : Term) (found : Option Sides) → slice_get row.terms at ≡ Some term → ¬ (term.coefficient ≡ zeroℚ) → IfSome low (IsDifference row.low rests.high) → IfSome high (IsDifference row.high rests.low) → made ≡ record { terms = []; low = low; high = high } → IfSome found (λ sides. sides ≡ single_sides whole term.coefficient made.low made.high) → IfSome found (λ sides. (box : List Sides) → AreRests box row.terms at rests → Implies box row at whole sides)
implied_all row made at whole rests low high term None g nonzero dl dh m e = tt
implied_all row made at whole rests low high term (Some sides) g nonzero dl dh m e = λ box r.
    implied_by box row made at whole rests.high rests.low low high term sides g nonzero r.above r.below dl dh (ap (λ (r : Row). r.low) m) (ap (λ (r : Row). r.high) m) e

-- ---- the step

pub found_by : (program : Program) (number at : ℕ) (row : Row) (term : Term) (implied sides : Sides) → slice_get program.rows number ≡ Some row → slice_get row.terms at ≡ Some term → term.column < length program.bounds → is_open (choice_at program.choices term.column) ≡ false → slice_get program.integral term.column ≡ Some true → Implies program.bounds row at true implied → sides ≡ met (sides_at program.bounds term.column) implied → IsImplied program term.column sides
found_by program number at row term implied sides g t inside plain whole f e = record {
  inside = inside;
  plain = plain;
  step = sides_replaced program term.column sides (subst (λ s. sides_inside s (sides_at program.bounds term.column) ≡ true) (sym e) (met_inside (sides_at program.bounds term.column) implied)) between;
  none = λ p y h. let b = between y h in past_below sides.low sides.high (value_at y term.column) p b.above b.below;
}
  where
    column : column_at row.terms at ≡ term.column
    column = ap (λ (u : Term). u.column) (term_at_is row.terms at term t)

    whole_value : (y : List ℚ) → IsFeasible program y → IsWhole (value_at y (column_at row.terms at))
    whole_value y h = subst (λ n. IsWhole (value_at y n)) (sym column) (whole_at program.integral y term.column h.whole whole)

    own : (y : List ℚ) → IsFeasible program y → Between implied.low implied.high (value_at y term.column)
    own y h = subst (λ n. Between implied.low implied.high (value_at y n)) column (f y h.within (satisfied_at program.rows y number row h.rows g) (λ o. whole_value y h))

    between : (y : List ℚ) → IsFeasible program y → Between sides.low sides.high (value_at y term.column)
    between y h =
        subst (λ (s : Sides). Between s.low s.high (value_at y term.column)) (sym e)
        (between_met (sides_at program.bounds term.column) implied (value_at y term.column) (in_box_at program.bounds y term.column h.within) (own y h))

pub term_inside : (columns : ℕ) (terms : List Term) (at : ℕ) (term : Term) → StandsBelow columns terms → slice_get terms at ≡ Some term → term.column < columns
term_inside columns terms at term s g = subst (λ (u : Term). u.column < columns) (get_or_from_slice_get terms at term term g) (s at term (slice_get_within terms at term g))

pub ruleset finding = (found_by, term_inside)

-- the activity of a row that was read, by the box that it was read in
pub enclosed_by : (program : Program) (number : ℕ) (row : Row) (box : List Sides) (extent : Sides) → slice_get program.rows number ≡ Some row → box ≡ program.bounds → Encloses box row.terms extent → IsEnclosed program number extent
enclosed_by program number row box extent g e h other k =
    subst (λ (r : Row). Encloses program.bounds r.terms extent) (same_Some row other (sym g ∙ k))
    (subst (λ (b : List Sides). Encloses b row.terms extent) e h)

pub ruleset enclosing = (enclosed_by)

-- it stays between the sides as bounds get stronger
pub stays_enclosed : (program changed : Program) (number : ℕ) (extent : Sides) → IsExactStep program changed → changed.rows ≡ program.rows → IsEnclosed program number extent → IsEnclosed changed number extent
stays_enclosed program changed number extent s e h row g x w =
    h row (ap (λ (rows : List Row). slice_get rows number) (sym e) ∙ g) x (all_hold changed.bounds program.bounds x s.narrowed.inside w)

pub taken_by : (program changed : Program) (column : ℕ) (sides : Sides) → IsImplied program column sides → changed ≡ with_sides program column sides → IsExactStep program changed
taken_by program changed column sides i e = subst (λ p. IsExactStep program p) (sym e) i.step

pub columns_same : (box : List Sides) (column : ℕ) (sides : Sides) → length (slice_set box column sides) ≡ length box
columns_same [] column sides = refl
columns_same (s ∷ ss) zero sides = refl
columns_same (s ∷ ss) (suc column) sides = ap (λ n. suc n) (columns_same ss column sides)

pub ruleset taking = (exact_self, taken_by, columns_same)
