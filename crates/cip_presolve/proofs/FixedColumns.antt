-- Rows without the columns whose sides are equal.
use Rattle.std.proofs.Common.{◌≡◌, ℕ, zero, suc, ◌<◌, true, false, Bool, List, [], ◌∷◌, length, Option, None, Some, refl, sym, ap, ◌∙◌, subst, arith, true≢false}
use Rattle.std.specs.Prelude.{All, if◌then◌else◌}
use Rattle.std.specs.List.{AllByRecursion}
use Rattle.std.proofs.lemmas.Option.{none-some, same_Some}
use Rattle.std.proofs.lemmas.Bool.{and_parts}
use Rattle.cip_rational.specs.Rational.{ℚ, ◌+ℚ◌, ◌-ℚ◌, ◌*ℚ◌, zeroℚ, le_test}
use Rattle.cip_rational.proofs.Rational.Order.{≤ℚ_trans, ≤ℚ_antisymm, le_of_test}
use Rattle.cip_rational.proofs.Linear.{linear_same}
use Rattle.cip_problem.specs.Program.{Term, Sides, Row}
use Rattle.cip_problem.specs.Activity.{activity, value_at, StandsBelow}
use Rattle.cip_problem.specs.Box.{Between, IsInBox, sides_at, sides_equal}
use Rattle.cip_problem.proofs.Points.AtPlaces.{in_box_at}
use Rattle.cip_search.specs.RowSteps.{side_less}
use Rattle.cip_presolve.specs.RowReading.{only_value, with_value, fixed_from, before_others, free_terms, IsLeftRow}

-- the only value between sides is that of each point
only_of : (low high : Option ℚ) (value v : ℚ) (t : Bool) → sides_equal low high ≡ t → (if t then low else None) ≡ Some value → Between low high v → v ≡ value
only_of None high value v true e k h = absurd (none-some value k)
only_of (Some a) None value v true e k h = absurd (true≢false (sym e))
only_of (Some a) (Some b) value v true e k h =
    let p = and_parts (le_test a b) (le_test b a) e in
    ≤ℚ_antisymm (≤ℚ_trans h.below (le_of_test p.1)) h.above ∙ same_Some a value k
only_of low high value v false e k h = absurd (none-some value k)

pub only_is : (sides : Sides) (value v : ℚ) → only_value sides ≡ Some value → Between sides.low sides.high v → v ≡ value
only_is sides value v e h = only_of sides.low sides.high value v (sides_equal sides.low sides.high) refl e h

-- the terms on free columns, and what the others come to
free_sum : (sum : ℚ) (terms : List Term) (box : List Sides) (x : List ℚ) → IsInBox box x → fixed_from sum terms box +ℚ activity (free_terms terms box) x ≡ sum +ℚ activity terms x
free_sum sum [] box x h = refl
free_sum sum (t ∷ ts) box x h = go (λ more. free_sum more ts box x h) (only_value (sides_at box t.column)) refl
  where
    go : ((more : ℚ) → fixed_from more ts box +ℚ activity (free_terms ts box) x ≡ more +ℚ activity ts x) → (r : Option ℚ) → only_value (sides_at box t.column) ≡ r → fixed_from (with_value sum t.coefficient r) ts box +ℚ activity (before_others r t (free_terms ts box)) x ≡ sum +ℚ (t.coefficient *ℚ value_at x t.column +ℚ activity ts x)
    go rest None e =
        let k = rest sum in
        linear_same (fixed_from sum ts box ∷ (t.coefficient *ℚ value_at x t.column) ∷ activity (free_terms ts box) x ∷ sum ∷ activity ts x ∷ []) (λ s w. omega (arith, s.same_out))
    go rest (Some value) e =
        let k = rest (sum +ℚ t.coefficient *ℚ value) in
        let v : value_at x t.column ≡ value = only_is (sides_at box t.column) value (value_at x t.column) e (in_box_at box x t.column h) in
        k ∙ subst (λ u. (sum +ℚ t.coefficient *ℚ value) +ℚ activity ts x ≡ sum +ℚ (t.coefficient *ℚ u +ℚ activity ts x)) (sym v)
        (linear_same (sum ∷ (t.coefficient *ℚ value) ∷ activity ts x ∷ []) (λ s w. omega arith))

free_activity : (terms : List Term) (box : List Sides) (x : List ℚ) → IsInBox box x → activity (free_terms terms box) x ≡ activity terms x -ℚ fixed_from zeroℚ terms box
free_activity terms box x h =
    let k = free_sum zeroℚ terms box x h in
    linear_same (fixed_from zeroℚ terms box ∷ activity (free_terms terms box) x ∷ activity terms x ∷ []) (λ s w. omega (arith, s.same_out))

pub left_row : (box : List Sides) (old new : Row) (shift : ℚ) → shift ≡ fixed_from zeroℚ old.terms box → new.terms ≡ free_terms old.terms box → new.low ≡ side_less old.low shift → new.high ≡ side_less old.high shift → StandsBelow (length box) new.terms → IsLeftRow box old new
left_row box old new shift s t l u b = record {
  shifted = record {
    shift = shift;
    activity = λ x h. ap (λ (ts : List Term). activity ts x) t ∙ free_activity old.terms box x h ∙ ap (λ q. activity old.terms x -ℚ q) (sym s);
    low = l;
    high = u;
  };
  stands = b;
}

-- ---- columns of the terms that are left

pub to_rec : {X : Type 0} (P : X → Type 0) (xs : List X) → All P xs → AllByRecursion P xs
to_rec P [] h = tt
to_rec P (x ∷ xs) h = (h 0 x (omega arith), to_rec P xs (λ k d l. h (suc k) d (omega (arith, l))))

pub from_rec : {X : Type 0} (P : X → Type 0) (xs : List X) → AllByRecursion P xs → All P xs
from_rec P [] h k d l = absurd (omega (arith, l))
from_rec P (x ∷ xs) h zero d l = h.0
from_rec P (x ∷ xs) h (suc k) d l = from_rec P xs h.1 k d (omega (arith, l))

before_stands : (n : ℕ) (o : Option ℚ) (t : Term) (others : List Term) → t.column < n → AllByRecursion (λ u. u.column < n) others → AllByRecursion (λ u. u.column < n) (before_others o t others)
before_stands n None t others h k = (h, k)
before_stands n (Some v) t others h k = k

free_stands_rec : (n : ℕ) (terms : List Term) (box : List Sides) → AllByRecursion (λ u. u.column < n) terms → AllByRecursion (λ u. u.column < n) (free_terms terms box)
free_stands_rec n [] box h = tt
free_stands_rec n (t ∷ ts) box h = before_stands n (only_value (sides_at box t.column)) t (free_terms ts box) h.0 (free_stands_rec n ts box h.1)

pub free_stands : (n : ℕ) (terms : List Term) (box : List Sides) → StandsBelow n terms → StandsBelow n (free_terms terms box)
free_stands n terms box h = from_rec (λ t. t.column < n) (free_terms terms box) (free_stands_rec n terms box (to_rec (λ t. t.column < n) terms h))
