-- Values in a box, and tests of them.
use Rattle.std.proofs.Common.{◌≡◌, ◌↔◌, ℕ, suc, Bool, true, false, cond, ◌&&◌, ◌==◌, List, [], ◌∷◌, length, refl, ap, ap₂, ◌∙◌, true≢false, sym}
use Rattle.std.proofs.lemmas.Bool.{and_parts}
use Rattle.cip_rational.specs.Rational.{ℚ}
use Rattle.cip_problem.specs.Program.{Sides}
use Rattle.cip_problem.specs.Box.{IsInBox, is_between}
use Rattle.cip_problem.proofs.Box.SideTests.{between_of_test, test_of_between}
use Rattle.cip_columns.specs.PoolPoints.{PoolPoint}
use Rattle.cip_columns.specs.ColumnPools.{is_inside, points_inside}

inside_in_box : (box : List Sides) (values : List ℚ) → is_inside box values ≡ true → IsInBox box values
inside_in_box [] [] e = tt
inside_in_box [] (v ∷ vs) e = absurd (true≢false (sym e))
inside_in_box (s ∷ ss) [] e = absurd (true≢false (sym e))
inside_in_box (s ∷ ss) (v ∷ vs) e =
    let parts = and_parts (is_between s.low s.high v) (is_inside ss vs) e in
    (between_of_test s.low s.high v parts.0, inside_in_box ss vs parts.1)

in_box_inside : (box : List Sides) (values : List ℚ) → IsInBox box values → is_inside box values ≡ true
in_box_inside [] [] h = refl
in_box_inside [] (v ∷ vs) h = absurd h
in_box_inside (s ∷ ss) [] h = absurd h
in_box_inside (s ∷ ss) (v ∷ vs) h = ap₂ (λ x y. x && y) (test_of_between s.low s.high v h.0) (in_box_inside ss vs h.1)

pub inside_means : (box : List Sides) (values : List ℚ) → (is_inside box values ≡ true) ↔ IsInBox box values
inside_means box values = (inside_in_box box values, in_box_inside box values)

-- lists of two lengths
pub other_length : (box : List Sides) (values : List ℚ) → (length box ≡ length values → ⊥)
    → false ≡ is_inside box values
other_length [] [] n = absurd (n refl)
other_length [] (v ∷ vs) n = refl
other_length (s ∷ ss) [] n = refl
other_length (s ∷ ss) (v ∷ vs) n = other_last (is_between s.low s.high v) (is_inside ss vs)
    (other_length ss vs (λ e. n (ap suc e)))
  where
    other_last : (a b : Bool) → false ≡ b → false ≡ (a && b)
    other_last true b e = e
    other_last false b e = refl

-- ---- the points that are left

pub inside_rest : (block : ℕ) (box : List Sides) (points : List PoolPoint) (first : PoolPoint)
    (others : List PoolPoint) → points ≡ first ∷ others
    → ((first.block == block) && is_inside box first.point) ≡ false
    → points_inside block box points ≡ points_inside block box others
inside_rest block box points first others e f = ap (points_inside block box) e ∙ ap
    (λ t. cond t (first ∷ points_inside block box others) (points_inside block box others)) f
