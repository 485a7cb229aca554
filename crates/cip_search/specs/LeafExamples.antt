-- The definitions tried: minimise -x, where 10^37 x is at least 0 and x is whole from 0 to 18. 17 is the greatest value
-- whose product is in the range.
use Rattle.std.specs.Prelude.{◌≡◌, ◌^◌, ◌-◌, ℕ, pos, negsuc, Bool, true, false, List, [], ◌∷◌, None, Some}
use Rattle.cip_rational.specs.Rational.{ℚ, whole, integer, zeroℚ}
use Rattle.cip_problem.specs.Program.{Program}
use Rattle.cip_problem.specs.Examples.{semi_example, at_x}
use Rattle.cip_search.specs.Leaf.{at_wholes, IsLeaf, Leaf, IsLeafOf, IsPointOfLeaf}
use Rattle.cip_search.specs.Wide.{InRow, InCost, IsWideAt, fixed_values, shift_overflows}

-- 10^37 x is at least 0
abbrev pub wide_program : Program
wide_program = record {
  column_names = (120 ∷ []) ∷ [];
  row_names = (114 ∷ []) ∷ [];
  rows =
      record {
        terms = record { column = 0; coefficient = integer (pos (10 ^ 37)) } ∷ [];
        low = Some zeroℚ;
        high = None;
      } ∷ [];
  costs = integer (negsuc 0) ∷ [];
  constant = zeroℚ;
  maximized = false;
  integral = true ∷ [];
  bounds = record { low = Some zeroℚ; high = Some (integer (pos 18)) } ∷ [];
  choices = [];
}

-- the leaf of one value
abbrev pub leaf_of : ℕ → List ℚ
leaf_of n = integer (pos n) ∷ []

-- the leaf of a program without whole columns where these columns are on
abbrev pub leaf_at : List Bool → Leaf
leaf_at on = record { values = []; on = on }

pub record Examples : Type 0 where
  pub leaf : IsLeaf wide_program (leaf_of 18)
  pub outside : ¬ IsLeaf wide_program (leaf_of 19)
  pub wide : IsWideAt wide_program (leaf_of 18) (InRow 0)
  pub narrow : ¬ IsWideAt wide_program (leaf_of 17) (InRow 0)
  pub no_row : ¬ IsWideAt wide_program (leaf_of 18) (InRow 1)
  pub cost : ¬ IsWideAt wide_program (leaf_of 18) InCost
  -- 2^126 less -2^126 is out of the range, though both are in it
  pub shifted : shift_overflows (Some (integer (pos (2 ^ 126)))) (integer (negsuc (2 ^ 126 - 1))) ≡ true
  -- of three columns the second is continuous
  pub picked : at_wholes {X = ℕ} (true ∷ false ∷ true ∷ []) (1 ∷ 2 ∷ 3 ∷ []) ≡ 1 ∷ 3 ∷ []
  pub spread :
      fixed_values (true ∷ false ∷ true ∷ []) (integer (pos 1) ∷ integer (pos 3) ∷ [])
      ≡ Some (integer (pos 1)) ∷ None ∷ Some (integer (pos 3)) ∷ []
  -- of a semi-continuous column from 2 to 5 the value 2 is on, and not off; one that is neither is no leaf
  pub on_leaf : IsLeafOf semi_example (leaf_at (true ∷ []))
  pub on_point : IsPointOfLeaf semi_example (leaf_at (true ∷ [])) (at_x (whole 2 0))
  pub not_off : ¬ IsPointOfLeaf semi_example (leaf_at (false ∷ [])) (at_x (whole 2 0))
  pub no_choice : ¬ IsLeafOf semi_example (leaf_at [])
