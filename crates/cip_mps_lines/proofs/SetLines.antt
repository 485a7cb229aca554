-- Lines of RHS, RANGES and BOUNDS by their sets and what stands behind them.
use Rattle.std.proofs.Common.{◌≡◌, ℕ, ◌<◌, ◌≤◌, List, [], ◌∷◌, length, Option, None, Some, refl, arith}
use Rattle.cip_text_rules.specs.MpsWords.{BoundKind}
use Rattle.cip_text_rules.specs.MpsSayings.{Value, Saying, Miscounted, RightSideLine, RangeLine, BoundLine, no_value, of_set, right_side_said, range_said, valued_bound, plain_bound}
use Rattle.cip_mps_lines.specs.SetWords.{set_values, set_column}

-- ---- lines of BOUNDS with a wrong number of words

pub valued_few : (first : Option (List ℕ)) (kind : BoundKind) (words : List (List ℕ)) → length words < 2 → Miscounted ≡ valued_bound first kind words
valued_few first kind [] h = refl
valued_few first kind (a ∷ []) h = refl
valued_few first kind (a ∷ b ∷ words) h = absurd (omega (arith, h))

pub valued_many : (first : Option (List ℕ)) (kind : BoundKind) (words : List (List ℕ)) → 4 ≤ length words → Miscounted ≡ valued_bound first kind words
valued_many first kind [] h = refl
valued_many first kind (a ∷ []) h = refl
valued_many first kind (a ∷ b ∷ []) h = absurd (omega (arith, h))
valued_many first kind (a ∷ b ∷ c ∷ []) h = absurd (omega (arith, h))
valued_many first kind (a ∷ b ∷ c ∷ d ∷ words) h = refl

-- ---- by what stands behind the words

-- what a line with this set and these values says, if they are there
abbrev pub values_told : (List ℕ → List Value → Saying) → Option (List ℕ) → Option (List ℕ × List Value) → Saying
values_told saying first None = Miscounted
values_told saying first (Some said) = of_set first said.0 (saying said.0 said.1)

pub right_side_told : (first : Option (List ℕ)) (words : List (List ℕ)) → values_told RightSideLine first (set_values words) ≡ right_side_said first words
right_side_told first [] = refl
right_side_told first (a ∷ []) = refl
right_side_told first (a ∷ b ∷ []) = refl
right_side_told first (a ∷ b ∷ c ∷ []) = refl
right_side_told first (a ∷ b ∷ c ∷ d ∷ []) = refl
right_side_told first (a ∷ b ∷ c ∷ d ∷ e ∷ []) = refl
right_side_told first (a ∷ b ∷ c ∷ d ∷ e ∷ f ∷ words) = refl

pub range_told : (first : Option (List ℕ)) (words : List (List ℕ)) → values_told RangeLine first (set_values words) ≡ range_said first words
range_told first [] = refl
range_told first (a ∷ []) = refl
range_told first (a ∷ b ∷ []) = refl
range_told first (a ∷ b ∷ c ∷ []) = refl
range_told first (a ∷ b ∷ c ∷ d ∷ []) = refl
range_told first (a ∷ b ∷ c ∷ d ∷ e ∷ []) = refl
range_told first (a ∷ b ∷ c ∷ d ∷ e ∷ f ∷ words) = refl

-- what a bound without a value says with this set and this column, if they are there
abbrev pub plain_told : BoundKind → Option (List ℕ) → Option (List ℕ × List ℕ) → Saying
plain_told kind first None = Miscounted
plain_told kind first (Some said) = of_set first said.0 (BoundLine kind said.0 said.1 no_value)

pub plain_bound_told : (first : Option (List ℕ)) (kind : BoundKind) (words : List (List ℕ)) → plain_told kind first (set_column words) ≡ plain_bound first kind words
plain_bound_told first kind [] = refl
plain_bound_told first kind (a ∷ []) = refl
plain_bound_told first kind (a ∷ b ∷ []) = refl
plain_bound_told first kind (a ∷ b ∷ c ∷ []) = refl
plain_bound_told first kind (a ∷ b ∷ c ∷ d ∷ words) = refl
