-- The definitions tried on the program of two blocks.
use Rattle.std.proofs.Common.{◌≡◌, ℕ, zero, suc, ◌<◌, pos, List, [], ◌∷◌, None, Some, refl, sym, ap, ap₂, ◌∙◌, arith, lit<}
use Rattle.std.specs.List.{AllByRecursion}
use Rattle.std.proofs.lemmas.List.Elements.{All-contains, All-from_recursion}
use Rattle.cip_rational.specs.Rational.{ℚ, ◌+ℚ◌, ◌-ℚ◌, ◌*ℚ◌, whole, zeroℚ, oneℚ, ◌≤ℚ◌}
use Rattle.cip_rational.specs.Sums.{dot}
use Rattle.cip_rational.proofs.Rational.Ring.{zero-*ℚ, integer_is}
use Rattle.cip_rational.proofs.Rational.Ratio.{ratio-mul, ratio-cancel, integer_ratio}
use Rattle.cip_rational.proofs.Rational.Whole.{IsWhole-one, IsWhole-zero}
use Rattle.cip_rational.proofs.Rational.Order.{≤ℚ_refl, ≤ℚ_of_lt, test_of_lt, lt_test_of_le}
use Rattle.cip_rational.proofs.Rational.Monotone.{zero-lt-one}
use Rattle.cip_rational.proofs.Linear.{linear_le, linear_same, linear_absurd}
use Rattle.cip_problem.specs.Activity.{activity, value_at}
use Rattle.cip_problem.specs.Box.{Between}
use Rattle.cip_problem.specs.LinearExamples.{half, unit_box}
use Rattle.cip_pricing.specs.Decomposition.{picked, IsDecomposed, IsBlockPoint}
use Rattle.cip_pricing.specs.Mixtures.{Held, IsConvex, IsPointAmong, IsMixture}
use Rattle.cip_pricing.specs.LeastCosts.{side_total, row_total, ShowsLeast}
use Rattle.cip_pricing.specs.Examples.{at_most_three, example, two_blocks, point_of, held_in_both}
use Rattle.cip_pricing.proofs.Mixing.{alone}

pub decomposed : IsDecomposed example two_blocks
decomposed = record {
  each_column = refl;
  column_owners = (lit< tt, (lit< tt, (lit< tt, (lit< tt, tt))));
  own_rows = ((refl, (refl, tt)), ((refl, (refl, tt)), (tt, tt)));
}

between_units : (value : ℚ) → zeroℚ ≤ℚ value → value ≤ℚ oneℚ → Between (Some zeroℚ) (Some oneℚ) value
between_units value l h = record { above = l; below = h }

zero_between : Between (Some zeroℚ) (Some oneℚ) zeroℚ
zero_between = between_units zeroℚ (≤ℚ_refl zeroℚ) (≤ℚ_of_lt zero-lt-one)

one_between : Between (Some zeroℚ) (Some oneℚ) oneℚ
one_between = between_units oneℚ (≤ℚ_of_lt zero-lt-one) (≤ℚ_refl oneℚ)

-- a block's row at 1 and 0, and at 0 and 1
first_row : (whole 2 0 *ℚ oneℚ) +ℚ ((whole 2 0 *ℚ zeroℚ) +ℚ zeroℚ) ≤ℚ whole 3 0
first_row = linear_le [] (λ s w. omega arith)

second_row : (whole 2 0 *ℚ zeroℚ) +ℚ ((whole 2 0 *ℚ oneℚ) +ℚ zeroℚ) ≤ℚ whole 3 0
second_row = linear_le [] (λ s w. omega arith)

pub first_point : (block : ℕ) → block < 2 → IsBlockPoint example two_blocks (unit_box 4) block (point_of oneℚ zeroℚ)
first_point zero i = record {
  within = (one_between, (zero_between, tt));
  whole = ((λ _. IsWhole-one), ((λ _. IsWhole-zero), tt));
  choices = λ column. tt;
  rows = (record { above = tt; below = first_row }, tt);
}
first_point (suc zero) i = record {
  within = (one_between, (zero_between, tt));
  whole = ((λ _. IsWhole-one), ((λ _. IsWhole-zero), tt));
  choices = λ column. tt;
  rows = (record { above = tt; below = first_row }, tt);
}
first_point (suc (suc k)) i = absurd (omega (arith, i))

second_point : IsBlockPoint example two_blocks (unit_box 4) 0 (point_of zeroℚ oneℚ)
second_point = record {
  within = (zero_between, (one_between, tt));
  whole = ((λ _. IsWhole-zero), ((λ _. IsWhole-one), tt));
  choices = λ column. tt;
  rows = (record { above = tt; below = second_row }, tt);
}

pub broken : ¬ IsBlockPoint example two_blocks (unit_box 4) 1 (point_of oneℚ oneℚ)
broken h =
    let k : (whole 2 0 *ℚ oneℚ) +ℚ ((whole 2 0 *ℚ oneℚ) +ℚ zeroℚ) ≤ℚ whole 3 0 = h.rows.0.below in
    linear_absurd [] (λ s w. omega (arith, s.le_out))

-- ---- a mixture

twice_half : whole 2 0 *ℚ half ≡ whole 1 0
twice_half =
    ap (λ t. t *ℚ half) (sym (integer_is (pos 2)) ∙ sym (integer_ratio (pos 2))) ∙ ratio-mul (pos 2) (pos 1) 1 2
    (lit< tt) (lit< tt) ∙ ratio-cancel (pos 1) 1 2 (lit< tt) (lit< tt) ∙ integer_ratio (pos 1) ∙ integer_is (pos 1)

half_nonneg : zeroℚ ≤ℚ half
half_nonneg = let e = twice_half in linear_le (half ∷ []) (λ s w. omega (arith, s.same_out))

two_halves : half +ℚ (half +ℚ zeroℚ) ≡ oneℚ
two_halves = let e = twice_half in linear_same (half ∷ []) (λ s w. omega (arith, s.same_out))

half_first : half ≡ half *ℚ oneℚ +ℚ half *ℚ zeroℚ
half_first = linear_same (half ∷ []) (λ s w. let m = s.products tt in omega arith)

half_second : half ≡ half *ℚ zeroℚ +ℚ half *ℚ oneℚ
half_second = linear_same (half ∷ []) (λ s w. let m = s.products tt in omega arith)

halves : IsConvex (IsPointAmong example two_blocks (unit_box 4) None 0) (point_of half half)
halves = record {
  weights = half ∷ half ∷ [];
  points = point_of oneℚ zeroℚ ∷ point_of zeroℚ oneℚ ∷ [];
  nonneg = (half_nonneg, (half_nonneg, tt));
  one = two_halves;
  paired = refl;
  kind = (
    record { is_point = first_point 0 (lit< tt); is_among = tt },
    (record { is_point = second_point; is_among = tt }, tt),
  );
  mean = ap₂ (λ x y. x ∷ y ∷ []) half_first half_second;
}

pub mixture : IsMixture example two_blocks (unit_box 4) None (half ∷ half ∷ oneℚ ∷ zeroℚ ∷ [])
mixture = record { long = refl; convex = each; free = tt }
  where
    each : (block : ℕ) → block < 2
        → IsConvex (IsPointAmong example two_blocks (unit_box 4) None block)
        (picked (Some block) two_blocks.columns (half ∷ half ∷ oneℚ ∷ zeroℚ ∷ []))
    each zero i = halves
    each (suc zero) i = alone (IsPointAmong example two_blocks (unit_box 4) None 1) (point_of oneℚ zeroℚ)
        (record { is_point = first_point 1 (lit< tt); is_among = tt })
    each (suc (suc k)) i = absurd (omega (arith, i))

-- ---- the bound at multiplier 0

zero_side : side_total (zeroℚ ∷ []) (at_most_three 4 0 oneℚ ∷ []) ≡ Some (zeroℚ +ℚ zeroℚ)
zero_side = rw (lt_test_of_le (≤ℚ_refl zeroℚ)) refl

one_price : whole 0 2 ≤ℚ (whole 0 2 *ℚ oneℚ) +ℚ ((whole 0 1 *ℚ zeroℚ) +ℚ zeroℚ)
one_price = linear_le [] (λ s w. omega arith)

costs_left : (point : List ℚ)
    → dot example.costs point ≡ dot example.costs point -ℚ row_total (zeroℚ ∷ []) (at_most_three 4 0 oneℚ ∷ []) point
costs_left point =
    let a : ℚ = activity (at_most_three 4 0 oneℚ).terms point in
    let e : zeroℚ *ℚ a ≡ zeroℚ = zero-*ℚ a in
    linear_same (dot example.costs point ∷ (zeroℚ *ℚ a) ∷ []) (λ s w. omega (arith, s.same_out))

-- a held point costs at least the price of its block
abbrev CostsThePrice : Held → Type 0
CostsThePrice h =
    value_at (whole 0 2 ∷ whole 0 2 ∷ []) h.block ≤ℚ dot (picked (Some h.block) two_blocks.columns example.costs)
    h.point

held_prices : AllByRecursion CostsThePrice held_in_both
held_prices = (one_price, (one_price, tt))

four_at_most : whole 0 4 ≤ℚ ((zeroℚ +ℚ zeroℚ) +ℚ zeroℚ) +ℚ ((zeroℚ +ℚ whole 0 2) +ℚ whole 0 2)
four_at_most = linear_le [] (λ s w. omega arith)

pub least : ShowsLeast example two_blocks (unit_box 4) (Some held_in_both) example.costs (zeroℚ ∷ [])
    (whole 0 2 ∷ whole 0 2 ∷ []) (whole 0 4)
least = record {
  rests = example.costs;
  sides = zeroℚ +ℚ zeroℚ;
  are_rests = record { long = refl; form = costs_left };
  side_sum = zero_side;
  priced = λ block point i p.
      All-contains CostsThePrice held_in_both (record { block = block; point = point })
      (All-from_recursion CostsThePrice held_in_both held_prices) p.is_among;
  free = λ values w. four_at_most;
}

pub no_side : side_total (oneℚ ∷ []) (at_most_three 4 0 oneℚ ∷ []) ≡ None
no_side = rw (test_of_lt zero-lt-one) refl
