-- The definitions at values.
use Rattle.std.proofs.Common.{◌≡◌, ◌^◌, ◌-◌, ◌*◌, ◌/◌, ℕ, ℤ, pos, negsuc, ◌+ℤ◌, ◌*ℤ◌, Bool, true, false, not, ◌&&◌, ◌||◌, nat_le, nat_lt, [], ◌∷◌, None, Some, refl, sym, ap, ◌∙◌, subst, lit≤, arith}
use Rattle.std.specs.Prelude.{◌≤ℤ◌}
use Rattle.std.proofs.lemmas.Bool.{false≢true}
use Rattle.std.proofs.lemmas.Option.{none-some, same_Some}
use Rattle.cip_rational.specs.Gcd.{gcd}
use Rattle.cip_rational.specs.Rational.{ℚ, ◌≤ℚ◌, zeroℚ, ◌*ℚ◌, ◌+ℚ◌, whole, integer, numerator, denominator, negate}
use Rattle.cip_rational.specs.Range.{largest, magnitude, too_large, fits_range, sum_overflows, difference_overflows, product_overflows}
use Rattle.cip_rational.proofs.Rational.Lowest.{numerator-integer, denominator-integer}
use Rattle.cip_rational.proofs.Rational.Rounding.{integer-mul, integer-negate, integer-zero, le_integer, integer_le}
use Rattle.cip_rational.proofs.Rational.Order.{≤ℚ_refl}
use Rattle.cip_rational.proofs.Rational.Ring.{zero-+ℚ, zero_is}
use Rattle.cip_problem.specs.Program as problem
use Rattle.std.proofs.lemmas.Int.{ints}
use Rattle.cip_rational.proofs.Rational.Whole.{IsWhole-integer}
use Rattle.cip_rational.proofs.Range.InRange.{fits-integer, fits_product}
use Rattle.cip_rational.proofs.WithZero.{zero-sum_overflows}
use Rattle.cip_rational.proofs.Linear.{linear_le}
use Rattle.cip_rational.proofs.Rational.Monotone.{whole_le, le_whole}
use Rattle.cip_rational.proofs.Tried.{whole_sum}
use Rattle.cip_problem.specs.Examples.{semi_example, at_x}
use Rattle.cip_search.specs.Leaf.{IsLeaf, at_wholes, IsLeafOf, IsPointOfLeaf}
use Rattle.cip_search.specs.Wide.{InRow, InCost, added, is_wide_row, IsWideAt, fixed_part, fixed_cost, shift_overflows, fixed_values}
use Rattle.cip_search.specs.LeafExamples.{wide_program, leaf_of, leaf_at}

-- 10^37 times 18 is out of the range
not_fits : (q : ℚ) (y : ℤ) (d : ℕ) → numerator q ≡ y → denominator q ≡ d → fits_range q ≡ (nat_le (magnitude y) largest && nat_le d largest)
unfolding fits_range
not_fits q y d p r = rw (p, r) refl

too_wide : product_overflows (integer (pos (10 ^ 37))) (integer (pos 18)) ≡ true
unfolding product_overflows
too_wide =
    ap (λ q. not (fits_range q)) (sym (integer-mul (pos (10 ^ 37)) (pos 18)))
    ∙ ap not (not_fits _ (pos (10 ^ 37 * 18)) 1 (numerator-integer _) (denominator-integer _))

-- what a product and a sum come to that stay in the range
added_within : (sum a b : ℚ) → product_overflows a b ≡ false → sum_overflows sum (a *ℚ b) ≡ false → added sum a b ≡ Some (sum +ℚ (a *ℚ b))
added_within sum a b p q = rw (p, q) refl

added_beyond : (sum a b : ℚ) → product_overflows a b ≡ true → added sum a b ≡ None
added_beyond sum a b p = rw p refl

pub wide : IsWideAt wide_program (leaf_of 18) (InRow 0)
wide = record {
  row = record { terms = record { column = 0; coefficient = integer (pos (10 ^ 37)) } ∷ []; low = Some zeroℚ; high = None };
  is_row = refl;
  wide = rw (added_beyond zeroℚ (integer (pos (10 ^ 37))) (integer (pos 18)) too_wide) refl;
}

-- 17 times 10^37
product : ℚ
product = integer (pos (10 ^ 37)) *ℚ integer (pos 17)

product_is : integer (pos (10 ^ 37)) *ℚ integer (pos 17) ≡ integer (pos (10 ^ 37 * 17))
product_is = sym (integer-mul (pos (10 ^ 37)) (pos 17))

product_fits : fits_range (integer (pos (10 ^ 37)) *ℚ integer (pos 17)) ≡ true
product_fits = ap fits_range product_is ∙ fits-integer (pos (10 ^ 37 * 17)) (lit≤ tt)

part_is : added zeroℚ (integer (pos (10 ^ 37))) (integer (pos 17)) ≡ Some (integer (pos (10 ^ 37 * 17)))
part_is =
    added_within zeroℚ _ _ (fits_product _ _ product_fits) (zero-sum_overflows _ product_fits)
    ∙ ap Some (zero-+ℚ _ ∙ product_is)

negative_is : negate (integer (pos (10 ^ 37 * 17))) ≡ integer (negsuc (10 ^ 37 * 17 - 1))
negative_is = sym (integer-negate (pos (10 ^ 37 * 17)))

unshifted : difference_overflows zeroℚ (integer (pos (10 ^ 37 * 17))) ≡ false
unfolding difference_overflows
unshifted = zero-sum_overflows _ (ap fits_range negative_is ∙ fits-integer (negsuc (10 ^ 37 * 17 - 1)) (lit≤ tt))

narrow_row : (row : problem.Row) → Some (record { terms = record { column = 0; coefficient = integer (pos (10 ^ 37)) } ∷ []; low = Some zeroℚ; high = None }) ≡ Some row → is_wide_row row (fixed_part wide_program (leaf_of 17) row) ≡ false
narrow_row row e = subst (λ r. is_wide_row r (fixed_part wide_program (leaf_of 17) r) ≡ false) (same_Some _ row e) (rw (part_is, unshifted) refl)

pub narrow : ¬ IsWideAt wide_program (leaf_of 17) (InRow 0)
narrow h = false≢true (sym (narrow_row h.row h.is_row) ∙ h.wide)

pub leaf : IsLeaf wide_program (leaf_of 18)
leaf = (
  record {
    between = record {
      above = subst (λ q. q ≤ℚ integer (pos 18)) integer-zero (integer_le (pos 0) (pos 18) (omega (arith, ints)));
      below = ≤ℚ_refl (integer (pos 18));
    };
    whole = IsWhole-integer (pos 18);
  },
  tt,
)

pub outside : ¬ IsLeaf wide_program (leaf_of 19)
outside h = let l : pos 19 ≤ℤ pos 18 = le_integer (pos 19) (pos 18) h.0.between.below in omega (arith, ints, l)

pub no_row : ¬ IsWideAt wide_program (leaf_of 18) (InRow 1)
no_row h = none-some _ h.is_row

-- -1 times 18
minus_is : integer (negsuc 0) *ℚ integer (pos 18) ≡ integer (negsuc 17)
minus_is = sym (integer-mul (negsuc 0) (pos 18))

minus_fits : fits_range (integer (negsuc 0) *ℚ integer (pos 18)) ≡ true
minus_fits = ap fits_range minus_is ∙ fits-integer (negsuc 17) (lit≤ tt)

cost_is : added zeroℚ (integer (negsuc 0)) (integer (pos 18)) ≡ Some (zeroℚ +ℚ (integer (negsuc 0) *ℚ integer (pos 18)))
cost_is = added_within zeroℚ _ _ (fits_product _ _ minus_fits) (zero-sum_overflows _ minus_fits)

pub cost : ¬ IsWideAt wide_program (leaf_of 18) InCost
cost h =
    let formed_cost : fixed_cost wide_program (leaf_of 18) ≡ Some (zeroℚ +ℚ (integer (negsuc 0) *ℚ integer (pos 18))) = rw cost_is refl in
    none-some _ (sym h ∙ formed_cost)

-- whether the sum of y / d and z / e overflows, both in lowest terms
abbrev formed : ℤ → ℕ → ℤ → ℕ → Bool
formed y d z e =
    too_large (y *ℤ pos (e / gcd d e)) || too_large (z *ℤ pos (d / gcd d e)) || too_large (y *ℤ pos (e / gcd d e) +ℤ z *ℤ pos (d / gcd d e)) || nat_lt largest (d / gcd d e * e)

sum_formed : (a b : ℚ) (y z : ℤ) (d e : ℕ) → numerator a ≡ y → denominator a ≡ d → numerator b ≡ z → denominator b ≡ e → sum_overflows a b ≡ formed y d z e
unfolding sum_overflows
sum_formed a b y z d e p q r s = rw (p, q, r, s) refl

pub shifted : shift_overflows (Some (integer (pos (2 ^ 126)))) (integer (negsuc (2 ^ 126 - 1))) ≡ true
unfolding difference_overflows
shifted = ap (λ q. sum_overflows (integer (pos (2 ^ 126))) q) (sym (integer-negate (negsuc (2 ^ 126 - 1)))) ∙ whole_sum

pub picked : at_wholes {X = ℕ} (true ∷ false ∷ true ∷ []) (1 ∷ 2 ∷ 3 ∷ []) ≡ 1 ∷ 3 ∷ []
picked = refl

pub spread : fixed_values (true ∷ false ∷ true ∷ []) (integer (pos 1) ∷ integer (pos 3) ∷ []) ≡ Some (integer (pos 1)) ∷ None ∷ Some (integer (pos 3)) ∷ []
spread = refl

-- ---- a semi-continuous column

pub on_leaf : IsLeafOf semi_example (leaf_at (true ∷ []))
on_leaf = record { each = refl; values = tt }

pub on_point : IsPointOfLeaf semi_example (leaf_at (true ∷ [])) (at_x (whole 2 0))
on_point = record {
  feasible = record {
    within = (record { above = ≤ℚ_refl (whole 2 0); below = whole_le 2 0 5 0 (omega arith) }, tt);
    whole = (λ e. absurd (false≢true e), tt);
    choices = λ column. tt;
    rows = (record { above = linear_le [] (λ s w. omega arith); below = tt }, tt);
  };
  values = refl;
}

pub not_off : ¬ IsPointOfLeaf semi_example (leaf_at (false ∷ [])) (at_x (whole 2 0))
not_off h = absurd (omega (arith, le_whole 2 0 0 0 (subst (λ t. whole 2 0 ≤ℚ t) zero_is h.feasible.within.0.below)))

pub no_choice : ¬ IsLeafOf semi_example (leaf_at [])
no_choice h = absurd (omega (arith, h.each))
