-- The definitions tried on rows that were worked out by hand.
use Rattle.std.proofs.Common.{◌≡◌, true, false, replicate, pos, negsuc, List, [], ◌∷◌, None, Some, refl, sym, ap, ap₂, ◌∙◌, arith, lit<}
use Rattle.cip_rational.specs.Rational.{ℚ, ◌+ℚ◌, ◌-ℚ◌, ◌*ℚ◌, negate, inverse, whole, ratio, zeroℚ, oneℚ, lt_test}
use Rattle.cip_rational.proofs.Rational.Ring.{*ℚ_comm, *ℚ-one, integer_is}
use Rattle.cip_rational.proofs.Rational.Ratio.{ratio-mul, ratio-cancel, integer_ratio}
use Rattle.cip_rational.proofs.Rational.Order.{test_of_lt, lt_test_of_le}
use Rattle.cip_rational.proofs.Rational.Inverse.{inverse_unique}
use Rattle.cip_rational.proofs.Linear.{linear_lt, linear_le, linear_same}
use Rattle.cip_problem.specs.Program.{Sides}
use Rattle.cip_problem.specs.BoxBound.{sum_if_both, least_cost}
use Rattle.cip_problem.specs.Aggregate.{Inequality, table, aggregate, bound_of, Empties, only, implied_sides}
use Rattle.cip_problem.specs.LinearExamples.{half, unit_box, half_row, half_of_five, at_least_two_at_most_one, at_one}
use Rattle.cip_problem.proofs.Aggregates.{inequality_same}
use Rattle.cip_problem.proofs.Certificates.{no_cost, bound_of_same}

-- twice a half
twice_half : whole 2 0 *ℚ half ≡ whole 1 0
twice_half =
    ap (λ t. t *ℚ half) (sym (integer_is (pos 2)) ∙ sym (integer_ratio (pos 2))) ∙ ratio-mul (pos 2) (pos 1) 1 2 (lit< tt) (lit< tt) ∙ ratio-cancel (pos 1) 1 2 (lit< tt) (lit< tt) ∙ integer_ratio (pos 1) ∙ integer_is (pos 1)

twice_five_halves : whole 2 0 *ℚ ratio (pos 5) 2 ≡ whole 5 0
twice_five_halves =
    ap (λ t. t *ℚ ratio (pos 5) 2) (sym (integer_is (pos 2)) ∙ sym (integer_ratio (pos 2))) ∙ ratio-mul (pos 2) (pos 5) 1 2 (lit< tt) (lit< tt) ∙ ratio-cancel (pos 5) 1 2 (lit< tt) (lit< tt) ∙ integer_ratio (pos 5) ∙ integer_is (pos 5)

twice_three_halves : whole 2 0 *ℚ ratio (negsuc 2) 2 ≡ whole 0 3
twice_three_halves =
    ap (λ t. t *ℚ ratio (negsuc 2) 2) (sym (integer_is (pos 2)) ∙ sym (integer_ratio (pos 2))) ∙ ratio-mul (pos 2) (negsuc 2) 1 2 (lit< tt) (lit< tt) ∙ ratio-cancel (negsuc 2) 1 2 (lit< tt) (lit< tt) ∙ integer_ratio (negsuc 2) ∙ integer_is (negsuc 2)

-- ---- half of 2 x + 2 y at most 3

pub half_row_is : aggregate 2 half_row ≡ record { coefficients = whole 0 1 ∷ whole 0 1 ∷ []; least = ratio (negsuc 2) 2 }
unfolding table
half_row_is =
    let a = twice_half in
    let b = twice_three_halves in
    let c = *ℚ_comm half (whole 2 0) in
    let d = *ℚ_comm half (whole 3 0) in
    inequality_same _ _
    (ap₂ (λ x y. x ∷ y ∷ []) (linear_same (half ∷ (half *ℚ whole 2 0) ∷ []) (λ s w. let m = s.products tt in omega (arith, s.same_out))) (linear_same (half ∷ (half *ℚ whole 2 0) ∷ []) (λ s w. let m = s.products tt in omega (arith, s.same_out))))
    (linear_same (half ∷ ratio (negsuc 2) 2 ∷ (half *ℚ whole 3 0) ∷ []) (λ s w. let m = s.products tt in omega (arith, s.same_out)))

-- ---- half of 2 x1 + .. + 2 x5 equal to 5

half_of_two : (a : ℚ) → a ≡ whole 2 0 → half *ℚ a +ℚ zeroℚ ≡ oneℚ
half_of_two a e =
    let b = twice_half in
    let c = *ℚ_comm half (whole 2 0) in
    rw e (linear_same ((half *ℚ whole 2 0) ∷ half ∷ []) (λ s w. omega (arith, s.same_out)))

half_of_five_sides : half *ℚ whole 5 0 +ℚ zeroℚ ≡ ratio (pos 5) 2
half_of_five_sides =
    let a = twice_half in
    let b = twice_five_halves in
    let c = *ℚ_comm half (whole 5 0) in
    linear_same (half ∷ ratio (pos 5) 2 ∷ (half *ℚ whole 5 0) ∷ []) (λ s w. omega (arith, s.same_out))

five_row_is : aggregate 5 half_of_five ≡ record { coefficients = replicate 5 oneℚ; least = ratio (pos 5) 2 }
unfolding table
five_row_is =
    let cons = λ (x : ℚ) (xs : List ℚ). x ∷ xs in
    inequality_same _ _
    (ap₂ cons (half_of_two _ (linear_same [] (λ s w. omega arith))) (ap₂ cons (half_of_two _ (linear_same [] (λ s w. omega arith))) (ap₂ cons (half_of_two _ (linear_same [] (λ s w. omega arith))) (ap₂ cons (half_of_two _ (linear_same [] (λ s w. omega arith))) (ap (λ (x : ℚ). x ∷ []) (half_of_two _ (linear_same [] (λ s w. omega arith))))))))
    half_of_five_sides

pub half_of_five_is : bound_of (aggregate 5 half_of_five) (replicate 5 oneℚ) (unit_box 5) ≡ Some (ratio (pos 5) 2)
half_of_five_is =
    ap (λ (row : Inequality). bound_of row (replicate 5 oneℚ) (unit_box 5)) five_row_is ∙ bound_of_same (replicate 5 oneℚ) (ratio (pos 5) 2) (unit_box 5)

-- ---- x at least 2 and at most 1

pub contradiction_is : aggregate 1 at_least_two_at_most_one ≡ record { coefficients = zeroℚ ∷ []; least = whole 1 0 }
unfolding table
contradiction_is =
    let first : oneℚ *ℚ (oneℚ +ℚ zeroℚ) +ℚ (negate oneℚ *ℚ (oneℚ +ℚ zeroℚ) +ℚ zeroℚ) ≡ zeroℚ = linear_same [] (λ s w. let m = s.products tt in omega arith) in
    let least : oneℚ *ℚ whole 2 0 +ℚ (negate oneℚ *ℚ whole 1 0 +ℚ zeroℚ) ≡ whole 1 0 = linear_same [] (λ s w. let m = s.products tt in omega arith) in
    inequality_same _ _ (ap (λ x. x ∷ []) first) least

pub contradiction : (sides : Sides) → Empties (aggregate 1 at_least_two_at_most_one) (sides ∷ [])
contradiction sides =
    let e : zeroℚ -ℚ zeroℚ ≡ zeroℚ = linear_same [] (λ s w. omega arith) in
    let f : least_cost (zeroℚ -ℚ zeroℚ) sides ≡ Some zeroℚ = ap (λ t. least_cost t sides) e ∙ no_cost sides in
    let g : bound_of (record { coefficients = zeroℚ ∷ []; least = whole 1 0 }) [] (sides ∷ []) ≡ Some (whole 1 0 +ℚ (zeroℚ +ℚ zeroℚ)) = ap (λ t. sum_if_both (Some (whole 1 0)) (sum_if_both t (Some zeroℚ))) f in
    record {
      bound = whole 1 0 +ℚ (zeroℚ +ℚ zeroℚ);
      is_bound = ap (λ (row : Inequality). bound_of row [] (sides ∷ [])) contradiction_is ∙ g;
      positive = linear_lt [] (λ s w. omega arith);
    }

-- ---- half of 2 x + 2 y at most 3, where x is 1

negative_test : lt_test (whole 0 1) zeroℚ ≡ true
negative_test = test_of_lt (linear_lt [] (λ s w. omega arith))

positive_test : lt_test zeroℚ (whole 0 1) ≡ false
positive_test = lt_test_of_le (linear_le [] (λ s w. omega arith))

one_at_one : least_cost (zeroℚ -ℚ whole 0 1) at_one ≡ Some ((zeroℚ -ℚ whole 0 1) *ℚ oneℚ)
one_at_one =
    let a : lt_test (zeroℚ -ℚ whole 0 1) zeroℚ ≡ false = lt_test_of_le (linear_le [] (λ s w. omega arith)) in
    let b : lt_test zeroℚ (zeroℚ -ℚ whole 0 1) ≡ true = test_of_lt (linear_lt [] (λ s w. omega arith)) in
    rw (a, b) refl

none_at_all : (sides : Sides) → least_cost (whole 0 1 -ℚ whole 0 1) sides ≡ Some zeroℚ
none_at_all sides =
    let e : whole 0 1 -ℚ whole 0 1 ≡ zeroℚ = linear_same [] (λ s w. omega arith) in
    ap (λ t. least_cost t sides) e ∙ no_cost sides

-- -x - y at least -3/2
abbrev three_halves : Inequality
three_halves = record { coefficients = whole 0 1 ∷ whole 0 1 ∷ []; least = ratio (negsuc 2) 2 }

rest_is : bound_of three_halves (only 1 (whole 0 1)) (at_one ∷ unit_box 1) ≡ Some (ratio (negsuc 2) 2 +ℚ ((zeroℚ -ℚ whole 0 1) *ℚ oneℚ +ℚ (zeroℚ +ℚ zeroℚ)))
rest_is =
    ap₂ (λ t u. sum_if_both (Some (ratio (negsuc 2) 2)) (sum_if_both t (sum_if_both u (Some zeroℚ)))) one_at_one (none_at_all (record { low = Some zeroℚ; high = Some oneℚ }))

quotient_is : (ratio (negsuc 2) 2 +ℚ ((zeroℚ -ℚ whole 0 1) *ℚ oneℚ +ℚ (zeroℚ +ℚ zeroℚ))) *ℚ inverse (whole 0 1) ≡ half
quotient_is =
    let i : inverse (whole 0 1) ≡ negate oneℚ = inverse_unique (whole 0 1) (negate oneℚ) (linear_same [] (λ s w. let m = s.products tt in omega arith)) in
    let a = twice_half in
    let b = twice_three_halves in
    let c : (zeroℚ -ℚ whole 0 1) *ℚ oneℚ ≡ oneℚ = *ℚ-one (zeroℚ -ℚ whole 0 1) ∙ linear_same [] (λ s w. omega arith) in
    let d : ratio (negsuc 2) 2 +ℚ ((zeroℚ -ℚ whole 0 1) *ℚ oneℚ +ℚ (zeroℚ +ℚ zeroℚ)) ≡ negate half = linear_same (half ∷ ratio (negsuc 2) 2 ∷ ((zeroℚ -ℚ whole 0 1) *ℚ oneℚ) ∷ []) (λ s w. omega (arith, s.same_out)) in
    rw (i, d) (linear_same (half ∷ []) (λ s w. let m = s.products tt in omega arith))

pub implied : implied_sides (aggregate 2 half_row) (at_one ∷ unit_box 1) 1 ≡ record { low = None; high = Some half }
implied =
    ap (λ (row : Inequality). implied_sides row (at_one ∷ unit_box 1) 1) half_row_is
    ∙ rw (negative_test, positive_test, rest_is, quotient_is) refl
