-- The laws of floor and ceiling, the gap between whole numbers, and integers among the rationals.
use borrow.Author.Differences.{up, down, neg_is, product_is, sum_is_lem, same_in, at_most_in, below_in, le_out, lt_out}
use Rattle.std.proofs.Common.{◌≡◌, ◌⊎◌, inl, inr, [], ◌∷◌, ◌+◌, ◌*◌, ℤ, pos, neg_ℤ, ◌+ℤ◌, ◌-ℤ◌, ◌*ℤ◌, ◌≤ℤ◌, ◌<ℤ◌, sym, ap, ap₂, ◌∙◌, subst, subst₂, arith, zero-lt-suc}
use Rattle.cip_rational.specs.Rational.{ℚ, ◌+ℚ◌, ◌-ℚ◌, ◌*ℚ◌, negate, integer, zeroℚ, oneℚ, ◌≤ℚ◌, ◌<ℚ◌, numerator, denominator, is_ratio, floor, ceil, IsWhole}
use Rattle.cip_rational.proofs.Rational.Ratio.{ratio-le, ratio-lt}
use Rattle.cip_rational.proofs.Rational.Lowest.{denominator-pos}
use Rattle.cip_rational.proofs.Rational.Whole.{floor_lem, whole_is, IsWhole-integer, integer-pos}
use Rattle.cip_rational.proofs.Rational.Ring.{whole_same, whole_add, whole_mul, whole_negate, integer_is, one_is, zero_is, sub_is}
use Rattle.cip_rational.proofs.Rational.Order.{≤ℚ_trans, <ℚ_of_le_of_lt, ≤ℚ_refl, le_or_lt}
use Rattle.cip_rational.proofs.Rational.Monotone.{whole_le, le_whole, whole_lt, lt_whole}
use Rattle.cip_rational.proofs.Linear.{linear_le, linear_lt}

-- ---- integers among the rationals

pub integer_le : (y z : ℤ) → y ≤ℤ z → integer y ≤ℚ integer z
integer_le y z h = rw (integer_is y, integer_is z) (whole_le (up y) (down y) (up z) (down z) (le_out y z h))

pub le_integer : (y z : ℤ) → integer y ≤ℚ integer z → y ≤ℤ z
le_integer y z h = at_most_in y z (le_whole (up y) (down y) (up z) (down z) (subst₂ (λ s t. s ≤ℚ t) (integer_is y) (integer_is z) h))

pub integer_lt : (y z : ℤ) → y <ℤ z → integer y <ℚ integer z
integer_lt y z h = rw (integer_is y, integer_is z) (whole_lt (up y) (down y) (up z) (down z) (lt_out y z h))

pub lt_integer : (y z : ℤ) → integer y <ℚ integer z → y <ℤ z
lt_integer y z h = below_in y z (lt_whole (up y) (down y) (up z) (down z) (subst₂ (λ s t. s <ℚ t) (integer_is y) (integer_is z) h))

pub integer-add : (y z : ℤ) → integer (y +ℤ z) ≡ integer y +ℚ integer z
integer-add y z =
    integer_is (y +ℤ z) ∙ whole_same _ _ _ _ (omega (arith, sum_is_lem y z)) ∙ sym (ap₂ (λ s t. s +ℚ t) (integer_is y) (integer_is z) ∙ whole_add (up y) (down y) (up z) (down z))

pub integer-negate : (z : ℤ) → integer (neg_ℤ z) ≡ negate (integer z)
integer-negate z =
    integer_is (neg_ℤ z) ∙ whole_same _ _ _ _ (omega (arith, neg_is z)) ∙ sym (ap negate (integer_is z) ∙ whole_negate (up z) (down z))

pub integer-sub : (y z : ℤ) → integer (y -ℤ z) ≡ integer y -ℚ integer z
integer-sub y z = integer-add y (neg_ℤ z) ∙ ap (λ t. integer y +ℚ t) (integer-negate z) ∙ sym (sub_is (integer y) (integer z))

pub integer-mul : (y z : ℤ) → integer (y *ℤ z) ≡ integer y *ℚ integer z
integer-mul y z =
    integer_is (y *ℤ z) ∙ whole_same _ _ _ _ (omega (arith, product_is y z)) ∙ sym (ap₂ (λ s t. s *ℚ t) (integer_is y) (integer_is z) ∙ whole_mul (up y) (down y) (up z) (down z))

pub integer-one : integer (pos 1) ≡ oneℚ
integer-one = integer-pos 1 ∙ sym one_is

pub integer-zero : integer (pos 0) ≡ zeroℚ
integer-zero = integer-pos 0 ∙ sym zero_is

-- ---- the floor

pub floor_le : (q : ℚ) → integer (floor q) ≤ℚ q
unfolding integer
floor_le q =
    let f = floor_lem q in
    let h = at_most_in (floor q *ℤ pos (denominator q)) (numerator q *ℤ pos 1) (omega (arith, f.low, product_is (floor q) (pos (denominator q)), product_is (numerator q) (pos 1))) in
    subst (λ t. integer (floor q) ≤ℚ t) (is_ratio q) (ratio-le (floor q) (numerator q) 1 (denominator q) (zero-lt-suc 0) (denominator-pos q) h)

lt_next : (q : ℚ) → q <ℚ integer (floor q +ℤ pos 1)
unfolding integer
lt_next q =
    let f = floor_lem q in
    let r = floor q in
    let d = denominator q in
    let s = sum_is_lem r (pos 1) in
    let s' : up (r +ℤ pos 1) * d + down r * d ≡ down (r +ℤ pos 1) * d + up r * d + d = omega (arith, ap (λ t. t * d) s) in
    let h = below_in (numerator q *ℤ pos 1) ((r +ℤ pos 1) *ℤ pos d) (omega (arith, f.high, s', product_is (r +ℤ pos 1) (pos d), product_is (numerator q) (pos 1))) in
    subst (λ t. t <ℚ integer (r +ℤ pos 1)) (is_ratio q) (ratio-lt (r +ℤ pos 1) (numerator q) 1 d (zero-lt-suc 0) (denominator-pos q) h)

pub lt_floor : (q : ℚ) → q <ℚ integer (floor q) +ℚ oneℚ
lt_floor q = subst (λ t. q <ℚ t) (integer-add (floor q) (pos 1) ∙ ap (λ t. integer (floor q) +ℚ t) integer-one) (lt_next q)

-- no greater whole number is at most q
pub floor_greatest : (q : ℚ) (z : ℤ) → integer z ≤ℚ q → z ≤ℤ floor q
floor_greatest q z h =
    let k = lt_integer z (floor q +ℤ pos 1) (<ℚ_of_le_of_lt h (lt_next q)) in
    at_most_in z (floor q) (omega (arith, lt_out z (floor q +ℤ pos 1) k, sum_is_lem (floor q) (pos 1)))

pub floor_unique : (q : ℚ) (z : ℤ) → integer z ≤ℚ q → q <ℚ integer z +ℚ oneℚ → floor q ≡ z
floor_unique q z h k =
    let e : integer (z +ℤ pos 1) ≡ integer z +ℚ oneℚ = integer-add z (pos 1) ∙ ap (λ t. integer z +ℚ t) integer-one in
    let l = floor_greatest q z h in
    let m = lt_integer (floor q) (z +ℤ pos 1) (rw e (<ℚ_of_le_of_lt (floor_le q) k)) in
    same_in (floor q) z (omega (arith, le_out z (floor q) l, lt_out (floor q) (z +ℤ pos 1) m, sum_is_lem z (pos 1)))

pub floor_mono : (a b : ℚ) → a ≤ℚ b → floor a ≤ℤ floor b
floor_mono a b h = floor_greatest b (floor a) (≤ℚ_trans (floor_le a) h)

pub floor-integer : (z : ℤ) → floor (integer z) ≡ z
floor-integer z = floor_unique (integer z) z (≤ℚ_refl (integer z)) (linear_lt (integer z ∷ []) (λ s w. omega arith))

-- a whole number is its floor
pub floor_whole : (q : ℚ) → IsWhole q → integer (floor q) ≡ q
floor_whole q h = ap (λ t. integer (floor t)) (whole_is q h) ∙ ap integer (floor-integer (numerator q)) ∙ sym (whole_is q h)

-- a whole number that is at most q is at most its floor: an upper bound of whole numbers may be rounded down
pub whole_le_floor : (x q : ℚ) → IsWhole x → x ≤ℚ q → x ≤ℚ integer (floor q)
whole_le_floor x q h k = subst (λ t. t ≤ℚ integer (floor q)) (floor_whole x h) (integer_le (floor x) (floor q) (floor_mono x q k))

-- ---- the ceiling

ceil_is : (q : ℚ) → integer (ceil q) ≡ negate (integer (floor (negate q)))
unfolding ceil
ceil_is q = integer-negate (floor (negate q))

pub le_ceil : (q : ℚ) → q ≤ℚ integer (ceil q)
le_ceil q =
    let f = floor_le (negate q) in
    let e = ceil_is q in
    linear_le (q ∷ integer (floor (negate q)) ∷ integer (ceil q) ∷ []) (λ s w. omega (arith, s.le_out, s.same_out))

pub ceil_lt : (q : ℚ) → integer (ceil q) <ℚ q +ℚ oneℚ
ceil_lt q =
    let f = lt_floor (negate q) in
    let e = ceil_is q in
    linear_lt (q ∷ integer (floor (negate q)) ∷ integer (ceil q) ∷ []) (λ s w. omega (arith, s.lt_out, s.same_out))

-- no smaller whole number is at least q
pub ceil_least : (q : ℚ) (z : ℤ) → q ≤ℚ integer z → ceil q ≤ℤ z
unfolding ceil
ceil_least q z h =
    let e = integer-negate z in
    let k : integer (neg_ℤ z) ≤ℚ negate q = linear_le (q ∷ integer z ∷ integer (neg_ℤ z) ∷ []) (λ s w. omega (arith, s.le_out, s.same_out)) in
    let g = floor_greatest (negate q) (neg_ℤ z) k in
    at_most_in _ _ (omega (arith, le_out (neg_ℤ z) (floor (negate q)) g, neg_is z, neg_is (floor (negate q))))

pub ceil_mono : (a b : ℚ) → a ≤ℚ b → ceil a ≤ℤ ceil b
ceil_mono a b h = ceil_least a (ceil b) (≤ℚ_trans h (le_ceil b))

pub ceil-integer : (z : ℤ) → ceil (integer z) ≡ z
unfolding ceil
ceil-integer z = ap neg_ℤ (ap floor (sym (integer-negate z)) ∙ floor-integer (neg_ℤ z)) ∙ same_in _ _ (omega (arith, neg_is z, neg_is (neg_ℤ z)))

pub ceil_whole : (q : ℚ) → IsWhole q → integer (ceil q) ≡ q
ceil_whole q h = ap (λ t. integer (ceil t)) (whole_is q h) ∙ ap integer (ceil-integer (numerator q)) ∙ sym (whole_is q h)

pub ceil_le_whole : (x q : ℚ) → IsWhole x → q ≤ℚ x → integer (ceil q) ≤ℚ x
ceil_le_whole x q h k = subst (λ t. integer (ceil q) ≤ℚ t) (ceil_whole x h) (integer_le (ceil q) (ceil x) (ceil_mono q x k))

-- ---- the gap of whole numbers

pub whole_gap : (a b : ℚ) → IsWhole a → IsWhole b → a <ℚ b → a +ℚ oneℚ ≤ℚ b
whole_gap a b h k l =
    let y = numerator a in
    let z = numerator b in
    let m = lt_out y z (lt_integer y z (subst₂ (λ s t. s <ℚ t) (whole_is a h) (whole_is b k) l)) in
    let e : integer (y +ℤ pos 1) ≡ a +ℚ oneℚ = integer-add y (pos 1) ∙ ap₂ (λ s t. s +ℚ t) (sym (whole_is a h)) integer-one in
    subst₂ (λ s t. s ≤ℚ t) e (sym (whole_is b k)) (integer_le (y +ℤ pos 1) z (at_most_in _ _ (omega (arith, m, sum_is_lem y (pos 1)))))

-- a whole number is at most the floor, or at least the next whole number
pub floor_or_next : (x q : ℚ) → IsWhole x → (x ≤ℚ integer (floor q)) ⊎ (integer (floor q) +ℚ oneℚ ≤ℚ x)
floor_or_next x q h = elim (le_or_lt x (integer (floor q))) [
  | inl k ↦ inl k
  | inr k ↦ inr (whole_gap (integer (floor q)) x (IsWhole-integer (floor q)) h k)
]
