-- Splits by the rules leave a whole value on both sides.
use borrow.Author.Differences.{up, down, sum_is_lem, neg_is, le_out, lt-true, lt-false}
use Rattle.std.proofs.Common.{◌≡◌, ◌⊎◌, inl, inr, ℕ, ◌+◌, ◌^◌, ◌≤◌, ℤ, pos, negsuc, ◌+ℤ◌, ◌-ℤ◌, ◌≤ℤ◌, neg_ℤ, int_lt, if◌then◌else◌, unsigned_abs, Bool, true, false, not, List, [], ◌∷◌, Option, None, Some, IfSome, refl, sym, subst, arith}
use Rattle.std.proofs.lemmas.Bool.{and_parts}
use Rattle.std.proofs.lemmas.Int.{ints}
use Rattle.cip_rational.specs.Rational.{ℚ, ◌≤ℚ◌, integer, floor, ceil, absolute, le_test}
use Rattle.cip_rational.specs.Rational.{negate, is_whole}
use Rattle.cip_rational.proofs.Linear.{linear_le}
use Rattle.cip_rational.proofs.Rational.Extremes.{absolute_ge}
use Rattle.cip_rational.proofs.Rational.Order.{≤ℚ_trans, ≤ℚ_refl, le_of_test}
use Rattle.cip_rational.proofs.Rational.Rounding.{floor_le, floor_greatest, le_ceil, integer_le, le_integer, integer-negate}
use Rattle.cip_problem.specs.Program.{Sides}
use Rattle.cip_problem.specs.Activity.{value_at}
use Rattle.cip_problem.specs.Box.{sides_at, two_wholes_between}
use Rattle.cip_problem.specs.Wholes.{HasWhole}
use Rattle.cip_node_rules.specs.OpenColumns.{is_whole_at, is_open_at, is_fractional}
use Rattle.cip_node_rules.specs.SplitRules.{raised_to, lowered_to, IsHalf, IsMiddle, IsAtFraction, IsAtMiddle, LeavesBoth, AreNear, SplitsLeaveBoth}

-- ---- sizes

pub abs_parts : (z : ℤ) → unsigned_abs z ≡ up z + down z
abs_parts (pos n) = omega arith
abs_parts (negsuc n) = omega arith

pub one_side : (z : ℤ) → (up z ≡ 0) ⊎ (down z ≡ 0)
one_side (pos n) = inr refl
one_side (negsuc n) = inl refl

-- between two numbers that are near
near_between : (n : ℕ) (a z b : ℤ) → unsigned_abs a ≤ n → unsigned_abs b ≤ n → a ≤ℤ z → z ≤ℤ b → unsigned_abs z ≤ n
near_between n a z b h k l m = elim (one_side z) [
  | inl e ↦ omega (arith, e, h, k, abs_parts a, abs_parts b, abs_parts z, le_out a z l, le_out z b m)
  | inr e ↦ omega (arith, e, h, k, abs_parts a, abs_parts b, abs_parts z, le_out a z l, le_out z b m)
]

pub near_next : (n : ℕ) (z : ℤ) → unsigned_abs z ≤ n → unsigned_abs (z +ℤ pos 1) ≤ n + 1
near_next n (pos m) h = omega (arith, h, abs_parts (pos m +ℤ pos 1), sum_is_lem (pos m) (pos 1))
near_next n (negsuc m) h = elim (one_side (negsuc m +ℤ pos 1)) [
  | inl e ↦ omega (arith, e, h, abs_parts (negsuc m +ℤ pos 1), sum_is_lem (negsuc m) (pos 1))
  | inr e ↦ omega (arith, e, h, abs_parts (negsuc m +ℤ pos 1), sum_is_lem (negsuc m) (pos 1))
]

near_before : (n : ℕ) (z : ℤ) → unsigned_abs z ≤ n → unsigned_abs (z -ℤ pos 1) ≤ n + 1
near_before n z h = elim (one_side (z -ℤ pos 1)) [
  | inl e ↦ omega (arith, e, h, abs_parts z, abs_parts (z -ℤ pos 1), sum_is_lem z (negsuc 0))
  | inr e ↦ omega (arith, e, h, abs_parts z, abs_parts (z -ℤ pos 1), sum_is_lem z (negsuc 0))
]

-- ---- both sides

above_low : (low : Option ℚ) (at : ℤ) → IfSome low (λ side. ceil side ≤ℤ at) → HasWhole (record { low = low; high = Some (integer at) })
above_low None at h = record { number = at; between = record { above = tt; below = ≤ℚ_refl (integer at) } }
above_low (Some low) at h = record { number = at; between = record { above = ≤ℚ_trans (le_ceil low) (integer_le (ceil low) at h); below = ≤ℚ_refl (integer at) } }

below_high : (high : Option ℚ) (at : ℤ) → IfSome high (λ side. (at +ℤ pos 1) ≤ℤ floor side) → HasWhole (record { low = Some (integer (at +ℤ pos 1)); high = high })
below_high None at h = record { number = at +ℤ pos 1; between = record { above = ≤ℚ_refl (integer (at +ℤ pos 1)); below = tt } }
below_high (Some high) at h = record { number = at +ℤ pos 1; between = record { above = ≤ℚ_refl (integer (at +ℤ pos 1)); below = ≤ℚ_trans (integer_le (at +ℤ pos 1) (floor high) h) (floor_le high) } }

-- ---- a number that is moved

-- it stands where the sides keep a whole value, and is near with the next one
record IsPlaced (low high : Option ℚ) (n : ℕ) (at : ℤ) : Type 0 where
  from : IfSome low (λ side. ceil side ≤ℤ at)
  below : IfSome high (λ side. (at +ℤ pos 1) ≤ℤ floor side)
  near : unsigned_abs at ≤ n + 1
  next_near : unsigned_abs (at +ℤ pos 1) ≤ n + 1

leaves : (low high : Option ℚ) (n : ℕ) (at : ℤ) → IsPlaced low high n at → LeavesBoth (record { low = low; high = high }) (n + 1) at
leaves low high n at p = record { near = p.near; next_near = p.next_near; low = above_low low at p.from; high = below_high high at p.below }

-- between both sides
between : (low high : ℚ) (n : ℕ) (at : ℤ) → unsigned_abs (ceil low) ≤ n → unsigned_abs (floor high) ≤ n → ceil low ≤ℤ at → (at +ℤ pos 1) ≤ℤ floor high → IsPlaced (Some low) (Some high) n at
between low high n at h k l m =
    let a : unsigned_abs at ≤ n = near_between n (ceil low) at (floor high) h k l (omega (arith, ints, m)) in
    let b : unsigned_abs (at +ℤ pos 1) ≤ n = near_between n (ceil low) (at +ℤ pos 1) (floor high) h k (omega (arith, ints, l)) m in
    record { from = l; below = m; near = omega (arith, a); next_near = omega (arith, b) }

two_apart : (low high : ℚ) → two_wholes_between (Some low) (Some high) ≡ true → (ceil low +ℤ pos 1) ≤ℤ floor high
two_apart low high e = let t = lt-true (ceil low) (floor high) e in omega (arith, ints, t)

-- raised to a low side
raised_case : (low : ℚ) (n : ℕ) (v : ℤ) (t : Bool) → int_lt v (ceil low) ≡ t → unsigned_abs (ceil low) ≤ n → unsigned_abs v ≤ n → IsPlaced (Some low) None n (if t then ceil low else v)
raised_case low n v true e h k = record { from = omega (arith, ints); below = tt; near = omega (arith, h); next_near = near_next n (ceil low) h }
raised_case low n v false e h k =
    let t = lt-false v (ceil low) e in
    record { from = omega (arith, ints, t); below = tt; near = omega (arith, k); next_near = near_next n v k }

-- lowered to a high side
lowered_case : (high : ℚ) (n : ℕ) (v : ℤ) (t : Bool) → int_lt v (floor high) ≡ t → unsigned_abs (floor high) ≤ n → unsigned_abs v ≤ n → IsPlaced None (Some high) n (if t then v else floor high -ℤ pos 1)
lowered_case high n v true e h k =
    let t = lt-true v (floor high) e in
    record { from = tt; below = omega (arith, ints, t); near = omega (arith, k); next_near = near_next n v k }
lowered_case high n v false e h k = record {
  from = tt;
  below = omega (arith, ints);
  near = near_before n (floor high) h;
  next_near = subst (λ z. unsigned_abs z ≤ n + 1) (back_again (floor high)) (omega (arith, h));
}
  where
    back_again : (z : ℤ) → z ≡ (z -ℤ pos 1) +ℤ pos 1
    back_again z = omega (arith, ints)

-- between both, whatever was raised
both_case : (low high : ℚ) (n : ℕ) (r : ℤ) (t : Bool) → int_lt r (floor high) ≡ t → unsigned_abs (ceil low) ≤ n → unsigned_abs (floor high) ≤ n → (ceil low +ℤ pos 1) ≤ℤ floor high → ceil low ≤ℤ r → IsPlaced (Some low) (Some high) n (if t then r else floor high -ℤ pos 1)
both_case low high n r true e h k l m = let t = lt-true r (floor high) e in between low high n r h k m (omega (arith, ints, t))
both_case low high n r false e h k l m = between low high n (floor high -ℤ pos 1) h k (omega (arith, ints, l)) (omega (arith, ints))

raised_from : (low : ℚ) (v : ℤ) (t : Bool) → int_lt v (ceil low) ≡ t → ceil low ≤ℤ (if t then ceil low else v)
raised_from low v true e = omega (arith, ints)
raised_from low v false e = let t = lt-false v (ceil low) e in omega (arith, ints, t)

moved_placed : (low high : Option ℚ) (n : ℕ) (v : ℤ) → AreNear n (record { low = low; high = high }) → two_wholes_between low high ≡ true → unsigned_abs v ≤ n → IsPlaced low high n (lowered_to high (raised_to low v))
moved_placed None None n v h e k = record { from = tt; below = tt; near = omega (arith, k); next_near = near_next n v k }
moved_placed (Some low) None n v h e k = raised_case low n v (int_lt v (ceil low)) refl h.low k
moved_placed None (Some high) n v h e k = lowered_case high n v (int_lt v (floor high)) refl h.high k
moved_placed (Some low) (Some high) n v h e k =
    both_case low high n (raised_to (Some low) v) (int_lt (raised_to (Some low) v) (floor high)) refl h.low h.high (two_apart low high e) (raised_from low v (int_lt v (ceil low)) refl)

-- ---- the middle

half_from : (a b at : ℤ) → (a +ℤ pos 1) ≤ℤ b → IsHalf (a +ℤ b) at → (a ≤ℤ at) × ((at +ℤ pos 1) ≤ℤ b)
half_from a b at l (inl e) = (omega (arith, ints, l, e), omega (arith, ints, l, e))
half_from a b at l (inr e) = (omega (arith, ints, l, e), omega (arith, ints, l, e))

middle_placed : (low high : Option ℚ) (n : ℕ) (at : ℤ) → AreNear n (record { low = low; high = high }) → two_wholes_between low high ≡ true → IsMiddle low high at → IsPlaced low high n at
middle_placed (Some low) (Some high) n at h e m =
    let a = half_from (ceil low) (floor high) at (two_apart low high e) m in
    between low high n at h.low h.high a.0 a.1
middle_placed (Some low) None n at h e m = subst (IsPlaced (Some low) None n) (sym m) (moved_placed (Some low) None n (pos 0) h e (omega arith))
middle_placed None high n at h e m = subst (IsPlaced None high n) (sym m) (moved_placed None high n (pos 0) h e (omega arith))

-- ---- the floor of a value

pub negate_le_back : (a b : ℚ) → negate a ≤ℚ b → negate b ≤ℚ a
negate_le_back a b h = linear_le (a ∷ b ∷ []) (λ s w. omega (arith, s.le_out))

floor_near : (value : ℚ) (size : ℕ) → absolute value ≤ℚ integer (pos size) → unsigned_abs (floor value) ≤ size
floor_near value size h =
    let a = absolute_ge value in
    let top : floor value ≤ℤ pos size = le_integer (floor value) (pos size) (≤ℚ_trans (floor_le value) (≤ℚ_trans a.0 h)) in
    let least : integer (neg_ℤ (pos size)) ≤ℚ value =
    subst (λ t. t ≤ℚ value) (sym (integer-negate (pos size))) (negate_le_back value (integer (pos size)) (≤ℚ_trans a.1 h)) in
    let bottom : neg_ℤ (pos size) ≤ℤ floor value = floor_greatest value (neg_ℤ (pos size)) least in
    elim (one_side (floor value)) [
      | inl e ↦ omega (arith, e, abs_parts (floor value), le_out (floor value) (pos size) top, le_out (neg_ℤ (pos size)) (floor value) bottom, neg_is (pos size))
      | inr e ↦ omega (arith, e, abs_parts (floor value), le_out (floor value) (pos size) top, le_out (neg_ℤ (pos size)) (floor value) bottom, neg_is (pos size))
    ]

-- ---- the rules

pub two_of_open : (integral : List Bool) (box : List Sides) (column : ℕ) → is_open_at integral box column ≡ true → two_wholes_between (sides_at box column).low (sides_at box column).high ≡ true
two_of_open integral box column e = (and_parts (is_whole_at integral column) (two_wholes_between (sides_at box column).low (sides_at box column).high) e).1

at_fraction : (integral : List Bool) (box : List Sides) (point : List ℚ) (column : ℕ) (at : ℤ) (n : ℕ) → 2 ^ 100 ≤ n → AreNear n (sides_at box column) → IsAtFraction integral box point column at → LeavesBoth (sides_at box column) (n + 1) at
at_fraction integral box point column at n l h r =
    let sides = sides_at box column in
    let value = value_at point column in
    let both = and_parts (is_open_at integral box column) (is_fractional value) r.first.passes in
    let near = (and_parts (not (is_whole value)) (le_test (absolute value) (integer (pos (2 ^ 100)))) both.1).1 in
    let size : unsigned_abs (floor value) ≤ 2 ^ 100 = floor_near value (2 ^ 100) (le_of_test near) in
    leaves sides.low sides.high n at (subst (IsPlaced sides.low sides.high n) (sym r.place) (moved_placed sides.low sides.high n (floor value) h (two_of_open integral box column both.0) (omega (arith, size, l))))

at_middle : (integral : List Bool) (box : List Sides) (column : ℕ) (at : ℤ) (n : ℕ) → AreNear n (sides_at box column) → IsAtMiddle integral box column at → LeavesBoth (sides_at box column) (n + 1) at
at_middle integral box column at n h r =
    let sides = sides_at box column in
    leaves sides.low sides.high n at (middle_placed sides.low sides.high n at h (two_of_open integral box column r.first.passes) r.place)

pub leave_both : SplitsLeaveBoth
leave_both integral box None column at n l h r = at_middle integral box column at n h r
leave_both integral box (Some point) column at n l h (inl r) = at_fraction integral box point column at n l h r
leave_both integral box (Some point) column at n l h (inr r) = at_middle integral box column at n h r.1
