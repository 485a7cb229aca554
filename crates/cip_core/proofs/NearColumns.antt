-- Sides below 10^20 are near.
use borrow.Author.Differences.{le_out}
use Rattle.std.proofs.Common.{◌≡◌, inl, inr, ℕ, zero, suc, ◌^◌, ◌≤◌, ℤ, pos, ◌≤ℤ◌, neg_ℤ, unsigned_abs, length, All, Option, None, Some, IfSome, refl, sym, subst, arith}
use Rattle.std.proofs.lemmas.Bool.{cases_lt}
use Rattle.std.proofs.lemmas.List.Elements.{All-get_or}
use Rattle.std.proofs.lemmas.List.{get_or_past}
use Rattle.cip_rational.specs.Rational.{ℚ, ◌≤ℚ◌, ◌<ℚ◌, negate, integer, floor, ceil, absolute}
use Rattle.cip_rational.proofs.Rational.Extremes.{absolute_ge}
use Rattle.cip_rational.proofs.Rational.Order.{≤ℚ_trans, ≤ℚ_of_lt}
use Rattle.cip_rational.proofs.Rational.Rounding.{floor_le, floor_greatest, le_ceil, ceil_least, le_integer, integer-negate}
use Rattle.cip_problem.specs.Program.{Sides, Program}
use Rattle.cip_problem.specs.Box.{no_sides, sides_at}
use Rattle.cip_problem.specs.NearSides.{IsNear, HasNearSides}
use Rattle.cip_node_rules.specs.SplitRules.{AreNear}
use Rattle.cip_node_rules.proofs.BothSides.{one_side, abs_parts, negate_le_back}
use Rattle.cip_core.specs.Beginning.{AreNearColumns}

neg_size : (n : ℕ) → unsigned_abs (neg_ℤ (pos n)) ≡ n
neg_size zero = refl
neg_size (suc n) = refl

-- between a number and its negative
between : (n : ℕ) (z : ℤ) → neg_ℤ (pos n) ≤ℤ z → z ≤ℤ pos n → unsigned_abs z ≤ n
between n z l m = elim (one_side z) [
  | inl e ↦ omega (arith, e, neg_size n, abs_parts z, abs_parts (neg_ℤ (pos n)), le_out (neg_ℤ (pos n)) z l, le_out z (pos n) m)
  | inr e ↦ omega (arith, e, neg_size n, abs_parts z, abs_parts (neg_ℤ (pos n)), le_out (neg_ℤ (pos n)) z l, le_out z (pos n) m)
]

module _ (n : ℕ) (value : ℚ) (h : absolute value <ℚ integer (pos n)) where
  above : value ≤ℚ integer (pos n)
  above = ≤ℚ_trans (absolute_ge value).0 (≤ℚ_of_lt h)

  below : integer (neg_ℤ (pos n)) ≤ℚ value
  below =
      let a : negate value ≤ℚ integer (pos n) = ≤ℚ_trans (absolute_ge value).1 (≤ℚ_of_lt h) in
      subst (λ t. t ≤ℚ value) (sym (integer-negate (pos n))) (negate_le_back value (integer (pos n)) a)

  near_ceil : unsigned_abs (ceil value) ≤ n
  near_ceil = between n (ceil value) (le_integer (neg_ℤ (pos n)) (ceil value) (≤ℚ_trans below (le_ceil value))) (ceil_least value (pos n) above)

  near_floor : unsigned_abs (floor value) ≤ n
  near_floor = between n (floor value) (floor_greatest value (neg_ℤ (pos n)) below) (le_integer (floor value) (pos n) (≤ℚ_trans (floor_le value) above))

low_near : (far : ℕ) (side : Option ℚ) → 10 ^ 20 ≤ far → IsNear side → IfSome side (λ v. unsigned_abs (ceil v) ≤ far)
low_near far None l h = tt
low_near far (Some v) l h = omega (arith, l, near_ceil (10 ^ 20) v h)

high_near : (far : ℕ) (side : Option ℚ) → 10 ^ 20 ≤ far → IsNear side → IfSome side (λ v. unsigned_abs (floor v) ≤ far)
high_near far None l h = tt
high_near far (Some v) l h = omega (arith, l, near_floor (10 ^ 20) v h)

near_sides : (far : ℕ) (sides : Sides) → 10 ^ 20 ≤ far → HasNearSides sides → AreNear far sides
near_sides far sides l h = record { low = low_near far sides.low l h.low; high = high_near far sides.high l h.high }

-- a program whose sides are below 10^20 has near columns
pub near_columns : (program : Program) → All HasNearSides program.bounds → AreNearColumns program
near_columns program h = λ column w. elim (cases_lt column (length program.bounds)) [
  | inl l ↦ near_sides (2 ^ 100) (sides_at program.bounds column) (omega arith) (All-get_or HasNearSides program.bounds column no_sides l h)
  | inr l ↦ subst (AreNear (2 ^ 100)) (sym (get_or_past program.bounds column no_sides l)) (record { low = tt; high = tt })
]
