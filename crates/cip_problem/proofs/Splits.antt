-- Split rows hold where both of their rows do.
use Rattle.std.proofs.Common.{◌≡◌, ◌⊎◌, inl, inr, Bool, ℤ, pos, ◌+ℤ◌, List, [], ◌∷◌, Option, sym, subst, arith}
use Rattle.cip_rational.specs.Rational.{ℚ, ◌*ℚ◌, negate, integer, zeroℚ, minimum, ◌≤ℚ◌, IsWhole}
use Rattle.cip_rational.specs.Sums.{dot}
use Rattle.cip_rational.proofs.Rational.Ring.{negate-*ℚ}
use Rattle.cip_rational.proofs.Rational.Extremes.{minimum_le}
use Rattle.cip_rational.proofs.Rational.Order.{≤ℚ_trans}
use Rattle.cip_rational.proofs.Rational.Monotone.{*ℚ_mono}
use Rattle.cip_rational.proofs.Rational.Whole.{IsWhole-zero, IsWhole-add, IsWhole-mul}
use Rattle.cip_rational.proofs.Linear.{linear_le}
use Rattle.cip_problem.specs.Program.{Term, Sides, Program}
use Rattle.cip_problem.specs.Activity.{activity, value_at}
use Rattle.cip_problem.specs.Points.{AreWhole}
use Rattle.cip_problem.proofs.Points.AtPlaces.{whole_at}
use Rattle.cip_problem.proofs.Log.Halves.{below_or_above}
use Rattle.cip_problem.specs.Aggregate.{Part, HoldsAt, Inequality, Holds}
use Rattle.cip_problem.specs.Improving.{IsValid}
use Rattle.cip_problem.specs.Splits.{IsWholeForm, SplitForm, left_part, right_part, IsWithPart, IsSplitRow}

-- ---- the two sides

pub form_whole : (integral : List Bool) (form : List Term) (point : List ℚ) → IsWholeForm integral form → AreWhole integral point → IsWhole (activity form point)
form_whole integral [] point h k = IsWhole-zero
form_whole integral (t ∷ ts) point h k =
    IsWhole-add (t.coefficient *ℚ value_at point t.column) (activity ts point) (IsWhole-mul t.coefficient (value_at point t.column) h.0.coefficient (whole_at integral point t.column k h.0.column)) (form_whole integral ts point h.1 k)

pub either_side : (integral : List Bool) (form : List Term) (at : ℤ) (point : List ℚ) → IsWholeForm integral form → AreWhole integral point → (activity form point ≤ℚ integer at) ⊎ (integer (at +ℤ pos 1) ≤ℚ activity form point)
either_side integral form at point h k = below_or_above (activity form point) at (form_whole integral form point h k)

-- ---- parts

left_holds : (split : SplitForm) (point : List ℚ) → zeroℚ ≤ℚ split.left_factor → activity split.form point ≤ℚ integer split.at → HoldsAt (left_part split) point
left_holds split point s h =
    let f = split.left_factor in
    let v = activity split.form point in
    let m = *ℚ_mono v (integer split.at) f s h in
    let a = negate-*ℚ f (integer split.at) in
    let b = negate-*ℚ f v in
    linear_le ((f *ℚ integer split.at) ∷ (f *ℚ v) ∷ (negate f *ℚ integer split.at) ∷ (negate f *ℚ v) ∷ []) (λ s w. omega (arith, s.le_out, s.same_out))

right_holds : (split : SplitForm) (point : List ℚ) → zeroℚ ≤ℚ split.right_factor → integer (split.at +ℤ pos 1) ≤ℚ activity split.form point → HoldsAt (right_part split) point
right_holds split point s h = *ℚ_mono (integer (split.at +ℤ pos 1)) (activity split.form point) split.right_factor s h

with_part_holds : (before after : Inequality) (part : Part) (point : List ℚ) → IsWithPart before part after → Holds before point → HoldsAt part point → Holds after point
with_part_holds before after part point p h k =
    let e = p.form point in
    let l = p.least in
    let a : before.least ≤ℚ dot before.coefficients point = h in
    let b : part.factor *ℚ part.side ≤ℚ part.factor *ℚ activity part.terms point = k in
    linear_le (before.least ∷ after.least ∷ dot before.coefficients point ∷ dot after.coefficients point ∷ (part.factor *ℚ part.side) ∷ (part.factor *ℚ activity part.terms point) ∷ []) (λ s w. omega (arith, s.le_out, s.same_out))

-- ---- the split row

below_least : (row : Inequality) (l m v : ℚ) → row.least ≡ l → l ≤ℚ m → m ≤ℚ v → row.least ≤ℚ v
below_least row l m v e h k = subst (λ t. t ≤ℚ v) (sym e) (≤ℚ_trans h k)

pub split_holds : (integral : List Bool) (split : SplitForm) (left right row : Inequality) (point : List ℚ) → IsSplitRow integral split left right row → AreWhole integral point → Holds left point → Holds right point → Holds row point
split_holds integral split left right row point s whole h k = elim (either_side integral split.form split.at point s.whole whole) [
  | inl below ↦
      below_least row (minimum s.left_least s.right_least) s.left_least (dot row.coefficients point) s.least (minimum_le s.left_least s.right_least).0
      (with_part_holds left (record { coefficients = row.coefficients; least = s.left_least }) (left_part split) point s.left_sum h (left_holds split point s.left_sign below))
  | inr above ↦
      below_least row (minimum s.left_least s.right_least) s.right_least (dot row.coefficients point) s.least (minimum_le s.left_least s.right_least).1
      (with_part_holds right (record { coefficients = row.coefficients; least = s.right_least }) (right_part split) point s.right_sum k (right_holds split point s.right_sign above))
]

pub split_valid : (program : Program) (held : Option ℚ) (box : List Sides) (split : SplitForm) (left right row : Inequality) → IsSplitRow program.integral split left right row → IsValid program held box left → IsValid program held box right → IsValid program held box row
split_valid program held box split left right row s h k point i w =
    split_holds program.integral split left right row point s i.feasible.whole (h point i w) (k point i w)
