use Rattle.cip_rational.proofs.Rational.Ring.{+ℚ_comm, +ℚ_assoc, +ℚ-zero, +ℚ-negate, *ℚ_comm, *ℚ_assoc, *ℚ-one, *ℚ-add, one_is_not_zero}
use Rattle.cip_rational.proofs.Rational.Order.{≤ℚ_total, ≤ℚ_trans, ≤ℚ_antisymm, ≤ℚ_refl, not_le_of_lt, lt_of_not_le}
use Rattle.cip_rational.proofs.Rational.Monotone.{+ℚ_mono, *ℚ_nonneg}
use Rattle.cip_rational.proofs.Rational.Inverse.{*ℚ-inverse}
use Rattle.cip_rational.proofs.ordered_field.Goals as goal

pub returns : goal.returns
returns c = record {
  add_comm = +ℚ_comm;
  add_assoc = +ℚ_assoc;
  add_zero = +ℚ-zero;
  add_negate = +ℚ-negate;
  mul_comm = *ℚ_comm;
  mul_assoc = *ℚ_assoc;
  mul_one = *ℚ-one;
  mul_add = *ℚ-add;
  mul_inverse = *ℚ-inverse;
  one_is_not_zero = one_is_not_zero;
  le_total = ≤ℚ_total;
  le_trans = λ a b d h k. ≤ℚ_trans h k;
  le_antisymm = λ a b h k. ≤ℚ_antisymm h k;
  lt_is_not_le = λ a b. (λ h. not_le_of_lt h, λ h. lt_of_not_le b a h);
  add_mono = λ a b d h. +ℚ_mono h (≤ℚ_refl d);
  mul_nonneg = λ a b h k. *ℚ_nonneg h k;
}
