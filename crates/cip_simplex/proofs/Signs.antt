-- Tests of signs.
use Rattle.std.proofs.Common.{◌≡◌, ◌↔◌, IsTrue, Bool, true, false, refl, sym, inl, inr}
use Rattle.std.proofs.lemmas.Bool.{true≢false}
use Rattle.cip_rational.specs.Rational.{ℚ, zeroℚ, lt_test, ◌<ℚ◌}
use Rattle.cip_rational.proofs.Rational.Order.{le_or_lt, test_of_lt, lt_test_of_le}

-- a test that says when a number is above 0 is the test of that
pub positive_test : (q : ℚ) (b : Bool) → (IsTrue b ↔ (zeroℚ <ℚ q)) → b ≡ lt_test zeroℚ q
positive_test q true h = sym (test_of_lt (h.0 refl))
positive_test q false h =
    elim (le_or_lt q zeroℚ) [
      | inl below ↦ sym (lt_test_of_le below)
      | inr above ↦ absurd (true≢false (sym (h.1 above)))
    ]

pub negative_test : (q : ℚ) (b : Bool) → (IsTrue b ↔ (q <ℚ zeroℚ)) → b ≡ lt_test q zeroℚ
negative_test q true h = sym (test_of_lt (h.0 refl))
negative_test q false h =
    elim (le_or_lt zeroℚ q) [
      | inl above ↦ sym (lt_test_of_le above)
      | inr below ↦ absurd (true≢false (sym (h.1 below)))
    ]
