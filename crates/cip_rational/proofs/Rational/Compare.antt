-- Which rational is less, as a decision and as `cmp` answers it.
use mathlib.Core.HLevel.{Discrete}
use Rattle.std.proofs.Common.{◌≡◌, inl, inr, cond, sym, ap, ◌∙◌, Less, Equal, Greater}
use Rattle.std.specs.Ordering.{MatchOrdering, ordering_reverse}
use Rattle.std.specs.Cmp.{IsTotalOrder}
use Rattle.cip_rational.specs.Rational.{ℚ, lt_test, compare_rational, ◌<ℚ◌}
use Rattle.cip_rational.proofs.Rational.Order.{≤ℚ_of_eq, <ℚ_trans, ≤ℚ_of_lt, le_or_lt, eq-or-lt, ne_of_lt, test_of_lt, lt_test_of_le}

-- one of three holds
pub data Trichotomy (a b : ℚ) : Type 0 where
  below : a <ℚ b → Trichotomy a b
  same : a ≡ b → Trichotomy a b
  over : b <ℚ a → Trichotomy a b

pub trichotomy : (a b : ℚ) → Trichotomy a b
trichotomy a b = elim (le_or_lt a b) [
  | inl h ↦ elim (eq-or-lt h) [ inl e ↦ same e | inr l ↦ below l ]
  | inr h ↦ over h
]

pub ℚ_discrete : Discrete ℚ
ℚ_discrete a b = elim (trichotomy a b) [ below h ↦ no (ne_of_lt h) | same e ↦ yes e | over h ↦ no (λ e. ne_of_lt h (sym e)) ]

pub compare_less : {a b : ℚ} → a <ℚ b → compare_rational a b ≡ Less
unfolding compare_rational
compare_less {a} {b} h = ap (λ t. cond t Less (cond (lt_test b a) Greater Equal)) (test_of_lt h)

pub compare_equal : {a b : ℚ} → a ≡ b → compare_rational a b ≡ Equal
unfolding compare_rational
compare_equal {a} {b} e =
    ap (λ t. cond t Less (cond (lt_test b a) Greater Equal)) (lt_test_of_le (≤ℚ_of_eq (sym e)))
    ∙ ap (λ t. cond t Greater Equal) (lt_test_of_le (≤ℚ_of_eq e))

pub compare_greater : {a b : ℚ} → b <ℚ a → compare_rational a b ≡ Greater
unfolding compare_rational
compare_greater {a} {b} h =
    ap (λ t. cond t Less (cond (lt_test b a) Greater Equal)) (lt_test_of_le (≤ℚ_of_lt h))
    ∙ ap (λ t. cond t Greater Equal) (test_of_lt h)

pub compare_lem : (a b : ℚ) → MatchOrdering (compare_rational a b) (a <ℚ b) (a ≡ b) (b <ℚ a)
compare_lem a b = elim (trichotomy a b) [
  | below h ↦ rw (compare_less h) h
  | same e ↦ rw (compare_equal e) e
  | over h ↦ rw (compare_greater h) h
]

pub lt_of_compare : {a b : ℚ} → compare_rational a b ≡ Less → a <ℚ b
lt_of_compare {a} {b} e = let h = compare_lem a b in rw e at h

pub eq_of_compare : {a b : ℚ} → compare_rational a b ≡ Equal → a ≡ b
eq_of_compare {a} {b} e = let h = compare_lem a b in rw e at h

pub gt_of_compare : {a b : ℚ} → compare_rational a b ≡ Greater → b <ℚ a
gt_of_compare {a} {b} e = let h = compare_lem a b in rw e at h

-- what a total order asks of an answer of `cmp`
pub compare_total : IsTotalOrder compare_rational
compare_total = record {
  antisymm = λ a b. elim (trichotomy a b) [
    | below h ↦ compare_less h ∙ sym (ap ordering_reverse (compare_greater h))
    | same e ↦ compare_equal e ∙ sym (ap ordering_reverse (compare_equal (sym e)))
    | over h ↦ compare_greater h ∙ sym (ap ordering_reverse (compare_less h))
  ];
  trans = λ a b c e f. compare_less (<ℚ_trans (lt_of_compare e) (lt_of_compare f));
  congr = λ a b c e. ap (λ t. compare_rational t c) (eq_of_compare e);
}
