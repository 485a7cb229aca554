-- The laws of the comparisons of fractions.
--     same_rational       whether two rationals are the same
--     same_equivalence, same_partial_equivalence, compare_partial      the laws of `==` and of `partial_cmp`
use Rattle.std.specs.Prelude.{◌≡◌, Bool, true, false, refl}
use Rattle.std.proofs.Common.{ap, sym, Less, Equal, Greater, Ordering, is_eq}
use Rattle.std.specs.Cmp.{IsEquivalence, IsPartialEquivalence, IsPartialOrder, partial_equiv_from_equiv, partial_order_from_total}
use Rattle.std.specs.Ordering.{eq_by_cmp, as_partial_cmp}
use Rattle.cip_rational.specs.Rational.{ℚ, compare_rational}
use Rattle.cip_rational.proofs.Rational.Compare.{compare_equal, eq_of_compare, compare_total}

-- whether two rationals are the same
abbrev pub same_rational : ℚ → ℚ → Bool
same_rational = eq_by_cmp compare_rational

pub same_from_equal : (a b : ℚ) → a ≡ b → same_rational a b ≡ true
same_from_equal a b e = ap is_eq (compare_equal e)

pub equal_from_same : (a b : ℚ) → same_rational a b ≡ true → a ≡ b
equal_from_same a b t = eq_of_compare (only_equal (compare_rational a b) t)
  where
    only_equal : (o : Ordering) → is_eq o ≡ true → o ≡ Equal
    only_equal Less e = absurd (cc)
    only_equal Equal e = refl
    only_equal Greater e = absurd (cc)

-- two tests that hold together are the same
pub both_ways : (s t : Bool) → (s ≡ true → t ≡ true) → (t ≡ true → s ≡ true) → s ≡ t
both_ways true t f g = sym (f refl)
both_ways false true f g = g refl
both_ways false false f g = refl

pub same_equivalence : IsEquivalence same_rational
same_equivalence =
    record {
      refl = λ a. same_from_equal a a refl;
      symm = λ a b. both_ways _ _
          (λ t. same_from_equal b a (sym (equal_from_same a b t)))
          (λ t. same_from_equal a b (sym (equal_from_same b a t)));
      congr = λ a b c p. ap (λ x. same_rational x c) (equal_from_same a b p);
    }

pub same_partial_equivalence : IsPartialEquivalence same_rational
same_partial_equivalence = partial_equiv_from_equiv same_equivalence

pub compare_partial : IsPartialOrder same_rational (as_partial_cmp compare_rational)
compare_partial = partial_order_from_total compare_total
