-- The least bound of a search that stands still.
use Rattle.std.proofs.Common.{◌≡◌, ◌⊎◌, inl, inr, true, false, Bool, Option, None, Some, refl, sym, ap, ◌∙◌, subst, if◌then◌else◌}
use Rattle.std.specs.Prelude.{List}
use Rattle.cip_rational.specs.Rational.{ℚ}
use Rattle.cip_rational.proofs.Rational.Order.{≤ℚ_antisymm}
use Rattle.cip_problem.specs.Log.{Node}
use Rattle.cip_search.specs.Searched.{NoMore, IsCostHeld}
use Rattle.cip_search.specs.Endings.{IsBoundOfOne, IsLeastBound}
use Rattle.cip_search.proofs.Bounds.{no_more_itself}
use Rattle.cip_search.proofs.Roots.{no_more}
use Rattle.cip_endings.specs.LeastBounds.{is_no_more, least_of, bound_held}
use Rattle.cip_endings.proofs.BoundLaws.{no_more_tells, more_below}

-- the least of some bounds, if there are any
abbrev pub IsLeastAmong : (Option ℚ → Type 0) → Option (Option ℚ) → Type 0
IsLeastAmong Among None = (other : Option ℚ) → ¬ Among other
IsLeastAmong Among (Some bound) = Among bound × ((other : Option ℚ) → Among other → NoMore bound other)

less_by : (P Q : Option ℚ → Type 0) (bound other : Option ℚ) (test : Bool) → is_no_more bound other ≡ test → IsLeastAmong P (Some bound) → IsLeastAmong Q (Some other) → IsLeastAmong (λ o. P o ⊎ Q o) (Some (if test then bound else other))
less_by P Q bound other true e p q = (
  inl p.0,
  λ o c. elim c [
    | inl a ↦ p.1 o a
    | inr b ↦ no_more bound other o (no_more_tells bound other e) (q.1 o b)
  ],
)
less_by P Q bound other false e p q = (
  inr q.0,
  λ o c. elim c [
    | inl a ↦ no_more other bound o (more_below bound other e) (p.1 o a)
    | inr b ↦ q.1 o b
  ],
)

pub least_both : (P Q : Option ℚ → Type 0) (bound other : Option (Option ℚ)) → IsLeastAmong P bound → IsLeastAmong Q other → IsLeastAmong (λ o. P o ⊎ Q o) (least_of bound other)
least_both P Q None None p q = λ o c. elim c [
  | inl a ↦ p o a
  | inr b ↦ q o b
]
least_both P Q None (Some other) p q = (
  inr q.0,
  λ o c. elim c [
    | inl a ↦ absurd (p o a)
    | inr b ↦ q.1 o b
  ],
)
least_both P Q (Some bound) None p q = (
  inl p.0,
  λ o c. elim c [
    | inl a ↦ p.1 o a
    | inr b ↦ absurd (q o b)
  ],
)
least_both P Q (Some bound) (Some other) p q = less_by P Q bound other (is_no_more bound other) refl p q

-- the cost held
pub least_held : (held : Option ℚ) → IsLeastAmong (IsCostHeld held) (bound_held held)
least_held None = λ o c. absurd (let e : None ≡ Some c.cost = c.is_held in cc)
least_held (Some cost) = (
  record { cost = cost; is_held = refl; is_bound = refl },
  λ o c. subst (NoMore (Some cost)) (c.is_held ∙ sym c.is_bound) (no_more_itself (Some cost)),
)

-- ---- there is one least bound

pub no_more_both : (bound other : Option ℚ) → NoMore bound other → NoMore other bound → bound ≡ other
no_more_both None None n m = refl
no_more_both None (Some other) n m = absurd m
no_more_both (Some bound) None n m = absurd n
no_more_both (Some bound) (Some other) n m = ap Some (≤ℚ_antisymm n m)

no_more_one : (held : Option ℚ) (nodes : List Node) (bound other : Option ℚ) → IsLeastBound held nodes bound → IsCostHeld held other ⊎ IsBoundOfOne nodes other → NoMore bound other
no_more_one held nodes bound other l (inl c) = subst (NoMore bound) (sym c.is_bound) (l.cost c.cost c.is_held)
no_more_one held nodes bound other l (inr b) = subst (NoMore bound) (sym b.is_bound) (l.each b.node b.among)

pub same_least : (held : Option ℚ) (nodes : List Node) (bound other : Option ℚ) → IsLeastBound held nodes bound → IsLeastBound held nodes other → bound ≡ other
same_least held nodes bound other l m =
    no_more_both bound other (no_more_one held nodes bound other l m.one) (no_more_one held nodes other bound m l.one)
