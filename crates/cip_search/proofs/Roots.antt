-- The bound of the root is the box bound, or that rounded up where all costs are whole; so it is not below the box bound.
use Rattle.std.proofs.Common.{◌≡◌, Option, None, Some, inl, inr, subst}
use Rattle.std.specs.Prelude.{option_map}
use Rattle.std.proofs.lemmas.Option.{same_Some}
use Rattle.cip_rational.specs.Rational.{ℚ, integer, ceil, ◌<ℚ◌}
use Rattle.cip_rational.proofs.Rational.Order.{le_or_lt, not_le_of_lt, ≤ℚ_refl, ≤ℚ_trans}
use Rattle.cip_rational.proofs.Rational.Rounding.{le_ceil}
use Rattle.cip_problem.specs.Program.{Program}
use Rattle.cip_problem.specs.Cuts.{HasWholeCosts}
use Rattle.cip_search.specs.Searched.{NoMore}

some_none : {b : ℚ} → None ≡ Some b → ⊥
some_none e = cc

not_below : (program : Program) (b c : ℚ) → (HasWholeCosts program → Some c ≡ Some (integer (ceil b))) → (¬ HasWholeCosts program → Some c ≡ Some b) → ¬ (c <ℚ b)
not_below program b c whole plain l =
    let fractional : ¬ HasWholeCosts program = λ h. not_le_of_lt (subst (λ t. t <ℚ b) (same_Some _ _ (whole h)) l) (le_ceil b) in
    not_le_of_lt (subst (λ t. t <ℚ b) (same_Some _ _ (plain fractional)) l) (≤ℚ_refl b)

pub root_no_less : (program : Program) (box start : Option ℚ) → (HasWholeCosts program → start ≡ option_map (λ bound. integer (ceil bound)) box) → (¬ HasWholeCosts program → start ≡ box) → NoMore box start
root_no_less program None start whole plain = tt
root_no_less program (Some b) None whole plain = absurd (some_none (plain (λ h. some_none (whole h))))
root_no_less program (Some b) (Some c) whole plain = elim (le_or_lt b c) [
  | inl l ↦ l
  | inr l ↦ absurd (not_below program b c whole plain l)
]

-- what is no more than a bound that is no more than another is no more than that
pub no_more : (a b c : Option ℚ) → NoMore a b → NoMore b c → NoMore a c
no_more None b c h k = tt
no_more (Some a) None c h k = absurd h
no_more (Some a) (Some b) None h k = absurd k
no_more (Some a) (Some b) (Some c) h k = ≤ℚ_trans h k
