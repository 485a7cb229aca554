-- Different columns of a reduced program are different columns of the program.
use Rattle.std.proofs.Common.{◌≡◌, ℕ, zero, suc, ◌<◌, List, [], ◌∷◌, length, sym, ap, ◌∙◌, refl, arith}
use Rattle.std.specs.Prelude.{slice_set, replicate}
use Rattle.cip_rational.specs.Rational.{ℚ, zeroℚ, oneℚ}
use Rattle.cip_rational.proofs.Rational.Ring.{one_is_not_zero}
use Rattle.cip_problem.specs.Program.{Program}
use Rattle.cip_problem.specs.Activity.{value_at}
use Rattle.cip_search.specs.Pairs.{IsPair}
use Rattle.cip_search.proofs.Moving.{Same, same, other, same_or, set_same, set_other}
use Rattle.cip_bland.proofs.Emptiness.{length-zeros}

-- 1 at a column, and 0 elsewhere
abbrev unit : ℕ → ℕ → List ℚ
unit n column = slice_set (replicate n zeroℚ) column oneℚ

pub long_set : (y : List ℚ) (column : ℕ) (v : ℚ) → length (slice_set y column v) ≡ length y
long_set [] column v = refl
long_set (w ∷ y) zero v = refl
long_set (w ∷ y) (suc column) v = ap (λ m. suc m) (long_set y column v)

zero_at : (n column : ℕ) → value_at (replicate n zeroℚ) column ≡ zeroℚ
zero_at zero column = refl
zero_at (suc n) zero = refl
zero_at (suc n) (suc column) = zero_at n column

module _ (program reduced : Program) (post : List ℚ → List ℚ) (kept : ℕ → ℕ) (pair : IsPair program reduced post kept) (first second : ℕ) (within : first < length reduced.bounds) (inside : second < length reduced.bounds) (e : kept first ≡ kept second) where
  abbrev point : List ℚ
  point = unit (length reduced.bounds) first

  long : length point ≡ length reduced.bounds
  long = long_set (replicate (length reduced.bounds) zeroℚ) first oneℚ ∙ length-zeros (length reduced.bounds)

  values : value_at point first ≡ value_at point second
  values =
      sym ((pair.columns first within).value point long)
      ∙ ap (value_at (post point)) e
      ∙ (pair.columns second inside).value point long

  go : Same second first → first ≡ second
  go (same d) = sym d
  go (other h) =
      absurd (one_is_not_zero
      (sym (set_same (replicate (length reduced.bounds) zeroℚ) first oneℚ (subst_long within))
      ∙ values
      ∙ set_other (replicate (length reduced.bounds) zeroℚ) first second oneℚ h
      ∙ zero_at (length reduced.bounds) second))
    where
      subst_long : first < length reduced.bounds → first < length (replicate (length reduced.bounds) zeroℚ)
      subst_long h = let l = length-zeros (length reduced.bounds) in omega (arith, h, l)

  pub kept_apart : first ≡ second
  kept_apart = go (same_or second first)
