-- How many whole assignments a program that is drawn has.
use Rattle.std.proofs.Common.{◌≡◌, ℕ, zero, suc, ◌^◌, ℤ, pos, ◌+ℤ◌, ◌-ℤ◌, true, Some, refl, sym, ap, ap₂, ◌∙◌}
use Rattle.std.specs.Prelude.{replicate}
use Rattle.std.proofs.Math.Nat.{pow-succ', one-mul}
use Rattle.cip_rational.specs.Rational.{zeroℚ, floor, ceil}
use Rattle.cip_rational.proofs.Rational.Rounding.{floor-integer, ceil-integer, integer-zero}
use Rattle.cip_problem.specs.Wholes.{count, wholes_between, times, assignments}
use Rattle.cip_problem.specs.Log.{root, leaf_count}
use Rattle.cip_input.specs.Generated.{natural, zero_to_three, generated}

four : wholes_between (Some zeroℚ) (Some (natural 3)) ≡ Some 4
four =
    let high : floor (natural 3) ≡ pos 3 = floor-integer (pos 3) in
    let low : ceil zeroℚ ≡ pos 0 = ap ceil (sym integer-zero) ∙ ceil-integer (pos 0) in
    ap₂ (λ (h l : ℤ). Some (count ((h +ℤ pos 1) -ℤ l))) high low

all_of : (n : ℕ) → assignments (replicate n true) (replicate n zero_to_three) ≡ Some (4 ^ n)
all_of zero = refl
all_of (suc n) = ap₂ times four (all_of n) ∙ ap Some (sym (pow-succ' 4 n))

pub leaves_are_counted : (seed columns rows : ℕ) → leaf_count (generated seed columns rows).integral (root (generated seed columns rows)) ≡ Some (4 ^ columns)
leaves_are_counted seed columns rows = ap (times (Some 1)) (all_of columns) ∙ ap Some (one-mul (4 ^ columns))
