-- What chains of sums and products come to, where no operation overflows.
use Rattle.std.proofs.Common.{◌≡◌, List, [], ◌∷◌, Result, Ok, Err, IfOk, IsErr, Bool, true, false, cond, refl, sym, ap}
use Rattle.cip_rational.specs.Rational.{ℚ, ◌+ℚ◌, ◌*ℚ◌}
use Rattle.cip_rational.proofs.Rational.Ring.{+ℚ_assoc, +ℚ-zero}
use Rattle.cip_rational.specs.Range.{sum_overflows, product_overflows}
use Rattle.cip_rational.specs.Sums.{dot}
use Rattle.cip_frac.specs.declared.operations.Wide.{Wide}
use Rattle.cip_frac.specs.Outcomes.{sum_outcome, product_outcome, and_then, product_added, dot_from}

ok_value : (q : ℚ) (overflows : Bool) (wide : Wide) → IfOk (cond overflows (Err wide) (Ok q)) (λ v. v ≡ q)
ok_value q true wide = tt
ok_value q false wide = refl

pub outcome_ok : (q v : ℚ) (overflows : Bool) (wide : Wide) → overflows ≡ false → v ≡ q → cond overflows (Err wide) (Ok q) ≡ Ok v
outcome_ok q v overflows wide e f = rw e (ap Ok (sym f))

pub outcome_err : (q : ℚ) (overflows : Bool) (wide : Wide) → overflows ≡ true → IsErr (cond overflows (Err wide) (Ok q))
outcome_err q overflows wide e = rw e refl

-- what comes after an outcome, by the value that it may have
pub then_value : (r : Result ℚ Wide) (next : ℚ → Result ℚ Wide) (p q : ℚ) → IfOk r (λ v. v ≡ p) → IfOk (next p) (λ v. v ≡ q) → IfOk (and_then r next) (λ v. v ≡ q)
then_value (Ok v) next p q e h = rw e h
then_value (Err wide) next p q e h = tt

-- a sum with a product added
pub product_added-value : (sum a b : ℚ) → IfOk (product_added sum a b) (λ v. v ≡ sum +ℚ a *ℚ b)
product_added-value sum a b =
    then_value (product_outcome a b) (λ product. sum_outcome sum product) (a *ℚ b) (sum +ℚ a *ℚ b)
    (ok_value _ (product_overflows a b) _) (ok_value _ (sum_overflows sum (a *ℚ b)) _)

-- so it is with the products of two lists
pub dot_from-value : (sum : ℚ) (us vs : List ℚ) → IfOk (dot_from sum us vs) (λ v. v ≡ sum +ℚ dot us vs)
dot_from-value sum [] vs = sym (+ℚ-zero sum)
dot_from-value sum (u ∷ us) [] = sym (+ℚ-zero sum)
dot_from-value sum (u ∷ us) (v ∷ vs) =
    then_value (product_added sum u v) (λ more. dot_from more us vs) (sum +ℚ u *ℚ v) (sum +ℚ (u *ℚ v +ℚ dot us vs))
    (product_added-value sum u v)
    (rw (← +ℚ_assoc sum (u *ℚ v) (dot us vs)) (dot_from-value (sum +ℚ u *ℚ v) us vs))
