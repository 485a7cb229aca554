-- The bounds that are computed are those of the inequality.
use Rattle.std.proofs.Common.{◌≡◌, ℕ, zero, suc, ◌+◌, ◌<◌, ◌≤◌, Bool, true, false, cond, List, [], ◌∷◌, length, Option, None, Some, Ok, IfOk, refl, sym, ap, ◌∙◌, subst, arith}
use Rattle.std.proofs.lemmas.Bool.{eq-eqb, ne_eqb}
use Rattle.std.proofs.lemmas.Option.{same_Some}
use Rattle.cip_rational.specs.Rational.{ℚ, ◌+ℚ◌, ◌-ℚ◌, ◌*ℚ◌, negate, zeroℚ, lt_test}
use Rattle.cip_rational.specs.Range.{difference_overflows}
use Rattle.cip_rational.proofs.Rational.Ring.{+ℚ-zero, zero-+ℚ, +ℚ_assoc, sub_self, sub_is}
use Rattle.cip_rational.proofs.Rational.Order.{≤ℚ_refl, ≤ℚ_of_lt, lt_of_test, lt_test_of_le, not_le_of_lt}
use Rattle.cip_problem.specs.Program.{Sides}
use Rattle.cip_problem.specs.Activity.{value_at}
use Rattle.cip_problem.specs.BoxBound.{sum_if_both, product_at, least_cost, least_costs}
use Rattle.cip_problem.specs.Aggregate.{Inequality, differences, bound_of, only}
use Rattle.cip_cert.specs.declared.faults.FaultPlace.TheVariants.{Column}
use Rattle.cip_cert.specs.Checks.{chain, side_added, rest_added, rest_of, bound_from, is_named, own_rest_added, rests_from}
use Rattle.cip_cert.proofs.Sums.{ok_chain, ok_weaker, ok_cond, product_value}

-- a sum with an optional number added is this number
abbrev Sums : ℚ → Option ℚ → ℚ → Type 0
Sums sum more total = sum_if_both (Some sum) more ≡ Some total

-- ---- one column

side_value : (column : ℕ) (sum rest : ℚ) (side : Option ℚ) → IfOk (side_added column sum rest side) (Sums sum (product_at rest side))
side_value column sum rest None = tt
side_value column sum rest (Some side) =
    ok_weaker (λ v. v ≡ sum +ℚ rest *ℚ side) (Sums sum (Some (rest *ℚ side))) (side_added column sum rest (Some side)) (λ v e. ap Some (sym e)) (product_value (Column column) sum rest side)

least_cases : (column : ℕ) (sum rest : ℚ) (sides : Sides) (s t : Bool) → lt_test zeroℚ rest ≡ s → lt_test rest zeroℚ ≡ t → IfOk (cond s (side_added column sum rest sides.low) (cond t (side_added column sum rest sides.high) (Ok sum))) (Sums sum (cond t (product_at rest sides.high) (cond s (product_at rest sides.low) (Some zeroℚ))))
least_cases column sum rest sides true true h k = absurd (not_le_of_lt (lt_of_test h) (≤ℚ_of_lt (lt_of_test k)))
least_cases column sum rest sides true false h k = side_value column sum rest sides.low
least_cases column sum rest sides false true h k = side_value column sum rest sides.high
least_cases column sum rest sides false false h k = ap Some (+ℚ-zero sum)

rest_value : (column : ℕ) (sum rest : ℚ) (sides : Sides) → IfOk (rest_added column sum rest sides) (Sums sum (least_cost rest sides))
rest_value column sum rest sides = least_cases column sum rest sides (lt_test zeroℚ rest) (lt_test rest zeroℚ) refl refl

-- ---- all columns

least_nil : (xs : List ℚ) → least_costs xs [] ≡ Some zeroℚ
least_nil [] = refl
least_nil (x ∷ xs) = refl

sums_none : (sum : ℚ) (more : Option ℚ) → more ≡ Some zeroℚ → Sums sum more sum
sums_none sum more e = rw e (ap Some (+ℚ-zero sum))

sums_more : (sum middle total : ℚ) (first more : Option ℚ) → Sums sum first middle → Sums middle more total → Sums sum (sum_if_both first more) total
sums_more sum middle total None more h k = absurd (cc)
sums_more sum middle total (Some p) None h k = absurd (cc)
sums_more sum middle total (Some p) (Some q) h k =
    let m : sum +ℚ p ≡ middle = same_Some _ _ h in
    ap Some (sym (+ℚ_assoc sum p q) ∙ ap (λ t. t +ℚ q) m) ∙ k

rest_is : (column : ℕ) (cost d : ℚ) → IfOk (rest_of column cost d) (λ rest. rest ≡ cost -ℚ d)
rest_is column cost d = ok_cond (λ rest. rest ≡ cost -ℚ d) (difference_overflows cost d) _ _ (λ _. tt) (λ _. refl)

from_value : (column : ℕ) (sum : ℚ) (costs ds : List ℚ) (box : List Sides) → length costs ≡ length box → length box ≤ length ds → IfOk (bound_from column sum costs ds box) (Sums sum (least_costs (differences costs ds) box))
from_value column sum [] ds [] e h = sums_none sum _ (least_nil (differences [] ds))
from_value column sum [] ds (s ∷ ss) e h = absurd (omega (arith, e))
from_value column sum (c ∷ cs) ds [] e h = absurd (omega (arith, e))
from_value column sum (c ∷ cs) [] (s ∷ ss) e h = absurd (omega (arith, h))
from_value column sum (c ∷ cs) (d ∷ ds) (s ∷ ss) e h =
    ok_chain (Sums sum (least_cost (c -ℚ d) s)) (Sums sum (sum_if_both (least_cost (c -ℚ d) s) (least_costs (differences cs ds) ss))) (chain (rest_of column c d) (λ rest. rest_added column sum rest s)) (λ more. bound_from (suc column) more cs ds ss)
    (ok_chain (λ rest. rest ≡ c -ℚ d) (Sums sum (least_cost (c -ℚ d) s)) (rest_of column c d) (λ rest. rest_added column sum rest s) (rest_is column c d) (λ rest f. subst (λ r. IfOk (rest_added column sum rest s) (Sums sum (least_cost r s))) f (rest_value column sum rest s)))
    (λ more k. ok_weaker (Sums more (least_costs (differences cs ds) ss)) (Sums sum (sum_if_both (least_cost (c -ℚ d) s) (least_costs (differences cs ds) ss))) (bound_from (suc column) more cs ds ss) (λ total l. sums_more sum more total (least_cost (c -ℚ d) s) (least_costs (differences cs ds) ss) k l) (from_value (suc column) more cs ds ss (omega (arith, e)) (omega (arith, h))))

pub bound_value : (row : Inequality) (costs : List ℚ) (box : List Sides) → length costs ≡ length box → length box ≤ length row.coefficients → IfOk (bound_from 0 row.least costs row.coefficients box) (λ b. bound_of row costs box ≡ Some b)
bound_value row costs box e h = from_value 0 row.least costs row.coefficients box e h

-- ---- costs of 0, but for one column

zero_less : (d : ℚ) → negate d ≡ zeroℚ -ℚ d
zero_less d = sym (sub_is zeroℚ d ∙ zero-+ℚ (negate d))

-- a column that isn't named has its negative coefficient as its rest
own_value : (named : Option ℕ) (column : ℕ) (sum d : ℚ) (sides : Sides) → is_named named column ≡ false → IfOk (own_rest_added named column sum d sides) (Sums sum (least_cost (zeroℚ -ℚ d) sides))
own_value named column sum d sides n =
    ok_cond (Sums sum (least_cost (zeroℚ -ℚ d) sides)) (is_named named column) _ _ (λ y. absurd (cc))
    (λ _. subst (λ r. IfOk (rest_added column sum (negate d) sides) (Sums sum (least_cost r sides))) (zero_less d) (rest_value column sum (negate d) sides))

-- a column that is named has no rest
named_value : (named : Option ℕ) (column : ℕ) (sum d : ℚ) (sides : Sides) → is_named named column ≡ true → IfOk (own_rest_added named column sum d sides) (Sums sum (least_cost (d -ℚ d) sides))
named_value named column sum d sides y =
    ok_cond (Sums sum (least_cost (d -ℚ d) sides)) (is_named named column) _ _
    (λ _. rw (sub_self d, lt_test_of_le (≤ℚ_refl zeroℚ)) (ap Some (+ℚ-zero sum)))
    (λ n. absurd (cc))

-- no column from here on is named
abbrev NotNamed : Option ℕ → ℕ → Type 0
NotNamed named column = (k : ℕ) → column ≤ k → is_named named k ≡ false

unnamed_value : (named : Option ℕ) (column : ℕ) (sum : ℚ) (ds : List ℚ) (box : List Sides) → NotNamed named column → length box ≤ length ds → IfOk (rests_from named column sum ds box) (Sums sum (least_costs (differences [] ds) box))
unnamed_value named column sum [] [] n h = ap Some (+ℚ-zero sum)
unnamed_value named column sum [] (s ∷ ss) n h = absurd (omega (arith, h))
unnamed_value named column sum (d ∷ ds) [] n h = ap Some (+ℚ-zero sum)
unnamed_value named column sum (d ∷ ds) (s ∷ ss) n h =
    ok_chain (Sums sum (least_cost (zeroℚ -ℚ d) s)) (Sums sum (sum_if_both (least_cost (zeroℚ -ℚ d) s) (least_costs (differences [] ds) ss))) (own_rest_added named column sum d s) (λ more. rests_from named (suc column) more ds ss)
    (own_value named column sum d s (n column (omega arith)))
    (λ more k. ok_weaker (Sums more (least_costs (differences [] ds) ss)) (Sums sum (sum_if_both (least_cost (zeroℚ -ℚ d) s) (least_costs (differences [] ds) ss))) (rests_from named (suc column) more ds ss) (λ total l. sums_more sum more total (least_cost (zeroℚ -ℚ d) s) (least_costs (differences [] ds) ss) k l) (unnamed_value named (suc column) more ds ss (λ j l. n j (omega (arith, l))) (omega (arith, h))))

pub zero_value : (row : Inequality) (box : List Sides) → length box ≤ length row.coefficients → IfOk (rests_from None 0 row.least row.coefficients box) (λ b. bound_of row [] box ≡ Some b)
zero_value row box h = unnamed_value None 0 row.least row.coefficients box (λ k l. refl) h

-- so many columns before the one that is named
ahead_value : (ahead column : ℕ) (sum : ℚ) (ds : List ℚ) (box : List Sides) → ahead < length box → length box ≤ length ds → IfOk (rests_from (Some (column + ahead)) column sum ds box) (Sums sum (least_costs (differences (only ahead (value_at ds ahead)) ds) box))
ahead_value ahead column sum ds [] l h = absurd (omega (arith, l))
ahead_value ahead column sum [] (s ∷ ss) l h = absurd (omega (arith, h))
ahead_value zero column sum (d ∷ ds) (s ∷ ss) l h =
    ok_chain (Sums sum (least_cost (d -ℚ d) s)) (Sums sum (sum_if_both (least_cost (d -ℚ d) s) (least_costs (differences [] ds) ss))) (own_rest_added (Some (column + 0)) column sum d s) (λ more. rests_from (Some (column + 0)) (suc column) more ds ss)
    (named_value (Some (column + 0)) column sum d s (eq-eqb (column + 0) column (omega arith)))
    (λ more k. ok_weaker (Sums more (least_costs (differences [] ds) ss)) (Sums sum (sum_if_both (least_cost (d -ℚ d) s) (least_costs (differences [] ds) ss))) (rests_from (Some (column + 0)) (suc column) more ds ss) (λ total m. sums_more sum more total (least_cost (d -ℚ d) s) (least_costs (differences [] ds) ss) k m) (unnamed_value (Some (column + 0)) (suc column) more ds ss (λ j m. ne_eqb (column + 0) j (λ e. absurd (omega (arith, e, m)))) (omega (arith, h))))
ahead_value (suc ahead) column sum (d ∷ ds) (s ∷ ss) l h =
    let named : column + suc ahead ≡ suc column + ahead = omega arith in
    subst (λ n. IfOk (rests_from (Some n) column sum (d ∷ ds) (s ∷ ss)) (Sums sum (sum_if_both (least_cost (zeroℚ -ℚ d) s) (least_costs (differences (only ahead (value_at ds ahead)) ds) ss)))) (sym named)
    (ok_chain (Sums sum (least_cost (zeroℚ -ℚ d) s)) (Sums sum (sum_if_both (least_cost (zeroℚ -ℚ d) s) (least_costs (differences (only ahead (value_at ds ahead)) ds) ss))) (own_rest_added (Some (suc column + ahead)) column sum d s) (λ more. rests_from (Some (suc column + ahead)) (suc column) more ds ss)
    (own_value (Some (suc column + ahead)) column sum d s (ne_eqb (suc column + ahead) column (λ e. absurd (omega (arith, e)))))
    (λ more k. ok_weaker (Sums more (least_costs (differences (only ahead (value_at ds ahead)) ds) ss)) (Sums sum (sum_if_both (least_cost (zeroℚ -ℚ d) s) (least_costs (differences (only ahead (value_at ds ahead)) ds) ss))) (rests_from (Some (suc column + ahead)) (suc column) more ds ss) (λ total m. sums_more sum more total (least_cost (zeroℚ -ℚ d) s) (least_costs (differences (only ahead (value_at ds ahead)) ds) ss) k m) (ahead_value ahead (suc column) more ds ss (omega (arith, l)) (omega (arith, h)))))

pub one_value : (row : Inequality) (box : List Sides) (column : ℕ) → length box ≤ length row.coefficients → column < length box → IfOk (rests_from (Some column) 0 row.least row.coefficients box) (λ b. bound_of row (only column (value_at row.coefficients column)) box ≡ Some b)
one_value row box column h l =
    let same : 0 + column ≡ column = omega arith in
    subst (λ n. IfOk (rests_from (Some n) 0 row.least row.coefficients box) (λ b. bound_of row (only column (value_at row.coefficients column)) box ≡ Some b)) same (ahead_value column 0 row.least row.coefficients box l h)
