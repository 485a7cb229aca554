-- Rows from lists of coefficients, and which rows are valid.
use Rattle.std.proofs.Common.{◌≡◌, ℕ, suc, ◌+◌, ◌<◌, ◌≤◌, Bool, true, false, cond, List, [], ◌∷◌, length, refl, sym, ap, ◌∙◌, subst, arith}
use Rattle.std.specs.List.{AllByRecursion}
use Rattle.std.proofs.lemmas.Bool.{and_parts}
use Rattle.std.proofs.lemmas.List.Elements.{All-from_recursion}
use Rattle.cip_rational.specs.Rational.{ℚ, ◌+ℚ◌, ◌-ℚ◌, ◌*ℚ◌, zeroℚ, ◌≤ℚ◌, le_test, is_zero}
use Rattle.cip_rational.specs.Sums.{dot}
use Rattle.cip_rational.proofs.Rational.Ring.{*ℚ-zero, +ℚ-zero, zero-*ℚ, zero-+ℚ}
use Rattle.cip_rational.proofs.Rational.Order.{≤ℚ_antisymm, le_of_test}
use Rattle.cip_rational.proofs.Linear.{linear_le}
use Rattle.cip_problem.specs.Program.{Term, Program}
use Rattle.cip_problem.specs.Activity.{activity, value_at, StandsBelow}
use Rattle.cip_problem.specs.Points.{IsSatisfied, cost_of}
use Rattle.cip_problem.specs.Aggregate.{Inequality, Holds}
use Rattle.cip_problem.specs.Cuts.{terms_from, row_of, cutoff_row}

pub zero_of_test : (q : ℚ) → is_zero q ≡ true → q ≡ zeroℚ
unfolding is_zero
zero_of_test q h =
    let parts = and_parts (le_test q zeroℚ) (le_test zeroℚ q) h in
    ≤ℚ_antisymm (le_of_test parts.0) (le_of_test parts.1)

-- ---- terms from coefficients

-- at a point without values each activity is 0
nothing : (terms : List Term) → activity terms [] ≡ zeroℚ
nothing [] = refl
nothing (t ∷ ts) = rw (*ℚ-zero t.coefficient, nothing ts) (+ℚ-zero zeroℚ)

-- a coefficient adds its product, also where it is left out as 0
added : (column : ℕ) (d : ℚ) (ts : List Term) (point : List ℚ) (t : Bool) → is_zero d ≡ t → activity (cond t ts (record { column = column; coefficient = d } ∷ ts)) point ≡ d *ℚ value_at point column +ℚ activity ts point
added column d ts point false e = refl
added column d ts point true e = rw (zero_of_test d e, zero-*ℚ (value_at point column)) (sym (zero-+ℚ (activity ts point)))

-- one column further on, at one value more
further : (column : ℕ) (ds : List ℚ) (v : ℚ) (vs : List ℚ) → activity (terms_from (suc column) ds) (v ∷ vs) ≡ activity (terms_from column ds) vs
further column [] v vs = refl
further column (d ∷ ds) v vs =
    added (suc column) d (terms_from (suc (suc column)) ds) (v ∷ vs) (is_zero d) refl
    ∙ ap (λ t. d *ℚ value_at vs column +ℚ t) (further (suc column) ds v vs)
    ∙ sym (added column d (terms_from (suc column) ds) vs (is_zero d) refl)

pub terms_activity : (ds point : List ℚ) → activity (terms_from 0 ds) point ≡ dot ds point
terms_activity [] point = refl
terms_activity (d ∷ ds) [] = nothing (terms_from 0 (d ∷ ds))
terms_activity (d ∷ ds) (v ∷ vs) =
    added 0 d (terms_from 1 ds) (v ∷ vs) (is_zero d) refl
    ∙ ap (λ t. d *ℚ v +ℚ t) (further 0 ds v vs ∙ terms_activity ds vs)

stands : (column n : ℕ) (ds : List ℚ) → column + length ds ≤ n → AllByRecursion (λ (t : Term). t.column < n) (terms_from column ds)
stands column n [] h = tt
stands column n (d ∷ ds) h = chosen (is_zero d) (stands (suc column) n ds (omega (arith, h)))
  where
    chosen : (t : Bool) → AllByRecursion (λ (t : Term). t.column < n) (terms_from (suc column) ds) → AllByRecursion (λ (t : Term). t.column < n) (cond t (terms_from (suc column) ds) (record { column = column; coefficient = d } ∷ terms_from (suc column) ds))
    chosen true k = k
    chosen false k = (omega (arith, h), k)

pub row_stands : (row : Inequality) → StandsBelow (length row.coefficients) (row_of row).terms
row_stands row =
    All-from_recursion (λ (t : Term). t.column < length row.coefficients) (terms_from 0 row.coefficients) (stands 0 (length row.coefficients) row.coefficients (omega arith))

-- an inequality and its row
pub row_satisfied : (row : Inequality) (point : List ℚ) → Holds row point → IsSatisfied (row_of row) point
row_satisfied row point h =
    record { above = subst (λ t. row.least ≤ℚ t) (sym (terms_activity row.coefficients point)) h; below = tt }

pub row_holds : (row : Inequality) (point : List ℚ) → IsSatisfied (row_of row) point → Holds row point
row_holds row point h = subst (λ t. row.least ≤ℚ t) (terms_activity row.coefficients point) h.above

-- ---- the cutoff row

pub cutoff_satisfied : (program : Program) (cost : ℚ) (point : List ℚ) → cost_of program point ≤ℚ cost → IsSatisfied (cutoff_row program cost) point
cutoff_satisfied program cost point h =
    let k : dot program.costs point ≤ℚ cost -ℚ program.constant = (let l : program.constant +ℚ dot program.costs point ≤ℚ cost = h in linear_le (program.constant ∷ dot program.costs point ∷ cost ∷ []) (λ s w. omega (arith, s.le_out))) in
    record { above = tt; below = subst (λ t. t ≤ℚ cost -ℚ program.constant) (sym (terms_activity program.costs point)) k }

pub cutoff_holds : (program : Program) (cost : ℚ) (point : List ℚ) → IsSatisfied (cutoff_row program cost) point → cost_of program point ≤ℚ cost
cutoff_holds program cost point h =
    let k : dot program.costs point ≤ℚ cost -ℚ program.constant = subst (λ t. t ≤ℚ cost -ℚ program.constant) (terms_activity program.costs point) h.below in
    linear_le (program.constant ∷ dot program.costs point ∷ cost ∷ []) (λ s w. omega (arith, s.le_out))
