-- The forms of a linear program's system are its activities and its cost.
use Rattle.std.proofs.Common.{◌≡◌, ℕ, zero, suc, ◌<◌, ◌==◌, cond, List, [], ◌∷◌, length, Some, slice_get, refl, sym, ap, ap₂, ◌∙◌, inl, inr, arith}
use Rattle.std.specs.List.{AllByRecursion}
use Rattle.std.proofs.lemmas.Bool.{eq-eqb, ne_eqb, cases_eq}
use Rattle.std.proofs.lemmas.List.Elements.{recursion_from_All}
use Rattle.std.proofs.lemmas.Option.{none-some, same_Some}
use Rattle.cip_rational.specs.Rational.{ℚ, ◌+ℚ◌, ◌*ℚ◌, zeroℚ}
use Rattle.cip_rational.specs.Sums.{dot}
use Rattle.cip_rational.proofs.Rational.Ring.{+ℚ-zero, zero-+ℚ, zero-*ℚ, add-*ℚ, +ℚ_assoc}
use Rattle.cip_problem.specs.Program.{Term, Row}
use Rattle.cip_problem.specs.Activity.{activity, value_at, StandsBelow}
use Rattle.cip_problem.specs.LinearProgram.{LinearProgram, IsProper}
use Rattle.cip_problem.specs.Aggregate.{coefficient_on}
use Rattle.cip_bland.specs.Tables.{total, form}
use Rattle.cip_bland.specs.ProgramState.{terms_at, TellsProgram}
use Rattle.cip_bland.proofs.Tables.{total_same, total_zero, total-add, total-only, only, only_there}

-- ---- rows

-- the product of a term on its column, and 0 elsewhere
term_product : (t : Term) (point : List ℚ) (k : ℕ) → cond (t.column == k) t.coefficient zeroℚ *ℚ value_at point k ≡ only t.column (t.coefficient *ℚ value_at point t.column) k
term_product t point k =
    elim (cases_eq k t.column) [
      | inl e ↦ (let here : cond (t.column == k) t.coefficient zeroℚ ≡ t.coefficient = ap (λ b. cond b t.coefficient zeroℚ) (eq-eqb t.column k (sym e)) in
          let there : only t.column (t.coefficient *ℚ value_at point t.column) k ≡ t.coefficient *ℚ value_at point t.column = ap (λ b. cond b (t.coefficient *ℚ value_at point t.column) zeroℚ) (eq-eqb k t.column e) in
          ap (λ q. q *ℚ value_at point k) here ∙ ap (λ c. t.coefficient *ℚ value_at point c) e ∙ sym there)
      | inr ne ↦ (let here : cond (t.column == k) t.coefficient zeroℚ ≡ zeroℚ = ap (λ b. cond b t.coefficient zeroℚ) (ne_eqb t.column k (λ e. ne (sym e))) in
          ap (λ q. q *ℚ value_at point k) here ∙ zero-*ℚ (value_at point k) ∙ sym (only_there t.column k (t.coefficient *ℚ value_at point t.column) ne))
    ]

form-activity : (n : ℕ) (terms : List Term) (point : List ℚ) → AllByRecursion (λ t. t.column < n) terms → form n (coefficient_on terms) (value_at point) ≡ activity terms point
form-activity n [] point h = total_zero n _ (λ k l. zero-*ℚ (value_at point k))
form-activity n (t ∷ ts) point h =
    total_same n (λ k. coefficient_on (t ∷ ts) k *ℚ value_at point k) (λ k. only t.column (t.coefficient *ℚ value_at point t.column) k +ℚ coefficient_on ts k *ℚ value_at point k)
    (λ k l. add-*ℚ (cond (t.column == k) t.coefficient zeroℚ) (coefficient_on ts k) (value_at point k) ∙ ap (λ q. q +ℚ coefficient_on ts k *ℚ value_at point k) (term_product t point k))
    ∙ total-add n (only t.column (t.coefficient *ℚ value_at point t.column)) (λ k. coefficient_on ts k *ℚ value_at point k)
    ∙ ap₂ (λ u v. u +ℚ v) (total-only n t.column (t.coefficient *ℚ value_at point t.column) h.0) (form-activity n ts point h.1)

-- ---- costs

pub total-front : (n : ℕ) (f : ℕ → ℚ) → total (suc n) f ≡ f 0 +ℚ total n (λ k. f (suc k))
total-front zero f = zero-+ℚ (f 0) ∙ sym (+ℚ-zero (f 0))
total-front (suc n) f =
    ap (λ q. q +ℚ f (suc n)) (total-front n f) ∙ +ℚ_assoc (f 0) (total n (λ k. f (suc k))) (f (suc n))

pub form-dot : (n : ℕ) (costs point : List ℚ) → length costs ≡ n → length point ≡ n → form n (value_at costs) (value_at point) ≡ dot costs point
form-dot zero [] point e e' = refl
form-dot zero (c ∷ cs) point e e' = absurd (omega (arith, e))
form-dot (suc n) [] point e e' = absurd (omega (arith, e))
form-dot (suc n) (c ∷ cs) [] e e' = absurd (omega (arith, e'))
form-dot (suc n) (c ∷ cs) (x ∷ xs) e e' =
    total-front n (λ k. value_at (c ∷ cs) k *ℚ value_at (x ∷ xs) k)
    ∙ ap (λ q. c *ℚ x +ℚ q) (form-dot n cs xs (omega (arith, e)) (omega (arith, e')))

-- ---- the program

row_terms : (rows : List Row) (r : ℕ) (row : Row) → slice_get rows r ≡ Some row → terms_at rows r ≡ row.terms
row_terms [] r row e = absurd (none-some row e)
row_terms (x ∷ xs) zero row e = ap (λ (t : Row). t.terms) (same_Some x row e)
row_terms (x ∷ xs) (suc r) row e = row_terms xs r row e

row_stands : (n : ℕ) (rows : List Row) (r : ℕ) (row : Row) → AllByRecursion (λ row. StandsBelow n row.terms) rows → slice_get rows r ≡ Some row → StandsBelow n row.terms
row_stands n [] r row h e = absurd (none-some row e)
row_stands n (x ∷ xs) zero row h e = let P : Row → Type 0 = λ t. StandsBelow n t.terms in Rattle.std.proofs.Common.subst P (same_Some x row e) h.0
row_stands n (x ∷ xs) (suc r) row h e = row_stands n xs r row h.1 e

pub programs_are_told : (program : LinearProgram) → IsProper program → TellsProgram program
programs_are_told program h = record {
  activities = λ point r row e.
      let below = row_stands (length program.bounds) program.rows r row (recursion_from_All _ program.rows h.rows) e in
      ap (λ ts. form (length program.bounds) (coefficient_on ts) (value_at point)) (row_terms program.rows r row e)
      ∙ form-activity (length program.bounds) row.terms point (recursion_from_All _ row.terms below);
  cost = λ point l. form-dot (length program.bounds) program.costs point h.costs l;
}
