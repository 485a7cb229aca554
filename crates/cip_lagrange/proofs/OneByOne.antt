-- Multipliers, terms and columns of no block one after another.
use Rattle.std.proofs.Common.{◌≡◌, ℕ, ◌+◌, ◌<◌, ◌≤◌, List, ◌∷◌, length, get_or, set, drop, Option, Result, Ok, Err, refl, sym, ap, ap₂, ◌∙◌, cond}
use Rattle.std.proofs.Math.ListN.{drop_of_length-le}
use Rattle.std.proofs.lemmas.List.{drop_more, get_or_default}
use Rattle.cip_rational.specs.Rational.{ℚ, zeroℚ, ◌<ℚ◌, lt_test}
use Rattle.cip_rational.proofs.Rational.Order.{≤ℚ_of_lt, test_of_lt, lt_of_test, lt_test_of_le}
use Rattle.std.proofs.lemmas.Bool.{false_from_ne_true}
use Rattle.cip_problem.specs.Program.{Term, Sides, Row, no_row}
use Rattle.cip_problem.specs.Activity.{value_at}
use Rattle.cip_problem.specs.Box.{sides_at}
use Rattle.cip_lagrange.specs.declared.answers.LagrangeFault.{LagrangeFault}
use Rattle.cip_lagrange.specs.LagrangeOutcomes.{chain, Reduced, product_less, terms_less, side_used, multiplier_used, multipliers_used, rest_added, column_added, free_added}

-- ---- multipliers

module _ (rows : List Row) (numbers : List ℕ) (ys : List ℚ) (at : ℕ) (before : Reduced)
    (total : Result Reduced LagrangeFault)
    (so_far : multipliers_used rows (drop at numbers) (drop at ys) before ≡ total) where
  module _ (row : Row) (y : ℚ) (inside : at < length numbers) (has : at < length ys)
      (there : get_or numbers at 0 < length rows) (row_is : row ≡ get_or rows (get_or numbers at 0) row)
      (y_is : y ≡ get_or ys at y) where
    opened : multipliers_used rows (drop at numbers) (drop at ys) before
        ≡ chain (multiplier_used (get_or numbers at 0) y row before)
        (multipliers_used rows (drop (at + 1) numbers) (drop (at + 1) ys))
    opened =
        ap₂ (λ (ns : List ℕ) (zs : List ℚ). multipliers_used rows ns zs before) (drop_more numbers at 0 inside)
        (drop_more ys at y has ∙ ap (λ z. z ∷ drop (at + 1) ys) (sym y_is))
        ∙ ap (λ (r : Row). chain (multiplier_used (get_or numbers at 0) y r before)
        (multipliers_used rows (drop (at + 1) numbers) (drop (at + 1) ys)))
        (get_or_default rows (get_or numbers at 0) no_row row there ∙ sym row_is)

    pub multiplier_taken : (more : Reduced) → multiplier_used (get_or numbers at 0) y row before ≡ Ok more
        → multipliers_used rows (drop (at + 1) numbers) (drop (at + 1) ys) more ≡ total
    multiplier_taken more a =
        ap (λ (r : Result Reduced LagrangeFault). chain r
        (multipliers_used rows (drop (at + 1) numbers) (drop (at + 1) ys))) (sym a)
        ∙ sym opened ∙ so_far

    pub multiplier_fails : (fault : LagrangeFault)
        → multiplier_used (get_or numbers at 0) y row before ≡ Err fault → total ≡ Err fault
    multiplier_fails fault a =
        sym so_far ∙ opened ∙ ap (λ (r : Result Reduced LagrangeFault). chain r
        (multipliers_used rows (drop (at + 1) numbers) (drop (at + 1) ys))) a

  pub multipliers_taken : length numbers ≤ at → total ≡ Ok before
  multipliers_taken l =
      sym so_far ∙ ap (λ (ns : List ℕ). multipliers_used rows ns (drop at ys) before) (drop_of_length-le numbers l)

-- ---- the terms of a row

module _ (y : ℚ) (at : ℕ) (ts : List Term) (rests : List ℚ) (total : Result (List ℚ) LagrangeFault)
    (so_far : terms_less y (drop at ts) rests ≡ total) where
  module _ (t : Term) (column : ℕ) (coefficient rest : ℚ) (inside : at < length ts) (is : t ≡ get_or ts at t)
      (column_is : column ≡ t.column) (coefficient_is : coefficient ≡ t.coefficient) (below : column < length rests)
      (rest_is : rest ≡ get_or rests column rest) where
    term_opened : terms_less y (drop at ts) rests
        ≡ chain (product_less rest y coefficient) (λ less. terms_less y (drop (at + 1) ts) (set rests column less))
    term_opened =
        ap (λ (xs : List Term). terms_less y xs rests)
        (drop_more ts at t inside ∙ ap (λ x. x ∷ drop (at + 1) ts) (sym is))
        ∙ ap₂ (λ (k : ℕ) (q : ℚ). chain (product_less (value_at rests k) y q)
        (λ less. terms_less y (drop (at + 1) ts) (set rests k less))) (sym column_is) (sym coefficient_is)
        ∙ ap (λ q. chain (product_less q y coefficient)
        (λ less. terms_less y (drop (at + 1) ts) (set rests column less)))
        (get_or_default rests column zeroℚ rest below ∙ sym rest_is)

    pub term_taken : (less : ℚ) → Ok less ≡ product_less rest y coefficient
        → terms_less y (drop (at + 1) ts) (set rests column less) ≡ total
    term_taken less a =
        ap (λ r. chain r (λ less. terms_less y (drop (at + 1) ts) (set rests column less))) a
        ∙ sym term_opened ∙ so_far

    pub term_fails : (fault : LagrangeFault) → Err fault ≡ product_less rest y coefficient → total ≡ Err fault
    term_fails fault a =
        sym so_far ∙ term_opened
        ∙ ap (λ r. chain r (λ less. terms_less y (drop (at + 1) ts) (set rests column less))) (sym a)

  pub terms_taken : length ts ≤ at → total ≡ Ok rests
  terms_taken l = sym so_far ∙ ap (λ (xs : List Term). terms_less y xs rests) (drop_of_length-le ts l)

-- ---- columns of no block

module _ (rests : List ℚ) (box : List Sides) (numbers : List ℕ) (at : ℕ) (sum : ℚ) (total : Result ℚ LagrangeFault)
    (so_far : free_added rests box (drop at numbers) sum ≡ total) where
  module _ (rest : ℚ) (sides : Sides) (inside : at < length numbers) (there : get_or numbers at 0 < length rests)
      (rest_is : rest ≡ get_or rests (get_or numbers at 0) rest) (sides_are : sides
      ≡ sides_at box (get_or numbers at 0))
    where
      column_opened : free_added rests box (drop at numbers) sum
          ≡ chain (column_added (get_or numbers at 0) rest sides sum) (free_added rests box (drop (at + 1) numbers))
      column_opened =
          ap (λ (ns : List ℕ). free_added rests box ns sum) (drop_more numbers at 0 inside)
          ∙ ap₂ (λ (q : ℚ) (s : Sides). chain (column_added (get_or numbers at 0) q s sum)
          (free_added rests box (drop (at + 1) numbers)))
          (get_or_default rests (get_or numbers at 0) zeroℚ rest there ∙ sym rest_is) (sym sides_are)

      pub column_taken : (more : ℚ) → Ok more ≡ column_added (get_or numbers at 0) rest sides sum
          → free_added rests box (drop (at + 1) numbers) more ≡ total
      column_taken more a =
          ap (λ r. chain r (free_added rests box (drop (at + 1) numbers))) a ∙ sym column_opened ∙ so_far

      pub column_fails : (fault : LagrangeFault) → Err fault ≡ column_added (get_or numbers at 0) rest sides sum
          → ◌≡◌ {A = Result ℚ LagrangeFault} (Err fault) total
      column_fails fault a =
          ap (λ r. chain r (free_added rests box (drop (at + 1) numbers))) a ∙ sym column_opened ∙ so_far

  pub columns_taken : length numbers ≤ at → ◌≡◌ {A = Result ℚ LagrangeFault} (Ok sum) total
  columns_taken l =
      sym (ap (λ (ns : List ℕ). free_added rests box ns sum) (drop_of_length-le numbers l)) ∙ so_far

-- ---- one multiplier

pub uses_low : (number : ℕ) (y : ℚ) (row : Row) (before : Reduced) (terms : List Term) (side : Option ℚ)
    → zeroℚ <ℚ y → terms ≡ row.terms → side ≡ row.low
    → multiplier_used number y row before ≡ side_used number y terms side before
uses_low number y row before terms side above t s = rw (t, s, test_of_lt above) refl

pub uses_high : (number : ℕ) (y : ℚ) (row : Row) (before : Reduced) (terms : List Term) (side : Option ℚ)
    → y <ℚ zeroℚ → terms ≡ row.terms → side ≡ row.high
    → multiplier_used number y row before ≡ side_used number y terms side before
uses_high number y row before terms side below t s =
    rw (t, s, lt_test_of_le (≤ℚ_of_lt below), test_of_lt below) refl

pub uses_neither : (number : ℕ) (y : ℚ) (row : Row) (before : Reduced) → ¬ (zeroℚ <ℚ y) → ¬ (y <ℚ zeroℚ)
    → multiplier_used number y row before ≡ Ok before
uses_neither number y row before n m =
    rw (
      false_from_ne_true (lt_test zeroℚ y) (λ e. n (lt_of_test e)),
      false_from_ne_true (lt_test y zeroℚ) (λ e. m (lt_of_test e)),
    ) refl

-- ---- the rest of a column

pub rest_low : (column : ℕ) (rest sum : ℚ) (sides : Sides) → zeroℚ <ℚ rest
    → column_added column rest sides sum ≡ rest_added column rest sides.low sum
rest_low column rest sum sides h =
    ap (λ t. cond t (rest_added column rest sides.low sum)
    (cond (lt_test rest zeroℚ) (rest_added column rest sides.high sum) (Ok sum))) (test_of_lt h)

pub rest_high : (column : ℕ) (rest sum : ℚ) (sides : Sides) → ¬ (zeroℚ <ℚ rest) → rest <ℚ zeroℚ
    → column_added column rest sides sum ≡ rest_added column rest sides.high sum
rest_high column rest sum sides n h =
    ap₂ (λ t u. cond t (rest_added column rest sides.low sum)
    (cond u (rest_added column rest sides.high sum) (Ok sum)))
    (false_from_ne_true _ (λ e. n (lt_of_test e))) (test_of_lt h)

pub rest_zero : (column : ℕ) (rest sum : ℚ) (sides : Sides) → ¬ (zeroℚ <ℚ rest) → ¬ (rest <ℚ zeroℚ)
    → column_added column rest sides sum ≡ Ok sum
rest_zero column rest sum sides n m =
    ap₂ (λ t u. cond t (rest_added column rest sides.low sum)
    (cond u (rest_added column rest sides.high sum) (Ok sum)))
    (false_from_ne_true _ (λ e. n (lt_of_test e))) (false_from_ne_true _ (λ e. m (lt_of_test e)))
