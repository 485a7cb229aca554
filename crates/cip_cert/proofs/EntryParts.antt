-- Entries of a combination, each added by the part that it is.
use Rattle.std.proofs.Common.{◌≡◌, ℕ, ◌<◌, ◌≤◌, cond, List, length, Option, Result, Ok, Err, refl, ap, ap₂}
use Rattle.std.proofs.lemmas.Bool.{lt-ltb, le-ltb, false_from_ne_true}
use Rattle.std.specs.Prelude.{MatchResult}
use Rattle.cip_rational.specs.Rational.{ℚ, zeroℚ, ◌<ℚ◌, lt_test}
use Rattle.cip_rational.proofs.Rational.Order.{≤ℚ_of_lt, test_of_lt, lt_of_test, lt_test_of_le}
use Rattle.cip_problem.specs.Program.{Term, Sides, Row}
use Rattle.cip_problem.specs.Box.{sides_at}
use Rattle.cip_lin.specs.declared.combos.ColumnMultiple.{ColumnMultiple}
use Rattle.cip_problem.specs.Aggregate.{Part, Inequality}
use Rattle.cip_cert.specs.Checks.{chain, side_part, row_part, add_part, column_terms, add_low, add_high}
use Rattle.cip_cert.specs.declared.faults.CutFault.{CutFault}
use Rattle.cip_cert.specs.declared.faults.CutFault.TheVariants.{UnknownColumn, WrongSign}

-- a part that is another one is added as that is
pub added_as : (entry : ℕ) (part other : Result Part CutFault) (row : Inequality) (coefficients : List ℚ)
    (r : Result ℚ CutFault) → part ≡ other
    → MatchResult r (λ least. chain other (add_part entry row) ≡ Ok
    (record { coefficients = coefficients; least = least })) (λ fault. chain other (add_part entry row) ≡ Err fault)
    → MatchResult r (λ least. chain part (add_part entry row) ≡ Ok
    (record { coefficients = coefficients; least = least })) (λ fault. chain part (add_part entry row) ≡ Err fault)
added_as entry part other row coefficients r same h = rw same h

-- a factor above 0 uses the low side of a row
pub uses_low : (entry : ℕ) (factor : ℚ) (row : Row) (terms : List Term) (side : Option ℚ) → zeroℚ <ℚ factor → terms
    ≡ row.terms → side ≡ row.low → row_part entry factor row ≡ side_part entry factor terms side
uses_low entry factor row terms side above t s = rw (t, s, test_of_lt above) refl

-- one below 0 its high side
pub uses_high : (entry : ℕ) (factor : ℚ) (row : Row) (terms : List Term) (side : Option ℚ) → factor <ℚ zeroℚ → terms
    ≡ row.terms → side ≡ row.high → row_part entry factor row ≡ side_part entry factor terms side
uses_high entry factor row terms side below t s = rw (t, s, lt_test_of_le (≤ℚ_of_lt below), test_of_lt below) refl

-- ---- sides of columns

module _ (box : List Sides) (entry : ℕ) (multiple : ColumnMultiple) (row : Inequality) where
  pub low_unknown : length box ≤ multiple.col → add_low box entry multiple row ≡ Err (UnknownColumn entry)
  low_unknown h =
      ap (λ t. chain (cond t (cond (lt_test zeroℚ multiple.factor)
      (side_part entry multiple.factor (column_terms multiple.col) (sides_at box multiple.col).low)
      (Err (WrongSign entry))) (Err (UnknownColumn entry))) (add_part entry row))
      (le-ltb multiple.col (length box) h)

  pub low_sign : multiple.col < length box → ¬ (zeroℚ <ℚ multiple.factor)
      → add_low box entry multiple row ≡ Err (WrongSign entry)
  low_sign h n =
      ap₂ (λ t u. chain (cond t (cond u
      (side_part entry multiple.factor (column_terms multiple.col) (sides_at box multiple.col).low)
      (Err (WrongSign entry))) (Err (UnknownColumn entry))) (add_part entry row))
      (lt-ltb multiple.col (length box) h) (false_from_ne_true _ (λ e. n (lt_of_test e)))

  pub low_used : multiple.col < length box → zeroℚ <ℚ multiple.factor
      → add_low box entry multiple row
      ≡ chain (side_part entry multiple.factor (column_terms multiple.col) (sides_at box multiple.col).low)
      (add_part entry row)
  low_used h n =
      ap₂ (λ t u. chain (cond t (cond u
      (side_part entry multiple.factor (column_terms multiple.col) (sides_at box multiple.col).low)
      (Err (WrongSign entry))) (Err (UnknownColumn entry))) (add_part entry row))
      (lt-ltb multiple.col (length box) h) (test_of_lt n)

  pub high_unknown : length box ≤ multiple.col → add_high box entry multiple row ≡ Err (UnknownColumn entry)
  high_unknown h =
      ap (λ t. chain (cond t (cond (lt_test multiple.factor zeroℚ)
      (side_part entry multiple.factor (column_terms multiple.col) (sides_at box multiple.col).high)
      (Err (WrongSign entry))) (Err (UnknownColumn entry))) (add_part entry row))
      (le-ltb multiple.col (length box) h)

  pub high_sign : multiple.col < length box → ¬ (multiple.factor <ℚ zeroℚ)
      → add_high box entry multiple row ≡ Err (WrongSign entry)
  high_sign h n =
      ap₂ (λ t u. chain (cond t (cond u
      (side_part entry multiple.factor (column_terms multiple.col) (sides_at box multiple.col).high)
      (Err (WrongSign entry))) (Err (UnknownColumn entry))) (add_part entry row))
      (lt-ltb multiple.col (length box) h) (false_from_ne_true _ (λ e. n (lt_of_test e)))
