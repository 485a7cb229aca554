-- The aggregated row of a combination, step by step.
use Rattle.std.proofs.Common.{◌≡◌, ℕ, ◌+◌, ◌≤◌, Bool, true, false, cond, List, length, replicate, Result, Ok, Err, sym, ap, ap₂, ◌∙◌, subst}
use Rattle.std.specs.Prelude.{MatchResult, nat_lt}
use Rattle.std.proofs.lemmas.Bool.{ltb-false}
use Rattle.cip_rational.specs.Rational.{ℚ, zeroℚ}
use Rattle.cip_problem.specs.Program.{Sides}
use Rattle.cip_problem.specs.Aggregate.{Inequality}
use Rattle.cip_lin.specs.declared.combos.RowMultiple.{RowMultiple}
use Rattle.cip_lin.specs.declared.combos.ColumnMultiple.{ColumnMultiple}
use Rattle.cip_cert.specs.Lent.{Lent, Multiples, count_of}
use Rattle.cip_cert.specs.Checks.{chain, add_rows, add_lows, add_highs, add_all, nothing, aggregate_of}
use Rattle.cip_node_rules.specs.RowRules.{most_multiples}
use Rattle.cip_cert.specs.declared.faults.CutFault.{CutFault}
use Rattle.cip_cert.specs.declared.faults.CutFault.TheVariants.{TooLong}

module _ (lent : Lent) (box : List Sides) (columns : ℕ) (combo : Multiples) (long : Bool) (is : long
    ≡ nat_lt most_multiples (count_of combo)) where
  pub too_long : long ≡ true → aggregate_of lent box columns combo ≡ Err TooLong
  too_long h = ap (λ (t : Bool). cond t (Err TooLong) (add_all lent box combo (nothing columns))) (sym is ∙ h)

  pub few_entries : long ≡ false → length combo.rows + length combo.lows + length combo.highs ≤ most_multiples
  few_entries h = ltb-false most_multiples (count_of combo) (sym is ∙ h)

  module _ (few : long ≡ false) (zeros : List ℚ) (zero : ℚ) (none : zeros ≡ replicate columns zeroℚ) (nought : zero
      ≡ zeroℚ) (rows : List RowMultiple) (same : rows ≡ combo.rows) where
    begun : aggregate_of lent box columns combo ≡ chain (chain (add_rows lent box 0 rows
        (record { coefficients = zeros; least = zero })) (add_lows box (length combo.rows) combo.lows)) (add_highs box
        (length combo.rows + length combo.lows) combo.highs)
    begun =
        ap (λ (t : Bool). cond t (Err TooLong) (add_all lent box combo (nothing columns))) (sym is ∙ few)
        ∙ ap (λ (row : Inequality). add_all lent box combo row)
        (sym (ap₂ (λ (ds : List ℚ) (d : ℚ). (let row : Inequality = record { coefficients = ds; least = d } in row))
        none nought))
        ∙ ap (λ (ms : List RowMultiple). chain (chain (add_rows lent box 0 ms
        (record { coefficients = zeros; least = zero })) (add_lows box (length combo.rows) combo.lows))
        (add_highs box (length combo.rows + length combo.lows) combo.highs)) (sym same)

    pub rows_fail : (fault : CutFault) → add_rows lent box 0 rows (record { coefficients = zeros; least = zero })
        ≡ Err fault → aggregate_of lent box columns combo ≡ Err fault
    rows_fail fault h = begun ∙ ap (λ (r : Result Inequality CutFault). chain (chain r (add_lows box
        (length combo.rows) combo.lows)) (add_highs box (length combo.rows + length combo.lows) combo.highs)) h

    module _ (row : Inequality) (added : add_rows lent box 0 rows (record { coefficients = zeros; least = zero })
        ≡ Ok row) (above : ℕ) (first : above ≡ length combo.rows) (lows : List ColumnMultiple) (same_lows : lows
        ≡ combo.lows) where
      rows_added : aggregate_of lent box columns combo ≡ chain (add_lows box above lows row) (add_highs box
          (length combo.rows + length combo.lows) combo.highs)
      rows_added =
          begun ∙ ap (λ (r : Result Inequality CutFault). chain (chain r (add_lows box (length combo.rows) combo.lows))
          (add_highs box (length combo.rows + length combo.lows) combo.highs)) added
          ∙ ap₂ (λ (n : ℕ) (ms : List ColumnMultiple). chain (add_lows box n ms row) (add_highs box
          (length combo.rows + length combo.lows) combo.highs)) (sym first) (sym same_lows)

      pub lows_fail : (fault : CutFault) → add_lows box above lows row ≡ Err fault
          → aggregate_of lent box columns combo ≡ Err fault
      lows_fail fault h = rows_added ∙ ap (λ (r : Result Inequality CutFault). chain r (add_highs box
          (length combo.rows + length combo.lows) combo.highs)) h

      pub highs_added : (more : Inequality) → add_lows box above lows row ≡ Ok more → (below : ℕ) → below
          ≡ length combo.rows + length combo.lows → (highs : List ColumnMultiple) → highs ≡ combo.highs
          → (coefficients : List ℚ) (r : Result ℚ CutFault) → MatchResult r (λ least. add_highs box below highs more
          ≡ Ok (record { coefficients = coefficients; least = least })) (λ fault. add_highs box below highs more
          ≡ Err fault) → MatchResult r (λ least. aggregate_of lent box columns combo
          ≡ Ok (record { coefficients = coefficients; least = least })) (λ fault. aggregate_of lent box columns combo
          ≡ Err fault)
      highs_added more e below n highs same_highs coefficients r h =
          let all : aggregate_of lent box columns combo ≡ add_highs box below highs more =
          rows_added ∙ ap (λ (r : Result Inequality CutFault). chain r (add_highs box
          (length combo.rows + length combo.lows) combo.highs)) e
          ∙ ap₂ (λ (n : ℕ) (ms : List ColumnMultiple). add_highs box n ms more) (sym n) (sym same_highs) in
          subst (λ (a : Result Inequality CutFault). MatchResult r (λ least. a
          ≡ Ok (record { coefficients = coefficients; least = least })) (λ fault. a ≡ Err fault)) (sym all) h
