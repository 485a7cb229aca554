-- Columns that are named, and programs of facts.
use Rattle.std.proofs.Common.{◌≡◌, ℕ, ◌≤◌, Bool, true, List, [], length, set, Option, None, Some, refl, sym, ap, subst, ◌∙◌, arith}
use Rattle.std.specs.Prelude.{All, slice_get}
use Rattle.std.proofs.lemmas.List.{set_past}
use Rattle.cip_problem.specs.Limits.{most_columns}
use Rattle.cip_problem.specs.Activity.{StandsBelow}
use Rattle.cip_problem.specs.Choices.{choice_at}
use Rattle.cip_problem.specs.Program.{Row, Sides, Choice}
use Rattle.cip_problem.specs.WellFormed.{IsChoice, IsWellFormed}
use Rattle.cip_problem.specs.Box.{sides_at}
use Rattle.cip_rational.specs.Rational.{ℚ}
use Rattle.cip_text_rules.specs.MpsWords.{number_in}
use Rattle.cip_text_rules.specs.LpPlaces.{MakesWhole}
use Rattle.cip_text_rules.specs.LpFacts.{LpFacts, number_or, column_number, with_sides, with_whole}
use Rattle.cip_text_rules.specs.LpSound.{IsSoundLp}
use Rattle.cip_lp.specs.LpDrafts.{IsKeptLp}
use Rattle.cip_lp.proofs.KeptLaws.{kept_with}

-- ---- a column that was not named

past : (f : LpFacts) (name : List ℕ) → number_in f.column_names name ≡ None → column_number f name ≡ length f.column_names
past f name e = ap (λ (o : Option ℕ). number_or o (length f.column_names)) e

pub sides_past : (f : LpFacts) (name : List ℕ) (low high : Option ℚ) → IsKeptLp f → number_in f.column_names name ≡ None → f ≡ with_sides f name low high
sides_past f name low high h e =
    let own : Sides = record { low = low; high = high } in
    let n : column_number f name ≡ length f.column_names = past f name e in
    let s : length f.bounds ≡ length f.column_names = h.sound.bounds in
    let same : set f.bounds (column_number f name) own ≡ f.bounds = set_past f.bounds (column_number f name) own (omega (arith, n, s)) in
    λ i. record f { bounds = (sym same) i }

pub whole_past : (f : LpFacts) (name : List ℕ) → IsKeptLp f → number_in f.column_names name ≡ None → f ≡ with_whole f name
whole_past f name h e =
    let n : column_number f name ≡ length f.column_names = past f name e in
    let s : length f.integral ≡ length f.column_names = h.sound.integral in
    let same : set f.integral (column_number f name) true ≡ f.integral = set_past f.integral (column_number f name) true (omega (arith, n, s)) in
    λ i. record f { integral = (sym same) i }

pub binary_past : (f : LpFacts) (name : List ℕ) (low high : Option ℚ) → IsKeptLp f → number_in f.column_names name ≡ None → f ≡ with_sides (with_whole f name) name low high
binary_past f name low high h e =
    whole_past f name h e ∙ sides_past (with_whole f name) name low high (kept_with f (MakesWhole name) h refl) e

-- ---- a column that was named

named : (f : LpFacts) (name : List ℕ) (column : ℕ) → Some column ≡ number_in f.column_names name → column ≡ column_number f name
named f name column e = ap (λ (o : Option ℕ). number_or o (length f.column_names)) e

pub sides_put : (f now : LpFacts) (name : List ℕ) (column : ℕ) (low high : Option ℚ) → f ≡ now → Some column ≡ number_in now.column_names name
    → ◌≡◌ {A = LpFacts} (record f { bounds = set f.bounds column (record { low = low; high = high }) }) (with_sides now name low high)
sides_put f now name column low high v e =
    let n : column ≡ column_number now name = named now name column e in
    (λ i. record (v i) { bounds = set (v i).bounds column (record { low = low; high = high }) }) ∙ (λ i. record now { bounds = set now.bounds (n i) (record { low = low; high = high }) })

pub whole_put : (f now : LpFacts) (name : List ℕ) (column : ℕ) → f ≡ now → Some column ≡ number_in now.column_names name → ◌≡◌ {A = LpFacts} (record f { integral = set f.integral column true }) (with_whole now name)
whole_put f now name column v e =
    let n : column ≡ column_number now name = named now name column e in
    (λ i. record (v i) { integral = set (v i).integral column true }) ∙ (λ i. record now { integral = set now.integral (n i) true })

pub binary_put : (f now : LpFacts) (name : List ℕ) (column : ℕ) (low high zero_side one_side : ℚ) → f ≡ now → Some column ≡ number_in now.column_names name → low ≡ zero_side → high ≡ one_side
    → ◌≡◌ {A = LpFacts} (record f { bounds = set f.bounds column (record { low = Some low; high = Some high }); integral = set f.integral column true }) (with_sides (with_whole now name) name (Some zero_side) (Some one_side))
binary_put f now name column low high zero_side one_side v e z o =
    let n : column ≡ column_number now name = named now name column e in
    (λ i. record (v i) { bounds = set (v i).bounds column (record { low = Some (z i); high = Some (o i) }); integral = set (v i).integral column true })
    ∙ (λ i. record now { bounds = set now.bounds (n i) (record { low = Some zero_side; high = Some one_side }); integral = set now.integral (n i) true })

-- ---- the program

pub formed_from : (f : LpFacts) (column_names row_names : List (List ℕ)) (maximized : Bool) (bounds : List Sides) (choices : List Choice) → IsSoundLp f → column_names ≡ f.column_names → row_names ≡ f.row_names → bounds ≡ f.bounds → choices ≡ []
    → IsWellFormed (record { column_names = column_names; row_names = row_names; rows = f.rows; costs = f.costs; constant = f.constant; maximized = maximized; integral = f.integral; bounds = bounds; choices = choices })
formed_from f column_names row_names maximized bounds choices h c r b e = record {
  column_names = ap length c ∙ sym h.costs;
  integral = h.integral ∙ sym h.costs;
  bounds = ap length b ∙ h.bounds ∙ sym h.costs;
  row_names = ap length r ∙ h.row_names;
  few_columns = subst (λ (n : ℕ). n ≤ most_columns) (sym h.costs) h.few_columns;
  few_rows = h.few_rows;
  rows = subst (λ (n : ℕ). All (λ (row : Row). StandsBelow n row.terms) f.rows) (sym h.costs) h.rows;
  choices = λ column. subst (λ (cs : List Choice). IsChoice (choice_at cs column) (slice_get f.integral column) (sides_at bounds column)) (sym e) tt;
}
