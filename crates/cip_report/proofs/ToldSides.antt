-- A value that is outside breaks one of the sides that are told. The line of a verdict.
use lib.Chars.{codes}
use Rattle.std.proofs.Common.{◌≡◌, inr, ℕ, ◌<◌, ◌++◌, Bool, List, Option, Some, length, get_or, refl, ◌∙◌, subst}
use Rattle.std.specs.Prelude.{slice_get}
use Rattle.std.proofs.lemmas.List.{get_or_default}
use Rattle.std.proofs.lemmas.Option.{get_or_from_slice_get}
use Rattle.cip_rational.specs.Rational.{ℚ, zeroℚ}
use Rattle.cip_problem.specs.Program.{Sides, Row, Choice, Plain, Open, Off, On, Program}
use Rattle.cip_problem.specs.Activity.{value_at}
use Rattle.cip_problem.specs.Box.{Between, sides_at}
use Rattle.cip_problem.specs.Choices.{choice_at}
use Rattle.cip_problem.specs.WellFormed.{IsSemi, IsChoice, IsWellFormed}
use Rattle.cip_problem.proofs.Choices.Decided.{own_open}
use Rattle.cip_model.specs.Meaning.{IsKept, IsOutside}
use Rattle.cip_model.specs.declared.verdicts.Place.{Place}
use Rattle.cip_model.specs.declared.verdicts.Place.TheVariants.{Row as AtRow}
use Rattle.cip_model.specs.declared.verdicts.Verdict.{Verdict}
use Rattle.cip_model.specs.declared.verdicts.Verdict.TheVariants.{BreaksBound, BreaksWhole, BreaksRow, Wide}
use Rattle.cip_rational.specs.NumberText.{fraction_text}
use Rattle.cip_search.specs.Figures.{line}
use Rattle.cip_search.specs.Checks.{figure_against, check_line}
use Rattle.cip_report.specs.Checks.{broken_side, told_sides, checked_of}
use Rattle.cip_report.proofs.WritingLemmas.{no_name}

-- what lies between the own sides lies between the bounds, and is allowed
own_kept : (own sides : Sides) (whole : Option Bool) (value : ℚ) → IsSemi own whole sides → Between own.low own.high value → IsKept sides (Open own) value
own_kept own sides whole value semi h = record { between = own_open own sides whole value semi h; allowed = inr h }

told_outside : (choice : Choice) (whole : Option Bool) (sides : Sides) (value : ℚ) → IsChoice choice whole sides → ¬ IsKept sides choice value → ¬ Between (told_sides choice sides).low (told_sides choice sides).high value
told_outside Plain whole sides value f n h = n (record { between = h; allowed = tt })
told_outside (Open own) whole sides value f n h = n (own_kept own sides whole value f h)
told_outside Off whole sides value f n h = absurd f
told_outside On whole sides value f n h = absurd f

pub outside_told : (program : Program) (point : List ℚ) (column : ℕ) (told : Sides) (value : ℚ) → IsWellFormed program → IsOutside program point column → told ≡ told_sides (choice_at program.choices column) (sides_at program.bounds column) → value ≡ value_at point column → ¬ Between told.low told.high value
outside_told program point column told value formed out e v h =
    told_outside (choice_at program.choices column) (slice_get program.integral column) (sides_at program.bounds column) (value_at point column) (formed.choices column) out.outside
    (subst (λ (s : Sides). Between s.low s.high (value_at point column)) e (subst (λ x. Between told.low told.high x) v h))

-- the value at a place
pub value_there : (point : List ℚ) (column : ℕ) (value : ℚ) → column < length point → value ≡ get_or point column value → value ≡ value_at point column
value_there point column value l e = e ∙ get_or_default point column value zeroℚ l

-- a row's own sides
pub sides_broken : (row item : Row) (low high : Option ℚ) (value activity : ℚ) → row ≡ item → low ≡ item.low → high ≡ item.high → value ≡ activity → ¬ Between row.low row.high activity → ¬ Between low high value
sides_broken row item low high value activity r l h v broken = rw (l, h, ← r, v) broken

-- ---- the line of a verdict

module _ (program : Program) (point : List ℚ) (verdict : Verdict) (name : List ℕ) (names : List (List ℕ)) (number : ℕ) (named : slice_get names number ≡ Some name) where
  pub bound_line : (value : ℚ) (sides : Sides) → verdict ≡ BreaksBound number → value ≡ value_at point number → sides ≡ told_sides (choice_at program.choices number) (sides_at program.bounds number) → names ≡ program.column_names → line (codes "bound " ++ name) (figure_against value (broken_side sides.low sides.high value)) ≡ check_line (checked_of program point verdict)
  bound_line value sides v x s n = rw (v, ← x, ← s, ← n, get_or_from_slice_get names number name no_name named) refl

  pub whole_line : (value : ℚ) → verdict ≡ BreaksWhole number → value ≡ value_at point number → names ≡ program.column_names → line (codes "whole " ++ name) (fraction_text value) ≡ check_line (checked_of program point verdict)
  whole_line value v x n = rw (v, ← x, ← n, get_or_from_slice_get names number name no_name named) refl

  pub row_line : (value : ℚ) (item : Row) (low high : Option ℚ) → verdict ≡ BreaksRow number value → slice_get program.rows number ≡ Some item → low ≡ item.low → high ≡ item.high → names ≡ program.row_names → line (codes "row " ++ name) (figure_against value (broken_side low high value)) ≡ check_line (checked_of program point verdict)
  row_line value item low high v r l h n = rw (v, r, ← l, ← h, ← n, get_or_from_slice_get names number name no_name named) refl

  pub wide_line : (place : Place) → verdict ≡ Wide place → place ≡ AtRow number → names ≡ program.row_names → line (codes "row") name ≡ check_line (checked_of program point verdict)
  wide_line place v p n = rw (v, p, ← n, get_or_from_slice_get names number name no_name named) refl
