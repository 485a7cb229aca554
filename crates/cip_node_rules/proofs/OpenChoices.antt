-- What holds of the open choices of a node, which are those of its program.
--     open_can_split, settled_made
use Rattle.std.proofs.Common.{◌≡◌, ℕ, zero, suc, ◌<◌, Bool, true, false, List, [], ◌∷◌, length, Option, slice_get, sym, ◌∙◌, subst, arith, true≢false}
use Rattle.std.proofs.lemmas.Bool.{false_from_ne_true}
use Rattle.std.proofs.lemmas.Option.{none-some}
use Rattle.cip_problem.specs.Program.{Sides, Choice, Plain, Open, Off, On, Program}
use Rattle.cip_problem.specs.Box.{sides_at}
use Rattle.cip_problem.specs.Choices.{choice_at, is_open, AreMade, AreStillOpen}
use Rattle.cip_problem.specs.Log.{CanSplitAt}
use Rattle.cip_problem.specs.WellFormed.{IsChoice, IsWellFormed}
use Rattle.cip_node_rules.specs.OpenColumns.{PassesNowhere}
use Rattle.cip_node_rules.specs.OpenChoices.{is_choice_open}

-- an open choice of a program is one of a continuous column
open_continuous : (choice : Choice) (whole : Option Bool) (sides : Sides) → IsChoice choice whole sides → is_open choice ≡ true → CanSplitAt choice whole
open_continuous Plain whole sides h e = absurd (true≢false (sym e))
open_continuous (Open own) whole sides h e = h.continuous
open_continuous Off whole sides h e = absurd h
open_continuous On whole sides h e = absurd h

module _ (program : Program) (now : List Choice) (formed : IsWellFormed program) (still : AreStillOpen program.choices now) where
  -- a column whose choice is open can be split
  pub open_can_split : (column : ℕ) → is_choice_open now column ≡ true → CanSplitAt (choice_at now column) (slice_get program.integral column)
  open_can_split column e =
      let same : choice_at program.choices column ≡ choice_at now column = still column e in
      open_continuous (choice_at now column) (slice_get program.integral column) (sides_at program.bounds column)
      (subst (λ (c : Choice). IsChoice c (slice_get program.integral column) (sides_at program.bounds column)) same (formed.choices column)) e

  within : (integral : List Bool) (column : ℕ) (choice : Choice) → is_open choice ≡ true → CanSplitAt choice (slice_get integral column) → column < length integral
  within integral column Plain e h = absurd (true≢false (sym e))
  within [] column (Open own) e h = absurd (none-some false h)
  within (w ∷ ws) zero (Open own) e h = omega arith
  within (w ∷ ws) (suc column) (Open own) e h = let l = within ws column (Open own) e h in omega (arith, l)
  within integral column Off e h = absurd h
  within integral column On e h = absurd h

  -- where none of the program's columns has an open choice, all are made
  pub settled_made : PassesNowhere (is_choice_open now) (length program.integral) → AreMade now
  settled_made h column = false_from_ne_true (is_open (choice_at now column)) (λ e. true≢false (sym e ∙ h column (within program.integral column (choice_at now column) e (open_can_split column e))))
