-- A region that goes down to a half, and back.
use Rattle.std.proofs.Common.{◌≡◌, ℕ, zero, suc, ℤ, Bool, true, false, List, [], ◌∷◌, length, Option, None, Some, refl, sym, ap, ap₂, ◌∙◌}
use Rattle.std.specs.Prelude.{slice_set, slice_index_or}
use Rattle.std.proofs.lemmas.Option.{none-some}
use Rattle.cip_problem.specs.Program.{Sides, Choice, Plain, Open, Off, On}
use Rattle.cip_problem.specs.Box.{sides_at}
use Rattle.cip_problem.specs.Choices.{choice_at, is_open}
use Rattle.cip_problem.specs.Log.{Node}
use Rattle.cip_lin.specs.ChoiceParts.{made_choice, own_if_open}
use Rattle.cip_lagrange.specs.TreeOutcomes.{half_of, open_half, whole_half}

-- an entry that is set again is what it was
pub set_back : {X : Type 0} (xs : List X) (k : ℕ) (x d : X)
    → slice_set (slice_set xs k x) k (slice_index_or xs k d) ≡ xs
set_back [] k x d = refl
set_back (y ∷ ys) zero x d = refl
set_back (y ∷ ys) (suc k) x d = ap (λ zs. y ∷ zs) (set_back ys k x d)

pub set_same : {X : Type 0} (xs : List X) (k : ℕ) (d : X) → slice_set xs k (slice_index_or xs k d) ≡ xs
set_same [] k d = refl
set_same (y ∷ ys) zero d = refl
set_same (y ∷ ys) (suc k) d = ap (λ zs. y ∷ zs) (set_same ys k d)

pub length-slice_set : {X : Type 0} (xs : List X) (k : ℕ) (x : X) → length (slice_set xs k x) ≡ length xs
length-slice_set [] k x = refl
length-slice_set (y ∷ ys) zero x = refl
length-slice_set (y ∷ ys) (suc k) x = ap suc (length-slice_set ys k x)

abbrev node_with : List Sides → List Choice → Node
node_with box choices = record { number = 0; box = box; choices = choices; bound = None }

open_cases : (is_high : Bool) (box : List Sides) (choices : List Choice) (column : ℕ) (at : ℤ) (own : Sides)
    (choice : Choice) → choice_at choices column ≡ choice → own_if_open choice ≡ Some own
    → node_with (slice_set box column (open_half is_high own (sides_at box column)))
    (slice_set choices column (made_choice is_high)) ≡ half_of is_high (node_with box choices) column at
open_cases is_high box choices column at own Plain e f = absurd (none-some own f)
open_cases is_high box choices column at own Off e f = absurd (none-some own f)
open_cases is_high box choices column at own On e f = absurd (none-some own f)
open_cases true box choices column at own (Open sides) e f = rw e (cc)
open_cases false box choices column at own (Open sides) e f = rw e (refl)

pub entered_open : (is_high : Bool) (box : List Sides) (choices : List Choice) (column : ℕ) (at : ℤ) (own : Sides)
    → own_if_open (choice_at choices column) ≡ Some own
    → node_with (slice_set box column (open_half is_high own (sides_at box column)))
    (slice_set choices column (made_choice is_high)) ≡ half_of is_high (node_with box choices) column at
entered_open is_high box choices column at own e = open_cases is_high box choices column at own
    (choice_at choices column) refl e

whole_cases : (is_high : Bool) (box : List Sides) (choices : List Choice) (column : ℕ) (at : ℤ) (choice : Choice)
    → choice_at choices column ≡ choice → own_if_open choice ≡ None
    → node_with (slice_set box column (whole_half is_high at (sides_at box column)))
    (slice_set choices column (choice_at choices column)) ≡ half_of is_high (node_with box choices) column at
whole_cases is_high box choices column at (Open own) e f = absurd (none-some own (sym f))
whole_cases true box choices column at Plain e f = ap (node_with _) (set_same choices column Plain) ∙ rw e refl
whole_cases false box choices column at Plain e f = ap (node_with _) (set_same choices column Plain) ∙ rw e refl
whole_cases true box choices column at Off e f = ap (node_with _) (set_same choices column Plain) ∙ rw e refl
whole_cases false box choices column at Off e f = ap (node_with _) (set_same choices column Plain) ∙ rw e refl
whole_cases true box choices column at On e f = ap (node_with _) (set_same choices column Plain) ∙ rw e refl
whole_cases false box choices column at On e f = ap (node_with _) (set_same choices column Plain) ∙ rw e refl

pub entered_whole : (is_high : Bool) (box : List Sides) (choices : List Choice) (column : ℕ) (at : ℤ)
    → own_if_open (choice_at choices column) ≡ None
    → node_with (slice_set box column (whole_half is_high at (sides_at box column)))
    (slice_set choices column (choice_at choices column)) ≡ half_of is_high (node_with box choices) column at
entered_whole is_high box choices column at e = whole_cases is_high box choices column at (choice_at choices column)
    refl e

pub not_open : (choice : Choice) → own_if_open choice ≡ None → is_open choice ≡ false
not_open Plain e = refl
not_open (Open own) e = absurd (none-some own (sym e))
not_open Off e = refl
not_open On e = refl

-- ---- in a region

pub back : {X : Type 0} (xs ys : List X) (k : ℕ) (x d : X) → ys ≡ slice_set xs k x
    → slice_set ys k (slice_index_or xs k d) ≡ xs
back xs ys k x d e = ap (λ zs. slice_set zs k (slice_index_or xs k d)) e ∙ set_back xs k x d

pub into_whole : (is_high : Bool) (box : List Sides) (choices : List Choice) (column : ℕ) (at : ℤ)
    (sides others : Sides) (choice : Choice) (own : Option Sides) (new_box : List Sides) (new_choices : List Choice)
    → sides ≡ sides_at box column → choice ≡ choice_at choices column → own ≡ own_if_open choice → own ≡ None
    → others ≡ whole_half is_high at sides → new_box ≡ slice_set box column others
    → new_choices ≡ slice_set choices column choice
    → node_with new_box new_choices ≡ half_of is_high (node_with box choices) column at
into_whole is_high box choices column at sides others choice own new_box new_choices s c o n w b d =
    ap₂ node_with (b ∙ ap (slice_set box column) (w ∙ ap (whole_half is_high at) s))
    (d ∙ ap (slice_set choices column) c)
    ∙ entered_whole is_high box choices column at (ap own_if_open (sym c) ∙ sym o ∙ n)

pub into_open : (is_high : Bool) (box : List Sides) (choices : List Choice) (column : ℕ) (at : ℤ)
    (sides others own : Sides) (choice made : Choice) (owned : Option Sides) (new_box : List Sides)
    (new_choices : List Choice)
    → sides ≡ sides_at box column → choice ≡ choice_at choices column → owned ≡ own_if_open choice
    → owned ≡ Some own → others ≡ open_half is_high own sides → made ≡ made_choice is_high
    → new_box ≡ slice_set box column others → new_choices ≡ slice_set choices column made
    → node_with new_box new_choices ≡ half_of is_high (node_with box choices) column at
into_open is_high box choices column at sides others own choice made owned new_box new_choices s c o n w m b d =
    ap₂ node_with (b ∙ ap (slice_set box column) (w ∙ ap (open_half is_high own) s))
    (d ∙ ap (slice_set choices column) m)
    ∙ entered_open is_high box choices column at own (ap own_if_open (sym c) ∙ sym o ∙ n)
