-- What making the choice of a column whose choice is open comes to.
use Rattle.std.proofs.Common.{◌≡◌, ◌≢◌, ℕ, Bool, None, Some, if◌then◌else◌, refl, sym, ap, ◌∙◌}
use Rattle.std.proofs.lemmas.Bool.{and_right}
use Rattle.std.proofs.lemmas.Option.{none-some}
use Rattle.cip_problem.specs.Program.{Sides, Choice, Plain, Open, Off, On}
use Rattle.cip_problem.specs.Box.{sides_at}
use Rattle.cip_problem.specs.Choices.{choice_at, met}
use Rattle.cip_lin.specs.ChoiceParts.{own_if_open, made_choice}
use Rattle.cip_lin.specs.MetSides.{is_past}
use Rattle.cip_domain.specs.Changes.{Change, choice_after, with_column, tightened}
use Rattle.cip_domain.specs.Domain.{Domain, region_of, left_sides, choosing, after_choosing, making}
use Rattle.cip_domain.specs.declared.stores.Tightened.{Tightened}
use Rattle.cip_domain.specs.declared.stores.Tightened.TheVariants.{Yes, Same, Empty}

-- a choice that isn't open is made already
pub closed_same : (choice : Choice) (sides : Sides) (on : Bool) → own_if_open choice ≡ None
    → Same ≡ choosing choice sides on
closed_same Plain sides on e = refl
closed_same (Open own) sides on e = absurd (none-some own (sym e))
closed_same Off sides on e = refl
closed_same On sides on e = refl

-- the change that makes an open choice
abbrev pub made_change : ℕ → Sides → Bool → Change
made_change column own on = record { column = column; sides = left_sides (Open own) on; made = Some on }

pub making_open : (column : ℕ) (sides own : Sides) (on : Bool)
    → making sides (Open own) (made_change column own on) ≡ choosing (Open own) sides on
making_open column sides own on =
    let left : Sides = met sides (left_sides (Open own) on) in
    ap (λ t. if t then Same else (if is_past left.low left.high then Empty else Yes)) (and_right _ _ refl)

-- the region after it
pub chosen_after : (result : Tightened) (old new : Domain) (column : ℕ) (own : Sides) (on : Bool) (change : Change)
    → choice_at old.choices column ≡ Open own → change ≡ made_change column own on
    → (result ≢ Yes → new ≡ old) → (result ≢ Empty → region_of new ≡ tightened (region_of old) change)
    → region_of new ≡ region_of (after_choosing result old column on)
chosen_after Same old new column own on change e f same narrows = ap region_of (same (λ z. cc))
chosen_after Empty old new column own on change e f same narrows = ap region_of (same (λ z. cc))
chosen_after Yes old new column own on change e f same narrows =
    narrows (λ z. cc) ∙ ap (tightened (region_of old)) f
    ∙ ap (λ h. with_column (region_of old) column (met (sides_at old.box column) (left_sides (Open own) on))
    (choice_after h (Some on))) e
    ∙ ap (λ h. with_column (region_of old) column (met (sides_at old.box column) (left_sides h on))
    (made_choice on)) (sym e)
