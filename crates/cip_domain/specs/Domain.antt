-- A region with its earlier states, and what tightening a side of it, or making a choice in it, comes to.
use Rattle.std.specs.Prelude.{◌≡◌, ℕ, ◌-◌, ◌≤◌, Bool, true, false, ◌&&◌, List, [], ◌∷◌, ◌++◌, Option, None, Some, if◌then◌else◌, length, slice_set, slice_index_or, refl, ⊤}
use Rattle.std.specs.Coded.{Coded, code_by, coded×, coded_ℕ, coded_list}
use Rattle.cip_rational.specs.Rational.{ℚ}
use Rattle.cip_problem.specs.Program.{Sides, Choice, Plain, Open, Off, On}
use Rattle.cip_problem.specs.Codes.{box_code, choices_code}
use Rattle.cip_problem.specs.Box.{no_sides, sides_at, sides_inside}
use Rattle.cip_problem.specs.Choices.{choice_at, met, zero_sides}
use Rattle.cip_lin.specs.ChoiceParts.{made_choice}
use Rattle.cip_lin.specs.MetSides.{is_past}
use Rattle.cip_lin.specs.declared.sides.Side.{Side}
use Rattle.cip_domain.specs.declared.stores.Tightened.{Tightened}
use Rattle.cip_domain.specs.declared.stores.Tightened.TheVariants.{Yes, Same, Empty}
use Rattle.cip_domain.specs.Changes.{Region, region_code, Change, with_side, is_as_strong, would_cross}

-- the box, its choices, the regions before each change that can be undone, the oldest first, and for how many changes
-- there is room
pub record Domain : Type 0 where
  pub box : List Sides
  pub choices : List Choice
  pub before : List Region
  pub spare : ℕ

-- the box with its choices, as it stands
abbrev pub region_of : Domain → Region
region_of domain = record { box = domain.box; choices = domain.choices }

-- the regions so far, the last of them as it stands: the one at each mark
abbrev pub regions : Domain → List Region
regions domain = domain.before ++ region_of domain ∷ []

-- the region that stands at a mark
abbrev pub region_at : Domain → ℕ → Region
region_at domain mark = slice_index_or (regions domain) mark (region_of domain)

-- what stands at the marks so far stands there still
pub record KeepsMarks (old new : Domain) : Type 0 where
  pub grows : length old.before ≤ length new.before
  pub same : (mark : ℕ) → mark ≤ length old.before → region_at new mark ≡ region_at old mark

-- what making a value a side comes to
abbrev pub tightening : Sides → Side → ℚ → Tightened
tightening sides side value =
    if is_as_strong sides side value then Same else (if would_cross sides side value then Empty else Yes)

-- a domain after that
abbrev pub after_tightening : Tightened → Domain → ℕ → Side → ℚ → Domain
after_tightening Yes domain column side value = record domain {
  box = slice_set domain.box column (with_side (sides_at domain.box column) side (Some value));
  before = domain.before ++ region_of domain ∷ [];
  spare = domain.spare - 1;
}
after_tightening Same domain column side value = domain
after_tightening Empty domain column side value = domain

-- a domain where a column gets other sides and another choice
abbrev pub stepped : Domain → ℕ → Sides → Choice → Domain
stepped domain column sides choice = record {
  box = slice_set domain.box column sides;
  choices = slice_set domain.choices column choice;
  before = domain.before ++ region_of domain ∷ [];
  spare = domain.spare - 1;
}

-- ---- choices

-- a choice can be made: it is open, or the same already
abbrev pub CanChoose : Choice → Bool → Type 0
CanChoose Plain on = ⊥
CanChoose (Open own) on = ⊤
CanChoose Off on = on ≡ false
CanChoose On on = on ≡ true

-- the sides that an open choice leaves where it is made: 0 at off, and the column's own ones at on
abbrev pub left_sides : Choice → Bool → Sides
left_sides Plain on = no_sides
left_sides (Open own) true = own
left_sides (Open own) false = zero_sides
left_sides Off on = no_sides
left_sides On on = no_sides

-- what making a choice that is open, or the same, comes to
abbrev pub choosing : Choice → Sides → Bool → Tightened
choosing Plain sides on = Same
choosing (Open own) sides on =
    let left = met sides (left_sides (Open own) on) in if is_past left.low left.high then Empty else Yes
choosing Off sides on = Same
choosing On sides on = Same

-- a domain after that
abbrev pub after_choosing : Tightened → Domain → ℕ → Bool → Domain
after_choosing Yes domain column on = stepped domain column
    (met (sides_at domain.box column) (left_sides (choice_at domain.choices column) on))
    (made_choice on)
after_choosing Same domain column on = domain
after_choosing Empty domain column on = domain

-- ---- changes

-- a choice is as a change would make it
abbrev pub is_settled : Choice → Option Bool → Bool
is_settled choice None = true
is_settled Plain (Some on) = true
is_settled (Open own) (Some on) = false
is_settled Off (Some on) = true
is_settled On (Some on) = on

-- a choice may be another one later: it is open or on
abbrev pub is_unsettled : Choice → Bool
is_unsettled Plain = false
is_unsettled (Open own) = true
is_unsettled Off = false
is_unsettled On = true

-- what a change of a column with these sides and this choice comes to
abbrev pub making : Sides → Choice → Change → Tightened
making sides choice change =
    let left = met sides change.sides in
    if sides_inside sides change.sides && is_settled choice change.made then Same
    else (if is_past left.low left.high then Empty else Yes)

-- box, choices, earlier regions and room
abbrev pub domain_code : Coded Domain
domain_code =
    code_by ((List Sides × List Choice) × (List Region × ℕ))
    (coded× (coded× box_code choices_code) (coded× (coded_list region_code) coded_ℕ))
    (λ d. ((d.box, d.choices), (d.before, d.spare)))
    (λ p. record { box = p.0.0; choices = p.0.1; before = p.1.0; spare = p.1.1 }) (λ _. refl)
