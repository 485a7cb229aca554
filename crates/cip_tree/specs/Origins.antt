-- Halves of nodes that were split. Of a column that is turned on or off a half keeps just that: the sides that this
-- leaves are told by the root's choice of it.
use Rattle.std.specs.Prelude.{ℕ, ◌≤◌, ◌^◌, ℤ, pos, ◌+ℤ◌, unsigned_abs, Bool, true, false, List, map, Option, None, Some, refl}
use Rattle.std.specs.Coded.{Coded, code_by, coded×, coded_ℕ}
use Rattle.cip_rational.specs.Rational.{integer}
use Rattle.cip_problem.specs.Program.{Sides, Choice}
use Rattle.cip_problem.specs.Choices.{choice_at}
use Rattle.cip_domain.specs.Side.TheVariants.{Low, High}
use Rattle.cip_domain.specs.Changes.{Region, Change, side_change, one_choice, narrowed, change_code}
use Rattle.cip_domain.specs.Domain.{left_sides}
use Rattle.cip_tree.specs.declared.origins.Half.{Half}
use Rattle.cip_tree.specs.declared.origins.Half.TheVariants.{AtMost, AtLeast, Off, On}
use Rattle.cip_tree.specs.declared.origins.Parting.{Parting}
use Rattle.cip_tree.specs.declared.origins.Parting.TheVariants.{Whole, Chosen}

-- how a split gave a node: the place of the node that was split, and the change, which has no sides where it makes a
-- choice
pub record Origin : Type 0 where
  pub parent : ℕ
  pub change : Change

-- a half of a column as a change
abbrev pub half_change : Half → ℕ → ℤ → Change
half_change AtMost column at = side_change column High (integer at)
half_change AtLeast column at = side_change column Low (integer (at +ℤ pos 1))
half_change Off column at = one_choice column (Some false)
half_change On column at = one_choice column (Some true)

-- the two halves of a column that is parted at a whole number, or by its choice
abbrev pub low_part : Parting → Half
low_part Whole = AtMost
low_part Chosen = Off

abbrev pub high_part : Parting → Half
high_part Whole = AtLeast
high_part Chosen = On

-- numbers at which columns are parted aren't too far from 0
abbrev pub IsNear : ℤ → Type 0
IsNear at = unsigned_abs at ≤ 2 ^ 101

-- ---- the sides that choices leave

-- the sides that a change meets those of a column with
abbrev pub filled_sides : Choice → Option Bool → Sides → Sides
filled_sides choice None sides = sides
filled_sides choice (Some on) sides = left_sides choice on

-- a change, with the sides that it leaves where it makes a choice
abbrev pub filled : List Choice → Change → Change
filled choices change = record {
  column = change.column;
  sides = filled_sides (choice_at choices change.column) change.made change.sides;
  made = change.made;
}

-- a root's region after changes, each with the sides that it leaves there
abbrev pub after : Region → List Change → Region
after root changes = narrowed root (map (filled root.choices) changes)

-- ---- codes

-- parent and change
abbrev pub origin_code : Coded Origin
origin_code =
    code_by (ℕ × Change) (coded× coded_ℕ change_code)
    (λ o. (o.parent, o.change)) (λ p. record { parent = p.0; change = p.1 }) (λ _. refl)
