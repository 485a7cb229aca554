-- Where a region can be split.
use Rattle.std.specs.Prelude.{◌≡◌, ◌⊎◌, ℕ, ℤ, true, false, Bool, List, Some, slice_get}
use Rattle.cip_problem.specs.Program.{Plain}
use Rattle.cip_problem.specs.Box.{sides_at}
use Rattle.cip_problem.specs.Choices.{choice_at, is_open}
use Rattle.cip_domain.specs.Changes.{Region}
use Rattle.cip_node_rules.specs.SplitRules.{LeavesBoth}

-- a whole column, which is plain, has a whole value on both sides of a number, each no farther from 0 than this
pub record IsWholePlace (integral : List Bool) (region : Region) (far column : ℕ) (at : ℤ) : Type 0 where
  pub whole : slice_get integral column ≡ Some true
  pub plain : choice_at region.choices column ≡ Plain
  pub both : LeavesBoth (sides_at region.box column) far at

-- a column that isn't whole has a choice that is open
pub record IsChoicePlace (integral : List Bool) (region : Region) (column : ℕ) : Type 0 where
  pub continuous : slice_get integral column ≡ Some false
  pub open_ : is_open (choice_at region.choices column) ≡ true

-- a region can be split at a column
abbrev pub IsSplitPlace : List Bool → Region → (far column : ℕ) → ℤ → Type 0
IsSplitPlace integral region far column at =
    IsWholePlace integral region far column at ⊎ IsChoicePlace integral region column
