-- Regions after changes: what narrowing one comes to, and the laws of all, each as one statement. The functions of
-- `src/lib.rt` have the laws as contracts.
use Rattle.std.specs.Prelude.{◌≡◌, ◌<◌, ◌≤◌, ◌↔◌, ℕ, Bool, true, false, List, length, reverse}
use Rattle.std.specs.List.{AllByRecursion}
use Rattle.cip_rational.specs.Rational.{ℚ}
use Rattle.cip_problem.specs.Program.{Plain}
use Rattle.cip_problem.specs.Activity.{value_at}
use Rattle.cip_problem.specs.Box.{Between, IsInBox}
use Rattle.cip_problem.specs.Choices.{choice_at}
use Rattle.cip_domain.specs.Changes.{Region, Change, tightened, narrowed}

-- choices past the end of the box are plain
abbrev pub ArePlainPast : Region → Type 0
ArePlainPast region = (column : ℕ) → length region.box ≤ column → choice_at region.choices column ≡ Plain

-- a region after a change; or no point meets it
abbrev pub IsNarrowed : Region → Region → Change → Bool → Type 0
IsNarrowed before after change true = after ≡ tightened before change
IsNarrowed before after change false = (point : List ℚ) → ¬ IsInBox (tightened before change).box point

-- a point meets a change: its value lies between the sides
abbrev pub Meets : List ℚ → Change → Type 0
Meets point change = Between change.sides.low change.sides.high (value_at point change.column)

-- a point lies in a box after changes of its columns exactly where it lies in the box and meets each change
abbrev pub ChangesAreMet : Type 0
ChangesAreMet =
    (region : Region) (changes : List Change) (point : List ℚ)
    → AllByRecursion (λ change. change.column < length region.box) changes
    → IsInBox (narrowed region changes).box point ↔ (IsInBox region.box point × AllByRecursion (Meets point) changes)

-- changes made from the first to the last give the region that they give from the last to the first
abbrev pub OrderIsFree : Type 0
OrderIsFree = (region : Region) (changes : List Change) → narrowed region (reverse changes) ≡ narrowed region changes
