-- The parked leaf that is to be shown, of a search in a program that may be another one than the program as read: `way`
-- leads back.
use Rattle.std.specs.Prelude.{◌≡◌, List, [], ◌∷◌, ◌++◌, Option, None, Some}
use Rattle.cip_rational.specs.Rational.{ℚ}
use Rattle.cip_problem.specs.Program.{Program}
use Rattle.cip_problem.specs.Log.{Node}
use Rattle.cip_search.specs.Leaf.{Leaf}
use Rattle.cip_search.specs.WideLeaf.{Shown}
use Rattle.cip_search.specs.SearchState.{WayBack, IsWideBack}
use Rattle.cip_search.specs.EndLaws.{IsFirstLeastNode}
use Rattle.cip_report.specs.LeafAnswers.{shown_as}
use Rattle.cip_endings.specs.declared.worst.Worst.{Worst}

-- its whole values and its choices
abbrev pub leaf_of : Worst → Leaf
leaf_of worst = record { values = worst.leaf.items; on = worst.on.items }

-- of the parked nodes the one of least bound, the first of these, has this bound, and its box has one leaf, which comes
-- back as this leaf of the program and is wide by what is shown
pub record IsFirstWorst
    (program reduced : Program) (way : WayBack) (parked : List Node) (leaf : Leaf) (bound : Option ℚ) (shown : Shown)
    : Type 0 where
  pub node : Node
  pub chosen : IsFirstLeastNode parked node
  pub is_bound : node.bound ≡ bound
  pub wide : IsWideBack program reduced way node leaf shown

-- no node is parked, or this is the worst
abbrev pub IsWorst : (program reduced : Program) → WayBack → List Node → Option Worst → Type 0
IsWorst program reduced way parked None = parked ≡ []
IsWorst program reduced way parked (Some worst) =
    IsFirstWorst program reduced way parked (leaf_of worst) worst.bound (shown_as worst.shown)

-- the bound of the worst
abbrev pub worst_bound : Option Worst → Option (Option ℚ)
worst_bound None = None
worst_bound (Some worst) = Some worst.bound

-- once another leaf was parked after the others, this is the worst
abbrev pub IsWorse : Option Worst → Worst → Option Worst → Type 0
IsWorse old parked new =
    (program reduced : Program) (way : WayBack) (nodes : List Node) (node : Node)
    → IsWorst program reduced way nodes old
    → node.bound ≡ parked.bound → IsWideBack program reduced way node (leaf_of parked) (shown_as parked.shown)
    → IsWorst program reduced way (nodes ++ node ∷ []) new
