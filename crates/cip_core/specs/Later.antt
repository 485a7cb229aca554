-- A core and a later one.
use Rattle.std.specs.Prelude.{◌≡◌, ◌⊎◌, ◌≤◌, false, List, IfSome}
use Rattle.cip_rational.specs.Rational.{ℚ, IsWhole}
use Rattle.cip_problem.specs.Box.{IsInBox}
use Rattle.cip_problem.specs.Log.{Node}
use Rattle.cip_problem.specs.Cuts.{HasWholeCosts}
use Rattle.cip_problem.specs.Improving.{HoldsInBox, IsNoDearer}
use Rattle.cip_search.specs.Searched.{NoMore}
use Rattle.cip_tree.specs.Nodes.{TakenNode, region_of, shown}
use Rattle.cip_core.specs.CoreStates.{CoreState, reduced_of, held_of, IsAtWork}

-- both programs, the steps, the root and the columns stay, numbers are only added, the point held is no dearer, and
-- what was touched stays so
pub record IsLater (old new : CoreState) : Type 0 where
  pub program : new.program ≡ old.program
  pub reduced : new.reduced ≡ old.reduced
  pub steps : new.steps ≡ old.steps
  pub root : new.tree.root ≡ old.tree.root
  pub integral : new.tree.integral ≡ old.tree.integral
  pub ids : old.tree.ids ≤ new.tree.ids
  pub no_dearer : IsNoDearer (held_of new) (held_of old)
  pub untouched : new.touched ≡ false → old.touched ≡ false

-- a node after work: its number and its choices are the same, its box lies inside what it was and has the improving
-- points of that, and its bound is no less; where that rose and costs are whole it is whole
pub record IsNarrower (core : CoreState) (was now : Node) : Type 0 where
  pub number : now.number ≡ was.number
  pub choices : now.choices ≡ was.choices
  pub inside : (point : List ℚ) → IsInBox now.box point → IsInBox was.box point
  pub keeps : HoldsInBox (reduced_of core) (held_of core) was.box (IsInBox now.box)
  pub bound : NoMore was.bound now.bound
  pub whole : (now.bound ≡ was.bound) ⊎ (HasWholeCosts (reduced_of core) → IfSome now.bound IsWhole)

-- steps of a node in work that don't end it: it is in work in the later core, nothing is logged or put aside, and where
-- no side was tightened its region is the same
pub record IsLaterAt (old : CoreState) (had : TakenNode) (new : CoreState) (has : TakenNode) : Type 0 where
  pub later : IsLater old new
  pub at_work : IsAtWork new has
  pub narrower : IsNarrower new (shown old.tree had) (shown new.tree has)
  pub log : new.tree.log ≡ old.tree.log
  pub parked : new.tree.parked ≡ old.tree.parked
  pub ids : new.tree.ids ≡ old.tree.ids
  pub same : new.touched ≡ false → region_of new.tree has ≡ region_of old.tree had

-- ---- laws

-- steps are one after another as they are alone
pub record StepsCompose : Type 0 where
  pub stays : (core : CoreState) → IsLater core core
  pub further : (old mid new : CoreState) → IsLater old mid → IsLater mid new → IsLater old new
  pub stays_at : (core : CoreState) (node : TakenNode) → IsAtWork core node → IsLaterAt core node core node
  pub further_at : (old mid new : CoreState) (had node has : TakenNode)
      → IsLaterAt old had mid node → IsLaterAt mid node new has → IsLaterAt old had new has
