-- A side of a node in work is told, and taken where it is stronger.
use Rattle.std.specs.Prelude.{◌≡◌, ◌≢◌, ℕ, ◌<◌, Bool, true, Some, Result, Ok, Err}
use Rattle.cip_rational.specs.Rational.{ℚ}
use Rattle.cip_problem.specs.Box.{no_sides, sides_at}
use Rattle.cip_problem.specs.WellFormed.{columns}
use Rattle.cip_problem.specs.Improving.{HoldsInBox}
use Rattle.cip_lin.specs.declared.sides.Side.{Side}
use Rattle.cip_domain.specs.Changes.{with_side, side_change}
use Rattle.cip_domain.specs.Domain.{tightening}
use Rattle.cip_domain.specs.Narrowing.{Meets}
use Rattle.cip_domain.specs.declared.stores.Tightened.{Tightened}
use Rattle.cip_domain.specs.declared.stores.Tightened.TheVariants.{Yes, Same, Empty}
use Rattle.cip_node_rules.specs.OpenColumns.{is_whole_at}
use Rattle.cip_node_rules.specs.SplitRules.{AreNear}
use Rattle.cip_tree.specs.Nodes.{TakenNode, region_of, box_of}
use Rattle.cip_tree.specs.Tightening.{region_after}
use Rattle.cip_core.specs.CoreStates.{CoreState, reduced_of, held_of}
use Rattle.cip_core.specs.KeptNodes.{farthest}

-- a value for a side of a column, which isn't too far from 0 where that is whole: each improving point of the node's
-- box keeps to it
pub record IsSideTold (core : CoreState) (node : TakenNode) (column : ℕ) (side : Side) (value : ℚ) : Type 0 where
  pub inside : column < columns (reduced_of core)
  pub near : is_whole_at (reduced_of core).integral column ≡ true
      → AreNear (farthest core.tree.ids) (with_side no_sides side (Some value))
  pub follows : HoldsInBox (reduced_of core) (held_of core) (box_of core.tree node)
      (λ point. Meets point (side_change column side value))

-- what tightening that side came to: the node's region after it, and nothing else but the region in work and what was
-- touched is otherwise; nor are these where the side was strong enough, or can't be so
pub record IsSideTaken
    (old new : CoreState) (had has : TakenNode) (column : ℕ) (side : Side) (value : ℚ) (answer : Tightened) : Type 0
  where
    pub outcome : answer ≡ tightening (sides_at old.tree.work.box column) side value
    pub region : region_of new.tree has
        ≡ region_after answer (region_of old.tree had) (side_change column side value)
    pub node : has ≡ record had { notes = has.notes }
    pub core : new ≡ record old { tree = record old.tree { work = new.tree.work }; touched = new.touched }
    pub same : answer ≢ Yes → (new ≡ old) × (has ≡ had)

-- whether a row was added or a side tightened by now, by what a side came to and by what was so before
abbrev pub touched_by : {E : Type 0} → Result Tightened E → (before : Bool) → Bool
touched_by (Ok Yes) before = true
touched_by (Ok Same) before = before
touched_by (Ok Empty) before = before
touched_by (Err error) before = before
