-- How a search stops, and what is kept of a node that ended.
use Rattle.std.specs.Prelude.{◌≡◌, ℕ, Option, None, Some}
use Rattle.cip_rational.specs.Rational.{ℚ}
use Rattle.cip_problem.specs.Program.{Program}
use Rattle.cip_incumbent.specs.HeldPoint.{Holding}
use Rattle.cip_search.specs.Leaf.{Leaf}
use Rattle.cip_search.specs.WideLeaf.{Shown}
use Rattle.cip_solve.specs.LeafAnswers.{shown_as}
use Rattle.cip_search.specs.SearchState.{WayBack}
use Rattle.cip_tree.specs.Nodes.{Nodes}
use Rattle.cip_solve.specs.CoreStates.{CoreState, reduced_of, way_of}
use Rattle.cip_solve.specs.NodeEnd.{NodeEnd}
use Rattle.cip_solve.specs.NodeEnd.TheVariants as by
use Rattle.cip_endings.specs.Worst.{leaf_of, IsWorse}
use Rattle.cip_endings.specs.declared.worst.Worst.{Worst}
use Rattle.cip_solve.specs.Searching.{StopsStill, StopsEndless, StopsRefused}
use Rattle.cip_solve.specs.declared.turns.Stop.{Stop}
use Rattle.cip_solve.specs.declared.turns.Stop.TheVariants as kinds

-- ---- how it stops

-- in each way
abbrev pub StopsAs : Program → Program → WayBack → Option ℚ → ℕ → (asked : Option ℚ) → Nodes → Holding
    → Option Worst → Stop → Type 0
StopsAs program reduced way start nodes asked tree holding worst kinds.Still =
    StopsStill program reduced way start nodes asked tree holding worst
StopsAs program reduced way start nodes asked tree holding worst (kinds.Endless point ray) =
    StopsEndless program reduced start tree.log point.items ray.items
StopsAs program reduced way start nodes asked tree holding worst (kinds.NoMemory bound) =
    StopsRefused program reduced way start tree holding bound

-- so a core stops
abbrev pub StopsAt : CoreState → ℕ → (asked : Option ℚ) → Option Worst → Stop → Type 0
StopsAt core nodes asked worst stop =
    StopsAs core.program (reduced_of core) (way_of core) core.tree.root.bound nodes asked core.tree core.incumbent worst
    stop

-- ---- what is kept of a node that ended

-- the worse of the worst leaf so far and of this one was kept
pub record IsWorseOf
    (old : Option Worst) (leaf : Leaf) (bound : Option ℚ) (shown : Shown) (new : Option Worst) : Type 0 where
  pub parked : Worst
  pub leaf_is : leaf_of parked ≡ leaf
  pub bound_is : parked.bound ≡ bound
  pub shown_is : shown_as parked.shown ≡ shown
  pub worse : IsWorse old parked new

-- by how a node ended the worst leaf changes, or the search stops
abbrev pub IsKeptAs : Option Worst → Option Worst → NodeEnd → Option Stop → Type 0
IsKeptAs old new by.Pruned stop = (new ≡ old) × (stop ≡ None)
IsKeptAs old new by.Empty stop = (new ≡ old) × (stop ≡ None)
IsKeptAs old new by.Solved stop = (new ≡ old) × (stop ≡ None)
IsKeptAs old new (by.Split low high) stop = (new ≡ old) × (stop ≡ None)
IsKeptAs old new (by.Parked leaf on bound shown) stop =
    IsWorseOf old (record { values = leaf.items; on = on.items }) bound (shown_as shown) new × (stop ≡ None)
IsKeptAs old new (by.Ray point ray) stop = stop ≡ Some (kinds.Endless point ray)
