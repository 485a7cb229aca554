-- What the last linear program of a node leaves of it: that of its box over the rows of the reduced program and those
-- of the pool that may be used there.
use Rattle.std.specs.Prelude.{◌≡◌, ℕ, ℤ, Bool, List, length, Option, None, Some, IfSome, option_map}
use Rattle.cip_rational.specs.Rational.{ℚ}
use Rattle.cip_problem.specs.Program.{Sides}
use Rattle.cip_problem.specs.WellFormed.{columns}
use Rattle.cip_problem.specs.LinearProgram.{IsPoint}
use Rattle.cip_problem.specs.Improving.{HasNoImproving}
use Rattle.cip_search.specs.Relaxation.{IsRelaxedBound}
use Rattle.cip_domain.specs.Changes.{Region}
use Rattle.cip_tree.specs.Nodes.{TakenNode, box_of}
use Rattle.cip_node_rules.specs.SplitRules.{IsNodeRule}
use Rattle.cip_relax.specs.NodeRows.{usable_rows}
use Rattle.cip_relax.specs.Relaxing.{node_program, IsMark, IsRelaxed}
use Rattle.cip_relax.specs.declared.relaxed.Mark.{Mark}
use Rattle.cip_relax.specs.declared.relaxed.Relaxed.{Relaxed}
use Rattle.cip_relax.specs.declared.relaxed.Relaxed.TheVariants as came
use Rattle.cip_core.specs.CoreStates.{CoreState, reduced_of, held_of, rows_lent}
use Rattle.cip_core.specs.Steps.{IsTriedBack}
use Rattle.cip_node.specs.declared.bounding.Found.{Found}
use Rattle.cip_node.specs.declared.bounding.Told.{Told}
use Rattle.cip_node.specs.declared.bounding.Bounded.{Bounded}
use Rattle.cip_node.specs.declared.bounding.Bounded.TheVariants.{Empty, Open}

-- what the linear program of the region in work came to
abbrev pub IsRelaxedOf : CoreState → Relaxed → Type 0
IsRelaxedOf core relaxed =
    IsRelaxed (reduced_of core) (rows_lent core) core.tree.work.box (columns (reduced_of core)) relaxed

-- what a linear program tells: the bound that it shows, and what it found
abbrev pub told_of : Relaxed → Option Told
told_of came.Empty = None
told_of (came.Bound point bound combo) =
    Some (record { bound = Some bound; found = record { point = Some point; combo = Some combo; mark = None } })
told_of (came.Near point bound) =
    Some (record { bound = Some bound; found = record { point = Some point; combo = None; mark = None } })
told_of (came.Falls point) =
    Some (record { bound = None; found = record { point = Some point; combo = None; mark = None } })
told_of (came.Unsolved mark point bound) =
    Some (record { bound = bound; found = record { point = point; combo = None; mark = Some mark } })

-- a mark says what the linear program of a box met
abbrev pub IsMarkOf : CoreState → List Sides → Mark → Type 0
IsMarkOf core box mark = IsMark (reduced_of core) (rows_lent core) box (columns (reduced_of core)) mark

-- without a mark the bound is as good as that of the linear program, which has a point; else the mark says what it met
abbrev pub IsAsGood : CoreState → List Sides → Option ℚ → Option Mark → Type 0
IsAsGood core box bound None = IsRelaxedBound (reduced_of core) (usable_rows box core.pool.rows) box bound
IsAsGood core box bound (Some mark) = IsMarkOf core box mark

-- a point of the linear program of a box, and what it comes back as was offered; there is one, unless a mark says what
-- was met
abbrev pub HasTried : CoreState → List Sides → Option (List ℚ) → Option Mark → Type 0
HasTried core box None mark = ¬ (mark ≡ None)
HasTried core box (Some point) mark =
    IsPoint (node_program (reduced_of core) (rows_lent core) box) point × IsTriedBack core point

-- the point that was found, if one was
abbrev pub point_of : Found → Option (List ℚ)
point_of found = option_map (λ values. values.items) found.point

-- what was found by the linear program of a box, beside this bound
pub record IsFound (core : CoreState) (box : List Sides) (bound : Option ℚ) (found : Found) : Type 0 where
  pub long : IfSome (point_of found) (λ values. length values ≡ length box)
  pub good : IsAsGood core box bound found.mark
  pub tried : HasTried core box (point_of found) found.mark

-- no improving point is in a node's box; or the node goes on with what was found
abbrev pub IsBounded : CoreState → TakenNode → Bounded → Type 0
IsBounded core node Empty = HasNoImproving (reduced_of core) (held_of core) (box_of core.tree node)
IsBounded core node (Open found) = IsFound core (box_of core.tree node) node.bound found

-- the split of a region by the point of its linear program; where that has none, by the values of another, if there is
-- one
abbrev pub IsSplitBy : List Bool → Region → Option (List ℚ) → ℕ → ℤ → Type 0
IsSplitBy integral region (Some point) column at =
    IsNodeRule integral region.box region.choices (Some point) column at
IsSplitBy integral region None column at =
    (last : Option (List ℚ)) × IsNodeRule integral region.box region.choices last column at
