-- What contracts see of a core, and what holds of it.
use Rattle.std.specs.Prelude.{◌≡◌, ℕ, Bool, false, List, [], ◌∷◌, Option, None, Some, MatchBool, refl}
use Rattle.std.specs.Coded.{Coded, code_by, coded×, coded_bool}
use Rattle.cip_rational.specs.Rational.{ℚ}
use Rattle.cip_problem.specs.Program.{Row, Program}
use Rattle.cip_problem.specs.Codes.{program_code}
use Rattle.cip_problem.specs.WellFormed.{columns}
use Rattle.cip_problem.specs.Log.{Node, node_of}
use Rattle.cip_problem.specs.Cuts.{HasWholeCosts}
use Rattle.cip_search.specs.Searched.{nodes_given}
use Rattle.cip_search.specs.SearchState.{WayBack, HasGivenBoxes}
use Rattle.cip_presolve.specs.Pairs.{IsAssignment, IsPair}
use Rattle.cip_presolve.specs.StepsBack.{StepsTaken, steps_code, way_back}
use Rattle.cip_presolve.specs.StepsBack.{point_back, old_number, whole_of_left, whole_point, LeafFitsBack}
use Rattle.cip_incumbent.specs.HeldPoint.{Holding, holding_code}
use Rattle.cip_cert.specs.Lent.{Lent}
use Rattle.cip_cert.specs.Resting.{ArePoolRowsValid}
use Rattle.cip_rows.specs.RowPools.{Pool}
use Rattle.cip_rows.specs.PoolCodes.{pool_code}
use Rattle.cip_tree.specs.Nodes.{TakenNode, Nodes, nodes_code, IsTaken, region_of, shown}
use Rattle.cip_core.specs.CutoffRow.{cutoff_of}
use Rattle.cip_core.specs.KeptNodes.{cost_held, state_of, IsKept, AllMatter, IsHolding}

-- a core: the program as read; the reduced program, which is searched in its place, and the steps by which its points
-- and leaves come back; the rows that are valid in their scopes; the nodes with the log, and the region in work; the
-- point held; and whether a row was added or a side tightened since the search began
pub record CoreState : Type 0 where
  pub program : Program
  pub reduced : Program
  pub steps : StepsTaken
  pub pool : Pool
  pub tree : Nodes
  pub incumbent : Holding
  pub touched : Bool

-- all fields, in pairs
abbrev pub core_code : Coded CoreState
core_code =
    code_by (Program × (Program × (StepsTaken × (Pool × (Nodes × (Holding × Bool))))))
    (coded× program_code
    (coded× program_code (coded× steps_code (coded× pool_code (coded× nodes_code (coded× holding_code coded_bool))))))
    (λ c. (c.program, (c.reduced, (c.steps, (c.pool, (c.tree, (c.incumbent, c.touched)))))))
    (λ p. record {
      program = p.0;
      reduced = p.1.0;
      steps = p.1.1.0;
      pool = p.1.1.1.0;
      tree = p.1.1.1.1.0;
      incumbent = p.1.1.1.1.1.0;
      touched = p.1.1.1.1.1.1;
    }) (λ _. refl)

-- the program that is searched, and the way back from it
abbrev pub reduced_of : CoreState → Program
reduced_of core = core.reduced

abbrev pub way_of : CoreState → WayBack
way_of core = way_back core.steps

-- the cost held, if a point is
abbrev pub held_of : CoreState → Option ℚ
held_of core = cost_held core.incumbent

-- the rows that a node's linear program may have
abbrev pub rows_lent : CoreState → Lent
rows_lent core = record { own = (reduced_of core).rows; pool = core.pool.rows; cutoff = None }

-- the rows that any other check may cite: the cutoff row, too
abbrev pub all_lent : CoreState → Lent
all_lent core = record (rows_lent core) { cutoff = Some (cutoff_of (reduced_of core) (held_of core)) }

-- ---- what holds always

-- a program may be searched in place of another, and these steps lead back from it: points come back at equal cost, the
-- steps know the whole columns of both, and whole values in range and within bounds come back without overflow
pub record IsReducedBy (program reduced : Program) (steps : StepsTaken) : Type 0 where
  pub pair : IsPair program reduced (point_back steps) (old_number steps)
  pub whole : steps.whole ≡ program.integral
  pub left : whole_of_left steps ≡ reduced.integral
  pub leaves : (wholes : List ℚ) → IsAssignment reduced (whole_point steps wholes) → LeafFitsBack steps wholes

-- the point held is one of the program as read; each row of the pool is valid in its scope, below the cost held where
-- it rests on that, and has the reduced program's columns; the pool has no row before one was added; and the reduced
-- program leads back
pub record IsSound (core : CoreState) : Type 0 where
  pub is_held : IsHolding core.program core.incumbent
  pub valid : ArePoolRowsValid (reduced_of core) (held_of core) core.pool.rows
  pub same : core.pool.columns ≡ columns (reduced_of core)
  pub bare : core.touched ≡ false → core.pool.rows ≡ []
  pub back : IsReducedBy core.program core.reduced core.steps

-- what is kept beside fits: the cutoff row is that of the cost held, it is known whether costs are whole, and there is
-- room for all columns
pub record IsFitted
    (reduced : Program) (held : Option ℚ) (cutoff : Option Row) (whole_costs : Bool) (room : ℕ) : Type 0 where
  pub cutoff_is : cutoff ≡ Some (cutoff_of reduced held)
  pub whole : MatchBool whole_costs (HasWholeCosts reduced) (¬ HasWholeCosts reduced)
  pub wide : room ≡ columns reduced

-- ---- between two steps

-- with these nodes in work: the nodes are those of a search, each open one matters, and boxes are as the log gave them
-- before a side was tightened
pub record IsKeptIn (core : CoreState) (work : List Node) : Type 0 where
  pub kept : IsKept core.program (reduced_of core) (way_of core) core.tree (held_of core) work
  pub matter : AllMatter (held_of core) core.tree.open_
  pub boxes : core.touched ≡ false
      → HasGivenBoxes (reduced_of core) core.tree.root.bound (state_of core.tree (held_of core) work)

-- a node was taken up
pub record IsTakenUp (core : CoreState) (node : TakenNode) : Type 0 where
  pub nodes : IsKeptIn core (shown core.tree node ∷ [])
  pub taken : IsTaken core.tree node

-- and its region is the region in work
pub record IsAtWork (core : CoreState) (node : TakenNode) : Type 0 where
  pub up : IsTakenUp core node
  pub region : core.tree.work ≡ region_of core.tree node

-- a bound is the one that the log gave the node of this number
abbrev pub IsGivenBound : CoreState → ℕ → Option ℚ → Type 0
IsGivenBound core number bound =
    (given : Node) → node_of (nodes_given (reduced_of core) core.tree.root.bound core.tree.log) number ≡ Some given
    → bound ≡ given.bound
