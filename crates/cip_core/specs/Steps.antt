-- What steps of a core change.
use Rattle.std.specs.Prelude.{◌≡◌, ◌++◌, ◌∷◌, [], ℕ, ◌+◌, ◌-◌, ◌≤◌, true, length, drop, List, Option, None, Some}
use Rattle.std.specs.List.{Contains, filter}
use Rattle.std.specs.List.Sorted.{IsPermutation}
use Rattle.cip_rational.specs.Rational.{ℚ, integer, ceil}
use Rattle.cip_problem.specs.Program.{Program}
use Rattle.cip_problem.specs.Log.{End, Split, Closed, Parked, Node, matters}
use Rattle.cip_problem.specs.Cuts.{HasWholeCosts}
use Rattle.cip_problem.specs.Improving.{IsNoDearer}
use Rattle.cip_search.specs.Searched.{NoMore}
use Rattle.cip_model.specs.Verdicts.{verdict_of}
use Rattle.cip_model.specs.declared.verdicts.Verdict.TheVariants.{Feasible}
use Rattle.cip_incumbent.specs.HeldPoint.{offered, after_offer}
use Rattle.cip_incumbent.specs.declared.offers.Offered.{Offered}
use Rattle.cip_rows.specs.RowPools.{Pool, kept_pool_rows}
use Rattle.cip_tree.specs.Moves.{is_cheaper}
use Rattle.cip_tree.specs.Nodes.{TakenNode, Nodes, base_at, shown}
use Rattle.cip_presolve.specs.StepsBack.{point_back, FitsBack}
use Rattle.cip_presolve.specs.PostsolveFaults.{IsPostsolveFault}
use Rattle.cip_presolve.specs.declared.faults.PostsolveFault.{PostsolveFault}
use Rattle.cip_core.specs.CoreStates.{CoreState, reduced_of, held_of, IsKeptIn}
use Rattle.cip_core.specs.Later.{IsLater}

-- the open nodes whose bound is below the cost held stay, and what is kept of nodes in work
pub record IsTrimmedAt (old new : Nodes) (cost : ℚ) : Type 0 where
  pub nodes : IsPermutation (filter (is_cheaper cost) old.open_) new.open_
  pub taken : (place : ℕ) → base_at new place ≡ base_at old place
  pub rest : new ≡ record old { open_ = new.open_; taken = new.taken }

abbrev pub IsTrimmed : Nodes → Nodes → Option ℚ → Type 0
IsTrimmed old new None = new ≡ old
IsTrimmed old new (Some cost) = IsTrimmedAt old new cost

-- the parked nodes after a node has ended
abbrev pub parked_after : List Node → Node → End → List Node
parked_after parked node (Split column at low high) = parked
parked_after parked node Closed = parked
parked_after parked node Parked = parked ++ node ∷ []

-- a node has ended so: its entry is the last of the log, and it is the last of the parked nodes where it was parked
pub record LeavesEntry (old new : Nodes) (node : Node) (end : End) : Type 0 where
  pub logged : new.log ≡ old.log ++ record { node = node.number; bound = node.bound; end = end } ∷ []
  pub parked : new.parked ≡ parked_after old.parked node end

-- a node that was in work has ended, and the search goes on
pub record HasLeft (old new : CoreState) (node : TakenNode) (end : End) : Type 0 where
  pub entry : LeavesEntry old.tree new.tree (shown old.tree node) end
  pub kept : IsKeptIn new []
  pub later : IsLater old new
  pub few : new.tree.ids ≤ old.tree.ids + 2

-- a node of this number and this bound is open
pub record HasOpen (open_ : List Node) (number : ℕ) (bound : Option ℚ) : Type 0 where
  pub node : Node
  pub among : Contains open_ node
  pub number_is : node.number ≡ number
  pub bound_is : node.bound ≡ bound

-- a node is open again with the bound that the log gave it, if it matters still, and nothing was logged: the search can
-- go on
pub record IsBack (old new : CoreState) (number : ℕ) (bound : Option ℚ) : Type 0 where
  pub kept : IsKeptIn new []
  pub log : new.tree.log ≡ old.tree.log
  pub parked : new.tree.parked ≡ old.tree.parked
  pub ids : new.tree.ids ≡ old.tree.ids
  pub later : IsLater old new
  pub open_ : matters (held_of new) bound ≡ true → HasOpen new.tree.open_ number bound

-- where the test of a point finds it feasible, what is held costs no more
abbrev pub IsTried : Program → Option ℚ → List ℚ → Type 0
IsTried program held point = (cost : ℚ) → verdict_of program point ≡ Feasible cost → IsNoDearer held (Some cost)

-- a point was offered: with this answer, and what is held then; of the nodes, open ones that don't matter were let go
pub record IsOffered (old new : CoreState) (point : List ℚ) (answer : Offered) : Type 0 where
  pub tried : IsTried new.program (held_of new) point
  pub is_answer : answer ≡ offered old.incumbent.best (verdict_of old.program point)
  pub after : new.incumbent ≡ after_offer answer old.program point old.incumbent
  pub trimmed : IsTrimmed old.tree new.tree (held_of new)

-- where a point of the reduced program comes back in range, and the test of that finds it feasible, what is held costs
-- no more
abbrev pub IsTriedBack : CoreState → List ℚ → Type 0
IsTriedBack core point =
    FitsBack core.steps point → IsTried core.program (held_of core) (point_back core.steps point)

-- a point of the reduced program came back in range, and what it came back as was offered
pub record IsOfferedBack (old new : CoreState) (point : List ℚ) (answer : Offered) : Type 0 where
  pub fits : FitsBack old.steps point
  pub offered : IsOffered old new (point_back old.steps point) answer

-- it doesn't come back, for this reason, and nothing has changed
pub record IsNotBack (old new : CoreState) (point : List ℚ) (fault : PostsolveFault) : Type 0 where
  pub why : IsPostsolveFault old.steps point fault
  pub same : new ≡ old

-- a pool after it aged: its oldest rows have gone, where it had too many
abbrev pub aged : Pool → Pool
aged pool = record pool { rows = drop (length pool.rows - kept_pool_rows) pool.rows }

-- a bound is at least another, and at least that rounded up where costs are whole
pub record IsRaisedTo (core : CoreState) (bound : ℚ) (raised : Option ℚ) : Type 0 where
  pub plain : NoMore (Some bound) raised
  pub whole : HasWholeCosts (reduced_of core) → NoMore (Some (integer (ceil bound))) raised
