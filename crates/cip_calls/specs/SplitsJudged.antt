-- What a split that is proposed comes to.
use Rattle.std.specs.Prelude.{◌≡◌, ℕ, ◌+◌, ◌<◌, ◌≤◌, ◌^◌, ℤ, unsigned_abs, true, Some, slice_get}
use Rattle.cip_problem.specs.Program.{Plain}
use Rattle.cip_problem.specs.Box.{sides_at}
use Rattle.cip_problem.specs.Choices.{choice_at}
use Rattle.cip_problem.specs.Log.{Split, CanSplitAt}
use Rattle.cip_problem.specs.WellFormed.{columns}
use Rattle.cip_domain.specs.Halves.{CanHalve}
use Rattle.cip_tree.specs.Nodes.{TakenNode}
use Rattle.cip_tree.specs.declared.splits.SplitFault.{SplitFault}
use Rattle.cip_tree.specs.declared.splits.SplitFault.TheVariants.{NotWhole, Outside, NoMemory}
use Rattle.cip_core.specs.CoreStates.{CoreState, reduced_of}
use Rattle.cip_core.specs.KeptNodes.{farthest}
use Rattle.cip_core.specs.SplitPlaces.{IsSplitPlace}
use Rattle.cip_core.specs.Steps.{HasLeft}
use Rattle.cip_calls.specs.declared.judged.NodeFault.{NodeFault}
use Rattle.cip_calls.specs.declared.judged.NodeFault.TheVariants.{BadLength, NoSuchColumn, TooFar}
use Rattle.cip_calls.specs.declared.judged.JudgeFault.{JudgeFault}
use Rattle.cip_calls.specs.declared.judged.JudgeFault.TheVariants as fault
use Rattle.cip_calls.specs.declared.splits.Parted.{Parted}
use Rattle.cip_calls.specs.declared.splits.Parted.TheVariants.{Halves, Whole}

-- the column is one of the reduced program's, and the number has a size of at most 2^100
pub record IsNamed (core : CoreState) (column : ℕ) (at : ℤ) : Type 0 where
  pub inside : column < columns (reduced_of core)
  pub near : unsigned_abs at ≤ 2 ^ 100

-- what a split names isn't there, or is too far away
abbrev pub IsMisnamed : CoreState → ℕ → ℤ → NodeFault → Type 0
IsMisnamed core column at BadLength = ⊥
IsMisnamed core column at NoSuchColumn = columns (reduced_of core) ≤ column
IsMisnamed core column at TooFar = (column < columns (reduced_of core)) × (2 ^ 100 < unsigned_abs at)

-- the column is neither a whole one that is plain nor one that isn't whole and whose choice is open; or it is whole and
-- plain, and a half would have no whole value
abbrev pub IsNoPlace : CoreState → ℕ → ℤ → SplitFault → Type 0
IsNoPlace core column at NotWhole =
    ¬ CanSplitAt (choice_at core.tree.work.choices column) (slice_get (reduced_of core).integral column)
IsNoPlace core column at Outside =
    (choice_at core.tree.work.choices column ≡ Plain) × (slice_get (reduced_of core).integral column ≡ Some true)
    × (¬ CanHalve (sides_at core.tree.work.box column) at)
IsNoPlace core column at NoMemory = ⊥

-- why a split is refused
abbrev pub IsSplitRefused : CoreState → ℕ → ℤ → JudgeFault → Type 0
IsSplitRefused core column at (fault.Node of) = IsMisnamed core column at of
IsSplitRefused core column at (fault.Split of) = IsNamed core column at × IsNoPlace core column at of
IsSplitRefused core column at (fault.Check of) = ⊥
IsSplitRefused core column at fault.Full = ⊥
IsSplitRefused core column at (fault.Postsolve of) = ⊥
IsSplitRefused core column at (fault.Offer of) = ⊥
IsSplitRefused core column at (fault.SplitForm of) = ⊥

-- the region in work can be split there
pub record IsPlace (core : CoreState) (column : ℕ) (at : ℤ) : Type 0 where
  pub named : IsNamed core column at
  pub place : IsSplitPlace (reduced_of core).integral core.tree.work (farthest core.tree.ids + 1) column at

-- the node has left, split there; or nothing has changed, and the node is given back
abbrev pub IsSplitJudged : CoreState → CoreState → TakenNode → ℕ → ℤ → Parted → Type 0
IsSplitJudged old new node column at (Halves low high) = HasLeft old new node (Split column at low high)
IsSplitJudged old new node column at (Whole same of) =
    (new ≡ old) × (same ≡ node) × IsSplitRefused old column at of
