-- What a proposal of any kind comes to, and what is left of the node in work.
use Rattle.std.specs.Prelude.{◌≡◌, ◌≢◌, ℕ, Option, None, Some, length}
use Rattle.cip_problem.specs.Log.{Split as SplitEnd}
use Rattle.cip_problem.specs.Improving.{HasNoImproving}
use Rattle.cip_cert.specs.Lent.{multiples_of}
use Rattle.cip_cert.specs.declared.splits.SplitCut.{SplitCut}
use Rattle.cip_plugin.specs.declared.proposals.Cut.{Cut}
use Rattle.cip_plugin.specs.declared.proposals.Reduction.{Reduction}
use Rattle.cip_plugin.specs.declared.proposals.Split.{Split}
use Rattle.cip_plugin.specs.declared.proposals.Enforced.{Enforced}
use Rattle.cip_plugin.specs.declared.proposals.Enforced.TheVariants as said
use Rattle.cip_plugin.specs.declared.proposals.Proposal.{Proposal}
use Rattle.cip_plugin.specs.declared.proposals.Proposal.TheVariants as by
use Rattle.cip_tree.specs.Nodes.{TakenNode, region_of, box_of}
use Rattle.cip_core.specs.StepsBack.{point_back}
use Rattle.cip_core.specs.CoreStates.{CoreState, reduced_of, held_of}
use Rattle.cip_core.specs.Later.{IsLaterAt}
use Rattle.cip_core.specs.Steps.{HasLeft}
use Rattle.cip_calls.specs.CutoffsJudged.{cutoff_answer}
use Rattle.cip_calls.specs.GuessesJudged.{IsGuessJudged, IsAfterGuess}
use Rattle.cip_calls.specs.ReductionsJudged.{reduction_answer, IsAfterReduction}
use Rattle.cip_calls.specs.RowsJudged.{IsRowJudged}
use Rattle.cip_calls.specs.SplitCutsJudged.{IsCutJudged}
use Rattle.cip_calls.specs.SplitsJudged.{IsSplitRefused}
use Rattle.cip_calls.specs.declared.judged.Judged.{Judged}
use Rattle.cip_calls.specs.declared.judged.Judged.TheVariants as judged
use Rattle.cip_calls.specs.declared.proposals.Ruled.{Ruled}
use Rattle.cip_calls.specs.declared.proposals.Ruled.TheVariants.{Kept, Halves}
use Rattle.cip_calls.specs.declared.scratches.Scratches.{Scratches}

-- both scratches have room for just so many columns
pub record HaveRoom (scratches : Scratches) (columns : ℕ) : Type 0 where
  pub first : length scratches.first.row.entries ≡ columns
  pub second : length scratches.second.row.entries ≡ columns

-- ---- what leaves the node in work

-- neither the core nor the node has changed
pub record IsUnchanged (old new : CoreState) (had has : TakenNode) : Type 0 where
  pub core : new ≡ old
  pub node : has ≡ had

-- what a cut comes to: by its split, where it has one, else by its combination
abbrev pub IsCutBy : CoreState → CoreState → Cut → Option SplitCut → Judged → Type 0
IsCutBy old new cut None came = IsRowJudged old new cut.combo cut.round cut.local came
IsCutBy old new cut (Some split) came = IsCutJudged old new split cut.local came

abbrev pub IsJudgedCut : CoreState → CoreState → Cut → Judged → Type 0
IsJudgedCut old new cut came = IsCutBy old new cut cut.split came

-- what a side comes to
pub record IsJudgedSide (old new : CoreState) (had has : TakenNode) (told : Reduction) (came : Judged) : Type 0 where
  pub answer : came ≡ reduction_answer old told.col told.side told.value (multiples_of told.combo)
  pub after : IsAfterReduction came old new had has told.col told.side told.value

-- a split is refused, and nothing has changed
abbrev pub IsKeptWhole : CoreState → CoreState → TakenNode → TakenNode → Split → Judged → Type 0
IsKeptWhole old new had has split (judged.Refused fault) =
    IsUnchanged old new had has × IsSplitRefused old split.col split.at fault
IsKeptWhole old new had has split judged.Accepted = ⊥
IsKeptWhole old new had has split judged.Emptied = ⊥
IsKeptWhole old new had has split judged.Known = ⊥
IsKeptWhole old new had has split judged.NotBetter = ⊥

-- what a handler's answer comes to
abbrev pub IsSaid : CoreState → CoreState → TakenNode → TakenNode → Enforced → Judged → Type 0
IsSaid old new had has (said.Cutoff combo) came =
    IsUnchanged old new had has × (came ≡ cutoff_answer old (multiples_of combo))
IsSaid old new had has (said.Reduced told) came = IsJudgedSide old new had has told came
IsSaid old new had has (said.Separated cut) came = (has ≡ had) × IsJudgedCut old new cut came
IsSaid old new had has (said.Branched split) came = IsKeptWhole old new had has split came
IsSaid old new had has said.Infeasible came = IsUnchanged old new had has × (came ≡ judged.Accepted)
IsSaid old new had has said.Feasible came = IsUnchanged old new had has × (came ≡ judged.Accepted)

-- what any proposal comes to
abbrev pub IsJudged : CoreState → CoreState → TakenNode → TakenNode → Proposal → Judged → Type 0
IsJudged old new had has (by.Cut cut) came = (has ≡ had) × IsJudgedCut old new cut came
IsJudged old new had has (by.Reduction told) came = IsJudgedSide old new had has told came
IsJudged old new had has (by.Guess guess) came =
    (has ≡ had) × IsGuessJudged old guess.values.items came
    × IsAfterGuess came old new (point_back old.steps guess.values.items)
IsJudged old new had has (by.Split split) came = IsKeptWhole old new had has split came
IsJudged old new had has (by.Enforcement said) came = IsSaid old new had has said came

-- no improving point is in the box of a node in work
abbrev pub IsShownEmpty : CoreState → TakenNode → Type 0
IsShownEmpty core node = HasNoImproving (reduced_of core) (held_of core) (box_of core.tree node)

-- a node goes on: it is in work in a later core; its region is the same, unless the proposal was accepted; and where it
-- was shown to be empty it is
pub record GoesOn (old new : CoreState) (had has : TakenNode) (came : Judged) : Type 0 where
  pub later : IsLaterAt old had new has
  pub region : came ≢ judged.Accepted → region_of new.tree has ≡ region_of old.tree had
  pub emptied : came ≡ judged.Emptied → IsShownEmpty new has

-- ---- what splits it

-- the split that a handler asks for, if it does
abbrev pub split_said : Enforced → Option Split
split_said (said.Branched split) = Some split
split_said (said.Cutoff combo) = None
split_said (said.Reduced told) = None
split_said (said.Separated cut) = None
split_said said.Infeasible = None
split_said said.Feasible = None

-- the split that is proposed, if it is one
abbrev pub split_in : Proposal → Option Split
split_in (by.Split split) = Some split
split_in (by.Enforcement said) = split_said said
split_in (by.Cut cut) = None
split_in (by.Reduction told) = None
split_in (by.Guess guess) = None

-- a node has left, split where it was proposed
pub record IsParted (old new : CoreState) (node : TakenNode) (proposal : Proposal) (low high : ℕ) : Type 0 where
  pub split : Split
  pub proposed : split_in proposal ≡ Some split
  pub left : HasLeft old new node (SplitEnd split.col split.at low high)

-- ---- both

abbrev pub IsRuled : CoreState → CoreState → TakenNode → Proposal → Ruled → Type 0
IsRuled old new node proposal (Kept has came) =
    IsJudged old new node has proposal came × GoesOn old new node has came
IsRuled old new node proposal (Halves low high) = IsParted old new node proposal low high
