-- What a round of proposals keeps, and what it writes.
use Rattle.std.specs.Prelude.{◌≡◌, ℕ, List, [], ◌++◌, map, replicate}
use Rattle.cip_problem.specs.WellFormed.{columns}
use Rattle.cip_calls.specs.PoolRow.{PoolRow}
use Rattle.cip_calls.specs.RowPools.{Pool}
use Rattle.cip_plugin.specs.Seats.{State}
use Rattle.cip_plugin.specs.Steps.{Step, Runs, calls_of}
use Rattle.cip_roster.specs.KeptRankings.{Room}
use Rattle.cip_roster.specs.Turns.{IsSound}
use Rattle.cip_roster.specs.Wished.{Ran}
use Rattle.cip_tree.specs.Nodes.{TakenNode, region_of}
use Rattle.cip_calls.specs.CoreStates.{CoreState, reduced_of, IsAtWork}
use Rattle.cip_calls.specs.Later.{IsLaterAt}
use Rattle.cip_calls.specs.ProposalsJudged.{HaveRoom}
use Rattle.cip_calls.specs.declared.judged.Judged.{Judged}
use Rattle.cip_calls.specs.declared.scratches.Scratches.{Scratches}

-- a node is in work, and there is room for checks
pub record IsReady (core : CoreState) (node : TakenNode) (scratches : Scratches) : Type 0 where
  pub at_work : IsAtWork core node
  pub room : HaveRoom scratches (columns (reduced_of core))

-- some steps were taken that call nobody, and all seats are as they were
pub record HasNoted (before after : State) : Type 0 where
  pub steps : List Step
  pub run : Runs before steps after
  pub silent : (id : ℕ) → calls_of id steps ≡ []
  pub seats : after.seats ≡ before.seats

-- rows come behind those of a pool alone
pub record HasMoreRows (old new : Pool) : Type 0 where
  pub more : List PoolRow
  pub rows : new.rows ≡ old.rows ++ more
  pub columns : new.columns ≡ old.columns

-- a node stays as it is, and so does its region
pub record IsSameNode (old new : CoreState) (had has : TakenNode) : Type 0 where
  pub node : has ≡ had
  pub region : region_of new.tree has ≡ region_of old.tree had

-- steps of a node in work that call nobody: it is in work still, and there is room for what comes next
pub record HasGone
    (old : CoreState) (had : TakenNode) (before : State) (new : CoreState) (has : TakenNode) (scratches : Scratches)
    (after : State) (room : Room) : Type 0 where
  pub later : IsLaterAt old had new has
  pub ready : IsReady new has scratches
  pub sound : IsSound after room
  pub rows : HasMoreRows old.pool new.pool
  pub noted : HasNoted before after

-- the same of steps that may call plugins
pub record HasCome
    (old : CoreState) (had : TakenNode) (before : State) (new : CoreState) (has : TakenNode) (scratches : Scratches)
    (after : State) (room : Room) : Type 0 where
  pub later : IsLaterAt old had new has
  pub ready : IsReady new has scratches
  pub sound : IsSound after room
  pub rows : HasMoreRows old.pool new.pool
  pub run : Ran before after

-- who made the proposals that were judged, in order
abbrev pub makers : List (ℕ × Judged) → List ℕ
makers judged = map (λ entry. entry.0) judged

-- so many more proposals of a plugin were judged
abbrev pub HasJudged : ℕ → ℕ → List (ℕ × Judged) → List (ℕ × Judged) → Type 0
HasJudged id count had has = makers has ≡ makers had ++ replicate count id
