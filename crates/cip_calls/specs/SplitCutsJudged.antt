-- What a split cut that is proposed comes to.
use Rattle.std.specs.Prelude.{◌≡◌, ℕ, Bool, Result, Ok, Err}
use Rattle.cip_problem.specs.WellFormed.{columns}
use Rattle.cip_problem.specs.Cuts.{row_of}
use Rattle.cip_problem.specs.Aggregate.{Inequality}
use Rattle.cip_cert.specs.declared.splits.SplitCut.{SplitCut}
use Rattle.cip_cert.specs.declared.splits.SplitFormFault.{SplitFormFault}
use Rattle.cip_rows.specs.Adding.{IsAdded}
use Rattle.cip_rows.specs.declared.pools.Added.{Added}
use Rattle.cip_rows.specs.declared.pools.Added.TheVariants as added
use Rattle.cip_split.specs.SplitChecks.{split_of}
use Rattle.cip_split.specs.SplitMeaning.{split_rests}
use Rattle.cip_core.specs.CoreStates.{CoreState, reduced_of, all_lent}
use Rattle.cip_core.specs.RowsAsked.{scope_of}
use Rattle.cip_calls.specs.declared.judged.JudgeFault.{JudgeFault}
use Rattle.cip_calls.specs.declared.judged.JudgeFault.TheVariants as fault
use Rattle.cip_calls.specs.declared.judged.Judged.{Judged}
use Rattle.cip_calls.specs.declared.judged.Judged.TheVariants as judged

-- what the check of a split cut comes to in the box in work, or in the root's
abbrev pub split_in : CoreState → SplitCut → Bool → Result Inequality SplitFormFault
split_in core cut local =
    split_of (all_lent core) (reduced_of core).integral (scope_of core local) (columns (reduced_of core)) cut

-- the check accepts it, and its row was added with that scope, or wasn't
pub record IsSplitTold (old new : CoreState) (cut : SplitCut) (local : Bool) (added : Added) : Type 0 where
  pub row : Inequality
  pub accepted : split_in old cut local ≡ Ok row
  pub is_added : IsAdded old.pool (row_of row) (scope_of old local) (split_rests old.pool.rows cut) new.pool added

-- the pool is full; or the check refuses the cut, and nothing has changed
abbrev pub IsCutRefused : CoreState → CoreState → SplitCut → Bool → JudgeFault → Type 0
IsCutRefused old new cut local fault.Full = IsSplitTold old new cut local added.Full
IsCutRefused old new cut local (fault.SplitForm of) = (split_in old cut local ≡ Err of) × (new ≡ old)
IsCutRefused old new cut local (fault.Check of) = ⊥
IsCutRefused old new cut local (fault.Node of) = ⊥
IsCutRefused old new cut local (fault.Postsolve of) = ⊥
IsCutRefused old new cut local (fault.Offer of) = ⊥
IsCutRefused old new cut local (fault.Split of) = ⊥

-- the check accepts the cut and its row is in the pool with its scope; or an equal one was; or it is refused
abbrev pub IsCutJudged : CoreState → CoreState → SplitCut → Bool → Judged → Type 0
IsCutJudged old new cut local judged.Accepted = (id : ℕ) × IsSplitTold old new cut local (added.New id)
IsCutJudged old new cut local judged.Known = (id : ℕ) × IsSplitTold old new cut local (added.Known id)
IsCutJudged old new cut local judged.Emptied = ⊥
IsCutJudged old new cut local judged.NotBetter = ⊥
IsCutJudged old new cut local (judged.Refused of) = IsCutRefused old new cut local of
