-- What a row that is proposed comes to, and a combination that is to show that a node is empty.
use Rattle.std.specs.Prelude.{ℕ, Bool}
use Rattle.cip_lin.specs.declared.combos.Combo.{Combo}
use Rattle.cip_rows.specs.declared.pools.Added.{Added}
use Rattle.cip_rows.specs.declared.pools.Added.TheVariants as added
use Rattle.cip_core.specs.CoreStates.{CoreState}
use Rattle.cip_core.specs.RowsAsked.{IsTold, IsRefused}
use Rattle.cip_calls.specs.declared.judged.JudgeFault.{JudgeFault}
use Rattle.cip_calls.specs.declared.judged.JudgeFault.TheVariants as fault
use Rattle.cip_calls.specs.declared.judged.Judged.{Judged}
use Rattle.cip_calls.specs.declared.judged.Judged.TheVariants as judged

-- the pool is full; or the check refuses the combination, and nothing has changed
abbrev pub IsRowRefused : CoreState → CoreState → Combo → Bool → Bool → JudgeFault → Type 0
IsRowRefused old new combo round local fault.Full = IsTold old new combo round local added.Full
IsRowRefused old new combo round local (fault.Check of) = IsRefused old new combo round local of
IsRowRefused old new combo round local (fault.Node of) = ⊥
IsRowRefused old new combo round local (fault.Postsolve of) = ⊥
IsRowRefused old new combo round local (fault.Offer of) = ⊥
IsRowRefused old new combo round local (fault.Split of) = ⊥
IsRowRefused old new combo round local (fault.SplitForm of) = ⊥

-- the check accepts the combination and its row is in the pool with its scope; or an equal one was; or it is refused
abbrev pub IsRowJudged : CoreState → CoreState → Combo → Bool → Bool → Judged → Type 0
IsRowJudged old new combo round local judged.Accepted =
    (id : ℕ) × IsTold old new combo round local (added.New id)
IsRowJudged old new combo round local judged.Known =
    (id : ℕ) × IsTold old new combo round local (added.Known id)
IsRowJudged old new combo round local judged.Emptied = ⊥
IsRowJudged old new combo round local judged.NotBetter = ⊥
IsRowJudged old new combo round local (judged.Refused of) = IsRowRefused old new combo round local of

-- what a proposal comes to whose row was handed to the pool
abbrev pub judged_of : Added → Judged
judged_of (added.New id) = judged.Accepted
judged_of (added.Known id) = judged.Known
judged_of added.Full = judged.Refused fault.Full
