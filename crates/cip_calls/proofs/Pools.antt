-- What judged proposals leave of the pool, and of the node's region.
use Rattle.std.proofs.Common.{◌≡◌, ◌≢◌, ℕ, Bool, List, [], ◌++◌, Option, None, Some, Result, Ok, Err, sym, ◌∙◌, ap, subst, refl, append_assoc, append-nil}
use Rattle.std.specs.Prelude.{MatchResult}
use Rattle.cip_rational.specs.Rational.{ℚ}
use Rattle.cip_lin.specs.declared.combos.Combo.{Combo}
use Rattle.cip_lin.specs.declared.sides.Side.{Side}
use Rattle.cip_calls.specs.PoolRow.{PoolRow}
use Rattle.cip_calls.specs.SplitCut.{SplitCut}
use Rattle.cip_calls.specs.RowPools.{Pool}
use Rattle.cip_plugin.specs.declared.proposals.Cut.{Cut}
use Rattle.cip_tree.specs.Nodes.{TakenNode, region_of}
use Rattle.cip_calls.specs.CoreStates.{CoreState}
use Rattle.cip_calls.specs.ProposalsJudged.{IsCutBy, IsJudgedCut}
use Rattle.cip_calls.specs.ReductionsJudged.{IsAfterReduction}
use Rattle.cip_calls.specs.RowsJudged.{IsRowJudged}
use Rattle.cip_calls.specs.SplitCutsJudged.{IsCutJudged}
use Rattle.cip_calls.specs.declared.judged.JudgeFault.TheVariants as fault
use Rattle.cip_calls.specs.declared.judged.Judged.{Judged}
use Rattle.cip_calls.specs.declared.judged.Judged.TheVariants as judged
use Rattle.cip_calls.specs.Noted.{HasMoreRows, IsSameNode}
use Rattle.cip_calls.specs.declared.asks.Round.TheVariants as rounds
use Rattle.cip_calls.specs.declared.judging.Came.{Came}
use Rattle.cip_calls.specs.declared.judging.Came.TheVariants as ends

-- ---- rows behind those of a pool

pub more_none : (pool : Pool) → HasMoreRows pool pool
more_none pool = record { more = []; rows = sym (append-nil pool.rows); columns = refl }

pub more_same : (old new : Pool) → new ≡ old → HasMoreRows old new
more_same old new e = subst (HasMoreRows old) (sym e) (more_none old)

pub more_further : (a b c : Pool) → HasMoreRows a b → HasMoreRows b c → HasMoreRows a c
more_further a b c first second = record {
  more = first.more ++ second.more;
  rows = second.rows ∙ ap (λ (l : List PoolRow). l ++ second.more) first.rows ∙ append_assoc a.rows first.more second.more;
  columns = second.columns ∙ first.columns;
}

-- a pool after a proposal: rows came behind it, or none did where that wasn't accepted
pub record After (old new : Pool) (came : Judged) : Type 0 where
  pub more : HasMoreRows old new
  pub same : came ≢ judged.Accepted → new ≡ old

after_same : (old new : Pool) (came : Judged) → new ≡ old → After old new came
after_same old new came e = record { more = more_same old new e; same = λ other. e }

after_new : (old new : Pool) (more : List PoolRow) → new.rows ≡ old.rows ++ more → new.columns ≡ old.columns → After old new judged.Accepted
after_new old new more rows columns = record {
  more = record { more = more; rows = rows; columns = columns };
  same = λ other. absurd (other refl);
}

row_after : (old new : CoreState) (combo : Combo) (round local : Bool) (came : Judged) → IsRowJudged old new combo round local came → After old.pool new.pool came
row_after old new combo round local judged.Accepted h = after_new old.pool new.pool _ (ap (λ (p : Pool). p.rows) h.1.is_added.3) (ap (λ (p : Pool). p.columns) h.1.is_added.3)
row_after old new combo round local judged.Known h = after_same old.pool new.pool judged.Known h.1.is_added.1
row_after old new combo round local judged.Emptied h = absurd h
row_after old new combo round local judged.NotBetter h = absurd h
row_after old new combo round local (judged.Refused fault.Full) h = after_same old.pool new.pool (judged.Refused fault.Full) h.is_added.2
row_after old new combo round local (judged.Refused (fault.Check of)) h = after_same old.pool new.pool (judged.Refused (fault.Check of)) (ap (λ (k : CoreState). k.pool) h.same)
row_after old new combo round local (judged.Refused (fault.Node of)) h = absurd h
row_after old new combo round local (judged.Refused (fault.Postsolve of)) h = absurd h
row_after old new combo round local (judged.Refused (fault.Offer of)) h = absurd h
row_after old new combo round local (judged.Refused (fault.Split of)) h = absurd h
row_after old new combo round local (judged.Refused (fault.SplitForm of)) h = absurd h

split_after : (old new : CoreState) (cut : SplitCut) (local : Bool) (came : Judged) → IsCutJudged old new cut local came → After old.pool new.pool came
split_after old new cut local judged.Accepted h = after_new old.pool new.pool _ (ap (λ (p : Pool). p.rows) h.1.is_added.3) (ap (λ (p : Pool). p.columns) h.1.is_added.3)
split_after old new cut local judged.Known h = after_same old.pool new.pool judged.Known h.1.is_added.1
split_after old new cut local judged.Emptied h = absurd h
split_after old new cut local judged.NotBetter h = absurd h
split_after old new cut local (judged.Refused fault.Full) h = after_same old.pool new.pool (judged.Refused fault.Full) h.is_added.2
split_after old new cut local (judged.Refused (fault.SplitForm of)) h = after_same old.pool new.pool (judged.Refused (fault.SplitForm of)) (ap (λ (k : CoreState). k.pool) h.1)
split_after old new cut local (judged.Refused (fault.Check of)) h = absurd h
split_after old new cut local (judged.Refused (fault.Node of)) h = absurd h
split_after old new cut local (judged.Refused (fault.Postsolve of)) h = absurd h
split_after old new cut local (judged.Refused (fault.Offer of)) h = absurd h
split_after old new cut local (judged.Refused (fault.Split of)) h = absurd h

by_after : (old new : CoreState) (cut : Cut) (split : Option SplitCut) (came : Judged) → IsCutBy old new cut split came → After old.pool new.pool came
by_after old new cut None came h = row_after old new cut.combo cut.round cut.local came h
by_after old new cut (Some split) came h = split_after old new split cut.local came h

pub cut_after : (old new : CoreState) (cut : Cut) (came : Judged) → IsJudgedCut old new cut came → After old.pool new.pool came
cut_after old new cut came h = by_after old new cut cut.split came h

-- ---- what the calls answer

pub cut_more : {E : Type 0} (r : Result Judged E) (old new : CoreState) (cut : Cut) → MatchResult r (IsJudgedCut old new cut) (λ _. new.pool ≡ old.pool) → HasMoreRows old.pool new.pool
cut_more (Ok came) old new cut h = (cut_after old new cut came h).more
cut_more (Err error) old new cut h = more_same old.pool new.pool h

pub side_pool : {E : Type 0} (r : Result Judged E) (old new : CoreState) (had has : TakenNode) (column : ℕ) (side : Side) (value : ℚ) → MatchResult r (λ came. IsAfterReduction came old new had has column side value) (λ _. (new ≡ old) × (has ≡ had)) → new.pool ≡ old.pool
side_pool (Ok judged.Accepted) old new had has column side value h = ap (λ (k : CoreState). k.pool) h.core
side_pool (Ok judged.Emptied) old new had has column side value h = ap (λ (k : CoreState). k.pool) h.0
side_pool (Ok judged.Known) old new had has column side value h = ap (λ (k : CoreState). k.pool) h.0
side_pool (Ok judged.NotBetter) old new had has column side value h = ap (λ (k : CoreState). k.pool) h.0
side_pool (Ok (judged.Refused of)) old new had has column side value h = ap (λ (k : CoreState). k.pool) h.0
side_pool (Err error) old new had has column side value h = ap (λ (k : CoreState). k.pool) h.0

-- ---- the node

pub node_none : (core : CoreState) (node : TakenNode) → IsSameNode core core node node
node_none core node = record { node = refl; region = refl }

pub node_further : (old mid new : CoreState) (had node has : TakenNode) → IsSameNode old mid had node → IsSameNode mid new node has → IsSameNode old new had has
node_further old mid new had node has first second = record { node = second.node ∙ first.node; region = second.region ∙ first.region }

pub node_same : (old new : CoreState) (had has : TakenNode) → (new ≡ old) × (has ≡ had) → IsSameNode old new had has
node_same old new had has (e, f) = record { node = f; region = ap (λ (k : CoreState). region_of k.tree has) e ∙ ap (region_of old.tree) f }

pub side_node : (old new : CoreState) (had has : TakenNode) (column : ℕ) (side : Side) (value : ℚ) (came : Judged) → IsAfterReduction came old new had has column side value
    → came ≢ judged.Accepted → IsSameNode old new had has
side_node old new had has column side value judged.Accepted h other = absurd (other refl)
side_node old new had has column side value judged.Emptied h other = node_same old new had has h
side_node old new had has column side value judged.Known h other = node_same old new had has h
side_node old new had has column side value judged.NotBetter h other = node_same old new had has h
side_node old new had has column side value (judged.Refused of) h other = node_same old new had has h

-- what is told is either of three
pub quiet_left : (came : Came) → came ≢ ends.Emptied → came ≢ ends.Accepted → came ≡ ends.Quiet
quiet_left ends.Quiet one other = refl
quiet_left ends.Accepted one other = absurd (other refl)
quiet_left ends.Emptied one other = absurd (one refl)

-- rounds are told apart
pub sides_not_cuts : rounds.Sides ≢ rounds.Cuts
sides_not_cuts e = cc

pub cuts_not_sides : rounds.Cuts ≢ rounds.Sides
cuts_not_sides e = cc

pub points_not_sides : rounds.Points ≢ rounds.Sides
points_not_sides e = cc
