-- A split cut that a check accepts is valid in its scope.
use Rattle.std.proofs.Common.{◌≡◌, ℕ, Bool, List, Ok, Err, IfOk, sym, ◌∙◌, subst, arith}
use Rattle.cip_problem.specs.Program.{Sides}
use Rattle.cip_problem.specs.WellFormed.{IsWellFormed, columns}
use Rattle.cip_problem.specs.Cuts.{row_of}
use Rattle.cip_problem.specs.Improving.{IsValid}
use Rattle.cip_problem.specs.Aggregate.{Inequality}
use Rattle.cip_cert.specs.declared.splits.SplitCut.{SplitCut}
use Rattle.cip_cert.specs.declared.splits.SplitFormFault.{SplitFormFault}
use Rattle.cip_cert.specs.Lent.{Lent, Fits}
use Rattle.cip_cert.specs.Resting.{valid_below}
use Rattle.cip_rows.specs.Adding.{IsAdded}
use Rattle.cip_rows.specs.RowPools.{IsSoundPool}
use Rattle.cip_rows.specs.declared.pools.Added.{Added}
use Rattle.cip_split.specs.SplitChecks.{split_of}
use Rattle.cip_split.specs.SplitMeaning.{split_rests}
use Rattle.cip_split.proofs.SplitValidity.{split_valid}
use Rattle.cip_tree.specs.Nodes.{TakenNode}
use Rattle.cip_core.specs.CoreStates.{CoreState, reduced_of, held_of, all_lent, IsSound, IsAtWork}
use Rattle.cip_core.specs.RowsAsked.{scope_of}
use Rattle.cip_core.proofs.RowsAdded.{lent_there, lent_fits, scope_long}
use Rattle.cip_calls.specs.SplitCutsJudged.{split_in, IsSplitTold}

pub accepted_by : (core : CoreState) (cut : SplitCut) (local : Bool) (lent : Lent) (whole : List Bool) (box : List Sides) (n : ℕ) (row : Inequality) → lent ≡ all_lent core → whole ≡ (reduced_of core).integral → box ≡ scope_of core local → n ≡ columns (reduced_of core) → split_of lent whole box n cut ≡ Ok row → split_in core cut local ≡ Ok row
accepted_by core cut local lent whole box n row l f b m h =
    subst (λ k. split_of (all_lent core) (reduced_of core).integral (scope_of core local) k cut ≡ Ok row) m
    (subst (λ x. split_of (all_lent core) (reduced_of core).integral x n cut ≡ Ok row) b
    (subst (λ i. split_of (all_lent core) i box n cut ≡ Ok row) f
    (subst (λ x. split_of x whole box n cut ≡ Ok row) l h)))

pub refused_by : (core : CoreState) (cut : SplitCut) (local : Bool) (lent : Lent) (whole : List Bool) (box : List Sides) (n : ℕ) (of : SplitFormFault) → lent ≡ all_lent core → whole ≡ (reduced_of core).integral → box ≡ scope_of core local → n ≡ columns (reduced_of core) → split_of lent whole box n cut ≡ Err of → split_in core cut local ≡ Err of
refused_by core cut local lent whole box n of l f b m h =
    subst (λ k. split_of (all_lent core) (reduced_of core).integral (scope_of core local) k cut ≡ Err of) m
    (subst (λ x. split_of (all_lent core) (reduced_of core).integral x n cut ≡ Err of) b
    (subst (λ i. split_of (all_lent core) i box n cut ≡ Err of) f
    (subst (λ x. split_of x whole box n cut ≡ Err of) l h)))

pub split_there : (core : CoreState) (cut : SplitCut) (local : Bool) (node : TakenNode) (row : Inequality) → IsSound core → IsSoundPool core.pool → IsWellFormed (reduced_of core) → IsAtWork core node → split_in core cut local ≡ Ok row → IsValid (reduced_of core) (valid_below (held_of core) (split_rests core.pool.rows cut)) (scope_of core local) row
split_there core cut local node row s p formed w e =
    let long = scope_long core node local formed w in
    subst (λ o. IfOk o (IsValid (reduced_of core) (valid_below (held_of core) (split_rests core.pool.rows cut)) (scope_of core local))) e
    (split_valid (reduced_of core) (held_of core) (all_lent core) (scope_of core local) (columns (reduced_of core)) cut
    (subst (λ n. Fits n (all_lent core)) (sym long) (lent_fits core s p formed)) (omega (arith, long)) (formed.integral ∙ sym long) (lent_there core (scope_of core local) s))

pub split_told : (core new : CoreState) (cut : SplitCut) (local : Bool) (row : Inequality) (rests : Bool) (added : Added) → split_in core cut local ≡ Ok row → rests ≡ split_rests core.pool.rows cut → IsAdded core.pool (row_of row) (scope_of core local) rests new.pool added → IsSplitTold core new cut local added
split_told core new cut local row rests added e r a = record {
  row = row;
  accepted = e;
  is_added = subst (λ t. IsAdded core.pool (row_of row) (scope_of core local) t new.pool added) r a;
}
