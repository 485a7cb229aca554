use Rattle.cip_dict.proofs.Begun.{row_fault_memory}
use Rattle.std.proofs.lemmas.Grind.{common_steps}
use Rattle.std.proofs.Common.{◌≡◌, ◌∙◌, ◌++◌, ◌∷◌, [], length, sym, ap, ap₂, arith}
use Rattle.std.proofs.lemmas.List.{get_or_default}
use Rattle.cip_problem.specs.Box.{sides_at, no_sides}
use Rattle.cip_bland.specs.Dictionary.{standing_value}
use Rattle.cip_bland.specs.FirstState.{first_stand}
use Rattle.cip_dict.proofs.Grown.{table_none, table_more}
use Rattle.cip_bland.specs.Tables.{table}
use Rattle.cip_bland.proofs.Tables.{length-table}
use Rattle.cip_dict.specs.FirstLists.{column_values_of, column_value, row_form}
use Rattle.cip_dict.proofs.first.all_values.Goals as goal

pub rows_and_cost-found-requires-clause-at_long : goal.rows_and_cost-found-requires-clause-at_long
rows_and_cost-found-requires-clause-at_long c =
    let end : c.loop-k.k ≡ length c.args.columns.now = omega arith in
    let at : c.as_slice-begun.result.now ≡ column_values_of c.args.columns.now = c.as_slice-begun.ensures.value ∙ c.loop-k.invariant ∙ ap (λ n. table n (column_value c.args.columns.now)) end in
    let long : length c.as_slice-begun.result.now ≡ length c.args.columns.now = ap length at ∙ length-table (length c.args.columns.now) (column_value c.args.columns.now) in
    omega (arith, long)

pub returns-in-Ok-found : goal.returns-in-Ok-found
returns-in-Ok-found c =
    let end : c.loop-k.k ≡ length c.args.columns.now = omega arith in
    let at : c.as_slice-begun.result.now ≡ column_values_of c.args.columns.now = c.as_slice-begun.ensures.value ∙ c.loop-k.invariant ∙ ap (λ n. table n (column_value c.args.columns.now)) end in
    let values : c.extend_from_slice.new.self.items ≡ c.as_slice-begun.result.now = c.in_ok-extend_from_slice.ensures.items ∙ ap (λ xs. xs ++ c.as_slice-begun.result.now) c.emptied-values.ensures in
    let e = rw at at c.in-Ok-found.ensures in
    (e.0, e.1 ∙ ap (λ xs. xs ++ table c.args.m (row_form (length c.args.columns.now) c.args.rows.now (column_values_of c.args.columns.now))) (values ∙ at), e.2)

pub returns-in-Err : goal.returns-in-Err
returns-in-Err c =
    let end : c.loop-k.k ≡ length c.args.columns.now = omega arith in
    let at : c.as_slice-begun.result.now ≡ column_values_of c.args.columns.now = c.as_slice-begun.ensures.value ∙ c.loop-k.invariant ∙ ap (λ n. table n (column_value c.args.columns.now)) end in
    rw at at c.in-Err.ensures

pub rows_and_cost-found-requires-clause-long : goal.rows_and_cost-found-requires-clause-long
rows_and_cost-found-requires-clause-long c = omega arith

pub loop-k-init : goal.loop-k-init
loop-k-init c = c.emptied-at.ensures ∙ table_none _

pub loop-k-preserved : goal.loop-k-preserved
loop-k-preserved c =
    let read : c.index-columns-k.result ≡ sides_at c.args.columns.now c.loop-k.k = c.index-columns-k.is ∙ get_or_default c.args.columns.now c.loop-k.k c.index-columns-k.result no_sides c.loop-k-test.true in
    let value = c.value_at_stand.ensures ∙ ap (standing_value c.index-columns-k.result) c.first_stand.ensures ∙ ap (λ sides. standing_value sides (first_stand sides)) read in
    c.in-Ok.ensures.items ∙ ap₂ (λ xs x. xs ++ x ∷ []) c.loop-k.invariant value ∙ sym (table_more c.loop-k.k _)

pub rows_and_cost-found-requires-clause-count : goal.rows_and_cost-found-requires-clause-count
rows_and_cost-found-requires-clause-count c = grind (arith, common_steps)

pub rows_and_cost-found-requires-clause-costs_long : goal.rows_and_cost-found-requires-clause-costs_long
rows_and_cost-found-requires-clause-costs_long c = grind (arith, common_steps)

pub rows_and_cost-found-requires-clause-few : goal.rows_and_cost-found-requires-clause-few
rows_and_cost-found-requires-clause-few c = grind (arith, common_steps)

pub bounds-columns-k : goal.bounds-columns-k
bounds-columns-k c = grind (arith, common_steps)

pub offset_bounds-columns-k : goal.offset_bounds-columns-k
offset_bounds-columns-k c = grind (arith, common_steps)

pub returns-in_default : goal.returns-in_default
returns-in_default c = grind (arith, common_steps)

pub returns-in_err-extend_from_slice : goal.returns-in_err-extend_from_slice
returns-in_err-extend_from_slice c = row_fault_memory c.from_residual.result _ _ c.from_residual.ensures.1
