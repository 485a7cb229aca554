use Rattle.std.proofs.lemmas.Grind.{common_steps}
use Rattle.std.proofs.Common.{◌≡◌, ◌∙◌, ◌+◌, refl, ap, ap₂, sym, subst, length, length-append, arith}
use Rattle.cip_bland.specs.Tables.{table}
use Rattle.cip_bland.specs.Operations.{first_overflow}
use Rattle.cip_bland.proofs.Tables.{length-table}
use Rattle.cip_dict.specs.declared.lists.Lists.{Lists}
use Rattle.cip_dict.specs.Entries.{IsRowFault}
use Rattle.cip_dict.specs.FirstLists.{row_of_entries, cost_in, column_value, column_values_of, row_form}
use Rattle.cip_dict.proofs.Begun.{standing_long, filled_long, filled_has_rows, operations_same, first_is}
use Rattle.cip_dict.proofs.first.lists_for.Goals as goal

pub all_values-requires-clause-count : goal.all_values-requires-clause-count
all_values-requires-clause-count c =
    ap length (c.as_slice-lines.ensures.value ∙ c.in_ok-rows.ensures) ∙ length-table (length c.args.system.now.columns.now + length c.args.system.now.rows.now) (row_of_entries (length c.args.system.now.columns.now) (length c.args.system.now.rows.now) c.args.system.now.entries.now)

pub all_values-requires-clause-long : goal.all_values-requires-clause-long
all_values-requires-clause-long c =
    filled_long c.args.system.now.columns.now (length c.args.system.now.rows.now) c.args.standing.now c.requires.stands c.args.system.now.entries.now c.as_slice-lines.result.now (c.as_slice-lines.ensures.value ∙ c.in_ok-rows.ensures)

pub all_values-requires-clause-costs_long : goal.all_values-requires-clause-costs_long
all_values-requires-clause-costs_long c =
    let long : length c.in_ok-all.all ≡ length c.args.standing.now = ap length (c.in_ok-all.ensures) ∙ length-table (length c.args.standing.now) (cost_in c.args.system.now.costs.now) in
    let n : length c.args.standing.now ≡ length c.args.system.now.columns.now + length c.args.system.now.rows.now = standing_long c.args.system.now.columns.now (length c.args.system.now.rows.now) c.args.standing.now c.requires.stands in
    omega (arith, long, n)

pub returns-in-Ok : goal.returns-in-Ok
returns-in-Ok c =
    let n : length c.args.standing.now ≡ length c.args.system.now.columns.now + length c.args.system.now.rows.now = standing_long c.args.system.now.columns.now (length c.args.system.now.rows.now) c.args.standing.now c.requires.stands in
    let is_filled : c.as_slice-lines.result.now ≡ table (length c.args.system.now.columns.now + length c.args.system.now.rows.now) (row_of_entries (length c.args.system.now.columns.now) (length c.args.system.now.rows.now) c.args.system.now.entries.now) = c.as_slice-lines.ensures.value ∙ c.in_ok-rows.ensures in
    let is_costs : c.in_ok-all.all ≡ table (length c.args.system.now.columns.now + length c.args.system.now.rows.now) (cost_in c.args.system.now.costs.now) = c.in_ok-all.ensures ∙ ap (λ k. table k (cost_in c.args.system.now.costs.now)) n in
    let found : Lists = record { rows = c.in_ok-rows.rows; costs = c.in_ok-all.all; values = c.in-Ok.values; cost = c.in-Ok.cost } in (
      ap first_overflow (sym (operations_same c.args.system.now.columns.now c.args.system.now.rows.now c.args.system.now.entries.now c.args.system.now.costs.now c.requires.costs_long c.as_slice-lines.result.now c.in_ok-all.all is_filled is_costs)) ∙ c.in-Ok.ensures.0,
      first_is c.args.system.now.columns.now c.args.system.now.rows.now c.args.system.now.entries.now c.args.system.now.costs.now c.requires.costs_long c.as_slice-lines.result.now c.in_ok-all.all is_filled is_costs found c.args.standing.now c.requires.stands (sym c.as_slice-lines.ensures.value) refl c.in-Ok.ensures.1 c.in-Ok.ensures.2,
      record {
        rows = filled_has_rows c.args.system.now.columns.now (length c.args.system.now.rows.now) c.args.standing.now c.requires.stands c.args.system.now.entries.now c.in_ok-rows.rows.items c.in_ok-rows.ensures;
        costs = ap length c.in_ok-all.ensures ∙ length-table (length c.args.standing.now) (cost_in c.args.system.now.costs.now);
        values = ap length c.in-Ok.ensures.1 ∙ length-append (table (length c.args.system.now.columns.now) (column_value c.args.system.now.columns.now)) _ ∙ ap₂ (λ a b. a + b) (length-table (length c.args.system.now.columns.now) (column_value c.args.system.now.columns.now)) (length-table (length c.args.system.now.rows.now) (row_form (length c.args.system.now.columns.now) c.as_slice-lines.result.now (column_values_of c.args.system.now.columns.now))) ∙ sym n;
      },
    )

pub returns-in-Err : goal.returns-in-Err
returns-in-Err c =
    let n : length c.args.standing.now ≡ length c.args.system.now.columns.now + length c.args.system.now.rows.now = standing_long c.args.system.now.columns.now (length c.args.system.now.rows.now) c.args.standing.now c.requires.stands in
    let is_filled : c.as_slice-lines.result.now ≡ table (length c.args.system.now.columns.now + length c.args.system.now.rows.now) (row_of_entries (length c.args.system.now.columns.now) (length c.args.system.now.rows.now) c.args.system.now.entries.now) = c.as_slice-lines.ensures.value ∙ c.in_ok-rows.ensures in
    let is_costs : c.in_ok-all.all ≡ table (length c.args.system.now.columns.now + length c.args.system.now.rows.now) (cost_in c.args.system.now.costs.now) = c.in_ok-all.ensures ∙ ap (λ k. table k (cost_in c.args.system.now.costs.now)) n in
    subst (λ ops. IsRowFault ops c.in-Err.fault) (operations_same c.args.system.now.columns.now c.args.system.now.rows.now c.args.system.now.entries.now c.args.system.now.costs.now c.requires.costs_long c.as_slice-lines.result.now c.in_ok-all.all is_filled is_costs) c.in-Err.ensures

pub all_costs-requires-clause-few : goal.all_costs-requires-clause-few
all_costs-requires-clause-few c =
    omega (arith, c.requires.few, standing_long c.args.system.now.columns.now (length c.args.system.now.rows.now) c.args.standing.now c.requires.stands)

pub all_costs-requires-clause-columns : goal.all_costs-requires-clause-columns
all_costs-requires-clause-columns c =
    omega (arith, c.requires.costs_long, standing_long c.args.system.now.columns.now (length c.args.system.now.rows.now) c.args.standing.now c.requires.stands)

pub first_rows-requires-clause-within : goal.first_rows-requires-clause-within
first_rows-requires-clause-within c = grind (arith, common_steps)

pub all_values-requires-clause-few : goal.all_values-requires-clause-few
all_values-requires-clause-few c = grind (arith, common_steps)

pub first_rows-requires-clause-few : goal.first_rows-requires-clause-few
first_rows-requires-clause-few c = grind (arith, common_steps)

pub first_rows-requires-clause-stands : goal.first_rows-requires-clause-stands
first_rows-requires-clause-stands c = grind (arith, common_steps)
