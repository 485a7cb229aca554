use Rattle.std.proofs.lemmas.Result.{IfOk-from_err}
use Rattle.std.proofs.lemmas.Grind.{common_steps}
use Rattle.std.proofs.Common.{sym, ◌∙◌, arith}
use Rattle.cip_mps_lines.specs.MpsLines.{values_of}
use Rattle.cip_text_rules.specs.MpsSayings.{ColumnLine}
use Rattle.cip_mps.specs.DraftStates.{kept}
use Rattle.cip_mps.proofs.TakenLaws.{rules_are, taken_column, faulty_step, quiet_step, no_fault}
use Rattle.cip_mps.proofs.draft.Draft.read_column.Goals as goal

pub invariant_of-self : goal.invariant_of-self
invariant_of-self c =
    let new = c.put_column.new.self in
    record {
      rows_named = new.rows_named;
      columns_named = new.columns_named;
      rows_counted = new.rows_counted;
      few_rows = new.few_rows;
      few_columns = new.few_columns;
      few_entries = new.few_entries;
      rows_below = new.rows_below;
    }

pub returns-in_ok-put_column : goal.returns-in_ok-put_column
returns-in_ok-put_column c =
    let old = kept c.args.self.now in
    let name = c.args.name.now in
    let values = values_of c.args.values.now in
    quiet_step old (kept c.put_column.new.self) (ColumnLine name c.args.whole values) c.column_fault-fault.result
    (c.column_fault-fault.ensures ∙ sym (c.lines_have_tests.ensures.column old name c.args.whole values ∙ rules_are old name c.args.whole values))
    c.if-is_none.ensures (c.in_ok-put_column.ensures ∙ sym (taken_column old name c.args.whole values))

pub returns-else-is_none : goal.returns-else-is_none
returns-else-is_none c =
    let old = kept c.args.self.now in
    let name = c.args.name.now in
    let values = values_of c.args.values.now in
    faulty_step old (ColumnLine name c.args.whole values) c.column_fault-fault.result
    (c.column_fault-fault.ensures ∙ sym (c.lines_have_tests.ensures.column old name c.args.whole values ∙ rules_are old name c.args.whole values)) c.if-is_none.ensures

pub put_column-requires-clause-passed : goal.put_column-requires-clause-passed
put_column-requires-clause-passed c =
    sym c.column_fault-fault.ensures ∙ no_fault c.column_fault-fault.result c.if-is_none.ensures

pub put_column-requires-clause-column : goal.put_column-requires-clause-column
put_column-requires-clause-column c = grind (arith, common_steps)

pub put_column-requires-clause-rows : goal.put_column-requires-clause-rows
put_column-requires-clause-rows c = grind (arith, common_steps)

pub put_column-requires-clause-within : goal.put_column-requires-clause-within
put_column-requires-clause-within c = grind (arith, common_steps)

pub column_fault-fault-requires-clause-column : goal.column_fault-fault-requires-clause-column
column_fault-fault-requires-clause-column c = grind (arith, common_steps)

pub column_fault-fault-requires-clause-rows : goal.column_fault-fault-requires-clause-rows
column_fault-fault-requires-clause-rows c = grind (arith, common_steps)

pub column_fault-fault-requires-clause-within : goal.column_fault-fault-requires-clause-within
column_fault-fault-requires-clause-within c = grind (arith, common_steps)

pub returns-in_err-put_column : goal.returns-in_err-put_column
returns-in_err-put_column c = IfOk-from_err c.from_residual.result _ c.from_residual.ensures.0
