use Rattle.std.proofs.lemmas.Result.{IfOk-from_err}
use Rattle.std.proofs.lemmas.Grind.{common_steps}
use Rattle.std.proofs.Common.{◌+◌, Bool, List, length, refl, ap, sym, ◌∙◌, arith}
use Rattle.std.specs.Prelude.{not, if◌then◌else◌}
use Rattle.std.specs.List.{filter, list_all}
use Rattle.cip_mps_lines.specs.MpsKinds.{row_kind_in}
use Rattle.cip_text_rules.specs.MpsProgram.{is_free}
use Rattle.cip_text_rules.specs.MpsState.{RowRead, is_kept}
use Rattle.cip_text_rules.specs.MpsSteps.{new_row}
use Rattle.cip_text_rules.specs.MpsSoundState.{held_below}
use Rattle.cip_problem.specs.Limits.{most_rows}
use Rattle.cip_mps.specs.DraftStates.{kept}
use Rattle.cip_mps.proofs.RowLaws.{few_more, both_longer, counted_more, counted_same, below_more_rows}
use Rattle.cip_mps.proofs.draft.Draft.add_row.Goals as goal

pub overflow_add-self : goal.overflow_add-self
overflow_add-self c = omega (arith, c.args.self.now.few_rows)

pub invariant_of-self : goal.invariant_of-self
invariant_of-self c =
    let old = c.args.self.now in
    let e = c.in_err-put_row.ensures.err in
    record {
      rows_named = ap length e.0 ∙ old.rows_named ∙ sym (ap length e.1);
      columns_named = old.columns_named;
      rows_counted = old.rows_counted ∙ sym (ap (λ (rs : List RowRead). length (filter is_kept rs)) e.0);
      few_rows = old.few_rows;
      few_columns = old.few_columns;
      few_entries = old.few_entries;
      rows_below = ap (list_all (λ (row : RowRead). held_below (length old.column_names) row.held)) e.0 ∙ old.rows_below;
    }

pub invariant_of-self-then-not-is_free_kind : goal.invariant_of-self-then-not-is_free_kind
invariant_of-self-then-not-is_free_kind c =
    let old = c.args.self.now in
    let e = c.in_ok-put_row.ensures.ok in
    let row = new_row (row_kind_in c.args.kind) in
    record {
      rows_named = both_longer old.rows c.put_row.new.rows old.row_names c.put_row.new.names row c.args.name.now old.rows_named e.0 e.1;
      columns_named = old.columns_named;
      rows_counted = counted_more old.rows c.put_row.new.rows row old.row_count old.rows_counted e.0 (ap not (sym c.if-not-is_free_kind.ensures));
      few_rows = few_more (is_free (row_kind_in c.args.kind)) old.row_count most_rows c.requires.few c.if-not-is_free_kind.ensures;
      few_columns = old.few_columns;
      few_entries = old.few_entries;
      rows_below = below_more_rows (length old.column_names) old.rows c.put_row.new.rows row old.rows_below e.0 refl;
    }

pub invariant_of-self-else-not-is_free_kind : goal.invariant_of-self-else-not-is_free_kind
invariant_of-self-else-not-is_free_kind c =
    let old = c.args.self.now in
    let e = c.in_ok-put_row.ensures.ok in
    let row = new_row (row_kind_in c.args.kind) in
    record {
      rows_named = both_longer old.rows c.put_row.new.rows old.row_names c.put_row.new.names row c.args.name.now old.rows_named e.0 e.1;
      columns_named = old.columns_named;
      rows_counted = counted_same old.rows c.put_row.new.rows row old.row_count old.rows_counted e.0 (ap not (sym c.if-not-is_free_kind.ensures));
      few_rows = old.few_rows;
      few_columns = old.few_columns;
      few_entries = old.few_entries;
      rows_below = below_more_rows (length old.column_names) old.rows c.put_row.new.rows row old.rows_below e.0 refl;
    }

pub returns-then-not-is_free_kind : goal.returns-then-not-is_free_kind
returns-then-not-is_free_kind c =
    let old = c.args.self.now in
    let e = c.in_ok-put_row.ensures.ok in
    let count = ap (λ (b : Bool). if b then old.row_count else old.row_count + 1) c.if-not-is_free_kind.ensures in
    λ i. record (kept old) { row_names = e.1 i; rows = e.0 i; row_count = count i }

pub returns-else-not-is_free_kind : goal.returns-else-not-is_free_kind
returns-else-not-is_free_kind c =
    let old = c.args.self.now in
    let e = c.in_ok-put_row.ensures.ok in
    let count = ap (λ (b : Bool). if b then old.row_count else old.row_count + 1) c.if-not-is_free_kind.ensures in
    λ i. record (kept old) { row_names = e.1 i; rows = e.0 i; row_count = count i }

pub put_row-requires : goal.put_row-requires
put_row-requires c = grind (arith, common_steps)

pub returns-in_err-put_row : goal.returns-in_err-put_row
returns-in_err-put_row c = IfOk-from_err c.from_residual.result _ c.from_residual.ensures.0
