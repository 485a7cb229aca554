use Rattle.std.proofs.lemmas.Result.{IfOk-from_err}
use Rattle.std.proofs.lemmas.Grind.{common_steps}
use Rattle.cip_mps.specs.FoundRows.{AreFound}
use Rattle.cip_text_rules.specs.MpsSayings.{ColumnLine}
use Rattle.cip_mps.proofs.RowLaws.{next_within}
use Rattle.std.proofs.Common.{◌+◌, ap, refl, arith, ◌∙◌, ℕ, List, ◌<◌, length, subst, sym}
use Rattle.std.proofs.lemmas.Bool.{ltb-false}
use Rattle.cip_problem.specs.Limits.{most_entries}
use Rattle.std.specs.List.{list_any}
use Rattle.cip_mps_lines.specs.MpsLines.{values_of, value_in, second_in}
use Rattle.cip_text_rules.specs.MpsWords.{number_in}
use Rattle.cip_text_rules.proofs.Quiet.{right_false}
use Rattle.cip_text_rules.specs.MpsState.{State, row_at}
use Rattle.cip_text_rules.specs.MpsSteps.{holds, number_or_next, put, put_values, with_held}
use Rattle.cip_mps.specs.DraftLines.{entries_in}
use Rattle.cip_mps.specs.DraftStates.{kept}
use Rattle.cip_mps.proofs.ColumnLaws.{passes_column, first_free, second_free, opened}
use Rattle.cip_mps.proofs.draft.Draft.put_column.Goals as goal

pub hold_values-requires-clause-open_first : goal.hold_values-requires-clause-open_first
hold_values-requires-clause-open_first c =
    let state = kept c.args.self.now in
    let p = passes_column state c.args.name.now (values_of c.args.values.now) c.requires.passed in
    let column = number_in state.column_names c.args.name.now in
    let free = first_free state column c.args.values.now.first.row.now (second_in c.args.values.now.second) (value_in c.args.values.now.first) c.args.rows.first refl c.requires.rows.first p.none_held in
    opened state c.args.name.now c.args.rows.first c.in_ok-number.number c.make_column.new.self.rows c.in_ok-number.ensures.number
    (ap (λ s. s.rows) c.in_ok-number.ensures.state) c.args.self.now.rows_below free p.last

pub hold_values-requires-clause-open_second : goal.hold_values-requires-clause-open_second
hold_values-requires-clause-open_second c =
    let state = kept c.args.self.now in
    let p = passes_column state c.args.name.now (values_of c.args.values.now) c.requires.passed in
    let column = number_in state.column_names c.args.name.now in
    let free = second_free state column c.args.values.now.second c.args.rows.second c.requires.rows.second (right_false _ (list_any (λ value. holds column (row_at state value.row)) (second_in c.args.values.now.second)) p.none_held) in
    opened state c.args.name.now c.args.rows.second c.in_ok-number.number c.make_column.new.self.rows c.in_ok-number.ensures.number
    (ap (λ s. s.rows) c.in_ok-number.ensures.state) c.args.self.now.rows_below free p.last

pub invariant_of-self-clause-few_entries : goal.invariant_of-self-clause-few_entries
invariant_of-self-clause-few_entries c =
    let state = kept c.args.self.now in
    let p = passes_column state c.args.name.now (values_of c.args.values.now) c.requires.passed in
    let few = ltb-false most_entries (state.entries + entries_in (values_of c.args.values.now)) p.few in
    let same = ap (λ (s : State). s.entries) c.in_ok-hold_values.ensures ∙ ap (λ (s : State). s.entries) c.in_ok-number.ensures.state in
    omega (arith, few, same, c.count_entries.ensures.count)

pub hold_values-requires-clause-is_column : goal.hold_values-requires-clause-is_column
hold_values-requires-clause-is_column c =
    let names = c.args.self.now.column_names in
    subst (λ (n : ℕ). n < length c.make_column.new.self.column_names) (sym c.in_ok-number.ensures.number)
    (subst (λ (all : List (List ℕ)). number_or_next names c.args.name.now < length all) (sym (ap (λ (s : State). s.column_names) c.in_ok-number.ensures.state)) (next_within names c.args.name.now))

pub returns : goal.returns
returns c =
    let self = c.args.self.now in
    let values = values_of c.args.values.now in
    let number = c.in_ok-number.ensures.number in
    ap (λ (s : State). record s { entries = s.entries + c.count_entries.result })
    (c.in_ok-hold_values.ensures
    ∙ ap (λ (s : State). record s { rows = put_values (with_held c.in_ok-number.number) s.row_names s.rows values }) c.in_ok-number.ensures.state)
    ∙ (λ i. record (put (kept self) (ColumnLine c.args.name.now c.args.whole values)) {
      rows = put_values (with_held (number i)) self.row_names self.rows values;
      entries = self.entries + c.count_entries.ensures.count i;
    })

pub hold_values-requires-clause-found : goal.hold_values-requires-clause-found
hold_values-requires-clause-found c =
    subst (λ (names : List (List ℕ)). AreFound names c.args.values.now c.args.rows) (sym (ap (λ (s : State). s.row_names) c.in_ok-number.ensures.state)) c.requires.rows

pub invariant_of-self-clause-rows_named : goal.invariant_of-self-clause-rows_named
invariant_of-self-clause-rows_named c = omega arith

pub invariant_of-self-clause-few_columns : goal.invariant_of-self-clause-few_columns
invariant_of-self-clause-few_columns c = grind (arith, common_steps)

pub invariant_of-self-clause-few_rows : goal.invariant_of-self-clause-few_rows
invariant_of-self-clause-few_rows c = grind (arith, common_steps)

pub overflow_add-self : goal.overflow_add-self
overflow_add-self c = grind (arith, common_steps)

pub invariant_of-self-clause-rows_counted : goal.invariant_of-self-clause-rows_counted
invariant_of-self-clause-rows_counted c = grind (arith, common_steps)

pub invariant_of-self-clause-columns_named : goal.invariant_of-self-clause-columns_named
invariant_of-self-clause-columns_named c = grind (arith, common_steps)

pub make_column-requires-clause-within : goal.make_column-requires-clause-within
make_column-requires-clause-within c = grind (arith, common_steps)

pub make_column-requires-clause-column : goal.make_column-requires-clause-column
make_column-requires-clause-column c = grind (arith, common_steps)

pub returns-in_err-hold_values : goal.returns-in_err-hold_values
returns-in_err-hold_values c = IfOk-from_err c.from_residual-in_err-hold_values.result _ c.from_residual-in_err-hold_values.ensures.0

pub returns-in_err-number : goal.returns-in_err-number
returns-in_err-number c = IfOk-from_err c.from_residual.result _ c.from_residual.ensures.0
