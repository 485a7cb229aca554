use Rattle.std.proofs.lemmas.Grind.{common_steps}
use Rattle.std.specs.Prelude.{IfSome}
use Rattle.cip_text_rules.specs.MpsSayings.{RangeLine}
use Rattle.std.proofs.Common.{◌≡◌, false, ap, Option, None, ◌∷◌, [], subst, sym, ◌∙◌, List, ℕ, ◌<◌, length, arith}
use Rattle.std.specs.Str.{bytes_eq}
use Rattle.cip_rational.specs.Rational.{ℚ}
use Rattle.cip_mps_lines.specs.MpsLines.{value_in, second_in, values_of}
use Rattle.cip_mps_lines.specs.declared.line.Pair.{Pair}
use Rattle.cip_text_rules.specs.MpsRules.{least}
use Rattle.cip_text_rules.specs.MpsWords.{number_in}
use Rattle.cip_text_rules.proofs.Quiet.{kept as passes, left_false, right_false}
use Rattle.cip_text_rules.specs.MpsState.{RowRead, no_row, State}
use Rattle.cip_text_rules.specs.MpsSteps.{changed, overflows_with, with_range}
use Rattle.cip_text_rules.specs.MpsLineTests.{range_tests}
use Rattle.cip_mps.specs.DraftStates.{kept}
use Rattle.cip_mps.proofs.TakenLaws.{no_fault, faulty_step, quiet_step, taken_range}
use Rattle.cip_mps.proofs.ValueLaws.{second_passes, put_one, put_two}
use Rattle.cip_mps.proofs.draft.Draft.read_ranges.Goals as goal

pub set_range-requires-in-Some-clause-fits : goal.set_range-requires-in-Some-clause-fits
set_range-requires-in-Some-clause-fits c =
    let state = kept c.args.self.now in
    let first = value_in c.args.values.now.first in
    let second = value_in c.in-Some.pair in
    let passed : least (range_tests state (first ∷ second ∷ [])) ≡ None = subst (λ (o : Option Pair). least (range_tests state (first ∷ second_in o)) ≡ None) c.in-Some.is (sym c.range_fault-fault.ensures ∙ no_fault c.range_fault-fault.result c.if-is_none.ensures) in
    let p = passes (range_tests state (first ∷ second ∷ [])) passed in
    let rows : c.set_range.new.self.rows ≡ changed no_row state.rows c.find_rows-rows.result.first (with_range c.value.result) = ap (λ s. s.rows) c.set_range.ensures in
    let found : c.find_rows-rows.result.second ≡ number_in state.row_names second.row = rw c.in-Some.is at c.find_rows-rows.ensures.second in
    let apart : bytes_eq first.row second.row ≡ false = left_false _ false (left_false _ _ (right_false _ _ p.1.1.1.1.0)) in
    rw rows
    (second_passes (λ (o : Option ℚ) (r : Option RowRead). overflows_with None o r) state.row_names state.rows first second c.find_rows-rows.result.first c.find_rows-rows.result.second
    (with_range c.value.result) c.value-in-Some.result c.find_rows-rows.ensures.first found apart c.value-in-Some.ensures (right_false _ _ p.1.0))

pub returns-in-Some : goal.returns-in-Some
returns-in-Some c =
    let old = kept c.args.self.now in
    let set_name = c.args.set_name.now in
    let values = values_of c.args.values.now in
    let fault = c.range_fault-fault.ensures ∙ sym (c.lines_have_tests.ensures.range old set_name values) in
    let second : c.find_rows-rows.result.second ≡ number_in old.row_names c.in-Some.pair.row.now = rw c.in-Some.is at c.find_rows-rows.ensures.second in
    quiet_step old (kept c.set_range-in-Some.new.self) (RangeLine set_name values) c.range_fault-fault.result fault c.if-is_none.ensures
    (c.set_range-in-Some.ensures
    ∙ ap (λ (s : State). record s { rows = changed no_row s.rows c.find_rows-rows.result.second (with_range c.value-in-Some.result) }) c.set_range.ensures
    ∙ ap (λ (rows : List RowRead). record old { rows = rows })
    (put_two with_range old.row_names old.rows c.args.values.now.first c.args.values.now.second c.in-Some.pair c.find_rows-rows.result.first c.find_rows-rows.result.second c.value.result c.value-in-Some.result c.in-Some.is
    c.find_rows-rows.ensures.first second c.value.ensures c.value-in-Some.ensures)
    ∙ sym (taken_range old set_name values))

pub returns-in_default : goal.returns-in_default
returns-in_default c =
    let old = kept c.args.self.now in
    let set_name = c.args.set_name.now in
    let values = values_of c.args.values.now in
    let fault = c.range_fault-fault.ensures ∙ sym (c.lines_have_tests.ensures.range old set_name values) in
    quiet_step old (kept c.set_range.new.self) (RangeLine set_name values) c.range_fault-fault.result fault c.if-is_none.ensures
    (c.set_range.ensures
    ∙ ap (λ (rows : List RowRead). record old { rows = rows })
    (put_one with_range old.row_names old.rows c.args.values.now.first c.args.values.now.second c.find_rows-rows.result.first c.value.result c.in_default.is c.find_rows-rows.ensures.first c.value.ensures)
    ∙ sym (taken_range old set_name values))

pub returns-else-is_none : goal.returns-else-is_none
returns-else-is_none c =
    let old = kept c.args.self.now in
    let set_name = c.args.set_name.now in
    let values = values_of c.args.values.now in
    let fault = c.range_fault-fault.ensures ∙ sym (c.lines_have_tests.ensures.range old set_name values) in
    faulty_step old (RangeLine set_name values) c.range_fault-fault.result fault c.if-is_none.ensures

pub set_range-requires-in-Some-clause-within : goal.set_range-requires-in-Some-clause-within
set_range-requires-in-Some-clause-within c =
    let new = c.set_range.new.self in
    subst (λ (n : ℕ). IfSome c.find_rows-rows.result.second (λ number. number < n)) (sym (new.rows_named ∙ ap (λ (s : State). length s.row_names) c.set_range.ensures)) c.find_rows-rows.ensures.second_within

pub set_range-requires-clause-within : goal.set_range-requires-clause-within
set_range-requires-clause-within c =
    subst (λ (n : ℕ). IfSome c.find_rows-rows.result.first (λ number. number < n)) (sym c.args.self.now.rows_named) c.find_rows-rows.ensures.first_within

pub range_fault-fault-requires : goal.range_fault-fault-requires
range_fault-fault-requires c = grind (arith, common_steps)
