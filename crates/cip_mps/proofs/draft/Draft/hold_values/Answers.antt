use Rattle.std.proofs.lemmas.Grind.{common_steps}
use Rattle.std.specs.Prelude.{IfSome}
use Rattle.std.proofs.lemmas.Result.{on_ok_weaker, IfOk-from_err}
use Rattle.cip_mps.proofs.ValueLaws.{put_one, put_two}
use Rattle.cip_mps.specs.DraftStates.{kept}
use Rattle.std.proofs.Common.{◌≡◌, false, ap, List, ◌∙◌, ℕ, ◌<◌, length, subst, sym, arith}
use Rattle.std.specs.Str.{bytes_eq}
use Rattle.cip_text_rules.specs.MpsWords.{number_in}
use Rattle.cip_text_rules.proofs.Quiet.{left_false}
use Rattle.cip_text_rules.specs.MpsState.{no_row, RowRead, State}
use Rattle.cip_text_rules.specs.MpsSteps.{changed, with_held}
use Rattle.cip_mps.proofs.ColumnLaws.{still_open}
use Rattle.cip_mps.proofs.draft.Draft.hold_values.Goals as goal

pub hold-requires-in-Some-clause-open : goal.hold-requires-in-Some-clause-open
hold-requires-in-Some-clause-open c =
    let twins = rw c.in-Some.is at c.requires.apart in
    let names = c.args.self.now.row_names in
    let rows : c.hold.new.self.rows ≡ changed no_row c.args.self.now.rows c.args.rows.first (with_held c.args.column c.value.result) = ap (λ s. s.rows) c.in_ok-hold.ensures in
    let second : c.args.rows.second ≡ number_in names c.in-Some.pair.row.now = rw c.in-Some.is at c.requires.found.second in
    let apart : bytes_eq c.args.values.now.first.row.now c.in-Some.pair.row.now ≡ false = left_false _ false (left_false _ _ twins) in
    rw rows
    (still_open c.args.column names c.args.self.now.rows c.args.values.now.first.row.now c.in-Some.pair.row.now c.args.rows.first c.args.rows.second
    (with_held c.args.column c.value.result) c.requires.found.first second apart c.requires.open_second)

pub returns-in-None : goal.returns-in-None
returns-in-None c =
    let self = c.args.self.now in
    c.in_ok-hold.ensures
    ∙ ap (λ (rows : List RowRead). record (kept self) { rows = rows })
    (put_one (with_held c.args.column) self.row_names self.rows c.args.values.now.first c.args.values.now.second c.args.rows.first c.value.result c.in-None.is c.requires.found.first c.value.ensures)

pub returns-in-Some : goal.returns-in-Some
returns-in-Some c =
    let self = c.args.self.now in
    let put = with_held c.args.column in
    let names = self.row_names in
    let second : c.args.rows.second ≡ number_in names c.in-Some.pair.row.now = rw c.in-Some.is at c.requires.found.second in
    let both =
    ap (λ (s : State). record s { rows = changed no_row s.rows c.args.rows.second (put c.value-in-Some.result) }) c.in_ok-hold.ensures
    ∙ ap (λ (rows : List RowRead). record (kept self) { rows = rows })
    (put_two put names self.rows c.args.values.now.first c.args.values.now.second c.in-Some.pair c.args.rows.first c.args.rows.second c.value.result c.value-in-Some.result c.in-Some.is
    c.requires.found.first second c.value.ensures c.value-in-Some.ensures) in
    on_ok_weaker c.hold-in-Some.result (λ e. e ∙ both) c.hold-in-Some.ensures

pub hold-requires-in-Some-clause-within : goal.hold-requires-in-Some-clause-within
hold-requires-in-Some-clause-within c =
    let new = c.hold.new.self in
    subst (λ (n : ℕ). IfSome c.args.rows.second (λ number. number < n)) (sym (new.rows_named ∙ ap (λ (s : State). length s.row_names) c.in_ok-hold.ensures)) c.requires.found.second_within

pub hold-requires-in-Some-clause-is_column : goal.hold-requires-in-Some-clause-is_column
hold-requires-in-Some-clause-is_column c =
    subst (λ (n : ℕ). c.args.column < n) (sym (ap (λ (s : State). length s.column_names) c.in_ok-hold.ensures)) c.requires.is_column

pub hold-requires-clause-within : goal.hold-requires-clause-within
hold-requires-clause-within c = grind (arith, common_steps)

pub hold-requires-clause-is_column : goal.hold-requires-clause-is_column
hold-requires-clause-is_column c = grind (arith, common_steps)

pub hold-requires-clause-open : goal.hold-requires-clause-open
hold-requires-clause-open c = grind (arith, common_steps)

pub returns-in_err-hold : goal.returns-in_err-hold
returns-in_err-hold c = IfOk-from_err c.from_residual.result _ c.from_residual.ensures.0
