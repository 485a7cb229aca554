use Rattle.std.proofs.Common.{◌≡◌, ◌≤◌, length, sym, ◌∙◌, subst, arith}
use Rattle.cip_problem.specs.Limits.{most_columns}
use Rattle.cip_problem.specs.Program.{Program}
use Rattle.cip_problem.specs.WellFormed.{IsWellFormed}
use Rattle.cip_model.specs.Programs.{is_maximize}
use Rattle.cip_mps.specs.DraftStates.{kept}
use Rattle.cip_mps.proofs.ProgramLaws.{formed, same_program}
use Rattle.cip_mps.proofs.draft.Draft.into_program.Goals as goal

pub new-requires : goal.new-requires
new-requires c =
    let self = c.args.self in
    let rows_named : length self.rows ≡ length self.row_names = self.rows_named in
    let columns_named : length self.columns.items ≡ length self.column_names = omega (arith, self.columns.ok.0) in
    let few : length self.columns.items ≤ most_columns = omega (arith, self.columns.ok.0) in
    let same =
    same_program (kept c.args.self) c.in-Ok-into_rows.column_names c.in-Ok.copied.row_names c.in-Ok-into_rows.rows.items c.in-Ok.copied.costs.items c.objective_constant-constant.result
    (is_maximize c.sense_of-sense.result) c.in-Ok.copied.whole.items c.in-Ok.copied.bounds c.in-Ok.copied.choices
    c.in-Ok-into_rows.ensures.names c.in-Ok.ensures.row_names c.in-Ok-into_rows.ensures.rows c.in-Ok.ensures.costs
    c.objective_constant-constant.ensures
    c.sense_of-sense.ensures c.in-Ok.ensures.whole c.in-Ok.ensures.bounds c.in-Ok.ensures.choices in
    let P : Program → Type 0 = IsWellFormed in
    subst P (sym same) (formed (kept self) rows_named columns_named self.rows_counted self.few_rows few self.rows_below)

pub returns : goal.returns
returns c =
    let self = c.args.self in
    let same =
    same_program (kept c.args.self) c.in-Ok-into_rows.column_names c.in-Ok.copied.row_names c.in-Ok-into_rows.rows.items c.in-Ok.copied.costs.items c.objective_constant-constant.result
    (is_maximize c.sense_of-sense.result) c.in-Ok.copied.whole.items c.in-Ok.copied.bounds c.in-Ok.copied.choices
    c.in-Ok-into_rows.ensures.names c.in-Ok.ensures.row_names c.in-Ok-into_rows.ensures.rows c.in-Ok.ensures.costs
    c.objective_constant-constant.ensures
    c.sense_of-sense.ensures c.in-Ok.ensures.whole c.in-Ok.ensures.bounds c.in-Ok.ensures.choices in
    c.new.ensures ∙ same
