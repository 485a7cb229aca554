use Rattle.std.proofs.Common.{◌≡◌, ℕ, ◌∙◌, List, rules, sym, ap, subst}
use Rattle.std.specs.Prelude.{not, map}
use Rattle.std.proofs.lemmas.Fn.{filter_same}
use Rattle.cip_problem.specs.Program.{Row, Program}
use Rattle.cip_problem.specs.WellFormed.{IsWellFormed}
use Rattle.cip_presolve.specs.Programs.{program_from}
use Rattle.cip_presolve.specs.EntriesLeft.{new_numbers}
use Rattle.cip_presolve.specs.LeftProgram.{is_dropped, staying_rows, moved_row, AllMove, left_program, left_columns}
use Rattle.cip_presolve.proofs.MovedRows.{filtered}
use Rattle.cip_presolve.proofs.left_programs.left.Goals as goal

pub numbers_left-requires : goal.numbers_left-requires
numbers_left-requires c = c.requires.few

pub columns_left-requires : goal.columns_left-requires
columns_left-requires c = c.requires

pub move_all-requires : goal.move_all-requires
move_all-requires c =
    let kept : c.retain.new.self.items ≡ staying_rows c.args.gone.now c.args.draft.rows =
    filtered c.args.gone.now c.into_rows-rows.result.items c.retain.new.self.items
    (filter_same _ (λ (row : Row). not (is_dropped c.args.gone.now row)) _ (λ x b f' k. search rules) _ _ c.retain.ensures.filtered)
    ∙ ap (λ (rs : List Row). staying_rows c.args.gone.now rs) c.into_rows-rows.ensures in
    let numbers : c.as_slice.result.now ≡ new_numbers 0 c.args.gone.now = c.as_slice.ensures.value ∙ c.in-Ok.ensures in
    subst (λ (rs : List Row). AllMove c.as_slice.result.now rs) (sym kept) (subst (λ (ns : List ℕ). AllMove ns (staying_rows c.args.gone.now c.args.draft.rows)) (sym numbers) c.requires.moves)

pub new-requires : goal.new-requires
new-requires c =
    let kept : c.retain.new.self.items ≡ staying_rows c.args.gone.now c.args.draft.rows =
    filtered c.args.gone.now c.into_rows-rows.result.items c.retain.new.self.items
    (filter_same _ (λ (row : Row). not (is_dropped c.args.gone.now row)) _ (λ x b f' k. search rules) _ _ c.retain.ensures.filtered)
    ∙ ap (λ (rs : List Row). staying_rows c.args.gone.now rs) c.into_rows-rows.ensures in
    let numbers : c.as_slice.result.now ≡ new_numbers 0 c.args.gone.now = c.as_slice.ensures.value ∙ c.in-Ok.ensures in
    let moved : c.move_all.new.rows.items ≡ map (moved_row (new_numbers 0 c.args.gone.now)) (staying_rows c.args.gone.now c.args.draft.rows) =
    c.in-Ok-move_all.ensures ∙ ap (λ (rs : List Row). map (moved_row c.as_slice.result.now) rs) kept ∙ ap (λ (ns : List ℕ). map (moved_row ns) (staying_rows c.args.gone.now c.args.draft.rows)) numbers in
    let are : (let p : Program = record (program_from c.in-Ok-columns_left.parts) { rows = c.move_all.new.rows.items } in p) ≡ left_program c.args.program.now c.args.draft c.args.gone.now =
    ap (λ (p : Program). record p { rows = c.move_all.new.rows.items }) c.in-Ok-columns_left.ensures
    ∙ ap (λ (rs : List Row). record (left_columns c.args.program.now c.args.draft c.args.gone.now) { rows = rs }) moved in
    subst IsWellFormed (sym are) c.requires.formed

pub returns-in-Ok-move_all : goal.returns-in-Ok-move_all
returns-in-Ok-move_all c =
    let kept : c.retain.new.self.items ≡ staying_rows c.args.gone.now c.args.draft.rows =
    filtered c.args.gone.now c.into_rows-rows.result.items c.retain.new.self.items
    (filter_same _ (λ (row : Row). not (is_dropped c.args.gone.now row)) _ (λ x b f' k. search rules) _ _ c.retain.ensures.filtered)
    ∙ ap (λ (rs : List Row). staying_rows c.args.gone.now rs) c.into_rows-rows.ensures in
    let numbers : c.as_slice.result.now ≡ new_numbers 0 c.args.gone.now = c.as_slice.ensures.value ∙ c.in-Ok.ensures in
    let moved : c.move_all.new.rows.items ≡ map (moved_row (new_numbers 0 c.args.gone.now)) (staying_rows c.args.gone.now c.args.draft.rows) =
    c.in-Ok-move_all.ensures ∙ ap (λ (rs : List Row). map (moved_row c.as_slice.result.now) rs) kept ∙ ap (λ (ns : List ℕ). map (moved_row ns) (staying_rows c.args.gone.now c.args.draft.rows)) numbers in
    let are : (let p : Program = record (program_from c.in-Ok-columns_left.parts) { rows = c.move_all.new.rows.items } in p) ≡ left_program c.args.program.now c.args.draft c.args.gone.now =
    ap (λ (p : Program). record p { rows = c.move_all.new.rows.items }) c.in-Ok-columns_left.ensures
    ∙ ap (λ (rs : List Row). record (left_columns c.args.program.now c.args.draft c.args.gone.now) { rows = rs }) moved in
    c.new.ensures ∙ are
