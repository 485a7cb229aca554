use Rattle.std.proofs.lemmas.Grind.{common_steps}
use Rattle.std.proofs.Common.{◌≡◌, ◌<◌, ℕ, Some, length, get_or, List, refl, sym, ◌∙◌, subst, arith}
use Rattle.std.specs.Prelude.{slice_get}
use Rattle.std.proofs.lemmas.Option.{slice_get_within, slice_get_read, same_Some}
use Rattle.cip_problem.specs.Program.{Row}
use Rattle.cip_model.specs.declared.verdicts.Place.{Place}
use Rattle.cip_model.specs.Meaning.{IsOutside, IsFractional, IsBroken, RowOverflows, Overflows}
use Rattle.cip_report.proofs.ToldSides.{outside_told, value_there, sides_broken, bound_line, whole_line, row_line, wide_line}
use Rattle.cip_report.proofs.WritingLemmas.{Writes-as}
use Rattle.cip_report.proofs.checks.write_verdict.Goals as goal

pub write_broken-requires : goal.write_broken-requires
write_broken-requires g c =
    let held : IsOutside c.args.program.now c.args.point.now c.in-BreaksBound.col = rw c.in-BreaksBound.is at c.requires.meaning in
    let within : c.in-BreaksBound.col < length c.args.point.now = subst (λ n. c.in-BreaksBound.col < n) (sym c.requires.long) held.is_column in
    let value = value_there c.args.point.now c.in-BreaksBound.col c.index-point-number.result within c.index-point-number.is in
    outside_told c.args.program.now c.args.point.now c.in-BreaksBound.col c.told_sides-sides.result c.index-point-number.result c.column_names.ensures.formed held c.told_sides-sides.ensures value

pub returns-in-BreaksBound-clause-taken : goal.returns-in-BreaksBound-clause-taken
returns-in-BreaksBound-clause-taken g c =
    let held : IsOutside c.args.program.now c.args.point.now c.in-BreaksBound.col = rw c.in-BreaksBound.is at c.requires.meaning in
    let within : c.in-BreaksBound.col < length c.args.point.now = subst (λ n. c.in-BreaksBound.col < n) (sym c.requires.long) held.is_column in
    let value = value_there c.args.point.now c.in-BreaksBound.col c.index-point-number.result within c.index-point-number.is in
    Writes-as c.write_broken.result _ _ c.args.buffer.now _ _ _
    (bound_line c.args.program.now c.args.point.now c.args.verdict.now c.name-name.result.now c.column_names.result.now c.in-BreaksBound.col c.name-name.ensures c.index-point-number.result c.told_sides-sides.result c.in-BreaksBound.is value c.told_sides-sides.ensures c.column_names.ensures.names)
    c.write_broken.ensures.taken

pub name-name-requires-in-BreaksWhole : goal.name-name-requires-in-BreaksWhole
name-name-requires-in-BreaksWhole g c =
    let held : IsFractional c.args.program.now c.args.point.now c.in-BreaksWhole.col = rw c.in-BreaksWhole.is at c.requires.meaning in
    let among : c.in-BreaksWhole.col < length c.args.program.now.integral = slice_get_within _ _ _ held.integral in
    let formed = c.column_names-in-BreaksWhole.ensures.formed in
    subst (λ (names : List (List ℕ)). c.in-BreaksWhole.col < length names) (sym c.column_names-in-BreaksWhole.ensures.names)
    (subst (λ n. c.in-BreaksWhole.col < n) (formed.integral ∙ sym formed.column_names) among)

pub bounds-point-number-in-BreaksWhole : goal.bounds-point-number-in-BreaksWhole
bounds-point-number-in-BreaksWhole g c =
    let held : IsFractional c.args.program.now c.args.point.now c.in-BreaksWhole.col = rw c.in-BreaksWhole.is at c.requires.meaning in
    let among : c.in-BreaksWhole.col < length c.args.program.now.integral = slice_get_within _ _ _ held.integral in
    subst (λ n. c.in-BreaksWhole.col < n) (c.column_names-in-BreaksWhole.ensures.formed.integral ∙ sym c.requires.long) among

pub returns-in-BreaksWhole-clause-taken : goal.returns-in-BreaksWhole-clause-taken
returns-in-BreaksWhole-clause-taken g c =
    let held : IsFractional c.args.program.now c.args.point.now c.in-BreaksWhole.col = rw c.in-BreaksWhole.is at c.requires.meaning in
    let among : c.in-BreaksWhole.col < length c.args.program.now.integral = slice_get_within _ _ _ held.integral in
    let within : c.in-BreaksWhole.col < length c.args.point.now = subst (λ n. c.in-BreaksWhole.col < n) (c.column_names-in-BreaksWhole.ensures.formed.integral ∙ sym c.requires.long) among in
    let value = value_there c.args.point.now c.in-BreaksWhole.col c.index-point-number-in-BreaksWhole.result within c.index-point-number-in-BreaksWhole.is in
    Writes-as c.write_number-in-BreaksWhole.result _ _ c.args.buffer.now _ _ _
    (whole_line c.args.program.now c.args.point.now c.args.verdict.now c.name-name-in-BreaksWhole.result.now c.column_names-in-BreaksWhole.result.now c.in-BreaksWhole.col c.name-name-in-BreaksWhole.ensures c.index-point-number-in-BreaksWhole.result c.in-BreaksWhole.is value c.column_names-in-BreaksWhole.ensures.names)
    c.write_number-in-BreaksWhole.ensures.taken

pub name-name-requires-in-BreaksRow : goal.name-name-requires-in-BreaksRow
name-name-requires-in-BreaksRow g c =
    let held : IsBroken c.args.program.now.rows c.args.point.now c.in-BreaksRow.row c.in-BreaksRow.value = rw c.in-BreaksRow.is at c.requires.meaning in
    let among : c.in-BreaksRow.row < length c.args.program.now.rows = slice_get_within _ _ _ held.is_row in
    subst (λ (names : List (List ℕ)). c.in-BreaksRow.row < length names) (sym c.row_names.ensures.names)
    (subst (λ n. c.in-BreaksRow.row < n) (sym c.row_names.ensures.formed.row_names) among)

pub bounds-rows-number : goal.bounds-rows-number
bounds-rows-number g c =
    let held : IsBroken c.args.program.now.rows c.args.point.now c.in-BreaksRow.row c.in-BreaksRow.value = rw c.in-BreaksRow.is at c.requires.meaning in
    let among : c.in-BreaksRow.row < length c.args.program.now.rows = slice_get_within _ _ _ held.is_row in
    subst (λ (rows : List Row). c.in-BreaksRow.row < length rows) (sym c.rows.ensures.rows) among

pub write_broken-requires-in-BreaksRow : goal.write_broken-requires-in-BreaksRow
write_broken-requires-in-BreaksRow g c =
    let held : IsBroken c.args.program.now.rows c.args.point.now c.in-BreaksRow.row c.in-BreaksRow.value = rw c.in-BreaksRow.is at c.requires.meaning in
    let among : c.in-BreaksRow.row < length c.args.program.now.rows = slice_get_within _ _ _ held.is_row in
    let item = c.index-rows-number.result in
    let row : slice_get c.args.program.now.rows c.in-BreaksRow.row ≡ Some item =
    slice_get_read c.args.program.now.rows _ c.in-BreaksRow.row item refl among
    (subst (λ (rows : List Row). item ≡ get_or rows c.in-BreaksRow.row item) c.rows.ensures.rows c.index-rows-number.is) in
    let same : held.row ≡ item = same_Some held.row item (sym held.is_row ∙ row) in
    sides_broken held.row item c.low.result c.high.result c.in-BreaksRow.value _ same c.low.ensures c.high.ensures held.is_activity held.broken

pub returns-in-BreaksRow-clause-taken : goal.returns-in-BreaksRow-clause-taken
returns-in-BreaksRow-clause-taken g c =
    let held : IsBroken c.args.program.now.rows c.args.point.now c.in-BreaksRow.row c.in-BreaksRow.value = rw c.in-BreaksRow.is at c.requires.meaning in
    let among : c.in-BreaksRow.row < length c.args.program.now.rows = slice_get_within _ _ _ held.is_row in
    let item = c.index-rows-number.result in
    let row : slice_get c.args.program.now.rows c.in-BreaksRow.row ≡ Some item =
    slice_get_read c.args.program.now.rows _ c.in-BreaksRow.row item refl among
    (subst (λ (rows : List Row). item ≡ get_or rows c.in-BreaksRow.row item) c.rows.ensures.rows c.index-rows-number.is) in
    Writes-as c.write_broken-in-BreaksRow.result _ _ c.args.buffer.now _ _ _
    (row_line c.args.program.now c.args.point.now c.args.verdict.now c.name-name-in-BreaksRow.result.now c.row_names.result.now c.in-BreaksRow.row c.name-name-in-BreaksRow.ensures c.in-BreaksRow.value item c.low.result c.high.result c.in-BreaksRow.is row c.low.ensures c.high.ensures c.row_names.ensures.names)
    c.write_broken-in-BreaksRow.ensures.taken

pub name-row_name-requires : goal.name-row_name-requires
name-row_name-requires g c =
    let held : Overflows c.args.program.now c.args.point.now c.in-Wide.place = rw c.in-Wide.is at c.requires.meaning in
    let row : RowOverflows c.args.program.now.rows c.args.point.now c.in-Row.number = subst (λ (p : Place). Overflows c.args.program.now c.args.point.now p) c.in-Row.is held in
    let among : c.in-Row.number < length c.args.program.now.rows = slice_get_within _ _ _ row.is_row in
    subst (λ (names : List (List ℕ)). c.in-Row.number < length names) (sym c.row_names-rows.ensures.names)
    (subst (λ n. c.in-Row.number < n) (sym c.row_names-rows.ensures.formed.row_names) among)

pub returns-in-Row-clause-taken : goal.returns-in-Row-clause-taken
returns-in-Row-clause-taken g c =
    Writes-as c.write_line.result _ _ c.args.buffer.now _ _ _
    (wide_line c.args.program.now c.args.point.now c.args.verdict.now c.name-row_name.result.now c.row_names-rows.result.now c.in-Row.number c.name-row_name.ensures c.in-Wide.place c.in-Wide.is c.in-Row.is c.row_names-rows.ensures.names)
    c.write_line.ensures.taken

pub returns-in-Feasible-clause-taken : goal.returns-in-Feasible-clause-taken
returns-in-Feasible-clause-taken g c = grind (arith, common_steps)

pub bounds-point-number : goal.bounds-point-number
bounds-point-number g c = grind (arith, common_steps)

pub returns-in-Cost-clause-taken : goal.returns-in-Cost-clause-taken
returns-in-Cost-clause-taken g c = grind (arith, common_steps)

pub told_sides-sides-requires : goal.told_sides-sides-requires
told_sides-sides-requires g c = grind (arith, common_steps)

pub returns-in-Row-clause-faults : goal.returns-in-Row-clause-faults
returns-in-Row-clause-faults g c = grind (arith, common_steps)

pub returns-in-BreaksRow-clause-faults : goal.returns-in-BreaksRow-clause-faults
returns-in-BreaksRow-clause-faults g c = grind (arith, common_steps)

pub name-name-requires : goal.name-name-requires
name-name-requires g c = grind (arith, common_steps)

pub returns-in-BreaksBound-clause-faults : goal.returns-in-BreaksBound-clause-faults
returns-in-BreaksBound-clause-faults g c = grind (arith, common_steps)

pub returns-in-BreaksWhole-clause-faults : goal.returns-in-BreaksWhole-clause-faults
returns-in-BreaksWhole-clause-faults g c = grind (arith, common_steps)

pub returns-in-Cost-clause-faults : goal.returns-in-Cost-clause-faults
returns-in-Cost-clause-faults g c = grind (arith, common_steps)

pub returns-in-Feasible-clause-faults : goal.returns-in-Feasible-clause-faults
returns-in-Feasible-clause-faults g c = grind (arith, common_steps)

pub offset_bounds-rows-number : goal.offset_bounds-rows-number
offset_bounds-rows-number g c = grind (arith, common_steps)

pub offset_bounds-point-number : goal.offset_bounds-point-number
offset_bounds-point-number g c = grind (arith, common_steps)

pub offset_bounds-point-number-in-BreaksWhole : goal.offset_bounds-point-number-in-BreaksWhole
offset_bounds-point-number-in-BreaksWhole g c = grind (arith, common_steps)
