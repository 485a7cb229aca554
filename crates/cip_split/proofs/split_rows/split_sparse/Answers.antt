use Rattle.std.proofs.lemmas.Grind.{common_steps}
use Rattle.std.proofs.Common.{◌≡◌, ◌+ℤ◌, pos, false, None, rules, ◌∙◌, length, ap, sym, arith}
use Rattle.cip_rational.specs.Range.{too_large}
use Rattle.cip_problem.specs.Aggregate.{Inequality}
use Rattle.cip_cert.specs.Lent.{lent_of}
use Rattle.cip_split.specs.SplitChecks.{form_fault, sign_fault, right_row, joined, split_of}
use Rattle.cip_split.proofs.SplitRowSums.{form_within}
use Rattle.cip_split.proofs.SplitSteps.{answered_as, form_fails, sign_fails, number_fails, left_fails, right_fails, rows_come}
use Rattle.cip_split.proofs.split_rows.split_sparse.Goals as goal

pub left_row-requires-clause-form : goal.left_row-requires-clause-form
left_row-requires-clause-form c =
    form_within c.args.rows.now.whole.now c.args.cut.now.form.items (length c.args.row.now.entries) (ap (form_fault c.args.rows.now.whole.now) (sym c.as_slice.ensures.value) ∙ sym c.in_default.ensures) (omega (arith, c.requires.flags, c.requires.room))

pub right_row-requires-clause-form : goal.right_row-requires-clause-form
right_row-requires-clause-form c =
    form_within c.args.rows.now.whole.now c.args.cut.now.form.items (length c.args.other.now.entries) (ap (form_fault c.args.rows.now.whole.now) (sym c.as_slice.ensures.value) ∙ sym c.in_default.ensures) (omega (arith, c.requires.flags, c.requires.room, c.requires.same))

pub returns-in-Some-clause-steps : goal.returns-in-Some-clause-steps
returns-in-Some-clause-steps c =
    let lent = lent_of c.args.rows.now in
    let whole = c.args.rows.now.whole.now in
    let box = c.args.bounds.now in
    let n = length c.args.row.now.entries in
    let cut = c.args.cut.now in
    form_fails lent whole box n cut c.in-Some.fault (ap (form_fault whole) (sym c.as_slice.ensures.value) ∙ sym c.in-Some.ensures)

pub returns-in-Some-sign_fault-clause-steps : goal.returns-in-Some-sign_fault-clause-steps
returns-in-Some-sign_fault-clause-steps c =
    let lent = lent_of c.args.rows.now in
    let whole = c.args.rows.now.whole.now in
    let box = c.args.bounds.now in
    let n = length c.args.row.now.entries in
    let cut = c.args.cut.now in
    let formed : form_fault whole cut.form.items ≡ None = ap (form_fault whole) (sym c.as_slice.ensures.value) ∙ sym c.in_default.ensures in
    sign_fails lent whole box n cut formed c.in-Some-sign_fault.fault (sym c.in-Some-sign_fault.ensures)

pub returns-in_default-next_of-clause-steps : goal.returns-in_default-next_of-clause-steps
returns-in_default-next_of-clause-steps c =
    let lent = lent_of c.args.rows.now in
    let whole = c.args.rows.now.whole.now in
    let box = c.args.bounds.now in
    let n = length c.args.row.now.entries in
    let cut = c.args.cut.now in
    let formed : form_fault whole cut.form.items ≡ None = ap (form_fault whole) (sym c.as_slice.ensures.value) ∙ sym c.in_default.ensures in
    let positive : sign_fault cut.left_factor cut.right_factor ≡ None = sym c.in_default-sign_fault.ensures in
    number_fails lent whole box n cut formed positive (search rules)

pub returns-in-Err-clause-steps : goal.returns-in-Err-clause-steps
returns-in-Err-clause-steps c =
    let lent = lent_of c.args.rows.now in
    let whole = c.args.rows.now.whole.now in
    let box = c.args.bounds.now in
    let n = length c.args.row.now.entries in
    let cut = c.args.cut.now in
    let formed : form_fault whole cut.form.items ≡ None = ap (form_fault whole) (sym c.as_slice.ensures.value) ∙ sym c.in_default.ensures in
    let positive : sign_fault cut.left_factor cut.right_factor ≡ None = sym c.in_default-sign_fault.ensures in
    let narrow : too_large (cut.k +ℤ pos 1) ≡ false = search rules in
    left_fails lent whole box n cut formed positive narrow c.in-Err.fault c.in-Err.ensures.steps

pub returns-in-Err-right_row-clause-steps : goal.returns-in-Err-right_row-clause-steps
returns-in-Err-right_row-clause-steps c =
    let lent = lent_of c.args.rows.now in
    let whole = c.args.rows.now.whole.now in
    let box = c.args.bounds.now in
    let n = length c.args.row.now.entries in
    let cut = c.args.cut.now in
    let formed : form_fault whole cut.form.items ≡ None = ap (form_fault whole) (sym c.as_slice.ensures.value) ∙ sym c.in_default.ensures in
    let positive : sign_fault cut.left_factor cut.right_factor ≡ None = sym c.in_default-sign_fault.ensures in
    let narrow : too_large (cut.k +ℤ pos 1) ≡ false = search rules in
    right_fails lent whole box n cut formed positive narrow (record { coefficients = c.left_row.new.row.entries; least = c.in-Ok.left }) c.in-Err-right_row.fault c.in-Ok.ensures.steps (ap (λ m. right_row lent box m cut) (sym c.requires.same) ∙ c.in-Err-right_row.ensures.steps)

pub returns-clause-steps : goal.returns-clause-steps
returns-clause-steps c =
    let lent = lent_of c.args.rows.now in
    let whole = c.args.rows.now.whole.now in
    let box = c.args.bounds.now in
    let n = length c.args.row.now.entries in
    let cut = c.args.cut.now in
    let formed : form_fault whole cut.form.items ≡ None = ap (form_fault whole) (sym c.as_slice.ensures.value) ∙ sym c.in_default.ensures in
    let positive : sign_fault cut.left_factor cut.right_factor ≡ None = sym c.in_default-sign_fault.ensures in
    let narrow : too_large (cut.k +ℤ pos 1) ≡ false = search rules in
    let left : Inequality = record { coefficients = c.left_row.new.row.entries; least = c.in-Ok.left } in
    let right : Inequality = record { coefficients = c.right_row.new.row.entries; least = c.in-Ok-right_row.right } in
    answered_as (split_of lent whole box n cut) (joined left right) c.left_row.new.row.entries c.joined.result
    (rows_come lent whole box n cut formed positive narrow left right c.in-Ok.ensures.steps (ap (λ m. right_row lent box m cut) (sym c.requires.same) ∙ c.in-Ok-right_row.ensures.steps))
    c.joined.ensures

pub right_row-requires-clause-next : goal.right_row-requires-clause-next
right_row-requires-clause-next c = grind (arith, common_steps)

pub returns-clause-columns : goal.returns-clause-columns
returns-clause-columns c = grind (arith, common_steps)

pub returns-in-Err-right_row-clause-columns : goal.returns-in-Err-right_row-clause-columns
returns-in-Err-right_row-clause-columns c = grind (arith, common_steps)

pub returns-clause-others : goal.returns-clause-others
returns-clause-others c = grind (arith, common_steps)

pub returns-in-Err-right_row-clause-others : goal.returns-in-Err-right_row-clause-others
returns-in-Err-right_row-clause-others c = grind (arith, common_steps)

pub right_row-requires-clause-room : goal.right_row-requires-clause-room
right_row-requires-clause-room c = grind (arith, common_steps)

pub right_row-requires-clause-fits : goal.right_row-requires-clause-fits
right_row-requires-clause-fits c = grind (arith, common_steps)

pub returns-in-Err-clause-columns : goal.returns-in-Err-clause-columns
returns-in-Err-clause-columns c = grind (arith, common_steps)

pub left_row-requires-clause-fits : goal.left_row-requires-clause-fits
left_row-requires-clause-fits c = grind (arith, common_steps)

pub left_row-requires-clause-room : goal.left_row-requires-clause-room
left_row-requires-clause-room c = grind (arith, common_steps)

pub returns-in-Err-clause-others : goal.returns-in-Err-clause-others
returns-in-Err-clause-others c = grind (arith, common_steps)

pub returns-in_default-next_of-clause-others : goal.returns-in_default-next_of-clause-others
returns-in_default-next_of-clause-others c = grind (arith, common_steps)

pub returns-in_default-next_of-clause-columns : goal.returns-in_default-next_of-clause-columns
returns-in_default-next_of-clause-columns c = grind (arith, common_steps)

pub returns-in-Some-sign_fault-clause-others : goal.returns-in-Some-sign_fault-clause-others
returns-in-Some-sign_fault-clause-others c = grind (arith, common_steps)

pub returns-in-Some-sign_fault-clause-columns : goal.returns-in-Some-sign_fault-clause-columns
returns-in-Some-sign_fault-clause-columns c = grind (arith, common_steps)

pub returns-in-Some-clause-others : goal.returns-in-Some-clause-others
returns-in-Some-clause-others c = grind (arith, common_steps)

pub returns-in-Some-clause-columns : goal.returns-in-Some-clause-columns
returns-in-Some-clause-columns c = grind (arith, common_steps)

pub joined-requires : goal.joined-requires
joined-requires c = c.right_row.ensures.columns ∙ (c.requires.same ∙ sym c.left_row.ensures.columns)
