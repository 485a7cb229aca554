use Rattle.cip_dict.proofs.FormPuts.{empty_form, parts_form}
use Rattle.std.proofs.lemmas.Grind.{common_steps}
use Rattle.std.proofs.Common.{◌∙◌, ℕ, length, refl, sym, subst, arith, ap}
use Rattle.cip_problem.specs.Activity.{value_at}
use Rattle.cip_bland.specs.Exchange.{substituted}
use Rattle.cip_bland.specs.MoveOperations.{substituted_operations}
use Rattle.cip_dict.specs.Lists.{basic_in}
use Rattle.cip_dict.specs.SparseLines.{entry_on, dense}
use Rattle.cip_dict.specs.WholeLines.{IsSpelled}
use Rattle.cip_dict.proofs.Dense.{dense_long, dense_read, dense_written, entering_written, row_written}
use Rattle.cip_dict.proofs.lines.write_substituted.Goals as goal

pub substitute_entries-requires-clause-leaving : goal.substitute_entries-requires-clause-leaving
substitute_entries-requires-clause-leaving c =
    rw c.as_slice-entering.ensures.value
    (sym (dense_read (length c.args.new.now) c.ensure_spelled.new.spelled.entries.items c.args.new.now c.args.pivot.now.leaving c.in-Ok.ensures.done.same (omega (arith, c.requires.leaving, c.requires.new_long))) ∙ c.requires.is_leaving)

pub substitute_entries-requires-clause-on : goal.substitute_entries-requires-clause-on
substitute_entries-requires-clause-on c =
    rw c.as_slice.ensures.value (c.entry-b.ensures ∙ dense_read (length c.args.row.now) c.spell.new.out.items c.args.row.now c.args.pivot.now.entering c.in-Ok-spell.ensures.same (omega (arith, c.requires.entering, c.requires.row_long)))

pub returns-clause-written : goal.returns-clause-written
returns-clause-written c =
    let spelled : IsSpelled (length c.args.pivot.now.standing.now) c.args.new.now c.ensure_spelled.new.spelled.entries.items = subst (λ (n : ℕ). IsSpelled n c.args.new.now c.ensure_spelled.new.spelled.entries.items) c.requires.new_long c.in-Ok.ensures.done in
    let row = row_written (length c.args.pivot.now.standing.now) c.args.line (basic_in c.args.pivot.now.standing.now) c.args.pivot.now.leaving c.args.pivot.now.entering c.args.pivot.now.inverse (length c.args.row.now) c.as_slice.result.now c.args.row.now (ap (dense (length c.args.row.now)) c.as_slice.ensures.value ∙ c.in-Ok-spell.ensures.same) c.requires.row_long _ c.requires.entering c.substitute_entries.new.out.items c.substitute_entries.result c.substitute_entries.ensures.written in
    let form = dense_written (length c.args.pivot.now.standing.now)
    (substituted_operations c.args.line (basic_in c.args.pivot.now.standing.now) c.args.pivot.now.leaving c.args.pivot.now.entering c.args.pivot.now.inverse (entry_on c.as_slice-entering.result.now) (value_at c.args.row.now))
    (substituted_operations c.args.line (basic_in c.args.pivot.now.standing.now) c.args.pivot.now.leaving c.args.pivot.now.entering c.args.pivot.now.inverse (entry_on c.as_slice-entering.result.now) (value_at c.args.row.now))
    (substituted (basic_in c.args.pivot.now.standing.now) c.args.pivot.now.leaving c.args.pivot.now.entering c.args.pivot.now.inverse (entry_on c.as_slice-entering.result.now) (value_at c.args.row.now))
    (substituted (basic_in c.args.pivot.now.standing.now) c.args.pivot.now.leaving c.args.pivot.now.entering c.args.pivot.now.inverse (entry_on c.as_slice-entering.result.now) (value_at c.args.row.now))
    c.substitute_entries.new.out.items c.substitute_entries.result (λ k l. refl) (λ k l. refl) row in
    entering_written (length c.args.pivot.now.standing.now) c.args.line (basic_in c.args.pivot.now.standing.now) c.args.pivot.now.leaving c.args.pivot.now.entering c.args.pivot.now.inverse c.as_slice-entering.result.now c.args.new.now (ap (dense (length c.args.pivot.now.standing.now)) c.as_slice-entering.ensures.value ∙ spelled.same) c.requires.new_long (value_at c.args.row.now) _ c.substitute_entries.result form

pub returns-clause-long : goal.returns-clause-long
returns-clause-long c = dense_long _ _

pub returns-in-Err-spell-clause-long : goal.returns-in-Err-spell-clause-long
returns-in-Err-spell-clause-long c = dense_long _ _

pub returns-in-Ok-true-clause-written : goal.returns-in-Ok-true-clause-written
returns-in-Ok-true-clause-written c = c.in-Ok-true.ensures.written c.in-Ok-true.field-0-test c.args.line

pub invariant_of-out-2 : goal.invariant_of-out-2
invariant_of-out-2 c = parts_form _ _ _ _ c.substitute_entries.ensures.kept

pub invariant_of-out : goal.invariant_of-out
invariant_of-out c = empty_form _ _ _ _ c.clear.ensures.items

pub substitute_entries-requires-clause-new_kept : goal.substitute_entries-requires-clause-new_kept
substitute_entries-requires-clause-new_kept c = grind (arith, common_steps)

pub substitute_entries-requires-clause-row_kept : goal.substitute_entries-requires-clause-row_kept
substitute_entries-requires-clause-row_kept c = grind (arith, common_steps)

pub returns-clause-spelled : goal.returns-clause-spelled
returns-clause-spelled c = grind (arith, common_steps)

pub returns-in-Err-spell-clause-spelled : goal.returns-in-Err-spell-clause-spelled
returns-in-Err-spell-clause-spelled c = grind (arith, common_steps)

pub entry-b-requires : goal.entry-b-requires
entry-b-requires c = grind (arith, common_steps)

pub returns-in-Err-ensure_spelled-clause-long : goal.returns-in-Err-ensure_spelled-clause-long
returns-in-Err-ensure_spelled-clause-long c = grind (arith, common_steps)

pub returns-in-Ok-true-clause-spelled : goal.returns-in-Ok-true-clause-spelled
returns-in-Ok-true-clause-spelled c = grind (arith, common_steps)

pub returns-in-Err-ensure_spelled-clause-spelled : goal.returns-in-Err-ensure_spelled-clause-spelled
returns-in-Err-ensure_spelled-clause-spelled c = grind (arith, common_steps)

pub ensure_spelled-requires : goal.ensure_spelled-requires
ensure_spelled-requires c = grind (arith, common_steps)

pub returns-in-Ok-true-clause-long : goal.returns-in-Ok-true-clause-long
returns-in-Ok-true-clause-long c = grind (arith, common_steps)

pub returns-in-Err-clause-long : goal.returns-in-Err-clause-long
returns-in-Err-clause-long c = grind (arith, common_steps)

pub returns-in-Err-clause-spelled : goal.returns-in-Err-clause-spelled
returns-in-Err-clause-spelled c = grind (arith, common_steps)

pub put_form-requires-clause-leaving : goal.put_form-requires-clause-leaving
put_form-requires-clause-leaving c = grind (arith, common_steps)

pub put_form-requires-clause-entering : goal.put_form-requires-clause-entering
put_form-requires-clause-entering c = grind (arith, common_steps)

pub put_form-requires-clause-row_long : goal.put_form-requires-clause-row_long
put_form-requires-clause-row_long c = grind (arith, common_steps)

pub put_form-requires-clause-new_long : goal.put_form-requires-clause-new_long
put_form-requires-clause-new_long c = grind (arith, common_steps)

pub put_form-requires-clause-few : goal.put_form-requires-clause-few
put_form-requires-clause-few c = grind (arith, common_steps)

pub put_form-requires-clause-is_leaving : goal.put_form-requires-clause-is_leaving
put_form-requires-clause-is_leaving c = grind (arith, common_steps)

pub returns-in-Err-ensure_spelled-clause-written : goal.returns-in-Err-ensure_spelled-clause-written
returns-in-Err-ensure_spelled-clause-written c = grind (arith, common_steps)

pub returns-in-Err-clause-written : goal.returns-in-Err-clause-written
returns-in-Err-clause-written c = grind (arith, common_steps)
