use Rattle.std.proofs.lemmas.Grind.{common_steps}
use Rattle.std.proofs.Common.{length, arith}
use Rattle.cip_dict.specs.Lists.{basic_in}
use Rattle.cip_dict.specs.WholeLines.{over}
use Rattle.cip_dict.proofs.Dense.{dense_long}
use Rattle.cip_dict.proofs.FormParts.{one_kept, whole_view}
use Rattle.cip_dict.proofs.FormPuts.{as_long, put_written, put_kept, whole_form, empty_form, put_as}
use Rattle.cip_dict.proofs.lines.put_form.Goals as goal

pub put_whole-requires-clause-row_kept : goal.put_whole-requires-clause-row_kept
put_whole-requires-clause-row_kept c =
    rw c.as_slice.ensures.value (as_long c.row.inside.len (length c.args.pivot.now.standing.now) (over c.row.inside.below c.row.inside.wholes.items) (over 1 c.row.inside.wholes.items) c.args.row.now (whole_view c.row.inside.len c.row.inside.is_whole c.row.inside.below c.row.inside.wholes.items c.row.inside.entries.items c.args.row.now c.row.invariant c.row.view_is c.if-not-row.false) c.requires.row_long (one_kept c.row.inside.len c.row.inside.is_whole c.row.inside.below c.row.inside.wholes.items c.row.inside.entries.items c.args.row.now c.row.invariant c.row.view_is c.if-not-row.false))

pub put_whole-requires-clause-new_kept : goal.put_whole-requires-clause-new_kept
put_whole-requires-clause-new_kept c =
    rw c.as_slice-2.ensures.value (as_long c.new.inside.len (length c.args.pivot.now.standing.now) (over c.new.inside.below c.new.inside.wholes.items) (over 1 c.new.inside.wholes.items) c.args.new.now (whole_view c.new.inside.len c.new.inside.is_whole c.new.inside.below c.new.inside.wholes.items c.new.inside.entries.items c.args.new.now c.new.invariant c.new.view_is c.if-not-new.false) c.requires.new_long (one_kept c.new.inside.len c.new.inside.is_whole c.new.inside.below c.new.inside.wholes.items c.new.inside.entries.items c.args.new.now c.new.invariant c.new.view_is c.if-not-new.false))

pub returns-in-Ok-Some-clause-written : goal.returns-in-Ok-Some-clause-written
returns-in-Ok-Some-clause-written c =
    let put = put_as c.in-Ok-Some.field-0 c.in-Ok-Some.below (length c.args.pivot.now.standing.now) (basic_in c.args.pivot.now.standing.now) c.args.pivot.now.leaving c.args.pivot.now.entering c.row.inside.below c.new.inside.below c.as_slice.result.now c.row.inside.wholes.items c.as_slice-2.result.now c.new.inside.wholes.items c.put_whole.new.out.items c.in-Ok-Some.field-0-is c.as_slice.ensures.value c.as_slice-2.ensures.value c.in-Ok-Some.ensures in
    λ _ line. put_written (length c.args.pivot.now.standing.now) (basic_in c.args.pivot.now.standing.now) c.args.pivot.now.leaving c.args.pivot.now.entering c.args.row.now c.row.inside.len c.row.inside.below c.row.inside.wholes.items c.args.new.now c.new.inside.len c.new.inside.below c.new.inside.wholes.items c.in-Ok-Some.below c.put_whole.new.out.items (c.row.invariant.whole c.if-not-row.false) (whole_view c.row.inside.len c.row.inside.is_whole c.row.inside.below c.row.inside.wholes.items c.row.inside.entries.items c.args.row.now c.row.invariant c.row.view_is c.if-not-row.false) c.requires.row_long (c.new.invariant.whole c.if-not-new.false) (whole_view c.new.inside.len c.new.inside.is_whole c.new.inside.below c.new.inside.wholes.items c.new.inside.entries.items c.args.new.now c.new.invariant c.new.view_is c.if-not-new.false) c.requires.new_long c.requires.entering c.requires.leaving put.1 line c.args.pivot.now.inverse c.requires.is_leaving

pub invariant_of-out-in-Ok-Some : goal.invariant_of-out-in-Ok-Some
invariant_of-out-in-Ok-Some c =
    let put = put_as c.in-Ok-Some.field-0 c.in-Ok-Some.below (length c.args.pivot.now.standing.now) (basic_in c.args.pivot.now.standing.now) c.args.pivot.now.leaving c.args.pivot.now.entering c.row.inside.below c.new.inside.below c.as_slice.result.now c.row.inside.wholes.items c.as_slice-2.result.now c.new.inside.wholes.items c.put_whole.new.out.items c.in-Ok-Some.field-0-is c.as_slice.ensures.value c.as_slice-2.ensures.value c.in-Ok-Some.ensures in
    whole_form (length c.args.pivot.now.standing.now) c.in-Ok-Some.below c.put_whole.new.out.items c.clear.new.self.items put.0 (put_kept (length c.args.pivot.now.standing.now) (basic_in c.args.pivot.now.standing.now) c.args.pivot.now.leaving c.args.pivot.now.entering c.args.row.now c.row.inside.len c.row.inside.below c.row.inside.wholes.items c.args.new.now c.new.inside.len c.new.inside.below c.new.inside.wholes.items c.in-Ok-Some.below c.put_whole.new.out.items (c.row.invariant.whole c.if-not-row.false) (whole_view c.row.inside.len c.row.inside.is_whole c.row.inside.below c.row.inside.wholes.items c.row.inside.entries.items c.args.row.now c.row.invariant c.row.view_is c.if-not-row.false) c.requires.row_long (c.new.invariant.whole c.if-not-new.false) (whole_view c.new.inside.len c.new.inside.is_whole c.new.inside.below c.new.inside.wholes.items c.new.inside.entries.items c.args.new.now c.new.invariant c.new.view_is c.if-not-new.false) c.requires.new_long c.requires.entering c.requires.leaving put.1)

pub returns-then-not-row-clause-long : goal.returns-then-not-row-clause-long
returns-then-not-row-clause-long c = dense_long _ _

pub returns-in-Ok-Some-clause-long : goal.returns-in-Ok-Some-clause-long
returns-in-Ok-Some-clause-long c = dense_long _ _

pub returns-in-Ok-None-clause-long : goal.returns-in-Ok-None-clause-long
returns-in-Ok-None-clause-long c = dense_long _ _

pub returns-in-Err-clause-long : goal.returns-in-Err-clause-long
returns-in-Err-clause-long c = dense_long _ _

pub put_whole-requires-clause-few : goal.put_whole-requires-clause-few
put_whole-requires-clause-few c = c.requires.few

pub put_whole-requires-clause-row_whole : goal.put_whole-requires-clause-row_whole
put_whole-requires-clause-row_whole c = rw c.as_slice.ensures.value (c.row.invariant.whole c.if-not-row.false)

pub put_whole-requires-clause-new_whole : goal.put_whole-requires-clause-new_whole
put_whole-requires-clause-new_whole c = rw c.as_slice-2.ensures.value (c.new.invariant.whole c.if-not-new.false)

pub invariant_of-out : goal.invariant_of-out
invariant_of-out c = grind (arith, common_steps)

pub invariant_of-out-in-Err : goal.invariant_of-out-in-Err
invariant_of-out-in-Err c = empty_form _ _ _ _ c.clear.ensures.items

pub invariant_of-out-in-Ok-None : goal.invariant_of-out-in-Ok-None
invariant_of-out-in-Ok-None c = empty_form _ _ _ _ c.clear.ensures.items

pub returns-in-Ok-None-clause-written : goal.returns-in-Ok-None-clause-written
returns-in-Ok-None-clause-written c = grind (arith, common_steps)

pub returns-then-not-row-clause-written : goal.returns-then-not-row-clause-written
returns-then-not-row-clause-written c = grind (arith, common_steps)
