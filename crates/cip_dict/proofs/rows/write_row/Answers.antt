use Rattle.std.proofs.lemmas.Grind.{common_steps}
use Rattle.std.proofs.Common.{sym, arith, ◌∙◌}
use Rattle.cip_problem.specs.Activity.{value_at}
use Rattle.cip_dict.proofs.Unchanged.{unchanged_fits, unchanged_stays, changed_basic}
use Rattle.cip_dict.proofs.rows.write_row.Goals as goal

pub returns-then-not-changes-clause-written : goal.returns-then-not-changes-clause-written
returns-then-not-changes-clause-written c = (
  unchanged_fits c.args.pivot.now.standing.now c.args.pivot.now.leaving c.args.pivot.now.entering c.args.pivot.now.inverse (value_at c.args.new.now) c.args.v c.args.row.now (sym c.if-not-changes.ensures),
  unchanged_stays c.args.pivot.now.standing.now c.args.pivot.now.leaving c.args.pivot.now.entering c.args.pivot.now.inverse (value_at c.args.new.now) c.args.v c.args.row.now c.args.out.now (sym c.if-not-changes.ensures),
)

pub is_changed-changes-requires-clause-within : goal.is_changed-changes-requires-clause-within
is_changed-changes-requires-clause-within c = c.requires.within

pub is_changed-changes-requires-clause-entering : goal.is_changed-changes-requires-clause-entering
is_changed-changes-requires-clause-entering c = c.requires.entering

pub is_changed-changes-requires-clause-long : goal.is_changed-changes-requires-clause-long
is_changed-changes-requires-clause-long c = c.requires.row_long

pub write_substituted-requires-clause-few : goal.write_substituted-requires-clause-few
write_substituted-requires-clause-few c = c.requires.few

pub write_substituted-requires-clause-entering : goal.write_substituted-requires-clause-entering
write_substituted-requires-clause-entering c = c.requires.entering

pub write_substituted-requires-clause-leaving : goal.write_substituted-requires-clause-leaving
write_substituted-requires-clause-leaving c = c.requires.leaving

pub write_substituted-requires-clause-new_long : goal.write_substituted-requires-clause-new_long
write_substituted-requires-clause-new_long c = c.requires.new_long

pub write_substituted-requires-clause-new_spelled : goal.write_substituted-requires-clause-new_spelled
write_substituted-requires-clause-new_spelled c = c.requires.new_spelled

pub write_substituted-requires-clause-is_leaving : goal.write_substituted-requires-clause-is_leaving
write_substituted-requires-clause-is_leaving c = c.requires.is_leaving

pub returns-in-Err-clause-spelled : goal.returns-in-Err-clause-spelled
returns-in-Err-clause-spelled c = c.in-Err.ensures.spelled

pub returns-in-Ok-count_room-clause-spelled : goal.returns-in-Ok-count_room-clause-spelled
returns-in-Ok-count_room-clause-spelled c = c.in-Ok.ensures.spelled

pub returns-in-Err-count_room-clause-spelled : goal.returns-in-Err-count_room-clause-spelled
returns-in-Err-count_room-clause-spelled c = c.in-Ok.ensures.spelled

pub returns-in-Err-clause-written : goal.returns-in-Err-clause-written
returns-in-Err-clause-written c = grind (arith, common_steps)

pub returns-in-Ok-count_room-clause-written : goal.returns-in-Ok-count_room-clause-written
returns-in-Ok-count_room-clause-written c = grind (arith, common_steps)

pub write_substituted-requires-clause-row_long : goal.write_substituted-requires-clause-row_long
write_substituted-requires-clause-row_long c = c.requires.row_long (changed_basic c.args.pivot.now.standing.now c.args.pivot.now.leaving c.args.pivot.now.entering c.args.v c.args.row.now c.if-not-changes.ensures)

pub overflow_cast-v : goal.overflow_cast-v
overflow_cast-v c = grind (arith, common_steps)

pub returns-then-not-changes-clause-spelled : goal.returns-then-not-changes-clause-spelled
returns-then-not-changes-clause-spelled c = grind (arith, common_steps)

pub returns-in-Err-clause-marked : goal.returns-in-Err-clause-marked
returns-in-Err-clause-marked c = grind (arith, common_steps)

pub returns-then-not-changes-clause-long : goal.returns-then-not-changes-clause-long
returns-then-not-changes-clause-long c = grind (arith, common_steps)

pub returns-in-Err-clause-long : goal.returns-in-Err-clause-long
returns-in-Err-clause-long c = c.write_substituted.ensures.long ∙ sym (c.requires.out_long (changed_basic c.args.pivot.now.standing.now c.args.pivot.now.leaving c.args.pivot.now.entering c.args.v c.args.row.now c.if-not-changes.ensures))

pub returns-in-Err-count_room-clause-long : goal.returns-in-Err-count_room-clause-long
returns-in-Err-count_room-clause-long c = c.write_substituted.ensures.long ∙ sym (c.requires.out_long (changed_basic c.args.pivot.now.standing.now c.args.pivot.now.leaving c.args.pivot.now.entering c.args.v c.args.row.now c.if-not-changes.ensures))

pub returns-in-Ok-count_room-clause-long : goal.returns-in-Ok-count_room-clause-long
returns-in-Ok-count_room-clause-long c = c.write_substituted.ensures.long ∙ sym (c.requires.out_long (changed_basic c.args.pivot.now.standing.now c.args.pivot.now.leaving c.args.pivot.now.entering c.args.v c.args.row.now c.if-not-changes.ensures))
