use Rattle.std.proofs.lemmas.Grind.{common_steps}
use Rattle.std.proofs.Common.{arith, length, length-set, Some, ap, sym, ◌∙◌}
use Rattle.cip_bland.proofs.Overflow.{first_more, first_at}
use Rattle.cip_dict.proofs.TakenValues.{taken_more, taken_end}
use Rattle.cip_dict.proofs.values.write_moved.Goals as goal

pub returns-then-not-move_on-clause-written : goal.returns-then-not-move_on-clause-written
returns-then-not-move_on-clause-written c = first_at (length c.args.pivot.now.standing.now) c.loop-v.v _ c.out_of_range.result.place c.loop-v-test.true c.loop-v.invariant.fits (c.if-not-move_on.ensures ∙ ap Some (sym c.out_of_range.ensures))

pub loop-v-preserved : goal.loop-v-preserved
loop-v-preserved c = record {
  fits = first_more c.loop-v.v _ c.loop-v.invariant.fits c.if-not-move_on.ensures.0;
  written = taken_more c.args.pivot.now.standing.now c.args.pivot.now.entering c.args.shift.now.values.now _ c.loop-v.out c.loop-v.v c.move_on.new.value (omega arith) c.loop-v.invariant.written c.if-not-move_on.ensures.1;
  long = length-set c.loop-v.out c.loop-v.v c.move_on.new.value ∙ c.loop-v.invariant.long;
}

pub returns-clause-written : goal.returns-clause-written
returns-clause-written c = taken_end (length c.args.pivot.now.standing.now) c.loop-v.v _ c.args.pivot.now.standing.now c.args.pivot.now.entering c.args.shift.now.values.now c.loop-v.out _ (omega arith) (omega arith) c.loop-v.invariant.fits c.loop-v.invariant.written

pub returns-then-not-move_on-clause-long : goal.returns-then-not-move_on-clause-long
returns-then-not-move_on-clause-long c = grind (arith, common_steps)

pub loop-v-init : goal.loop-v-init
loop-v-init c = grind (arith, common_steps)

pub out_of_range-requires : goal.out_of_range-requires
out_of_range-requires c = grind (arith, common_steps)

pub move_on-requires-clause-rows_long : goal.move_on-requires-clause-rows_long
move_on-requires-clause-rows_long c = grind (arith, common_steps)

pub move_on-requires-clause-within : goal.move_on-requires-clause-within
move_on-requires-clause-within c = grind (arith, common_steps)

pub move_on-requires-clause-values_long : goal.move_on-requires-clause-values_long
move_on-requires-clause-values_long c = grind (arith, common_steps)

pub move_on-requires-clause-entering : goal.move_on-requires-clause-entering
move_on-requires-clause-entering c = grind (arith, common_steps)

pub move_on-requires-clause-marked : goal.move_on-requires-clause-marked
move_on-requires-clause-marked c = grind (arith, common_steps)

pub move_on-requires-clause-few : goal.move_on-requires-clause-few
move_on-requires-clause-few c = grind (arith, common_steps)

pub returns-clause-long : goal.returns-clause-long
returns-clause-long c = grind (arith, common_steps)

pub bounds-out-v : goal.bounds-out-v
bounds-out-v c = grind (arith, common_steps)

pub offset_bounds-out-v : goal.offset_bounds-out-v
offset_bounds-out-v c = grind (arith, common_steps)
