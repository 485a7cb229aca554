use Rattle.cip_dict.proofs.TakenOver.{rows_after_as, entered_as, values_taken_as}
use Rattle.std.proofs.lemmas.Grind.{common_steps}
use Rattle.std.proofs.Common.{◌∙◌, ap, refl, length, arith, ◌≡◌}
use Rattle.cip_bland.proofs.Tables.{length-table}
use Rattle.cip_dict.specs.Values.{taken_value}
use Rattle.cip_dict.proofs.RowLists.{written_back}
use Rattle.cip_dict.proofs.exchange.take_over.Goals as goal

pub take_over_rows-requires-clause-leaving : goal.take_over_rows-requires-clause-leaving
take_over_rows-requires-clause-leaving c = rw c.as_slice-places.ensures.value c.requires.leaving

pub take_over_rows-requires-clause-entering : goal.take_over_rows-requires-clause-entering
take_over_rows-requires-clause-entering c = rw c.as_slice-places.ensures.value c.requires.entering

pub take_over_rows-requires-clause-basic : goal.take_over_rows-requires-clause-basic
take_over_rows-requires-clause-basic c = rw c.as_slice-places.ensures.value c.requires.basic

pub take_over_rows-requires-clause-nonbasic : goal.take_over_rows-requires-clause-nonbasic
take_over_rows-requires-clause-nonbasic c = rw c.as_slice-places.ensures.value c.requires.nonbasic

pub take_over_rows-requires-clause-marked : goal.take_over_rows-requires-clause-marked
take_over_rows-requires-clause-marked c =
    rw (c.as_slice-places.ensures.value, c.as_mut_slice-rows.ensures.value, c.as_slice-changed.ensures.value) c.requires.marked

pub take_over_rows-requires-clause-rows_long : goal.take_over_rows-requires-clause-rows_long
take_over_rows-requires-clause-rows_long c =
    rw (c.as_slice-places.ensures.value, c.as_mut_slice-rows.ensures.value) c.requires.lists_long.rows

pub take_over_rows-requires-clause-other_long : goal.take_over_rows-requires-clause-other_long
take_over_rows-requires-clause-other_long c =
    rw (c.as_slice-places.ensures.value, c.as_mut_slice-other.ensures.value) c.requires.room_long.rows

pub take_over_rows-requires-clause-entering_long : goal.take_over_rows-requires-clause-entering_long
take_over_rows-requires-clause-entering_long c = rw c.as_slice-places.ensures.value c.requires.room_long.entering

pub take_values-requires-clause-values_long : goal.take_values-requires-clause-values_long
take_values-requires-clause-values_long c =
    rw (c.as_slice-places.ensures.value, c.as_mut_slice-values.ensures.value) c.requires.lists_long.values

pub take_values-requires-clause-other_long : goal.take_values-requires-clause-other_long
take_values-requires-clause-other_long c =
    rw (c.as_slice-places.ensures.value, c.as_slice.ensures.value) c.requires.room_long.values

pub index_mut-requires : goal.index_mut-requires
index_mut-requires c = omega (arith, c.requires.leaving, c.args.standing.now.ok.0)

pub index_mut-requires-2 : goal.index_mut-requires-2
index_mut-requires-2 c = omega (arith, c.requires.entering, c.args.standing.now.ok.0)

pub returns : goal.returns
returns c =
    let rows_long : length c.take_over_rows.new.rows ≡ length c.args.standing.now.items = c.take_over_rows.ensures.rows_long.each_one ∙ ap length c.as_slice-places.ensures.value in
    let other_long : length c.take_over_rows.new.other ≡ length c.args.standing.now.items = c.take_over_rows.ensures.other_long.each_one ∙ ap length c.as_slice-places.ensures.value in
    let rows = written_back c.args.lists.now.rows.len _ c.take_over_rows.new.rows c.args.lists.now.rows.items (omega (arith, c.args.lists.now.rows.ok.0, rows_long, c.requires.lists_long.rows.each_one)) in
    let values = values_taken_as c.as_slice-places.result.now c.args.standing.now.items c.args.asked.leaving c.args.asked.entering c.as_slice-places.ensures.value c.as_mut_slice-values.result.now c.args.lists.now.values.items c.as_slice.result.now c.args.room.now.values.items c.as_mut_slice-values.ensures.value c.as_slice.ensures.value c.take_values.new.values c.take_values.ensures in
    record {
      stands = refl;
      rows = entered_as c.as_slice-places.result.now c.args.standing.now.items c.args.asked.leaving c.args.asked.entering c.as_slice-places.ensures.value c.take_over_rows.new.rows _ c.as_mut_slice-rows.result.now c.args.lists.now.rows.items c.as_mut_slice-other.result.now c.args.room.now.rows.items c.args.room.now.entering rows c.as_mut_slice-rows.ensures.value c.as_mut_slice-other.ensures.value c.take_over_rows.ensures.rows;
      costs = c.swap.ensures.x_after;
      values = written_back c.args.lists.now.values.len _ c.take_values.new.values c.args.lists.now.values.items (omega (arith, c.args.lists.now.values.ok.0, c.requires.lists_long.values, ap length values, length-table (length c.args.standing.now.items) (taken_value c.args.standing.now.items c.args.asked.entering c.args.lists.now.values.items c.args.room.now.values.items))) ∙ values;
      cost_is = refl;
      long = rows_after_as c.as_slice-places.result.now c.args.standing.now.items c.args.asked.leaving c.args.asked.entering c.as_slice-places.ensures.value _ c.take_over_rows.new.rows rows c.take_over_rows.ensures.rows_long;
      rest_long = rows_after_as c.as_slice-places.result.now c.args.standing.now.items c.args.asked.leaving c.args.asked.entering c.as_slice-places.ensures.value _ c.take_over_rows.new.other (written_back c.args.room.now.rows.len _ c.take_over_rows.new.other c.args.room.now.rows.items (omega (arith, c.args.room.now.rows.ok.0, other_long, c.requires.room_long.rows.each_one))) c.take_over_rows.ensures.other_long;
      rest_entering = c.take_over_rows.ensures.entering_long ∙ ap length c.as_slice-places.ensures.value;
      rest_changed = c.requires.room_long.changed;
      rest_costs = c.swap.ensures.y_after;
      rest_values = c.requires.room_long.values;
    }

pub overflow_cast-asked-2 : goal.overflow_cast-asked-2
overflow_cast-asked-2 c = grind (arith, common_steps)

pub overflow_cast-asked : goal.overflow_cast-asked
overflow_cast-asked c = grind (arith, common_steps)

pub way_back_following-room : goal.way_back_following-room
way_back_following-room c = grind (arith, common_steps)

pub way_back_following-lists : goal.way_back_following-lists
way_back_following-lists c = grind (arith, common_steps)

pub way_back_following-lists-2 : goal.way_back_following-lists-2
way_back_following-lists-2 c = grind (arith, common_steps)
