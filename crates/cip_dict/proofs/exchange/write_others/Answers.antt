use Rattle.cip_dict.specs.Pivots.{form_operations_by, written_by}
use Rattle.cip_bland.specs.Tables.{each, table}
use Rattle.cip_rational.specs.Rational.{ℚ}
use Rattle.std.proofs.lemmas.Grind.{common_steps}
use Rattle.std.proofs.Common.{◌∙◌, sym, ap, length, refl, arith, subst, List, ◌≡◌, None}
use Rattle.cip_problem.specs.Activity.{value_at}
use Rattle.cip_bland.specs.Operations.{first_overflow}
use Rattle.cip_bland.specs.declared.places.Line.TheVariants.{Cost}
use Rattle.cip_dict.specs.Lists.{basic_in, entry_in}
use Rattle.cip_dict.specs.Row.{row_in, HasRows, AreMarked}
use Rattle.cip_dict.specs.Written.{entering_in}
use Rattle.cip_dict.proofs.Chains.{form_operations_new, written_new, line_new, leaving_entry, both_as}
use Rattle.cip_dict.proofs.MoveFaults.{fault_found, fault_same, then_moves}
use Rattle.cip_dict.proofs.RowLists.{written_back}
use Rattle.cip_dict.proofs.exchange.write_others.Goals as goal

pub write_rows-requires-clause-is_leaving : goal.write_rows-requires-clause-is_leaving
write_rows-requires-clause-is_leaving c =
    leaving_entry (length c.args.pivot.now.standing.now) (basic_in c.args.pivot.now.standing.now) c.args.pivot.now.leaving c.args.pivot.now.entering c.args.pivot.now.inverse (entry_in c.args.lists.now.rows.items c.args.pivot.now.leaving) c.args.room.now.entering c.requires.is_entering c.requires.leaving

pub write_rows-requires-clause-rows_long : goal.write_rows-requires-clause-rows_long
write_rows-requires-clause-rows_long c = rw c.as_slice-rows.ensures.value c.requires.lists_long.rows

pub write_rows-requires-clause-out_long : goal.write_rows-requires-clause-out_long
write_rows-requires-clause-out_long c = rw c.as_mut_slice-others.ensures.value c.requires.room_long.rows

pub write_rows-requires-clause-changed_long : goal.write_rows-requires-clause-changed_long
write_rows-requires-clause-changed_long c = ap length c.as_mut_slice-changed.ensures.value ∙ c.requires.room_long.changed

pub returns-in-Err-clause-long : goal.returns-in-Err-clause-long
returns-in-Err-clause-long c =
    let rows = c.in-Err.ensures.long in
    let changed = c.in-Err.ensures.changed_long ∙ ap length c.as_mut_slice-changed.ensures.value ∙ c.requires.room_long.changed in
    record {
      entering = c.requires.room_long.entering;
      rows = subst (λ (rs : List (List ℚ)). HasRows c.args.pivot.now.standing.now rs) (sym (written_back c.args.room.now.rows.len _ c.write_rows.new.out c.args.room.now.rows.items (omega (arith, c.args.room.now.rows.ok.0, rows.each_one, c.requires.room_long.rows.each_one)))) rows;
      changed = ap length (written_back c.args.room.now.changed.len _ c.write_rows.new.changed c.args.room.now.changed.items (omega (arith, c.args.room.now.changed.ok.0, changed, c.requires.room_long.changed))) ∙ changed;
      costs = c.requires.room_long.costs;
      values = c.requires.room_long.values;
    }

pub returns-clause-long : goal.returns-clause-long
returns-clause-long c =
    let rows = c.in-Ok.ensures.long in
    let changed = c.in-Ok.ensures.changed_long ∙ ap length c.as_mut_slice-changed.ensures.value ∙ c.requires.room_long.changed in
    record {
      entering = c.requires.room_long.entering;
      rows = subst (λ (rs : List (List ℚ)). HasRows c.args.pivot.now.standing.now rs) (sym (written_back c.args.room.now.rows.len _ c.write_rows.new.out c.args.room.now.rows.items (omega (arith, c.args.room.now.rows.ok.0, rows.each_one, c.requires.room_long.rows.each_one)))) rows;
      changed = ap length (written_back c.args.room.now.changed.len _ c.write_rows.new.changed c.args.room.now.changed.items (omega (arith, c.args.room.now.changed.ok.0, changed, c.requires.room_long.changed))) ∙ changed;
      costs = c.write_costs.ensures.long;
      values = c.requires.room_long.values;
    }

pub returns-in-Err-clause-written : goal.returns-in-Err-clause-written
returns-in-Err-clause-written c =
    let h = rw c.as_slice-rows.ensures.value at c.in-Err.ensures.written in
    fault_found _ _ c.in-Err.fault (fault_same _ _ c.in-Err.fault (ap first_overflow (sym (form_operations_new c.args.pivot.now.standing.now c.args.pivot.now.leaving c.args.pivot.now.entering c.args.pivot.now.inverse c.args.room.now.entering _ c.requires.is_entering (row_in c.args.lists.now.rows.items)))) h)

pub returns-clause-written : goal.returns-clause-written
returns-clause-written c =
    let rows = both_as (λ (rows others : List (List ℚ)). (first_overflow (each (length c.args.pivot.now.standing.now) (λ v. form_operations_by c.args.pivot.now (value_at c.args.room.now.entering) v (row_in rows v))) ≡ None) × (c.write_rows.new.out ≡ table (length c.args.pivot.now.standing.now) (λ v. written_by c.args.pivot.now (value_at c.args.room.now.entering) v (row_in rows v) (row_in others v)))) c.as_slice-rows.result.now c.args.lists.now.rows.items c.as_mut_slice-others.result.now c.args.room.now.rows.items c.as_slice-rows.ensures.value c.as_mut_slice-others.ensures.value c.in-Ok.ensures.written in
    let line = line_new (length c.args.pivot.now.standing.now) c.args.room.now.entering (entering_in c.args.pivot.now.standing.now c.args.pivot.now.leaving c.args.pivot.now.entering c.args.pivot.now.inverse c.args.lists.now) c.requires.is_entering Cost (basic_in c.args.pivot.now.standing.now) c.args.pivot.now.leaving c.args.pivot.now.entering c.args.pivot.now.inverse (value_at c.args.lists.now.costs) c.write_costs.new.out c.write_costs.result c.write_costs.ensures.written in
    then_moves _ _ c.write_costs.result _ _
    (ap first_overflow (sym (form_operations_new c.args.pivot.now.standing.now c.args.pivot.now.leaving c.args.pivot.now.entering c.args.pivot.now.inverse c.args.room.now.entering _ c.requires.is_entering (row_in c.args.lists.now.rows.items))) ∙ rows.0) line
    (λ v p. record {
      entering = refl;
      rows = written_back c.args.room.now.rows.len _ c.write_rows.new.out c.args.room.now.rows.items (omega (arith, c.args.room.now.rows.ok.0, c.in-Ok.ensures.long.each_one, c.requires.room_long.rows.each_one)) ∙ rows.1 ∙ written_new c.args.pivot.now.standing.now c.args.pivot.now.leaving c.args.pivot.now.entering c.args.pivot.now.inverse c.args.room.now.entering _ c.requires.is_entering (row_in c.args.lists.now.rows.items) (row_in c.args.room.now.rows.items);
      changed = both_as (AreMarked c.args.pivot.now.standing.now c.args.pivot.now.leaving c.args.pivot.now.entering) c.as_slice-rows.result.now c.args.lists.now.rows.items c.write_rows.new.changed _ c.as_slice-rows.ensures.value (sym (written_back c.args.room.now.changed.len _ c.write_rows.new.changed c.args.room.now.changed.items (omega (arith, c.args.room.now.changed.ok.0, c.in-Ok.ensures.changed_long, c.requires.room_long.changed)))) c.in-Ok.ensures.marked;
      costs = p;
    })

pub write_costs-requires-clause-is_leaving : goal.write_costs-requires-clause-is_leaving
write_costs-requires-clause-is_leaving c =
    leaving_entry (length c.args.pivot.now.standing.now) (basic_in c.args.pivot.now.standing.now) c.args.pivot.now.leaving c.args.pivot.now.entering c.args.pivot.now.inverse (entry_in c.args.lists.now.rows.items c.args.pivot.now.leaving) c.args.room.now.entering c.requires.is_entering c.requires.leaving

pub write_costs-requires-clause-costs_long : goal.write_costs-requires-clause-costs_long
write_costs-requires-clause-costs_long c = omega arith

pub write_costs-requires-clause-new_long : goal.write_costs-requires-clause-new_long
write_costs-requires-clause-new_long c = omega arith

pub write_costs-requires-clause-entering : goal.write_costs-requires-clause-entering
write_costs-requires-clause-entering c = grind (arith, common_steps)

pub write_costs-requires-clause-leaving : goal.write_costs-requires-clause-leaving
write_costs-requires-clause-leaving c = grind (arith, common_steps)

pub write_rows-requires-clause-new_long : goal.write_rows-requires-clause-new_long
write_rows-requires-clause-new_long c = grind (arith, common_steps)

pub write_costs-requires-clause-few : goal.write_costs-requires-clause-few
write_costs-requires-clause-few c = grind (arith, common_steps)

pub write_costs-requires-clause-new_spelled : goal.write_costs-requires-clause-new_spelled
write_costs-requires-clause-new_spelled c = grind (arith, common_steps)

pub write_rows-requires-clause-entering : goal.write_rows-requires-clause-entering
write_rows-requires-clause-entering c = grind (arith, common_steps)

pub write_rows-requires-clause-leaving : goal.write_rows-requires-clause-leaving
write_rows-requires-clause-leaving c = grind (arith, common_steps)

pub write_rows-requires-clause-few : goal.write_rows-requires-clause-few
write_rows-requires-clause-few c = grind (arith, common_steps)

pub write_rows-requires-clause-new_spelled : goal.write_rows-requires-clause-new_spelled
write_rows-requires-clause-new_spelled c = grind (arith, common_steps)

pub way_back_beside_following-room-2 : goal.way_back_beside_following-room-2
way_back_beside_following-room-2 c = grind (arith, common_steps)

pub way_back_beside_following-room : goal.way_back_beside_following-room
way_back_beside_following-room c = grind (arith, common_steps)
