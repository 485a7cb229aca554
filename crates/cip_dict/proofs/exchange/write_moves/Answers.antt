use Rattle.cip_bland.specs.declared.places.Line.TheVariants.{Cost}
use Rattle.cip_bland.specs.Operations.{first_overflow, value_place}
use Rattle.cip_dict.proofs.LineEntries.{sum_as}
use Rattle.std.proofs.lemmas.Grind.{common_steps}
use Rattle.std.proofs.Common.{◌≡◌, ◌∙◌, ap, length, refl, arith, List, None}
use Rattle.cip_rational.specs.Rational.{◌+ℚ◌, ◌*ℚ◌, ℚ}
use Rattle.cip_problem.specs.Activity.{value_at}
use Rattle.cip_bland.proofs.Overflow.{overflow-found}
use Rattle.cip_bland.specs.Tables.{table, each}
use Rattle.cip_dict.specs.Values.{taken_value, moved_operations_in, moved_in}
use Rattle.cip_dict.proofs.Chains.{then_rest, both_as}
use Rattle.cip_dict.proofs.RowLists.{written_back}
use Rattle.cip_dict.proofs.exchange.write_moves.Goals as goal

pub returns-in-Err-clause-long : goal.returns-in-Err-clause-long
returns-in-Err-clause-long c =
    let values = c.in-Err.ensures.long ∙ ap length c.as_mut_slice.ensures.value in
    record {
      entering = c.requires.room_long.entering;
      rows = c.requires.room_long.rows;
      changed = c.requires.room_long.changed;
      costs = c.requires.room_long.costs;
      values = ap length (written_back c.args.room.now.values.len _ c.write_moved.new.out c.args.room.now.values.items (omega (arith, c.args.room.now.values.ok.0, values))) ∙ values ∙ c.requires.room_long.values;
    }

pub returns-clause-long : goal.returns-clause-long
returns-clause-long c =
    let values = c.in-Ok.ensures.long ∙ ap length c.as_mut_slice.ensures.value in
    record {
      entering = c.requires.room_long.entering;
      rows = c.requires.room_long.rows;
      changed = c.requires.room_long.changed;
      costs = c.requires.room_long.costs;
      values = ap length (written_back c.args.room.now.values.len _ c.write_moved.new.out c.args.room.now.values.items (omega (arith, c.args.room.now.values.ok.0, values))) ∙ values ∙ c.requires.room_long.values;
    }

pub returns-in-Err-clause-written : goal.returns-in-Err-clause-written
returns-in-Err-clause-written c =
    let h = rw (c.as_slice.ensures.value, c.as_slice-2.ensures.value) at c.in-Err.ensures.written in
    overflow-found _ _ c.in-Err.fault.place h

pub returns-clause-written : goal.returns-clause-written
returns-clause-written c =
    let h = both_as (λ (rows : List (List ℚ)) (values : List ℚ). (first_overflow (each (length c.args.pivot.now.standing.now) (moved_operations_in c.args.pivot.now.standing.now rows c.args.pivot.now.entering c.args.t values)) ≡ None) × (table (length c.args.pivot.now.standing.now) (taken_value c.args.pivot.now.standing.now c.args.pivot.now.entering values c.write_moved.new.out) ≡ table (length c.args.pivot.now.standing.now) (moved_in c.args.pivot.now.standing.now rows c.args.pivot.now.entering c.args.t values))) c.as_slice.result.now c.args.lists.now.rows.items c.as_slice-2.result.now c.args.lists.now.values.items c.as_slice.ensures.value c.as_slice-2.ensures.value c.in-Ok.ensures.written in
    let e = c.entry-entry.ensures in
    let last = sum_as c.sum.result (value_place Cost) c.value_of.result c.args.lists.now.cost (value_at c.args.lists.now.costs c.args.pivot.now.entering) c.entry-entry.result c.args.t c.args.t c.value_of.ensures e refl c.sum.ensures in
    then_rest _ _ c.sum.result (λ v. v ≡ c.args.lists.now.cost +ℚ value_at c.args.lists.now.costs c.args.pivot.now.entering *ℚ c.args.t) _ h.0 last
    (λ v p. record {
      entering = refl;
      rows = refl;
      changed = refl;
      costs = refl;
      values = ap (λ xs. table (length c.args.pivot.now.standing.now) (taken_value c.args.pivot.now.standing.now c.args.pivot.now.entering c.args.lists.now.values.items xs)) (written_back c.args.room.now.values.len _ c.write_moved.new.out c.args.room.now.values.items (omega (arith, c.args.room.now.values.ok.0, c.in-Ok.ensures.long, ap length c.as_mut_slice.ensures.value))) ∙ h.1;
      cost_is = p;
    })

pub write_moved-requires-clause-rows_long : goal.write_moved-requires-clause-rows_long
write_moved-requires-clause-rows_long c = grind (arith, common_steps)

pub write_moved-requires-clause-values_long : goal.write_moved-requires-clause-values_long
write_moved-requires-clause-values_long c = grind (arith, common_steps)

pub entry-entry-requires : goal.entry-entry-requires
entry-entry-requires c = grind (arith, common_steps)

pub write_moved-requires-clause-entering : goal.write_moved-requires-clause-entering
write_moved-requires-clause-entering c = grind (arith, common_steps)

pub write_moved-requires-clause-out_long : goal.write_moved-requires-clause-out_long
write_moved-requires-clause-out_long c = grind (arith, common_steps)

pub write_moved-requires-clause-marked : goal.write_moved-requires-clause-marked
write_moved-requires-clause-marked c = grind (arith, common_steps)

pub write_moved-requires-clause-few : goal.write_moved-requires-clause-few
write_moved-requires-clause-few c = grind (arith, common_steps)
