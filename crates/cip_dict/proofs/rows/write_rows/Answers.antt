use Rattle.cip_dict.specs.Pivots.{form_operations_by, written_by, changes_by}
use Rattle.cip_bland.specs.Operations.{first_overflow}
use Rattle.cip_problem.specs.Activity.{value_at}
use Rattle.cip_rational.specs.Rational.{ℚ}
use Rattle.cip_dict.proofs.Chains.{both_as}
use Rattle.std.proofs.lemmas.Grind.{common_steps}
use Rattle.std.proofs.Common.{arith, length, ◌<◌, ◌≡◌, [], get_or, false, length-set, ◌∙◌, ap, sym, subst, List, None}
use Rattle.std.proofs.lemmas.List.{get_or-set_other}
use Rattle.cip_bland.proofs.Overflow.{first_more}
use Rattle.cip_dict.specs.Row.{row_in}
use Rattle.cip_dict.proofs.Loops.{written_more, loop_end}
use Rattle.cip_dict.proofs.MoveFaults.{fault_at}
use Rattle.cip_dict.proofs.RowLists.{row_read, HasRows-set}
use Rattle.cip_dict.proofs.rows.write_rows.Goals as goal

pub returns-in-Err-clause-written : goal.returns-in-Err-clause-written
returns-in-Err-clause-written c =
    let r : c.index-rows-v.result ≡ row_in c.args.rows.now c.loop-v.v = row_read c.args.rows.now c.loop-v.v c.index-rows-v.result (omega (arith, c.requires.rows_long.each_one)) c.index-rows-v.is in
    fault_at (length c.args.pivot.now.standing.now) c.loop-v.v _ c.in-Err.fault c.loop-v-test.true c.loop-v.invariant.fits (rw r at c.in-Err.ensures.written)

pub loop-v-preserved : goal.loop-v-preserved
loop-v-preserved c =
    let r : c.index-rows-v.result ≡ row_in c.args.rows.now c.loop-v.v = row_read c.args.rows.now c.loop-v.v c.index-rows-v.result (omega (arith, c.requires.rows_long.each_one)) c.index-rows-v.is in
    let within : c.loop-v.v < length c.loop-v.out = omega (arith, c.loop-v.invariant.long.each_one) in
    let here : c.index-out-v.result ≡ row_in c.loop-v.out c.loop-v.v = row_read c.loop-v.out c.loop-v.v c.index-out-v.result within c.index-out-v.is in
    let o : get_or c.loop-v.out c.loop-v.v c.index-out-v.result ≡ row_in c.args.out.now c.loop-v.v = sym c.index-out-v.is ∙ here ∙ c.loop-v.invariant.rest c.loop-v.v (omega arith) in
    record {
      fits = first_more c.loop-v.v _ c.loop-v.invariant.fits (subst (λ (row : List ℚ). first_overflow (form_operations_by c.args.pivot.now (value_at c.args.new.now) c.loop-v.v row) ≡ None) r c.in-Ok.ensures.written.0);
      written = written_more _ c.loop-v.out c.loop-v.v c.write_row.new.out [] within c.loop-v.invariant.written (both_as (λ (row out : List ℚ). c.write_row.new.out ≡ written_by c.args.pivot.now (value_at c.args.new.now) c.loop-v.v row out) _ _ _ _ r o c.in-Ok.ensures.written.1);
      rest = λ m l. get_or-set_other c.loop-v.out c.loop-v.v m c.write_row.new.out [] (λ (e : m ≡ c.loop-v.v). omega (arith, l, e)) ∙ c.loop-v.invariant.rest m (omega (arith, l));
      long = HasRows-set c.args.pivot.now.standing.now c.loop-v.out c.loop-v.v c.write_row.new.out c.loop-v.invariant.long (c.in-Ok.ensures.long ∙ ap length (sym c.index-out-v.is ∙ here)) within;
      marked = written_more _ c.loop-v.changed c.loop-v.v c.in-Ok.changes false (omega (arith, c.loop-v.invariant.changed_long, c.requires.changed_long)) c.loop-v.invariant.marked (subst (λ (row : List ℚ). c.in-Ok.changes ≡ changes_by c.args.pivot.now c.loop-v.v row) r c.in-Ok.ensures.marked);
      changed_long = length-set c.loop-v.changed c.loop-v.v c.in-Ok.changes ∙ c.loop-v.invariant.changed_long;
      spelled = c.in-Ok.ensures.spelled;
    }

pub returns-clause-written : goal.returns-clause-written
returns-clause-written c = loop_end (length c.args.pivot.now.standing.now) c.loop-v.v _ _ c.loop-v.out [] (omega arith) (omega arith) (c.loop-v.invariant.long.each_one) c.loop-v.invariant.fits c.loop-v.invariant.written

pub returns-clause-marked : goal.returns-clause-marked
returns-clause-marked c = record {
  each_one = c.loop-v.invariant.changed_long ∙ c.requires.changed_long;
  changes = λ v l. c.loop-v.invariant.marked v (omega (arith, l));
}

pub write_row-requires-clause-few : goal.write_row-requires-clause-few
write_row-requires-clause-few c = c.requires.few

pub write_row-requires-clause-entering : goal.write_row-requires-clause-entering
write_row-requires-clause-entering c = c.requires.entering

pub write_row-requires-clause-leaving : goal.write_row-requires-clause-leaving
write_row-requires-clause-leaving c = c.requires.leaving

pub write_row-requires-clause-new_long : goal.write_row-requires-clause-new_long
write_row-requires-clause-new_long c = c.requires.new_long

pub write_row-requires-clause-is_leaving : goal.write_row-requires-clause-is_leaving
write_row-requires-clause-is_leaving c = c.requires.is_leaving

pub bounds-changed-v : goal.bounds-changed-v
bounds-changed-v c = omega arith

pub write_row-requires-clause-out_long : goal.write_row-requires-clause-out_long
write_row-requires-clause-out_long c = grind (arith, common_steps)

pub write_row-requires-clause-row_long : goal.write_row-requires-clause-row_long
write_row-requires-clause-row_long c = grind (arith, common_steps)

pub loop-v-init : goal.loop-v-init
loop-v-init c = grind (arith, common_steps)

pub returns-in-Err-clause-changed_long : goal.returns-in-Err-clause-changed_long
returns-in-Err-clause-changed_long c = grind (arith, common_steps)

pub returns-in-Err-clause-spelled : goal.returns-in-Err-clause-spelled
returns-in-Err-clause-spelled c = grind (arith, common_steps)

pub returns-clause-long : goal.returns-clause-long
returns-clause-long c = grind (arith, common_steps)

pub write_row-requires-clause-within : goal.write_row-requires-clause-within
write_row-requires-clause-within c = grind (arith, common_steps)

pub write_row-requires-clause-new_spelled : goal.write_row-requires-clause-new_spelled
write_row-requires-clause-new_spelled c = grind (arith, common_steps)

pub bounds-out-v : goal.bounds-out-v
bounds-out-v c = grind (arith, common_steps)

pub returns-clause-changed_long : goal.returns-clause-changed_long
returns-clause-changed_long c = grind (arith, common_steps)

pub bounds-rows-v : goal.bounds-rows-v
bounds-rows-v c = grind (arith, common_steps)

pub offset_bounds-out-v : goal.offset_bounds-out-v
offset_bounds-out-v c = grind (arith, common_steps)

pub returns-clause-spelled : goal.returns-clause-spelled
returns-clause-spelled c = grind (arith, common_steps)

pub offset_bounds-rows-v : goal.offset_bounds-rows-v
offset_bounds-rows-v c = grind (arith, common_steps)

pub returns-in-Err-clause-marked : goal.returns-in-Err-clause-marked
returns-in-Err-clause-marked c = grind (arith, common_steps)

pub returns-in-Err-clause-long : goal.returns-in-Err-clause-long
returns-in-Err-clause-long c =
    let within : c.loop-v.v < length c.loop-v.out = omega (arith, c.loop-v.invariant.long.each_one) in
    let here : c.index-out-v.result ≡ row_in c.loop-v.out c.loop-v.v = row_read c.loop-v.out c.loop-v.v c.index-out-v.result within c.index-out-v.is in
    HasRows-set c.args.pivot.now.standing.now c.loop-v.out c.loop-v.v c.write_row.new.out c.loop-v.invariant.long (c.in-Err.ensures.long ∙ ap length (sym c.index-out-v.is ∙ here)) within
