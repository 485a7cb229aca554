use Rattle.std.proofs.lemmas.Grind.{common_steps}
use Rattle.std.proofs.Common.{◌≡◌, ◌<◌, ◌∙◌, sym, ap, length, arith}
use Rattle.cip_rational.specs.Rational.{inverse}
use Rattle.cip_problem.specs.Activity.{value_at}
use Rattle.cip_dict.specs.Row.{row_in}
use Rattle.cip_dict.proofs.MoveFaults.{fault_found, then_moves}
use Rattle.cip_dict.proofs.RowLists.{row_read}
use Rattle.cip_dict.proofs.exchange.write_lines.Goals as goal

pub write_solved-requires-clause-pivot : goal.write_solved-requires-clause-pivot
write_solved-requires-clause-pivot c =
    let there : c.args.pivot.now.leaving < length c.args.lists.now.rows.items = omega (arith, c.requires.leaving, c.requires.lists_long.rows.each_one) in
    let is = rw c.as_slice-rows.ensures.value at c.index-rows-pivot.is in
    let r : c.index-rows-pivot.result ≡ row_in c.args.lists.now.rows.items c.args.pivot.now.leaving = row_read c.args.lists.now.rows.items c.args.pivot.now.leaving c.index-rows-pivot.result there is in
    c.requires.pivot ∙ sym (ap (λ row. inverse (value_at row c.args.pivot.now.entering)) r)

pub write_solved-requires-clause-row_long : goal.write_solved-requires-clause-row_long
write_solved-requires-clause-row_long c =
    let there : c.args.pivot.now.leaving < length c.args.lists.now.rows.items = omega (arith, c.requires.leaving, c.requires.lists_long.rows.each_one) in
    let is = rw c.as_slice-rows.ensures.value at c.index-rows-pivot.is in
    let r : c.index-rows-pivot.result ≡ row_in c.args.lists.now.rows.items c.args.pivot.now.leaving = row_read c.args.lists.now.rows.items c.args.pivot.now.leaving c.index-rows-pivot.result there is in
    let long : length (row_in c.args.lists.now.rows.items c.args.pivot.now.leaving) ≡ length c.args.pivot.now.standing.now = grind (arith, common_steps) in
    ap length r ∙ long

pub returns-in-Err-clause-written : goal.returns-in-Err-clause-written
returns-in-Err-clause-written c =
    let there : c.args.pivot.now.leaving < length c.args.lists.now.rows.items = omega (arith, c.requires.leaving, c.requires.lists_long.rows.each_one) in
    let is = rw c.as_slice-rows.ensures.value at c.index-rows-pivot.is in
    let r : c.index-rows-pivot.result ≡ row_in c.args.lists.now.rows.items c.args.pivot.now.leaving = row_read c.args.lists.now.rows.items c.args.pivot.now.leaving c.index-rows-pivot.result there is in
    let h = rw r at c.in-Err.ensures.written in
    fault_found _ _ c.in-Err.fault h

pub returns-clause-written : goal.returns-clause-written
returns-clause-written c =
    let there : c.args.pivot.now.leaving < length c.args.lists.now.rows.items = omega (arith, c.requires.leaving, c.requires.lists_long.rows.each_one) in
    let is = rw c.as_slice-rows.ensures.value at c.index-rows-pivot.is in
    let r : c.index-rows-pivot.result ≡ row_in c.args.lists.now.rows.items c.args.pivot.now.leaving = row_read c.args.lists.now.rows.items c.args.pivot.now.leaving c.index-rows-pivot.result there is in
    let h = rw r at c.in-Ok.ensures.written in
    then_moves _ _ c.write_others.result _ _ h.0 c.write_others.ensures.written
    (λ v p. record { entering = p.entering ∙ h.1; rows = p.rows; changed = p.changed; costs = p.costs })

pub write_others-requires-clause-is_entering : goal.write_others-requires-clause-is_entering
write_others-requires-clause-is_entering c =
    let there : c.args.pivot.now.leaving < length c.args.lists.now.rows.items = omega (arith, c.requires.leaving, c.requires.lists_long.rows.each_one) in
    let is = rw c.as_slice-rows.ensures.value at c.index-rows-pivot.is in
    let r : c.index-rows-pivot.result ≡ row_in c.args.lists.now.rows.items c.args.pivot.now.leaving = row_read c.args.lists.now.rows.items c.args.pivot.now.leaving c.index-rows-pivot.result there is in
    let h = rw r at c.in-Ok.ensures.written in
    h.1

pub write_others-requires-clause-room_long : goal.write_others-requires-clause-room_long
write_others-requires-clause-room_long c = grind (arith, common_steps)

pub write_others-requires-clause-lists_long : goal.write_others-requires-clause-lists_long
write_others-requires-clause-lists_long c = grind (arith, common_steps)

pub write_others-requires-clause-is_spelled : goal.write_others-requires-clause-is_spelled
write_others-requires-clause-is_spelled c = grind (arith, common_steps)

pub returns-in-Err-count_room-clause-long : goal.returns-in-Err-count_room-clause-long
returns-in-Err-count_room-clause-long c = grind (arith, common_steps)

pub returns-clause-long : goal.returns-clause-long
returns-clause-long c = grind (arith, common_steps)

pub returns-in-Err-clause-long : goal.returns-in-Err-clause-long
returns-in-Err-clause-long c = grind (arith, common_steps)

pub write_others-requires-clause-leaving : goal.write_others-requires-clause-leaving
write_others-requires-clause-leaving c = grind (arith, common_steps)

pub write_others-requires-clause-entering : goal.write_others-requires-clause-entering
write_others-requires-clause-entering c = grind (arith, common_steps)

pub write_others-requires-clause-few : goal.write_others-requires-clause-few
write_others-requires-clause-few c = grind (arith, common_steps)

pub write_solved-requires-clause-leaving : goal.write_solved-requires-clause-leaving
write_solved-requires-clause-leaving c = grind (arith, common_steps)

pub write_solved-requires-clause-entering : goal.write_solved-requires-clause-entering
write_solved-requires-clause-entering c = grind (arith, common_steps)

pub write_solved-requires-clause-few : goal.write_solved-requires-clause-few
write_solved-requires-clause-few c = grind (arith, common_steps)

pub bounds-rows-pivot : goal.bounds-rows-pivot
bounds-rows-pivot c = grind (arith, common_steps)

pub offset_bounds-rows-pivot : goal.offset_bounds-rows-pivot
offset_bounds-rows-pivot c = grind (arith, common_steps)

pub write_solved-requires-clause-nonzero : goal.write_solved-requires-clause-nonzero
write_solved-requires-clause-nonzero c = grind (arith, common_steps)
