use Rattle.cip_dict.specs.MoveFaults.{IsMoveFault}
use Rattle.cip_dict.specs.Written.{lines_operations, LinesWritten}
use Rattle.std.proofs.lemmas.Grind.{common_steps}
use Rattle.std.proofs.Common.{◌≡◌, ◌∙◌, sym, ap, arith, subst, None}
use Rattle.cip_rational.specs.Rational.{inverse, ℚ}
use Rattle.cip_rational.proofs.Rational.Inverse.{inverse_nonzero}
use Rattle.cip_problem.specs.Activity.{value_at}
use Rattle.cip_problem.specs.Box.{sides_at}
use Rattle.cip_bland.specs.Dictionary.{standing_value}
use Rattle.cip_bland.proofs.Zeros.{is_zero_false}
use Rattle.cip_bland.specs.Exchange.{pivot}
use Rattle.cip_bland.specs.Operations.{first_overflow}
use Rattle.cip_bland.proofs.Overflow.{overflow-append}
use Rattle.cip_dict.specs.Lists.{entry_in}
use Rattle.cip_dict.specs.Row.{row_in}
use Rattle.cip_dict.specs.State.{state}
use Rattle.cip_dict.proofs.RowLists.{row_read_in}
use Rattle.cip_dict.proofs.MoveFaults.{fault_found, fault_same}
use Rattle.cip_dict.proofs.Exchanged.{exchange_split, planned, values_as, values_fault_as}
use Rattle.cip_dict.proofs.exchange.plan.Goals as goal

pub returns-in-Err-clause-written : goal.returns-in-Err-clause-written
returns-in-Err-clause-written c =
    let is : c.index-rows-asked.result ≡ row_in c.args.lists.now.rows.items c.args.asked.leaving = row_read_in c.as_slice-rows.result.now c.args.lists.now.rows.items c.args.asked.leaving c.index-rows-asked.result c.as_slice-rows.ensures.value (omega (arith, c.requires.can.leaving, c.requires.sides_long, c.requires.lists_long.rows.each_one)) c.index-rows-asked.is in
    let entry : c.entry-entry.result ≡ entry_in c.args.lists.now.rows.items c.args.asked.leaving c.args.asked.entering = c.entry-entry.ensures ∙ ap (λ r. value_at r c.args.asked.entering) is in
    let q : c.reciprocal.result ≡ pivot (state c.args.sides.now c.args.standing.now c.args.lists.now) c.args.asked.leaving c.args.asked.entering = c.reciprocal.ensures ∙ ap inverse entry in
    let h = subst (λ (x : ℚ). IsMoveFault (lines_operations c.args.standing.now c.args.asked.leaving c.args.asked.entering x c.args.lists.now) c.in-Err.fault) q c.in-Err.ensures.written in
    fault_same _ _ c.in-Err.fault (ap first_overflow (exchange_split c.args.sides.now c.args.standing.now c.args.lists.now c.args.asked.leaving c.args.asked.entering c.args.asked.to c.requires.sides_long))
    (fault_found _ _ c.in-Err.fault h)

pub returns-in-Ok-write_values-clause-written : goal.returns-in-Ok-write_values-clause-written
returns-in-Ok-write_values-clause-written c =
    let is : c.index-rows-asked.result ≡ row_in c.args.lists.now.rows.items c.args.asked.leaving = row_read_in c.as_slice-rows.result.now c.args.lists.now.rows.items c.args.asked.leaving c.index-rows-asked.result c.as_slice-rows.ensures.value (omega (arith, c.requires.can.leaving, c.requires.sides_long, c.requires.lists_long.rows.each_one)) c.index-rows-asked.is in
    let entry : c.entry-entry.result ≡ entry_in c.args.lists.now.rows.items c.args.asked.leaving c.args.asked.entering = c.entry-entry.ensures ∙ ap (λ r. value_at r c.args.asked.entering) is in
    let q : c.reciprocal.result ≡ pivot (state c.args.sides.now c.args.standing.now c.args.lists.now) c.args.asked.leaving c.args.asked.entering = c.reciprocal.ensures ∙ ap inverse entry in
    let h = subst (λ (x : ℚ). (first_overflow (lines_operations c.args.standing.now c.args.asked.leaving c.args.asked.entering x c.args.lists.now) ≡ None) × LinesWritten c.args.standing.now c.args.asked.leaving c.args.asked.entering x c.args.lists.now c.args.room.now c.write_lines.new.room) q c.in-Ok.ensures.written in
    let last = values_as c.args.standing.now c.args.asked.leaving c.args.asked.entering (standing_value (sides_at c.args.sides.now c.args.asked.leaving) c.args.asked.to) c.side_of-side.result (pivot (state c.args.sides.now c.args.standing.now c.args.lists.now) c.args.asked.leaving c.args.asked.entering) c.reciprocal.result c.args.lists.now c.write_lines.new.room c.write_values.new.room c.in-Ok-write_values.cost c.side_of-side.ensures q c.in-Ok-write_values.ensures.written in (
      ap first_overflow (exchange_split c.args.sides.now c.args.standing.now c.args.lists.now c.args.asked.leaving c.args.asked.entering c.args.asked.to c.requires.sides_long) ∙ overflow-append _ _ h.0 ∙ last.0,
      planned c.args.sides.now c.args.standing.now c.args.lists.now c.args.asked.leaving c.args.asked.entering c.args.asked.to _ c.write_lines.new.room c.write_values.new.room c.in-Ok-write_values.cost c.requires.sides_long h.1 last.1,
    )

pub returns-in-Err-write_values-clause-written : goal.returns-in-Err-write_values-clause-written
returns-in-Err-write_values-clause-written c =
    let is : c.index-rows-asked.result ≡ row_in c.args.lists.now.rows.items c.args.asked.leaving = row_read_in c.as_slice-rows.result.now c.args.lists.now.rows.items c.args.asked.leaving c.index-rows-asked.result c.as_slice-rows.ensures.value (omega (arith, c.requires.can.leaving, c.requires.sides_long, c.requires.lists_long.rows.each_one)) c.index-rows-asked.is in
    let entry : c.entry-entry.result ≡ entry_in c.args.lists.now.rows.items c.args.asked.leaving c.args.asked.entering = c.entry-entry.ensures ∙ ap (λ r. value_at r c.args.asked.entering) is in
    let q : c.reciprocal.result ≡ pivot (state c.args.sides.now c.args.standing.now c.args.lists.now) c.args.asked.leaving c.args.asked.entering = c.reciprocal.ensures ∙ ap inverse entry in
    let h = subst (λ (x : ℚ). (first_overflow (lines_operations c.args.standing.now c.args.asked.leaving c.args.asked.entering x c.args.lists.now) ≡ None) × LinesWritten c.args.standing.now c.args.asked.leaving c.args.asked.entering x c.args.lists.now c.args.room.now c.write_lines.new.room) q c.in-Ok.ensures.written in
    let last = values_fault_as c.args.standing.now c.args.asked.leaving c.args.asked.entering (standing_value (sides_at c.args.sides.now c.args.asked.leaving) c.args.asked.to) c.side_of-side.result (pivot (state c.args.sides.now c.args.standing.now c.args.lists.now) c.args.asked.leaving c.args.asked.entering) c.reciprocal.result c.args.lists.now c.in-Err-write_values.fault.place c.side_of-side.ensures q c.in-Err-write_values.ensures.written in
    ap first_overflow (exchange_split c.args.sides.now c.args.standing.now c.args.lists.now c.args.asked.leaving c.args.asked.entering c.args.asked.to c.requires.sides_long) ∙ overflow-append _ _ h.0 ∙ last

pub reciprocal-requires : goal.reciprocal-requires
reciprocal-requires c =
    let is : c.index-rows-asked.result ≡ row_in c.args.lists.now.rows.items c.args.asked.leaving = row_read_in c.as_slice-rows.result.now c.args.lists.now.rows.items c.args.asked.leaving c.index-rows-asked.result c.as_slice-rows.ensures.value (omega (arith, c.requires.can.leaving, c.requires.sides_long, c.requires.lists_long.rows.each_one)) c.index-rows-asked.is in
    let entry : c.entry-entry.result ≡ entry_in c.args.lists.now.rows.items c.args.asked.leaving c.args.asked.entering = c.entry-entry.ensures ∙ ap (λ r. value_at r c.args.asked.entering) is in
    rw entry c.requires.can.nonzero

pub write_lines-requires-clause-few : goal.write_lines-requires-clause-few
write_lines-requires-clause-few c = c.requires.few

pub write_lines-requires-clause-leaving : goal.write_lines-requires-clause-leaving
write_lines-requires-clause-leaving c = omega (arith, c.requires.can.leaving, c.requires.sides_long)

pub write_lines-requires-clause-basic : goal.write_lines-requires-clause-basic
write_lines-requires-clause-basic c = c.requires.can.basic

pub write_lines-requires-clause-nonzero : goal.write_lines-requires-clause-nonzero
write_lines-requires-clause-nonzero c =
    let is : c.index-rows-asked.result ≡ row_in c.args.lists.now.rows.items c.args.asked.leaving = row_read_in c.as_slice-rows.result.now c.args.lists.now.rows.items c.args.asked.leaving c.index-rows-asked.result c.as_slice-rows.ensures.value (omega (arith, c.requires.can.leaving, c.requires.sides_long, c.requires.lists_long.rows.each_one)) c.index-rows-asked.is in
    let entry : c.entry-entry.result ≡ entry_in c.args.lists.now.rows.items c.args.asked.leaving c.args.asked.entering = c.entry-entry.ensures ∙ ap (λ r. value_at r c.args.asked.entering) is in
    let q : c.reciprocal.result ≡ inverse (entry_in c.args.lists.now.rows.items c.args.asked.leaving c.args.asked.entering) = c.reciprocal.ensures ∙ ap inverse entry in
    is_zero_false c.reciprocal.result (λ z. inverse_nonzero (entry_in c.args.lists.now.rows.items c.args.asked.leaving c.args.asked.entering) c.requires.can.nonzero (sym q ∙ z))

pub write_lines-requires-clause-pivot : goal.write_lines-requires-clause-pivot
write_lines-requires-clause-pivot c =
    let is : c.index-rows-asked.result ≡ row_in c.args.lists.now.rows.items c.args.asked.leaving = row_read_in c.as_slice-rows.result.now c.args.lists.now.rows.items c.args.asked.leaving c.index-rows-asked.result c.as_slice-rows.ensures.value (omega (arith, c.requires.can.leaving, c.requires.sides_long, c.requires.lists_long.rows.each_one)) c.index-rows-asked.is in
    let entry : c.entry-entry.result ≡ entry_in c.args.lists.now.rows.items c.args.asked.leaving c.args.asked.entering = c.entry-entry.ensures ∙ ap (λ r. value_at r c.args.asked.entering) is in
    c.reciprocal.ensures ∙ ap inverse entry

pub write_lines-requires-clause-entering : goal.write_lines-requires-clause-entering
write_lines-requires-clause-entering c = omega (arith, c.requires.can.entering, c.requires.sides_long)

pub write_lines-requires-clause-lists_long : goal.write_lines-requires-clause-lists_long
write_lines-requires-clause-lists_long c = c.requires.lists_long

pub write_lines-requires-clause-room_long : goal.write_lines-requires-clause-room_long
write_lines-requires-clause-room_long c = c.requires.room_long

pub returns-in-Err-clause-long : goal.returns-in-Err-clause-long
returns-in-Err-clause-long c = c.write_lines.ensures.long

pub side_of-side-requires : goal.side_of-side-requires
side_of-side-requires c = c.requires.can.leaving

pub write_values-requires-clause-few : goal.write_values-requires-clause-few
write_values-requires-clause-few c = c.requires.few

pub write_values-requires-clause-leaving : goal.write_values-requires-clause-leaving
write_values-requires-clause-leaving c = omega (arith, c.requires.can.leaving, c.requires.sides_long)

pub write_values-requires-clause-entering : goal.write_values-requires-clause-entering
write_values-requires-clause-entering c = omega (arith, c.requires.can.entering, c.requires.sides_long)

pub write_values-requires-clause-lists_long : goal.write_values-requires-clause-lists_long
write_values-requires-clause-lists_long c = c.requires.lists_long

pub write_values-requires-clause-room_long : goal.write_values-requires-clause-room_long
write_values-requires-clause-room_long c = c.write_lines.ensures.long

pub write_values-requires-clause-marked : goal.write_values-requires-clause-marked
write_values-requires-clause-marked c = c.in-Ok.ensures.written.1.changed

pub returns-in-Ok-write_values-clause-long : goal.returns-in-Ok-write_values-clause-long
returns-in-Ok-write_values-clause-long c = c.write_values.ensures.long

pub returns-in-Err-write_values-clause-long : goal.returns-in-Err-write_values-clause-long
returns-in-Err-write_values-clause-long c = c.write_values.ensures.long

pub entry-entry-requires : goal.entry-entry-requires
entry-entry-requires c = grind (arith, common_steps)

pub bounds-rows-asked : goal.bounds-rows-asked
bounds-rows-asked c = grind (arith, common_steps)

pub offset_bounds-rows-asked : goal.offset_bounds-rows-asked
offset_bounds-rows-asked c = grind (arith, common_steps)

pub overflow_cast-asked : goal.overflow_cast-asked
overflow_cast-asked c = grind (arith, common_steps)
