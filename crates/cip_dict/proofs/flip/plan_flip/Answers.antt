use Rattle.cip_rational.specs.Range.{difference_overflows}
use Rattle.std.proofs.lemmas.Grind.{common_steps}
use Rattle.std.proofs.Common.{◌≡◌, ◌∙◌, ap, length, [], ◌∷◌, arith, true, sym, ap₂}
use Rattle.cip_problem.specs.Activity.{value_at}
use Rattle.cip_problem.specs.Box.{sides_at}
use Rattle.cip_bland.specs.Dictionary.{stand, standing_value}
use Rattle.cip_bland.specs.Exchange.{way, other_stand}
use Rattle.cip_bland.specs.Tables.{least}
use Rattle.cip_bland.specs.Operations.{placed, Difference, value_place, first_overflow}
use Rattle.cip_bland.specs.MoveOperations.{first_line, flip_operations}
use Rattle.cip_dict.specs.Lists.{basic_in}
use Rattle.cip_dict.specs.State.{state}
use Rattle.cip_dict.specs.Written.{MovesWritten, flips_operations}
use Rattle.cip_dict.proofs.Chains.{then_rest_as}
use Rattle.cip_dict.proofs.Flipped.{arrive, difference_fits, flip_split, flip_planned, difference_first}
use Rattle.cip_dict.proofs.flip.plan_flip.Goals as goal

pub write_flips-requires-clause-arrives : goal.write_flips-requires-clause-arrives
write_flips-requires-clause-arrives c =
    let v : c.number_at-value.result ≡ value_at c.args.lists.now.values.items c.args.j = rw c.as_slice.ensures.value at c.number_at-value.ensures in
    arrive c.side_of-side.result (value_at c.args.lists.now.values.items c.args.j) c.in-Ok.t (rw v at c.in-Ok.ensures.1)

pub returns-in-Ok-clause-written : goal.returns-in-Ok-clause-written
returns-in-Ok-clause-written c =
    let v : c.number_at-value.result ≡ value_at c.args.lists.now.values.items c.args.j = rw c.as_slice.ensures.value at c.number_at-value.ensures in
    let side : c.side_of-side.result ≡ standing_value (sides_at c.args.sides.now c.args.j) (other_stand (stand (state c.args.sides.now c.args.standing.now c.args.lists.now) c.args.j)) = c.side_of-side.ensures ∙ ap (standing_value (sides_at c.args.sides.now c.args.j)) c.other_of-other.ensures in
    let fits = rw (side, v) at c.in-Ok.ensures.0 in
    let t : c.in-Ok.t ≡ way (state c.args.sides.now c.args.standing.now c.args.lists.now) c.args.j = rw (side, v) at c.in-Ok.ensures.1 in
    let last = rw t at c.write_flips.ensures.written in
    let place = value_place (first_line (least (length c.args.standing.now) (basic_in c.args.standing.now))) in
    let from = standing_value (sides_at c.args.sides.now c.args.j) (other_stand (stand (state c.args.sides.now c.args.standing.now c.args.lists.now) c.args.j)) in
    then_rest_as (flip_operations (state c.args.sides.now c.args.standing.now c.args.lists.now) c.args.j) (placed place (Difference from (value_at c.args.lists.now.values.items c.args.j)) ∷ []) (flips_operations c.args.standing.now c.args.j (way (state c.args.sides.now c.args.standing.now c.args.lists.now) c.args.j) c.args.lists.now) c.write_flips.result
    (λ cost. MovesWritten c.args.standing.now c.args.j (way (state c.args.sides.now c.args.standing.now c.args.lists.now) c.args.j) c.args.lists.now c.args.room.now c.write_flips.new.room cost)
    _
    (flip_split c.args.sides.now c.args.standing.now c.args.lists.now c.args.j c.requires.sides_long)
    (difference_fits place from (value_at c.args.lists.now.values.items c.args.j) fits) last
    (λ cost p. flip_planned c.args.sides.now c.args.standing.now c.args.lists.now c.args.j c.args.room.now c.write_flips.new.room cost c.requires.sides_long p)

pub write_flips-requires-clause-few : goal.write_flips-requires-clause-few
write_flips-requires-clause-few c = c.requires.few

pub write_flips-requires-clause-flips : goal.write_flips-requires-clause-flips
write_flips-requires-clause-flips c = omega (arith, c.requires.can.within, c.requires.sides_long)

pub write_flips-requires-clause-nonbasic : goal.write_flips-requires-clause-nonbasic
write_flips-requires-clause-nonbasic c = c.requires.can.nonbasic

pub write_flips-requires-clause-lists_long : goal.write_flips-requires-clause-lists_long
write_flips-requires-clause-lists_long c = c.requires.lists_long

pub write_flips-requires-clause-room_long : goal.write_flips-requires-clause-room_long
write_flips-requires-clause-room_long c = c.requires.room_long

pub returns-in-Err-clause-long : goal.returns-in-Err-clause-long
returns-in-Err-clause-long c = grind (arith, common_steps)

pub returns-in-Ok-clause-long : goal.returns-in-Ok-clause-long
returns-in-Ok-clause-long c = grind (arith, common_steps)

pub number_at-value-requires : goal.number_at-value-requires
number_at-value-requires c = grind (arith, common_steps)

pub side_of-side-requires : goal.side_of-side-requires
side_of-side-requires c = grind (arith, common_steps)

pub first_basic-requires : goal.first_basic-requires
first_basic-requires c = grind (arith, common_steps)

pub bounds-standing-j : goal.bounds-standing-j
bounds-standing-j c = grind (arith, common_steps)

pub offset_bounds-standing-j : goal.offset_bounds-standing-j
offset_bounds-standing-j c = grind (arith, common_steps)

pub returns-in-Err-clause-written : goal.returns-in-Err-clause-written
returns-in-Err-clause-written c =
    let v : c.number_at-value.result ≡ value_at c.args.lists.now.values.items c.args.j = c.number_at-value.ensures ∙ ap (λ xs. value_at xs c.args.j) c.as_slice.ensures.value in
    let side : c.side_of-side.result ≡ standing_value (sides_at c.args.sides.now c.args.j) (other_stand (stand (state c.args.sides.now c.args.standing.now c.args.lists.now) c.args.j)) = c.side_of-side.ensures ∙ ap (standing_value (sides_at c.args.sides.now c.args.j)) c.other_of-other.ensures in
    let wide : difference_overflows (standing_value (sides_at c.args.sides.now c.args.j) (other_stand (stand (state c.args.sides.now c.args.standing.now c.args.lists.now) c.args.j))) (value_at c.args.lists.now.values.items c.args.j) ≡ true = sym (ap₂ difference_overflows side v) ∙ c.in-Err.ensures.0 in
    ap first_overflow (flip_split c.args.sides.now c.args.standing.now c.args.lists.now c.args.j c.requires.sides_long)
    ∙ difference_first _ _ (value_place (first_line (least (length c.args.standing.now) (basic_in c.args.standing.now)))) c.value_of-place.result _ wide (c.value_of-place.ensures ∙ ap value_place c.first_basic.ensures)
