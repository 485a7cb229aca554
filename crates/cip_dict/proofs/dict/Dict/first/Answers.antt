use Rattle.std.proofs.lemmas.Grind.{common_steps}
use Rattle.std.proofs.Common.{◌≡◌, ◌∙◌, ◌+◌, ap, ap₂, sym, length, length-append, arith}
use Rattle.cip_bland.specs.FirstState.{first}
use Rattle.cip_bland.proofs.First.{first_states_tell}
use Rattle.cip_dict.specs.State.{state}
use Rattle.cip_dict.specs.Entries.{system_in}
use Rattle.cip_dict.proofs.Begun.{standing_long}
use Rattle.cip_dict.proofs.dict.Dict.first.Goals as goal

pub invariant_of-result : goal.invariant_of-result
invariant_of-result c =
    let n : length c.in-Ok.standing.items ≡ length c.args.column_sides.now + length c.args.row_sides.now = standing_long c.args.column_sides.now (length c.args.row_sides.now) c.in-Ok.standing.items c.in-Ok.ensures in
    let same : state c.in-Ok-all_sides.sides.items c.in-Ok.standing.items c.in-Ok-first_lists.lists ≡ first (system_in c.args.entries.now c.args.row_sides.now c.args.column_sides.now c.args.costs.now) = ap₂ (λ s t. state s t c.in-Ok-first_lists.lists) c.in-Ok-all_sides.ensures (sym c.as_slice.ensures.value) ∙ c.in-Ok-first_lists.ensures.1 in
    record {
      few = omega (arith, n, c.requires.few);
      sides_long = ap length c.in-Ok-all_sides.ensures ∙ length-append c.args.column_sides.now c.args.row_sides.now ∙ sym n;
      lists_long = rw c.as_slice.ensures.value at c.in-Ok-first_lists.ensures.2;
      room_long = rw c.as_slice.ensures.value at c.in-Ok-first_lists.ensures.3;
      consistent = rw same (first_states_tell (system_in c.args.entries.now c.args.row_sides.now c.args.column_sides.now c.args.costs.now)).consistent;
    }

pub first_lists-requires-clause-within : goal.first_lists-requires-clause-within
first_lists-requires-clause-within c = omega arith

pub returns-in-Ok-first_lists : goal.returns-in-Ok-first_lists
returns-in-Ok-first_lists c = grind (arith, common_steps)

pub first_lists-requires-clause-costs_long : goal.first_lists-requires-clause-costs_long
first_lists-requires-clause-costs_long c = grind (arith, common_steps)

pub first_lists-requires-clause-stands : goal.first_lists-requires-clause-stands
first_lists-requires-clause-stands c = grind (arith, common_steps)

pub first_lists-requires-clause-few : goal.first_lists-requires-clause-few
first_lists-requires-clause-few c = grind (arith, common_steps)

pub overflow_add-n : goal.overflow_add-n
overflow_add-n c = grind (arith, common_steps)
