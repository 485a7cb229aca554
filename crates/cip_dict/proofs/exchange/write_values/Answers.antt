use Rattle.cip_problem.specs.Activity.{value_at}
use Rattle.cip_dict.proofs.Chains.{values_then}
use Rattle.std.proofs.lemmas.Grind.{common_steps}
use Rattle.std.proofs.Common.{arith, ◌≡◌, ◌∙◌, ap}
use Rattle.cip_dict.proofs.exchange.write_values.Goals as goal

pub write_moves-requires-clause-lists_long : goal.write_moves-requires-clause-lists_long
write_moves-requires-clause-lists_long c = omega arith

pub write_moves-requires-clause-room_long : goal.write_moves-requires-clause-room_long
write_moves-requires-clause-room_long c = omega arith

pub returns-in-Err-clause-long : goal.returns-in-Err-clause-long
returns-in-Err-clause-long c = grind (arith, common_steps)

pub returns-in-Ok-clause-long : goal.returns-in-Ok-clause-long
returns-in-Ok-clause-long c = grind (arith, common_steps)

pub returns-in-Err-clause-written : goal.returns-in-Err-clause-written
returns-in-Err-clause-written c = grind (arith, common_steps)

pub write_moves-requires-clause-marked : goal.write_moves-requires-clause-marked
write_moves-requires-clause-marked c = grind (arith, common_steps)

pub write_moves-requires-clause-entering : goal.write_moves-requires-clause-entering
write_moves-requires-clause-entering c = grind (arith, common_steps)

pub number_at-value-requires : goal.number_at-value-requires
number_at-value-requires c = grind (arith, common_steps)

pub write_moves-requires-clause-few : goal.write_moves-requires-clause-few
write_moves-requires-clause-few c = grind (arith, common_steps)

pub returns-in-Ok-clause-written : goal.returns-in-Ok-clause-written
returns-in-Ok-clause-written c =
    let value : c.number_at-value.result ≡ value_at c.args.lists.now.values.items c.args.pivot.now.leaving = c.number_at-value.ensures ∙ ap (λ xs. value_at xs c.args.pivot.now.leaving) c.as_slice.ensures.value in
    values_then c.args.pivot.now.standing.now c.args.pivot.now.leaving c.args.pivot.now.entering c.args.side c.args.pivot.now.inverse c.args.lists.now c.args.room.now c.write_moves.new.room c.value_of.result c.number_at-value.result c.in-Ok.t c.write_moves.result c.value_of.ensures value c.in-Ok.ensures.0 c.in-Ok.ensures.1 c.write_moves.ensures.written
