use Rattle.std.proofs.lemmas.Grind.{common_steps}
use Rattle.std.proofs.Common.{◌≡◌, true, false, Some, sym, ap, ap₂, ◌∙◌, arith}
use Rattle.cip_problem.specs.Box.{sides_at}
use Rattle.cip_bland.specs.Dictionary.{entry}
use Rattle.cip_bland.specs.Exchange.{step}
use Rattle.cip_bland.specs.MoveOperations.{step_operations}
use Rattle.cip_bland.specs.MoveList.{is_out_of_range}
use Rattle.cip_bland.specs.Headings.{along, heading_for, goal_ahead}
use Rattle.cip_bland.specs.Rule.{falling_heading}
use Rattle.cip_simplex.proofs.Shortest.{side_found, side_wide}
use Rattle.cip_simplex.proofs.ways.basic_way.Goals as goal

pub reciprocal-requires : goal.reciprocal-requires
reciprocal-requires c = grind (arith, common_steps)

pub returns-in-Ok-mul : goal.returns-in-Ok-mul
returns-in-Ok-mul c =
    let e : goal_ahead (heading_for (falling_heading c.args.dict.now c.args.j) (entry c.args.dict.now c.args.v c.args.j)) (sides_at c.args.dict.now.sides c.args.v) ≡ Some c.in-Some.to = sym (c.in-Some.ensures ∙ ap (λ h. goal_ahead (heading_for h (entry c.args.dict.now c.args.v c.args.j)) (sides_at c.args.dict.now.sides c.args.v)) c.requires.falls) in
    let fits : is_out_of_range (step_operations c.args.dict.now c.args.v c.args.j c.in-Some.to) ≡ false = grind (arith, common_steps) in
    let same : c.in-Ok-mul.change ≡ step c.args.dict.now c.args.v c.args.j c.in-Some.to = grind (arith, common_steps) in
    let h = side_found c.args.dict.now c.args.j c.args.v c.requires.apart c.requires.basic c.in-Some.to c.requires.nonzero e fits in
    (h.0, ap (λ l. Some (record { variable = c.args.v; to = c.in-Some.to; length = l })) (c.change_along.ensures ∙ ap₂ along c.requires.falls same) ∙ h.1)

pub returns-in-Err : goal.returns-in-Err
returns-in-Err c =
    let e : goal_ahead (heading_for (falling_heading c.args.dict.now c.args.j) (entry c.args.dict.now c.args.v c.args.j)) (sides_at c.args.dict.now.sides c.args.v) ≡ Some c.in-Some.to = sym (c.in-Some.ensures ∙ ap (λ h. goal_ahead (heading_for h (entry c.args.dict.now c.args.v c.args.j)) (sides_at c.args.dict.now.sides c.args.v)) c.requires.falls) in
    let wide : is_out_of_range (step_operations c.args.dict.now c.args.v c.args.j c.in-Some.to) ≡ true = grind (arith, common_steps) in
    side_wide c.args.dict.now c.args.j c.args.v c.requires.apart c.requires.basic c.in-Some.to c.requires.nonzero e wide

pub returns-in_default-sub : goal.returns-in_default-sub
returns-in_default-sub c =
    let e : goal_ahead (heading_for (falling_heading c.args.dict.now c.args.j) (entry c.args.dict.now c.args.v c.args.j)) (sides_at c.args.dict.now.sides c.args.v) ≡ Some c.in-Some.to = sym (c.in-Some.ensures ∙ ap (λ h. goal_ahead (heading_for h (entry c.args.dict.now c.args.v c.args.j)) (sides_at c.args.dict.now.sides c.args.v)) c.requires.falls) in
    let wide : is_out_of_range (step_operations c.args.dict.now c.args.v c.args.j c.in-Some.to) ≡ true = grind (arith, common_steps) in
    side_wide c.args.dict.now c.args.j c.args.v c.requires.apart c.requires.basic c.in-Some.to c.requires.nonzero e wide

pub returns-in_default : goal.returns-in_default
returns-in_default c = grind (arith, common_steps)

pub entry-requires-clause-within : goal.entry-requires-clause-within
entry-requires-clause-within c = grind (arith, common_steps)

pub value-requires : goal.value-requires
value-requires c = grind (arith, common_steps)

pub entry-requires-clause-on : goal.entry-requires-clause-on
entry-requires-clause-on c = grind (arith, common_steps)

pub entry-requires-clause-basic : goal.entry-requires-clause-basic
entry-requires-clause-basic c = grind (arith, common_steps)

pub sides-requires : goal.sides-requires
sides-requires c = grind (arith, common_steps)

pub basic_goal-requires-clause-leaving : goal.basic_goal-requires-clause-leaving
basic_goal-requires-clause-leaving c = grind (arith, common_steps)

pub basic_goal-requires-clause-entering : goal.basic_goal-requires-clause-entering
basic_goal-requires-clause-entering c = grind (arith, common_steps)

pub basic_goal-requires-clause-basic : goal.basic_goal-requires-clause-basic
basic_goal-requires-clause-basic c = grind (arith, common_steps)
