use Rattle.std.proofs.lemmas.Grind.{common_steps}
use Rattle.std.proofs.Common.{ap, ◌∙◌, subst, arith}
use Rattle.cip_bland.specs.Dictionary.{entry}
use Rattle.cip_bland.specs.Headings.{back_of, stand_ahead}
use Rattle.cip_bland.specs.Rule.{drives}
use Rattle.cip_bland.specs.declared.steps.Heading.{Heading}
use Rattle.cip_bland.specs.StateEnds.{Passes}
use Rattle.cip_bland.proofs.MovesMade.{outside_basic}
use Rattle.cip_simplex.proofs.FreeMoves.{repair_can}
use Rattle.cip_simplex.proofs.greedy_steps.pick.Goals as goal

pub best_driving-requires-clause-basic : goal.best_driving-requires-clause-basic
best_driving-requires-clause-basic c = outside_basic c.args.dict.now c.in-Some.i c.in-Some.ensures.passes

pub returns-in-Some-best_driving : goal.returns-in-Some-best_driving
returns-in-Some-best_driving c =
    let heading = c.back_of.ensures ∙ ap back_of c.outside_heading-heading.ensures in
    repair_can c.args.dict.now c.in-Some.i c.in-Some-best_driving.j c.stand_ahead.result c.in-Some.ensures
    (subst (λ (h : Heading). Passes c.args.dict.now (drives c.args.dict.now (entry c.args.dict.now c.in-Some.i) h) c.in-Some-best_driving.j) heading c.in-Some-best_driving.ensures)
    (c.stand_ahead.ensures ∙ ap stand_ahead c.outside_heading-heading.ensures)

pub best_driving-requires-clause-leaving : goal.best_driving-requires-clause-leaving
best_driving-requires-clause-leaving c = grind (arith, common_steps)

pub outside_heading-heading-requires : goal.outside_heading-heading-requires
outside_heading-heading-requires c = grind (arith, common_steps)

pub best_driving-requires-clause-few : goal.best_driving-requires-clause-few
best_driving-requires-clause-few c = grind (arith, common_steps)

pub best_improving-requires : goal.best_improving-requires
best_improving-requires c = grind (arith, common_steps)

pub worst_outside-requires : goal.worst_outside-requires
worst_outside-requires c = grind (arith, common_steps)
