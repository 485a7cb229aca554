use Rattle.std.proofs.lemmas.Grind.{common_steps}
use Rattle.std.proofs.Common.{sym, ap, ◌∙◌, arith}
use Rattle.cip_bland.specs.Tables.{least}
use Rattle.cip_bland.specs.Dictionary.{size, entry}
use Rattle.cip_bland.specs.Headings.{back_of, stand_ahead}
use Rattle.cip_bland.specs.Rule.{drives}
use Rattle.cip_simplex.proofs.Chosen.{outside_is, leaving_basic, repair_chosen, improve_chosen}
use Rattle.cip_simplex.proofs.steps.choose.Goals as goal

pub outside_heading-heading-requires : goal.outside_heading-heading-requires
outside_heading-heading-requires c = (outside_is c.args.dict.now (sym c.in_default.ensures) c.in-Some-least_outside.i (sym c.in-Some-least_outside.ensures)).below

pub least_driving-requires-clause-leaving : goal.least_driving-requires-clause-leaving
least_driving-requires-clause-leaving c = (outside_is c.args.dict.now (sym c.in_default.ensures) c.in-Some-least_outside.i (sym c.in-Some-least_outside.ensures)).below

pub least_driving-requires-clause-basic : goal.least_driving-requires-clause-basic
least_driving-requires-clause-basic c = leaving_basic c.args.dict.now (sym c.in_default.ensures) c.in-Some-least_outside.i (sym c.in-Some-least_outside.ensures)

pub returns-in-Some-least_driving : goal.returns-in-Some-least_driving
returns-in-Some-least_driving c =
    let heading = c.back_of.ensures ∙ ap back_of c.outside_heading-heading.ensures in
    repair_chosen c.args.dict.now (sym c.in_default.ensures) c.in-Some-least_outside.i (sym c.in-Some-least_outside.ensures) c.in-Some-least_driving.j c.stand_ahead.result
    (c.in-Some-least_driving.ensures ∙ ap (λ h. least (size c.args.dict.now) (drives c.args.dict.now (entry c.args.dict.now c.in-Some-least_outside.i) h)) heading)
    (c.stand_ahead.ensures ∙ ap stand_ahead c.outside_heading-heading.ensures)

pub returns-in-Some-least_improving : goal.returns-in-Some-least_improving
returns-in-Some-least_improving c = improve_chosen c.args.dict.now (sym c.in_default.ensures) c.in-Some-least_improving.j (sym c.in_default-least_outside.ensures) c.in-Some-least_improving.ensures

pub returns-in-None : goal.returns-in-None
returns-in-None c = grind (arith, common_steps)

pub returns-in-None-least_improving : goal.returns-in-None-least_improving
returns-in-None-least_improving c = grind (arith, common_steps)

pub returns-in-Some : goal.returns-in-Some
returns-in-Some c = grind (arith, common_steps)
