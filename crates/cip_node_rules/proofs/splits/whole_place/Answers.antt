use Rattle.std.proofs.lemmas.Grind.{common_steps}
use Rattle.std.proofs.Common.{arith, ◌≡◌, ◌∙◌, ◌<◌, List, length, Option, IfSome, Bor, subst, ap}
use Rattle.std.specs.Int.{w128}
use Rattle.std.specs.Option.{option_map}
use Rattle.std.proofs.lemmas.Int.{to_z-of_z}
use Rattle.std.proofs.lemmas.List.{get_or_default}
use Rattle.cip_rational.specs.Rational.{ℚ, zeroℚ}
use Rattle.cip_problem.specs.Program.{Sides}
use Rattle.cip_problem.specs.Box.{sides_at, two_wholes_between}
use Rattle.cip_node_rules.specs.SplitRules.{IsAtMiddle}
use Rattle.cip_node_rules.proofs.BothSides.{two_of_open}
use Rattle.cip_node_rules.proofs.SplitSteps.{at_fraction, at_middle, at_middle_past, middle_of_sides}
use Rattle.cip_node_rules.proofs.splits.whole_place.Goals.{in-Some+in_default-fractional_column, in_default}
use Rattle.cip_node_rules.proofs.splits.whole_place.Goals as goal

pub bounds-point-col : goal.bounds-point-col
bounds-point-col c = grind (arith, common_steps)

pub returns-in_err-col : goal.returns-in_err-col
returns-in_err-col c = grind (arith, common_steps)

pub fractional_column-requires-clause-values : goal.fractional_column-requires-clause-values
fractional_column-requires-clause-values c = grind (arith, common_steps)

pub sides-requires-2 : goal.sides-requires-2
sides-requires-2 c = grind (arith, common_steps)

pub sides-requires : goal.sides-requires
sides-requires c = grind (arith, common_steps)

pub offset_bounds-point-col : goal.offset_bounds-point-col
offset_bounds-point-col c = grind (arith, common_steps)

pub overflow_cast-col : goal.overflow_cast-col
overflow_cast-col c = grind (arith, common_steps)

pub fractional_column-requires-clause-long : goal.fractional_column-requires-clause-long
fractional_column-requires-clause-long c = grind (arith, common_steps)

pub open_column-requires-clause-long : goal.open_column-requires-clause-long
open_column-requires-clause-long c = grind (arith, common_steps)

pub fractional_column-requires-clause-columns : goal.fractional_column-requires-clause-columns
fractional_column-requires-clause-columns c = grind (arith, common_steps)

pub open_column-requires-clause-columns : goal.open_column-requires-clause-columns
open_column-requires-clause-columns c = grind (arith, common_steps)

pub returns-in-Some-fractional_column : goal.returns-in-Some-fractional_column
returns-in-Some-fractional_column c =
    let box = c.args.bounds.now in
    let column = c.in-Some-fractional_column.col in
    let values = c.in-Some.point.now in
    let first = c.in-Some-fractional_column.ensures in
    let long : length values ≡ length box =
    subst (λ (point : Option (Bor (List ℚ))). IfSome point (λ values. length values.now ≡ length box))
    c.in-Some.is c.requires.values in
    let valued : column < length values = omega (arith, long, c.requires.long, first.within) in
    at_fraction c.args.whole.now box _ values column c.sides.result c.index-point-col.result _ c.moved-at.result _
    (ap (option_map (λ (point : Bor (List ℚ)). point.now)) c.in-Some.is) first c.sides.ensures
    (c.index-point-col.is ∙ get_or_default values column c.index-point-col.result zeroℚ valued)
    (to_z-of_z w128 c.floor.result (record { sfits = c.floor.type_inv }) ∙ c.floor.ensures)
    c.moved-at.ensures (to_z-of_z w128 c.moved-at.result (record { sfits = c.moved-at.type_inv }))

pub middle-at-requires : goal.middle-at-requires
middle-at-requires c =
    ap (λ (sides : Sides). two_wholes_between sides.low sides.high) c.sides-2.ensures
    ∙ two_of_open c.args.whole.now c.args.bounds.now c.in_ok-col.col c.in_ok-col.ensures.passes

pub returns : goal.returns
returns c =
    let whole = c.args.whole.now in
    let box = c.args.bounds.now in
    let column = c.in_ok-col.col in
    let middle : IsAtMiddle whole box column _ = record {
      first = c.in_ok-col.ensures;
      place = middle_of_sides c.sides-2.result (sides_at box column) c.middle-at.result _ c.sides-2.ensures
          (to_z-of_z w128 c.middle-at.result (record { sfits = c.middle-at.type_inv })) c.middle-at.ensures;
    } in
    let entered = option_map (λ (point : Bor (List ℚ)). point.now) in
    elim c.match-point.branch [
      | in-Some+in_default-fractional_column w ↦
          at_middle_past whole box _ w.in-Some.point.now column _ (ap entered w.in-Some.is)
          w.in_default-fractional_column.ensures middle
      | in_default w ↦ at_middle whole box _ column _ (ap entered w.in_default.is) middle
    ]
