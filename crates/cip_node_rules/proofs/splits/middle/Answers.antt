use Rattle.std.proofs.lemmas.Grind.{common_steps}
use Rattle.std.proofs.Common.{arith, ◌∙◌, ap, sym}
use Rattle.std.specs.Int.{w128}
use Rattle.std.proofs.lemmas.Int.{to_z-of_z}
use Rattle.cip_problem.specs.Program.{Sides}
use Rattle.cip_node_rules.proofs.SplitSteps.{halves_below, middle_is}
use Rattle.cip_node_rules.proofs.splits.middle.Goals as goal

pub returns-in-Some-Some : goal.returns-in-Some-Some
returns-in-Some-Some c =
    let low_is = ap (λ (sides : Sides). sides.low) (sym c.sides.view_is) ∙ c.in-Some-Some.is-0 in
    let high_is = ap (λ (sides : Sides). sides.high) (sym c.sides.view_is) ∙ c.in-Some-Some.is-1 in
    let from = to_z-of_z w128 c.next_whole.result (record { sfits = c.next_whole.type_inv }) in
    let to = to_z-of_z w128 c.last_whole.result (record { sfits = c.last_whole.type_inv }) in
    middle_is c.args.sides.low c.args.sides.high c.in-Some-Some.low c.in-Some-Some.high _ _ c.half.result _ low_is
    high_is (from ∙ c.next_whole.ensures.value) (to ∙ c.last_whole.ensures.value)
    (to_z-of_z w128 c.half.result (record { sfits = c.half.type_inv })) c.half.ensures

pub returns-in-None-default : goal.returns-in-None-default
returns-in-None-default c = grind (arith, common_steps)

pub returns-in_default-None : goal.returns-in_default-None
returns-in_default-None c = grind (arith, common_steps)

pub half-requires : goal.half-requires
half-requires c =
    let low_is = ap (λ (sides : Sides). sides.low) (sym c.sides.view_is) ∙ c.in-Some-Some.is-0 in
    let high_is = ap (λ (sides : Sides). sides.high) (sym c.sides.view_is) ∙ c.in-Some-Some.is-1 in
    let from = to_z-of_z w128 c.next_whole.result (record { sfits = c.next_whole.type_inv }) in
    let to = to_z-of_z w128 c.last_whole.result (record { sfits = c.last_whole.type_inv }) in
    halves_below c.args.sides.low c.args.sides.high c.in-Some-Some.low c.in-Some-Some.high _ _ low_is high_is
    (from ∙ c.next_whole.ensures.value) (to ∙ c.last_whole.ensures.value) c.requires
