use Rattle.cip_bland.specs.Headings.{goal_ahead}
use Rattle.cip_bland.specs.declared.moves.Stand.{Stand}
use Rattle.cip_problem.specs.Box.{sides_at}
use Rattle.cip_simplex.proofs.Shortest.{own_found, own_wide}
use Rattle.std.proofs.lemmas.Grind.{common_steps}
use Rattle.std.proofs.Common.{◌≡◌, arith, ◌∙◌, Some, sym, ap, ap₂}
use Rattle.cip_bland.specs.Dictionary.{stand, standing_value}
use Rattle.cip_bland.specs.Exchange.{other_stand}
use Rattle.cip_simplex.proofs.ways.own_way.Goals as goal
use Rattle.cip_simplex.proofs.ways.own_way.Goals.{in-Some-Low, in-Some-High, in_default-stand, in_default-stand-2}

pub returns-in-Err : goal.returns-in-Err
returns-in-Err c =
    let other : c.match-stand.other ≡ other_stand (stand c.args.dict.now c.args.j) =
    elim c.match-stand.branch [
      | in-Some-Low w ↦ w.other-is ∙ sym (ap other_stand (sym c.stand.ensures ∙ w.in-Some-Low.is ∙ ap (λ (s : Stand). Some s) w.in-Some-Low.field-0-is))
      | in-Some-High w ↦ w.other-is ∙ sym (ap other_stand (sym c.stand.ensures ∙ w.in-Some-High.is ∙ ap (λ (s : Stand). Some s) w.in-Some-High.field-0-is))
      | in_default-stand w ↦ grind (arith, common_steps)
      | in_default-stand-2 w ↦ grind (arith, common_steps)
    ] in
    let side : c.value_at_stand-side.result ≡ standing_value (sides_at c.args.dict.now.sides c.args.j) (other_stand (stand c.args.dict.now c.args.j)) = c.value_at_stand-side.ensures ∙ ap₂ standing_value c.sides-2.ensures other in
    own_wide c.args.dict.now c.args.j c.in-Some.to (c.in-Some.ensures ∙ ap₂ goal_ahead c.requires.falls c.sides.ensures) c.value_at_stand-side.result c.value.result side c.value.ensures c.in-Err.ensures.0

pub returns-in_default : goal.returns-in_default
returns-in_default c = grind (arith, common_steps)

pub returns-in-Ok : goal.returns-in-Ok
returns-in-Ok c =
    let other : c.match-stand.other ≡ other_stand (stand c.args.dict.now c.args.j) =
    elim c.match-stand.branch [
      | in-Some-Low w ↦ w.other-is ∙ sym (ap other_stand (sym c.stand.ensures ∙ w.in-Some-Low.is ∙ ap (λ (s : Stand). Some s) w.in-Some-Low.field-0-is))
      | in-Some-High w ↦ w.other-is ∙ sym (ap other_stand (sym c.stand.ensures ∙ w.in-Some-High.is ∙ ap (λ (s : Stand). Some s) w.in-Some-High.field-0-is))
      | in_default-stand w ↦ grind (arith, common_steps)
      | in_default-stand-2 w ↦ grind (arith, common_steps)
    ] in
    let side : c.value_at_stand-side.result ≡ standing_value (sides_at c.args.dict.now.sides c.args.j) (other_stand (stand c.args.dict.now c.args.j)) = c.value_at_stand-side.ensures ∙ ap₂ standing_value c.sides-2.ensures other in
    own_found c.args.dict.now c.args.j c.in-Some.to (c.in-Some.ensures ∙ ap₂ goal_ahead c.requires.falls c.sides.ensures) c.value_at_stand-side.result c.value.result side c.value.ensures c.args.heading c.in-Ok.change c.change_along.result c.requires.falls c.in-Ok.ensures.0 c.in-Ok.ensures.1 c.change_along.ensures

pub value-requires : goal.value-requires
value-requires c = grind (arith, common_steps)

pub sides-requires-2 : goal.sides-requires-2
sides-requires-2 c = grind (arith, common_steps)

pub stand-requires : goal.stand-requires
stand-requires c = grind (arith, common_steps)

pub sides-requires : goal.sides-requires
sides-requires c = grind (arith, common_steps)
