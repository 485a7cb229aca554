use Rattle.std.proofs.lemmas.Grind.{common_steps}
use Rattle.cip_problem.specs.Program.{Sides}
use Rattle.cip_text_rules.specs.MpsProgram.{row_with}
use Rattle.cip_mps.specs.GroupedRows.{empty_row}
use Rattle.cip_mps.proofs.ListLaws.{mapped_all, mapped_more}
use Rattle.std.proofs.Common.{arith, ◌≡◌, List, [], ◌∷◌, ◌++◌, ap, ◌∙◌}
use Rattle.cip_mps.proofs.group_rows.rows_with_room.Goals as goal

pub push_reserved-requires : goal.push_reserved-requires
push_reserved-requires c = omega (arith, c.in-Ok.ensures.ok)

pub returns : goal.returns
returns c = mapped_all empty_row c.args.heads.now c.loop-place.place c.loop-place.rows.items c.loop-place-test.false c.loop-place.invariant

pub loop-place-preserved : goal.loop-place-preserved
loop-place-preserved c =
    let row = c.in-Ok-with_room.row in
    let here : row ≡ empty_row c.index-heads-place.result = c.in-Ok-with_room.ensures ∙ ap (λ (sides : Sides). row_with [] sides) (c.sides.view_is ∙ c.sides-sides.ensures) in
    mapped_more empty_row c.args.heads.now c.loop-place.place c.index-heads-place.result row c.loop-place.rows.items c.push_reserved.new.self.items c.loop-place-test.true c.index-heads-place.is c.loop-place.invariant here
    (c.push_reserved.ensures.items ∙ ap (λ (rows : List _). rows ++ row ∷ []) c.in-Ok.ensures.items)

pub bounds-counts-place : goal.bounds-counts-place
bounds-counts-place c = omega arith

pub offset_bounds-counts-place : goal.offset_bounds-counts-place
offset_bounds-counts-place c = omega arith

pub bounds-heads-place : goal.bounds-heads-place
bounds-heads-place c = grind (arith, common_steps)

pub offset_bounds-heads-place : goal.offset_bounds-heads-place
offset_bounds-heads-place c = grind (arith, common_steps)

pub returns-in_default : goal.returns-in_default
returns-in_default c = grind (arith, common_steps)

pub loop-place-init : goal.loop-place-init
loop-place-init c = grind (arith, common_steps)
