use Rattle.std.proofs.Common.{◌<◌, ◌∙◌, ap, arith, length}
use Rattle.cip_problem.specs.BlockMeaning.{part_at}
use Rattle.cip_problem.specs.BlockParts as shapes
use Rattle.cip_model.proofs.GroupLaws.{counted, rows_kept}
use Rattle.cip_model.proofs.blocks.Blocks.rows.Goals as goal

pub index-rows-requires : goal.index-rows-requires
index-rows-requires c =
    let inside = c.self.inside in
    let e = counted inside.by_rows.groups.items inside.by_columns.groups.items c.self.invariant in
    let f = ap (λ b. length b.blocks) c.self.view_is in
    omega (arith, c.requires, e, f, c.self.invariant, inside.by_rows.groups.ok.0)

pub returns : goal.returns
returns c =
    let inside = c.self.inside in
    let e = counted inside.by_rows.groups.items inside.by_columns.groups.items c.self.invariant in
    let f = ap (λ b. length b.blocks) c.self.view_is in
    let below : c.args.block < length inside.by_rows.groups.items = omega (arith, c.requires, e, f) in
    c.as_slice.ensures.value
    ∙ rows_kept inside.by_rows.groups.items inside.by_columns.groups.items c.args.block c.index-rows.result.now c.self.invariant below c.index-rows.ensures
    ∙ ap (λ (b : shapes.Blocks). (part_at b c.args.block).rows) c.self.view_is
