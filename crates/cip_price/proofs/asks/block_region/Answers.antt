use Rattle.std.proofs.lemmas.Grind.{common_steps}
use Rattle.std.proofs.Common.{◌≡◌, ◌<◌, length, None, Some, slice_get, refl, sym, ap, ap₂, ◌∙◌, subst, arith}
use Rattle.std.specs.Prelude.{All}
use Rattle.std.proofs.lemmas.Option.{slice_get_read}
use Rattle.cip_lagrange.specs.Numbers.{found}
use Rattle.cip_master.proofs.Numbers.{count_is, block_inside, block_found}
use Rattle.cip_price.proofs.asks.block_region.Goals as goal

pub columns-numbers-requires : goal.columns-numbers-requires
columns-numbers-requires c =
    omega (arith, count_is c.args.task.now.program.now c.args.task.now.blocks.now c.requires.made, c.requires.block)

pub sides_at-requires : goal.sides_at-requires
sides_at-requires c =
    subst (All (λ number. number < length c.args.task.now.bounds.now)) (sym c.columns-numbers.ensures)
    (block_inside c.args.task.now.program.now c.args.task.now.blocks.now c.requires.made c.args.block
    (length c.args.task.now.bounds.now) c.requires.block c.requires.box_)

pub returns : goal.returns
returns c =
    let kept = c.args.task.now.blocks.now in
    let parts = kept.subproblems.items in
    let part_is : slice_get parts c.args.block ≡ Some c.index-part.result.now =
    slice_get_read parts (length parts) c.args.block c.index-part.result.now refl c.requires.block
    c.index-part.ensures in
    ap₂ (λ box choices. record { number = 0; box = box; choices = choices; bound = None })
    (c.in_ok-bounds.ensures ∙ ap (found c.args.task.now.bounds.now) c.columns-numbers.ensures
    ∙ block_found c.args.task.now.program.now kept c.requires.made c.args.block c.args.task.now.bounds.now
    c.requires.block)
    (c.in-Ok.ensures ∙ (c.requires.made.subproblems c.args.block c.index-part.result.now part_is).choices)

pub index-part-requires : goal.index-part-requires
index-part-requires c = grind (arith, common_steps)
