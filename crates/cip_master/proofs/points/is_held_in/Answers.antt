use Rattle.std.proofs.Common.{◌<◌, length, sym, ap, ap₂, ◌∙◌, subst, arith, Some}
use Rattle.std.specs.Prelude.{All}
use Rattle.cip_pricing.specs.Decomposition.{picked}
use Rattle.cip_columns.specs.ColumnPools.{is_inside}
use Rattle.cip_lagrange.specs.Numbers.{found}
use Rattle.cip_master.proofs.Numbers.{count_is, block_inside, block_found}
use Rattle.cip_master.proofs.points.is_held_in.Goals as goal

pub columns-numbers-requires : goal.columns-numbers-requires
columns-numbers-requires c =
    omega (arith, count_is c.args.program.now c.args.blocks.now c.requires.made, c.block.ensures, c.requires.block)

pub is_in_part-requires : goal.is_in_part-requires
is_in_part-requires c =
    let inside : c.block.result < length c.args.blocks.now.subproblems.items =
    omega (arith, c.block.ensures, c.requires.block) in
    subst (All (λ number. number < length c.args.bounds.now)) (sym c.columns-numbers.ensures)
    (block_inside c.args.program.now c.args.blocks.now c.requires.made c.block.result (length c.args.bounds.now) inside
    c.requires.box_)

pub returns : goal.returns
returns c =
    let inside : c.block.result < length c.args.blocks.now.subproblems.items =
    omega (arith, c.block.ensures, c.requires.block) in
    c.is_in_part.ensures
    ∙ ap₂ is_inside
    (ap (found c.args.bounds.now) c.columns-numbers.ensures
    ∙ block_found c.args.program.now c.args.blocks.now c.requires.made c.block.result c.args.bounds.now inside
    ∙ ap (λ k. picked (Some k) c.args.blocks.now.column_owners.items c.args.bounds.now) c.block.ensures)
    c.values.ensures
