use Rattle.std.proofs.Common.{◌<◌, length, sym, ap, ◌∙◌, subst, arith}
use Rattle.std.specs.Prelude.{All}
use Rattle.cip_lagrange.specs.Numbers.{found}
use Rattle.cip_master.proofs.Numbers.{count_is, block_inside, block_found}
use Rattle.cip_price.proofs.asks.block_costs.Goals as goal

pub columns-numbers-requires : goal.columns-numbers-requires
columns-numbers-requires c =
    omega (arith, count_is c.args.task.now.program.now c.args.task.now.blocks.now c.requires.made, c.requires.block)

pub costs_at-requires : goal.costs_at-requires
costs_at-requires c =
    subst (All (λ number. number < length c.args.rests.now)) (sym c.columns-numbers.ensures)
    (block_inside c.args.task.now.program.now c.args.task.now.blocks.now c.requires.made c.args.block
    (length c.args.rests.now) c.requires.block c.requires.rests)

pub returns : goal.returns
returns c =
    c.in_ok-costs.ensures ∙ ap (found c.args.rests.now) c.columns-numbers.ensures
    ∙ block_found c.args.task.now.program.now c.args.task.now.blocks.now c.requires.made c.args.block c.args.rests.now
    c.requires.block
