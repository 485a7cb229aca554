use Rattle.std.proofs.lemmas.Grind.{common_steps}
use Rattle.std.proofs.Common.{length, Some, sym, ap, ◌∙◌, arith}
use Rattle.cip_pricing.proofs.Picked.{length_picked}
use Rattle.cip_price.proofs.asks.BlockAsk.new.Goals as goal

pub returns-clause-ask : goal.returns-clause-ask
returns-clause-ask c = record {
  is_block = c.requires.block;
  region = c.in-Ok-block_region.ensures;
  costs =
      ap length c.in-Ok.ensures
      ∙ length_picked (Some c.args.block) c.args.task.now.blocks.now.column_owners.items c.args.rests.now
      c.args.task.now.bounds.now (c.requires.rests ∙ sym c.requires.task.box_);
}

pub block_region-requires-clause-box_ : goal.block_region-requires-clause-box_
block_region-requires-clause-box_ c = grind (arith, common_steps)

pub block_region-requires-clause-block : goal.block_region-requires-clause-block
block_region-requires-clause-block c = grind (arith, common_steps)

pub block_costs-requires-clause-block : goal.block_costs-requires-clause-block
block_costs-requires-clause-block c = grind (arith, common_steps)

pub block_region-requires-clause-made : goal.block_region-requires-clause-made
block_region-requires-clause-made c = grind (arith, common_steps)

pub block_costs-requires-clause-rests : goal.block_costs-requires-clause-rests
block_costs-requires-clause-rests c = grind (arith, common_steps)

pub returns-clause-block : goal.returns-clause-block
returns-clause-block c = grind (arith, common_steps)

pub block_costs-requires-clause-made : goal.block_costs-requires-clause-made
block_costs-requires-clause-made c = grind (arith, common_steps)
