use Rattle.std.proofs.lemmas.Grind.{common_steps}
use Rattle.std.proofs.Common.{arith}
use Rattle.cip_blocks.proofs.block_text.BlockText.read_last.Goals as goal

pub returns-then-is_filled-clause-read : goal.returns-then-is_filled-clause-read
returns-then-is_filled-clause-read c = grind (arith, common_steps)

pub returns-else-is_filled-clause-read : goal.returns-else-is_filled-clause-read
returns-else-is_filled-clause-read c = grind (arith, common_steps)

pub returns-then-is_filled-clause-same : goal.returns-then-is_filled-clause-same
returns-then-is_filled-clause-same c = grind (arith, common_steps)

pub returns-then-is_filled-clause-kept : goal.returns-then-is_filled-clause-kept
returns-then-is_filled-clause-kept c = grind (arith, common_steps)

pub returns-then-is_filled-clause-kinds : goal.returns-then-is_filled-clause-kinds
returns-then-is_filled-clause-kinds c = grind (arith, common_steps)

pub returns-else-is_filled-clause-kinds : goal.returns-else-is_filled-clause-kinds
returns-else-is_filled-clause-kinds c = grind (arith, common_steps)

pub returns-else-is_filled-clause-same : goal.returns-else-is_filled-clause-same
returns-else-is_filled-clause-same c = grind (arith, common_steps)

pub returns-else-is_filled-clause-kept : goal.returns-else-is_filled-clause-kept
returns-else-is_filled-clause-kept c = grind (arith, common_steps)
