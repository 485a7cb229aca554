use Rattle.std.proofs.lemmas.Grind.{common_steps}
use Rattle.std.proofs.Common.{arith}
use Rattle.cip_blocks.proofs.block_words.BlockWords.lacks_block.Goals as goal

pub loop-is_begun-preserved : goal.loop-is_begun-preserved
loop-is_begun-preserved c = grind (arith, common_steps)

pub returns : goal.returns
returns c = grind (arith, common_steps)

pub returns-then-not-is_begun : goal.returns-then-not-is_begun
returns-then-not-is_begun c = grind (arith, common_steps)
