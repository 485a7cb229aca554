use Rattle.std.proofs.lemmas.Grind.{common_steps}
use Rattle.std.proofs.Common.{arith}
use Rattle.cip_blocks.proofs.block_text.BlockTextPieceText.finish.Goals as goal

pub end-blocks-requires : goal.end-blocks-requires
end-blocks-requires c = grind (arith, common_steps)
