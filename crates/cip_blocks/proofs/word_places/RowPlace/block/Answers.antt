use Rattle.std.proofs.lemmas.Grind.{common_steps}
use Rattle.std.proofs.Common.{arith}
use Rattle.cip_blocks.proofs.word_places.RowPlace.block.Goals as goal

pub returns-in-Named : goal.returns-in-Named
returns-in-Named c = grind (arith, common_steps)

pub returns-in-Unnamed : goal.returns-in-Unnamed
returns-in-Unnamed c = grind (arith, common_steps)
