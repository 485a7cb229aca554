use Rattle.std.proofs.lemmas.Grind.{common_steps}
use Rattle.std.proofs.Common.{arith}
use Rattle.cip_blocks.proofs.block_text.BlockText.answer.Goals as goal

pub returns : goal.returns
returns c = grind (arith, common_steps)

pub blocks-requires-clause-no_fault : goal.blocks-requires-clause-no_fault
blocks-requires-clause-no_fault c = grind (arith, common_steps)

pub blocks-requires-clause-ending : goal.blocks-requires-clause-ending
blocks-requires-clause-ending c = grind (arith, common_steps)

pub end_kind-end_kind-requires : goal.end_kind-end_kind-requires
end_kind-end_kind-requires c = grind (arith, common_steps)
