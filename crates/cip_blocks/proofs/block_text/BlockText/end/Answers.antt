use Rattle.std.proofs.lemmas.Grind.{common_steps}
use Rattle.std.proofs.Common.{arith}
use Rattle.cip_blocks.specs.BlockTexts.{kept_of, state_of, program_of}
use Rattle.cip_blocks.proofs.EndedTexts.{ended}
use Rattle.cip_blocks.proofs.block_text.BlockText.end.Goals as goal

pub returns : goal.returns
returns c = λ text h.
    let now = c.args.self.now in
    let after = c.read_last.new.self in
    ended (program_of now) (program_of after) c.in_ok-last_kind.ensures.same (c.blocks_are_read.ensures (program_of now) c.requires) text (kept_of now) (kept_of after) (state_of now) (state_of after) c.in_ok-last_kind.last_kind h c.in_ok-last_kind.ensures.read c.in_ok-last_kind.ensures.kept c.answer.result c.answer.ensures

pub answer-requires-clause-kinds : goal.answer-requires-clause-kinds
answer-requires-clause-kinds c = grind (arith, common_steps)
