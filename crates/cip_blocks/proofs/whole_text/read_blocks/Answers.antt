use Rattle.std.proofs.Common.{[], true≢false, is_err, sym, ap, rules, inl, inr}
use Rattle.cip_text.proofs.Begun.{begun_or_spent}
use Rattle.cip_blocks.specs.BlockTexts.{program_of}
use Rattle.cip_blocks.specs.BlockReaders.{HasCome}
use Rattle.cip_blocks.specs.EndedBlocks.{IsFaultOf}
use Rattle.cip_blocks.proofs.BlockAnswers.{whole_fault, whole_apart}
use Rattle.cip_blocks.proofs.whole_text.read_blocks.Goals as goal

pub returns-in_err-feed-clause-blocks : goal.returns-in_err-feed-clause-blocks
returns-in_err-feed-clause-blocks c =
    elim (begun_or_spent HasCome program_of c.new-reader.result c.args.program.now c.new-reader.ensures) [
      | inl begun ↦
          (let told : IsFaultOf c.args.program.now c.args.text.now c.in_err-feed.field-0.0 = whole_fault c.args.program.now c.args.text.now _ _ c.in_err-feed.field-0.0 (c.in_err-feed.ensures.reads c.args.program.now [] begun) in
          search rules)
      | inr spent ↦ (let e = c.in_err-feed.ensures.spent spent in search rules)
    ]

pub returns-clause-blocks : goal.returns-clause-blocks
returns-clause-blocks c =
    elim (begun_or_spent HasCome program_of c.new-reader.result c.args.program.now c.new-reader.ensures) [
      | inl begun ↦ c.finish.ensures.reads c.args.program.now c.args.text.now (c.in_ok-feed.ensures.reads c.args.program.now [] begun).0
      | inr spent ↦ absurd (true≢false (sym (ap is_err (c.in_ok-feed.ensures.spent spent).0)))
    ]

pub returns-clause-apart : goal.returns-clause-apart
returns-clause-apart c =
    elim (begun_or_spent HasCome program_of c.new-reader.result c.args.program.now c.new-reader.ensures) [
      | inl begun ↦
          whole_apart c.blocks_are_apart.ensures c.args.program.now c.args.text.now c.finish.result
          (c.finish.ensures.reads c.args.program.now c.args.text.now (c.in_ok-feed.ensures.reads c.args.program.now [] begun).0)
      | inr spent ↦ absurd (true≢false (sym (ap is_err (c.in_ok-feed.ensures.spent spent).0)))
    ]
