use Rattle.std.proofs.lemmas.Grind.{common_steps}
use Rattle.std.proofs.Common.{◌∙◌, arith}
use Rattle.cip_blocks.proofs.BlockNumbers.{number_past, number_begun, number_taken}
use Rattle.cip_blocks.specs.BlockWordsRead.{program_of, state_of}
use Rattle.cip_blocks.proofs.block_words.BlockWords.take_number.Goals.{then-at-len-via-then-at-len, then-at-len-via-else-at-len+then-index}
use Rattle.cip_blocks.proofs.block_words.BlockWords.take_number.Goals as goal

pub returns-in_default-2-clause-taken : goal.returns-in_default-2-clause-taken
returns-in_default-2-clause-taken c = grind (arith, common_steps)

pub invariant_of-self : goal.invariant_of-self
invariant_of-self c = grind (arith, common_steps)

pub index_mut-requires : goal.index_mut-requires
index_mut-requires c = grind (arith, common_steps)

pub returns-in_default-clause-taken : goal.returns-in_default-clause-taken
returns-in_default-clause-taken c = grind (arith, common_steps)

pub returns-clause-same : goal.returns-clause-same
returns-clause-same c = grind (arith, common_steps)

pub index-requires : goal.index-requires
index-requires c = grind (arith, common_steps)

pub overflow_cast-at : goal.overflow_cast-at
overflow_cast-at c = grind (arith, common_steps)

pub returns-then-at-len-clause-same : goal.returns-then-at-len-clause-same
returns-then-at-len-clause-same c = grind (arith, common_steps)

pub returns-clause-kinds : goal.returns-clause-kinds
returns-clause-kinds c = grind (arith, common_steps)

pub overflow_sub-block : goal.overflow_sub-block
overflow_sub-block c = grind (arith, common_steps)

pub returns-then-at-len-clause-kinds : goal.returns-then-at-len-clause-kinds
returns-then-at-len-clause-kinds c = grind (arith, common_steps)

pub returns-in_default-2-clause-kinds : goal.returns-in_default-2-clause-kinds
returns-in_default-2-clause-kinds c = grind (arith, common_steps)

pub returns-in_default-clause-kinds : goal.returns-in_default-clause-kinds
returns-in_default-clause-kinds c = grind (arith, common_steps)

pub returns-in_default-clause-same : goal.returns-in_default-clause-same
returns-in_default-clause-same c = grind (arith, common_steps)

pub returns-in_default-2-clause-same : goal.returns-in_default-2-clause-same
returns-in_default-2-clause-same c = grind (arith, common_steps)

pub returns-clause-taken : goal.returns-clause-taken
returns-clause-taken c =
    number_taken c.block_words_have_tests.ensures (program_of c.args.self.now) (state_of c.args.self.now)
    c.args.word.now c.in-Some.number c.in-Some.ensures c.if-number-gt0.true
    c.len.result c.index.result.now (c.len.ensures ∙ c.args.self.now.begun.ok.0) c.if-at-len.false c.index.ensures
    c.if-index.false

pub returns-then-at-len-clause-taken : goal.returns-then-at-len-clause-taken
returns-then-at-len-clause-taken c =
    elim c.then-at-len.branch [
      | then-at-len-via-then-at-len w ↦
          number_past c.block_words_have_tests.ensures (program_of c.args.self.now) (state_of c.args.self.now)
          c.args.word.now c.in-Some.number c.in-Some.ensures c.if-number-gt0.true
          c.len.result (c.len.ensures ∙ c.args.self.now.begun.ok.0) w.if-at-len.true
      | then-at-len-via-else-at-len+then-index w ↦
          number_begun c.block_words_have_tests.ensures (program_of c.args.self.now) (state_of c.args.self.now)
          c.args.word.now c.in-Some.number c.in-Some.ensures c.if-number-gt0.true
          w.index.result.now w.index.ensures w.if-index.true
    ]
