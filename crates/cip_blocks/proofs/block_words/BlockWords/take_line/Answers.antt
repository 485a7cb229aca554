use Rattle.std.proofs.lemmas.Grind.{common_steps}
use Rattle.std.proofs.Common.{Some, ◌∙◌, arith}
use Rattle.cip_text.specs.TextLines.{fields_left}
use Rattle.cip_blocks.specs.BlockWordsRead.{program_of, state_of}
use Rattle.cip_blocks.proofs.WordLaws.{same_program, words_failed}
use Rattle.cip_blocks.proofs.block_words.BlockWords.take_line.Goals as goal

pub returns-in-Some-2-clause-read : goal.returns-in-Some-2-clause-read
returns-in-Some-2-clause-read c = λ number.
    let now = c.args.self.now in
    let words = c.loop-word.self in
    let after = c.take_word.new.self in
    let taken = same_program (program_of words) (program_of now) (state_of words) (state_of after) c.in-Some-next_field.word.now c.in_ok-kind.field-0 (Some c.in-Some-2.kind) c.loop-word.invariant.same c.in-Some-2.is c.in_ok-kind.ensures.taken in
    c.loop-word.invariant.read number
    ∙ words_failed (program_of now) (state_of words) (state_of after) (fields_left c.loop-word.left) (fields_left c.next_field.new.self) c.in-Some-next_field.word.now number c.in-Some-2.kind c.in-Some-next_field.ensures taken

pub loop-word-preserved : goal.loop-word-preserved
loop-word-preserved c = grind (arith, common_steps)

pub returns-in-Some-2-clause-same : goal.returns-in-Some-2-clause-same
returns-in-Some-2-clause-same c = grind (arith, common_steps)

pub loop-word-smaller : goal.loop-word-smaller
loop-word-smaller c = grind (arith, common_steps)

pub loop-word-init : goal.loop-word-init
loop-word-init c = grind (arith, common_steps)

pub returns-in-Some-2-clause-kinds : goal.returns-in-Some-2-clause-kinds
returns-in-Some-2-clause-kinds c = grind (arith, common_steps)

pub returns-clause-read : goal.returns-clause-read
returns-clause-read c = grind (arith, common_steps)

pub returns-in_default-clause-read : goal.returns-in_default-clause-read
returns-in_default-clause-read c = grind (arith, common_steps)

pub returns-clause-same : goal.returns-clause-same
returns-clause-same c = grind (arith, common_steps)

pub returns-in_err-kind-clause-same : goal.returns-in_err-kind-clause-same
returns-in_err-kind-clause-same c = grind (arith, common_steps)

pub returns-clause-kinds : goal.returns-clause-kinds
returns-clause-kinds c = grind (arith, common_steps)

pub returns-in_default-clause-kinds : goal.returns-in_default-clause-kinds
returns-in_default-clause-kinds c = grind (arith, common_steps)

pub returns-in_default-clause-same : goal.returns-in_default-clause-same
returns-in_default-clause-same c = grind (arith, common_steps)
