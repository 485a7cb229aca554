use Rattle.std.proofs.Common.{◌≡◌, ℕ, length}
use Rattle.std.specs.Prelude.{fold}
use Rattle.cip_text.specs.TextLines.{fields_left}
use Rattle.cip_text_rules.specs.LineStream.{Going, line_read, item_read}
use Rattle.cip_blocks.specs.BlockWordsRead.{program_of, state_of, steps_of}
use Rattle.cip_blocks.proofs.block_words.BlockWords.take_line.Given as goal

abbrev pub invariant-loop-word : goal.invariant-loop-word
invariant-loop-word l = record {
  read : (number : ℕ) → line_read (steps_of l.fn.self) (Going (state_of l.fn.self)) number l.line
      ≡ fold (λ p word. item_read (steps_of l.fn.self) p number word) (Going (state_of l.self)) (fields_left l.left);
  same : program_of l.self ≡ program_of l.fn.self;
}

abbrev pub decreases-loop-word : goal.decreases-loop-word
decreases-loop-word l = length (fields_left l.left)
