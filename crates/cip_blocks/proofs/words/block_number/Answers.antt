use Rattle.std.proofs.lemmas.Grind.{common_steps}
use Rattle.std.proofs.Common.{arith}
use Rattle.cip_blocks.proofs.WordLaws.{digit_more}
use Rattle.cip_blocks.proofs.words.block_number.Goals as goal

pub loop-byte-preserved : goal.loop-byte-preserved
loop-byte-preserved c = record {
  value = digit_more c.args.word.now c.loop-byte.byte-index c.loop-byte.value c.min-value.result c.loop-byte-test.true c.loop-byte.invariant.value (grind (arith, common_steps));
  digits = grind (arith, common_steps);
}

pub returns-then-not-is_ascii_digit : goal.returns-then-not-is_ascii_digit
returns-then-not-is_ascii_digit c = grind (arith, common_steps)

pub returns-then-value-gt4096 : goal.returns-then-value-gt4096
returns-then-value-gt4096 c = grind (arith, common_steps)

pub returns-else-value-gt4096 : goal.returns-else-value-gt4096
returns-else-value-gt4096 c = grind (arith, common_steps)

pub overflow_add-next : goal.overflow_add-next
overflow_add-next c = grind (arith, common_steps)

pub overflow_mul-next : goal.overflow_mul-next
overflow_mul-next c = grind (arith, common_steps)

pub loop-byte-init : goal.loop-byte-init
loop-byte-init c = grind (arith, common_steps)
