use Rattle.std.proofs.lemmas.Grind.{common_steps}
use Rattle.std.proofs.Common.{arith}
use Rattle.cip_model.proofs.NameKeys.{no_key}
use Rattle.cip_model.proofs.name_order.key_of.Goals as goal

pub returns-then-key-ge-FULL : goal.returns-then-key-ge-FULL
returns-then-key-ge-FULL c = no_key c.args.name.now c.loop-byte.key c.loop-byte.byte-index c.loop-byte.invariant.key c.loop-byte-test.true c.if-key-ge-FULL.true

pub loop-byte-preserved : goal.loop-byte-preserved
loop-byte-preserved c = grind (arith, common_steps)

pub returns : goal.returns
returns c = grind (arith, common_steps)

pub overflow_add-key : goal.overflow_add-key
overflow_add-key c = grind (arith, common_steps)

pub overflow_mul-key : goal.overflow_mul-key
overflow_mul-key c = grind (arith, common_steps)

pub overflow_add-result : goal.overflow_add-result
overflow_add-result c = grind (arith, common_steps)

pub overflow_cast-result : goal.overflow_cast-result
overflow_cast-result c = grind (arith, common_steps)

pub overflow_mul-result : goal.overflow_mul-result
overflow_mul-result c = grind (arith, common_steps)

pub returns-then-count-ge16 : goal.returns-then-count-ge16
returns-then-count-ge16 c = grind (arith, common_steps)

pub loop-byte-init : goal.loop-byte-init
loop-byte-init c = grind (arith, common_steps)
