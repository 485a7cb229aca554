use Rattle.std.proofs.lemmas.Grind.{common_steps}
use Rattle.std.proofs.Common.{arith}
use Rattle.cip_rows.proofs.fingerprints.fingerprint.Goals as goal

pub returns-in-Some : goal.returns-in-Some
returns-in-Some c = grind (arith, common_steps)

pub mix_number-requires : goal.mix_number-requires
mix_number-requires c = grind (arith, common_steps)

pub returns-in-None : goal.returns-in-None
returns-in-None c = grind (arith, common_steps)

pub loop-term-preserved : goal.loop-term-preserved
loop-term-preserved c = grind (arith, common_steps)

pub mix_number-from-requires : goal.mix_number-from-requires
mix_number-from-requires c = grind (arith, common_steps)

pub mix-requires-clause-from : goal.mix-requires-clause-from
mix-requires-clause-from c = grind (arith, common_steps)

pub offset_bounds-term-items-term-index : goal.offset_bounds-term-items-term-index
offset_bounds-term-items-term-index c = grind (arith, common_steps)

pub mix-requires-clause-more : goal.mix-requires-clause-more
mix-requires-clause-more c = grind (arith, common_steps)
