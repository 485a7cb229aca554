use Rattle.std.proofs.lemmas.Grind.{common_steps}
use Rattle.std.proofs.Common.{arith}
use Rattle.cip_rows.proofs.fingerprints.mix_number.Goals as goal

pub returns-clause-value : goal.returns-clause-value
returns-clause-value c = grind (arith, common_steps)

pub returns-clause-below : goal.returns-clause-below
returns-clause-below c = grind (arith, common_steps)

pub mix-requires-2-clause-more : goal.mix-requires-2-clause-more
mix-requires-2-clause-more c = grind (arith, common_steps)

pub mix-requires-2-clause-from : goal.mix-requires-2-clause-from
mix-requires-2-clause-from c = grind (arith, common_steps)

pub mix-requires-clause-more : goal.mix-requires-clause-more
mix-requires-clause-more c = grind (arith, common_steps)
