use Rattle.std.proofs.lemmas.Grind.{common_steps}
use Rattle.std.proofs.Common.{arith}
use Rattle.cip_text.proofs.piece_reader.PieceReader.feed.Goals as goal

pub returns-in-Err-clause-reads : goal.returns-in-Err-clause-reads
returns-in-Err-clause-reads g c = grind (arith, common_steps)

pub returns-in-Ok-known-clause-reads : goal.returns-in-Ok-known-clause-reads
returns-in-Ok-known-clause-reads g c = grind (arith, common_steps)

pub returns-in-Err-clause-spent : goal.returns-in-Err-clause-spent
returns-in-Err-clause-spent g c = grind (arith, common_steps)

pub returns-in-Ok-known-clause-spent : goal.returns-in-Ok-known-clause-spent
returns-in-Ok-known-clause-spent g c = grind (arith, common_steps)

pub returns-in_default-take-clause-reads : goal.returns-in_default-take-clause-reads
returns-in_default-take-clause-reads g c = grind (arith, common_steps)

pub returns-in_default-clause-reads : goal.returns-in_default-clause-reads
returns-in_default-clause-reads g c = grind (arith, common_steps)

pub returns-in_default-take-clause-spent : goal.returns-in_default-take-clause-spent
returns-in_default-take-clause-spent g c = grind (arith, common_steps)

pub returns-in_default-clause-spent : goal.returns-in_default-clause-spent
returns-in_default-clause-spent g c = grind (arith, common_steps)
