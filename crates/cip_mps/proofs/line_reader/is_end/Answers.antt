use Rattle.std.proofs.lemmas.Grind.{common_steps}
use Rattle.std.proofs.Common.{arith}
use Rattle.cip_mps.proofs.line_reader.is_end.Goals as goal

pub returns-in_default-matches : goal.returns-in_default-matches
returns-in_default-matches c = grind (arith, common_steps)

pub returns-in_default : goal.returns-in_default
returns-in_default c = grind (arith, common_steps)

pub returns-in-End : goal.returns-in-End
returns-in-End c = grind (arith, common_steps)
