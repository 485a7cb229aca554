use Rattle.std.proofs.lemmas.Grind.{common_steps}
use Rattle.std.proofs.Common.{arith}
use Rattle.cip_mps.proofs.line_reader.LineReader.take_line.Goals as goal

pub returns-in-None-clause-read : goal.returns-in-None-clause-read
returns-in-None-clause-read c = grind (arith, common_steps)

pub returns-in-Some-clause-read : goal.returns-in-Some-clause-read
returns-in-Some-clause-read c = grind (arith, common_steps)

pub returns-then-self-clause-read : goal.returns-then-self-clause-read
returns-then-self-clause-read c = grind (arith, common_steps)

pub returns-in-Some-clause-kinds : goal.returns-in-Some-clause-kinds
returns-in-Some-clause-kinds c = grind (arith, common_steps)

pub returns-in-None-clause-kinds : goal.returns-in-None-clause-kinds
returns-in-None-clause-kinds c = grind (arith, common_steps)

pub returns-then-self-clause-kinds : goal.returns-then-self-clause-kinds
returns-then-self-clause-kinds c = grind (arith, common_steps)
