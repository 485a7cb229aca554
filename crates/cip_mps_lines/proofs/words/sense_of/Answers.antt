use Rattle.std.proofs.lemmas.Grind.{common_steps}
use Rattle.std.proofs.Common.{arith}
use Rattle.cip_mps_lines.proofs.words.sense_of.Goals as goal

pub returns-then-eq_ignore_ascii_case-4 : goal.returns-then-eq_ignore_ascii_case-4
returns-then-eq_ignore_ascii_case-4 c = grind (arith, common_steps)

pub returns-then-eq_ignore_ascii_case-3 : goal.returns-then-eq_ignore_ascii_case-3
returns-then-eq_ignore_ascii_case-3 c = grind (arith, common_steps)

pub returns-then-eq_ignore_ascii_case-2 : goal.returns-then-eq_ignore_ascii_case-2
returns-then-eq_ignore_ascii_case-2 c = grind (arith, common_steps)

pub returns-then-eq_ignore_ascii_case : goal.returns-then-eq_ignore_ascii_case
returns-then-eq_ignore_ascii_case c = grind (arith, common_steps)
