use Rattle.std.proofs.lemmas.Grind.{common_steps}
use Rattle.std.proofs.Common.{arith}
use Rattle.cip_rational.proofs.Comparisons.{is_le-compare}
use Rattle.cip_report.proofs.checks.side_broken.Goals as goal

pub returns-then-le : goal.returns-then-le
returns-then-le c = grind (arith, common_steps, is_le-compare)

pub returns-else-le : goal.returns-else-le
returns-else-le c = grind (arith, common_steps, is_le-compare)

pub unreachable-requires : goal.unreachable-requires
unreachable-requires c = grind (arith, common_steps)

pub returns-in-None-Some : goal.returns-in-None-Some
returns-in-None-Some c = grind (arith, common_steps)

pub unreachable-unreachable : goal.unreachable-unreachable
unreachable-unreachable c = grind (arith, common_steps)
