use Rattle.std.proofs.lemmas.Grind.{common_steps}
use Rattle.std.proofs.Common.{arith}
use Rattle.cip_mps_lines.proofs.ValuesRead.{far_read}
use Rattle.cip_mps_lines.proofs.bound_numbers.is_far.Goals as goal

pub returns : goal.returns
returns c = far_read c.args.value c.in-Ok.far c.abs.result c.le.result c.in-Ok.ensures c.abs.ensures c.le.ensures

pub unreachable-requires : goal.unreachable-requires
unreachable-requires c = grind (arith, common_steps)

pub unreachable-unreachable : goal.unreachable-unreachable
unreachable-unreachable c = grind (arith, common_steps)
