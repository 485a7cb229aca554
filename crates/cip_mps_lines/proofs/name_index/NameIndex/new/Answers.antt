use Rattle.std.proofs.lemmas.Grind.{common_steps}
use Rattle.std.proofs.Common.{arith}
use Rattle.cip_mps_lines.proofs.NameLaws.{none_apart}
use Rattle.cip_mps_lines.proofs.name_index.NameIndex.new.Goals as goal

pub invariant_of-result : goal.invariant_of-result
invariant_of-result c = rw c.new.ensures none_apart

pub returns : goal.returns
returns c = grind (arith, common_steps)
