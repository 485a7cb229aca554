use Rattle.std.proofs.Common.{arith}
use Rattle.std.proofs.lemmas.Grind.{common_steps}
use Rattle.std.proofs.lemmas.List.{take-map}
use Rattle.cip_mps_lines.proofs.fields.Words.as_slice.Goals as goal

pub returns : goal.returns
returns c = grind (arith, common_steps, take-map)

pub shared_ref_as_front-result : goal.shared_ref_as_front-result
shared_ref_as_front-result c = grind (arith, common_steps)
