use Rattle.std.proofs.lemmas.Grind.{common_steps}
use Rattle.std.proofs.Common.{arith}
use Rattle.cip_input.proofs.point_text.PointTextPieceText.finish.Goals as goal

pub returns : goal.returns
returns c = grind (arith, common_steps)

pub returns-in-Err : goal.returns-in-Err
returns-in-Err c = grind (arith, common_steps)

pub close-requires : goal.close-requires
close-requires c = grind (arith, common_steps)

pub told-requires : goal.told-requires
told-requires c = grind (arith, common_steps)
