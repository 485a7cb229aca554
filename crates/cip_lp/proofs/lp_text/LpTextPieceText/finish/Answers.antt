use Rattle.std.proofs.lemmas.Grind.{common_steps}
use Rattle.std.proofs.Common.{arith}
use Rattle.cip_lp.proofs.lp_text.LpTextPieceText.finish.Goals as goal

pub returns-in_err-into_program-in-Ok : goal.returns-in_err-into_program-in-Ok
returns-in_err-into_program-in-Ok c = grind (arith, common_steps)
