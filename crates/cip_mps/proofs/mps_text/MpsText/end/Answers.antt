use Rattle.std.proofs.lemmas.Grind.{common_steps}
use Rattle.std.proofs.Common.{arith}
use Rattle.cip_mps.proofs.mps_text.MpsText.end.Goals as goal

pub returns : goal.returns
returns c = λ bytes come. record { means = rw c.in_ok-told.ensures at c.in_ok-known.ensures.outcome bytes come }

pub told-requires : goal.told-requires
told-requires c = grind (arith, common_steps)
