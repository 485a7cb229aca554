use Rattle.std.proofs.Common.{◌≡◌}
use Rattle.cip_text_rules.proofs.LineFaults.{faults_stay}
use Rattle.cip_text_rules.specs.LpOutcome.{lp_reading}
use Rattle.cip_text_rules.proofs.LpStream.{same_way}
use Rattle.cip_text_rules.proofs.lp_pieces.lp_faults_stay.Goals as goal

pub returns : goal.returns
returns c = faults_stay lp_reading lp_reading (λ k s. s ≡ k) (same_way lp_reading)
