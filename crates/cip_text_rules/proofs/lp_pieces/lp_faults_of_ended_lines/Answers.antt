use Rattle.std.proofs.Common.{◌≡◌}
use Rattle.cip_text_rules.proofs.LineFaults.{ended_faults}
use Rattle.cip_text_rules.specs.LpOutcome.{lp_reading}
use Rattle.cip_text_rules.proofs.LpStream.{same_way}
use Rattle.cip_text_rules.proofs.lp_pieces.lp_faults_of_ended_lines.Goals as goal

pub returns : goal.returns
returns c = ended_faults lp_reading lp_reading (λ k s. s ≡ k) (same_way lp_reading)
