use Rattle.std.proofs.Common.{◌≡◌}
use Rattle.cip_text_rules.proofs.LineSame.{texts_are_read}
use Rattle.cip_text_rules.specs.LpOutcome.{lp_reading}
use Rattle.cip_text_rules.proofs.LpStream.{same_way}
use Rattle.cip_text_rules.proofs.lp_pieces.lp_texts_are_read.Goals as goal

pub returns : goal.returns
returns c = texts_are_read lp_reading lp_reading (λ k s. s ≡ k) (same_way lp_reading)
