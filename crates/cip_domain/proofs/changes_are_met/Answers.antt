use Rattle.cip_domain.proofs.Boxes.{changes_out, changes_in}
use Rattle.cip_domain.proofs.changes_are_met.Goals as goal

pub returns : goal.returns
returns c = λ region changes point l. (changes_out region changes point l, λ h. changes_in region changes point h.0 h.1)
