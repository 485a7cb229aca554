use Rattle.cip_text.proofs.Streams.{stay}
use Rattle.cip_text_rules.specs.MpsOutcome.{mps_reading}
use Rattle.cip_text_rules.specs.MpsSteps.{mps_steps}
use Rattle.cip_mps.proofs.laws.known_faults_stay.Goals as goal

pub returns : goal.returns
returns c = stay mps_reading mps_steps c.faults_of_ended_lines.ensures c.faults_stay.ensures
