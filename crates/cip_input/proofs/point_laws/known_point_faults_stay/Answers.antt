use Rattle.cip_text.proofs.Streams.{stay}
use Rattle.cip_text_rules.specs.PointRules.{point_reading}
use Rattle.cip_text_rules.specs.PointSteps.{point_steps}
use Rattle.cip_input.proofs.point_laws.known_point_faults_stay.Goals as goal

pub returns : goal.returns
returns c = λ program once. stay (point_reading program) (point_steps program) (c.point_faults_of_ended_lines.ensures program once) (c.point_faults_stay.ensures program once)
