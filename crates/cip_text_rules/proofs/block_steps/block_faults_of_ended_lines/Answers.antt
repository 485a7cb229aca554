use Rattle.cip_text_rules.proofs.LineFaults.{ended_faults}
use Rattle.cip_text_rules.specs.BlockRules.{block_reading}
use Rattle.cip_text_rules.specs.BlockSteps.{block_steps}
use Rattle.cip_text_rules.proofs.BlockSame.{Holds, stands}
use Rattle.cip_text_rules.proofs.block_steps.block_faults_of_ended_lines.Goals as goal

pub returns : goal.returns
returns c = λ program d. ended_faults (block_reading program) (block_steps program) (Holds program) (stands program d)
