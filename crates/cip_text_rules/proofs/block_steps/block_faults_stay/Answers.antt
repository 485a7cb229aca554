use Rattle.cip_text_rules.proofs.LineFaults.{faults_stay}
use Rattle.cip_text_rules.specs.BlockRules.{block_reading}
use Rattle.cip_text_rules.specs.BlockSteps.{block_steps}
use Rattle.cip_text_rules.proofs.BlockSame.{Holds, stands}
use Rattle.cip_text_rules.proofs.block_steps.block_faults_stay.Goals as goal

pub returns : goal.returns
returns c = λ program d. faults_stay (block_reading program) (block_steps program) (Holds program) (stands program d)
