use Rattle.std.proofs.Common.{refl}
use Rattle.cip_text_rules.proofs.Quiet.{kept, least_broken, least_least}
use Rattle.cip_text_rules.specs.BlockWords.{word_said}
use Rattle.cip_text_rules.specs.BlockRules.{block_rules, block_end_rules}
use Rattle.cip_text_rules.proofs.blocks.block_faults_are_least.Goals as goal

pub returns : goal.returns
returns c = record {
  broken = λ program facts word kind e. least_broken (block_rules program facts (word_said facts.place word)) kind e;
  least = λ program facts word kind e. least_least 0 (block_rules program facts (word_said facts.place word)) kind refl e;
  none = λ program facts word e. kept (block_rules program facts (word_said facts.place word)) e;
  end_broken = λ program facts kind e. least_broken (block_end_rules program facts) kind e;
  end_least = λ program facts kind e. least_least 0 (block_end_rules program facts) kind refl e;
  end_none = λ program facts e. kept (block_end_rules program facts) e;
}
