use Rattle.std.proofs.Common.{refl}
use Rattle.cip_text_rules.specs.LineTexts.{outcome_of}
use Rattle.cip_text_rules.proofs.block_examples.each_block_kind_is_found.Goals as goal

pub returns : goal.returns
unfolding outcome_of
returns c = record {
  kind1_name_first = refl;
  kind1_other_value = refl;
  kind2_zero = refl;
  kind2_large = refl;
  kind2_sign = refl;
  kind3_zero = refl;
  kind3_large = refl;
  kind3_again = refl;
  kind3_word = refl;
  kind4_unknown = refl;
  kind4_objective = refl;
  kind5_again = refl;
  kind5_as_master = refl;
  kind6_linking = refl;
  kind7_open = refl;
  kind8_empty = refl;
  kind8_no_count = refl;
  kind8_no_block = refl;
}
