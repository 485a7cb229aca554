use Rattle.std.proofs.Common.{refl}
use Rattle.cip_text_rules.specs.LineTexts.{outcome_of}
use Rattle.cip_text_rules.proofs.block_examples.block_faults_are_told.Goals as goal

pub returns : goal.returns
unfolding outcome_of
returns c = record {
  block_first = refl;
  count_again = refl;
  keyword_as_zero = refl;
  keyword_as_count = refl;
  keyword_as_block = refl;
  name_behind_count = refl;
  name_behind_zero = refl;
  small_letters = refl;
  other_comment = refl;
  comment_behind_blank = refl;
  ends_at_zero = refl;
  ends_at_count = refl;
  ends_at_block = refl;
  linking_before_missing = refl;
  open_before_missing = refl;
  linking_before_open = refl;
  word_before_end = refl;
}
