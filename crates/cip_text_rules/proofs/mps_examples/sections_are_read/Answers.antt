use Rattle.std.proofs.Common.{refl}
use Rattle.cip_rational.specs.Numeral.{numeral_of}
use Rattle.cip_text_rules.specs.LineTexts.{outcome_of}
use Rattle.cip_text_rules.proofs.mps_examples.sections_are_read.Goals as goal

pub returns : goal.returns
unfolding numeral_of outcome_of
returns c = record {
  columns_first = refl;
  columns_alone = refl;
  bounds_first = refl;
  name_late = refl;
  fields_first = refl;
  fields_of_name = refl;
  small_letters = refl;
  word_too_many = refl;
  order_is_less = refl;
  missing_is_less = refl;
  two_senses = refl;
  sense_and_line = refl;
  two_words = refl;
  three_words = refl;
  any_case = refl;
  star_behind_blank = refl;
  lines_count = refl;
  other_bytes = refl;
}
