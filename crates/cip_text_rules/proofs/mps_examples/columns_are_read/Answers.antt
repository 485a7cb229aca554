use Rattle.std.proofs.Common.{refl}
use Rattle.cip_rational.specs.Numeral.{numeral_of}
use Rattle.cip_text_rules.specs.LineTexts.{outcome_of}
use Rattle.cip_text_rules.proofs.mps_examples.columns_are_read.Goals as goal

pub returns : goal.returns
unfolding numeral_of outcome_of
returns c = record {
  marker_row = refl;
  plain_marker = refl;
  other_quotes = refl;
  five_fields = refl;
  marker_between = refl;
  split_and_again = refl;
  zero_again = refl;
  twice_in_line = refl;
  number_is_less = refl;
  long_column = refl;
  row_type_and_name = refl;
  four_fields = refl;
}
