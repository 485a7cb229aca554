use Rattle.std.proofs.Common.{refl}
use Rattle.cip_rational.specs.Numeral.{numeral_of}
use Rattle.cip_text_rules.specs.LineTexts.{outcome_of}
use Rattle.cip_text_rules.proofs.SemiTried as semis
use Rattle.cip_text_rules.proofs.mps_examples.semis_are_read.Goals as goal

pub returns : goal.returns
unfolding numeral_of outcome_of
returns c = record {
  no_choices = refl;
  low_zero = semis.low_zero;
  low_before = semis.low_before;
  low_behind = semis.low_behind;
  later_high = semis.later_high;
  again = semis.again;
  sides = semis.sides;
  falls = semis.falls;
  sides_fall = semis.sides_fall;
  zero_value = refl;
  negative_value = refl;
  no_bound = refl;
  far_value = refl;
  past_range = refl;
  fields_are_less = refl;
  number_is_less = refl;
  fine_is_less = refl;
  column_is_less = refl;
  other_set = refl;
  whole_before = refl;
  whole_low = refl;
  whole_high = refl;
  binary = refl;
  other_column = refl;
  low_removed = refl;
  no_low = refl;
  no_high = refl;
  free = refl;
  negative_low = semis.negative_low;
  end_fields_are_less = refl;
}
