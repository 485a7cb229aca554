use Rattle.std.proofs.Common.{refl}
use Rattle.cip_rational.specs.Numeral.{numeral_of}
use Rattle.cip_text_rules.specs.LineTexts.{outcome_of}
use Rattle.cip_text_rules.proofs.mps_examples.bounds_are_read.Goals as goal

pub returns : goal.returns
unfolding numeral_of outcome_of
returns c = record {
  none = refl;
  high = refl;
  negative_high = refl;
  low_before = refl;
  zero_high = refl;
  fixed = refl;
  free = refl;
  no_low = refl;
  no_high = refl;
  open_high = refl;
  open_low = refl;
  far_high = refl;
  other_set = refl;
  no_set = refl;
  later_wins = refl;
  whole_by_marker = refl;
  whole_by_bound = refl;
  bad_in_other_set = refl;
  count_in_other_set = refl;
  bad_type_alone = refl;
  type_alone = refl;
  other_set_of_sc = refl;
  number_of_sc = refl;
  low_upwards = refl;
  high_downwards = refl;
  fixed_far = refl;
  far_and_unknown = refl;
  fine_bound = refl;
}
