use Rattle.std.proofs.Common.{refl}
use Rattle.cip_text_rules.proofs.Tried as tried
use Rattle.cip_rational.specs.Numeral.{numeral_of}
use Rattle.cip_text_rules.specs.LineTexts.{outcome_of}
use Rattle.cip_text_rules.proofs.mps_examples.sides_are_read.Goals as goal

pub returns : goal.returns
unfolding numeral_of outcome_of
returns c = record {
  plain = refl;
  not_named = refl;
  other_set = refl;
  ranged = tried.ranged;
  range_down = tried.range_down;
  wide_range = tried.wide_range;
  wide_right_side = tried.wide_right_side;
  range_before = tried.range_before;
  value_again = refl;
  set_is_skipped = refl;
  count_of_set = refl;
  range_of_free = refl;
  unknown_range = refl;
}
