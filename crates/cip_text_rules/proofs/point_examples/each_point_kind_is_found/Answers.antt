use Rattle.std.proofs.Common.{refl}
use Rattle.cip_rational.specs.Numeral.{numeral_of}
use Rattle.cip_rational.specs.FractionText.{fraction_of}
use Rattle.cip_text_rules.specs.LineTexts.{outcome_of}
use Rattle.cip_text_rules.proofs.point_examples.each_point_kind_is_found.Goals as goal

pub returns : goal.returns
unfolding numeral_of fraction_of outcome_of
returns c = record {
  kind1_one_field = refl;
  kind1_three_fields = refl;
  kind2_unknown = refl;
  kind3_again = refl;
  kind4_no_number = refl;
  kind4_by_zero = refl;
  kind4_huge = refl;
  kind4_fine = refl;
  kind5_missing = refl;
  kind5_empty = refl;
  kind5_open_line = refl;
}
