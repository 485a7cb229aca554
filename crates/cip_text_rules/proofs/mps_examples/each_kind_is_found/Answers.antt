use Rattle.std.proofs.Common.{refl}
use Rattle.cip_rational.specs.Numeral.{numeral_of}
use Rattle.cip_text_rules.specs.LineTexts.{outcome_of}
use Rattle.cip_text_rules.proofs.mps_examples.each_kind_is_found.Goals as goal

pub returns : goal.returns
unfolding numeral_of outcome_of
returns c = record {
  kind1_section = refl;
  kind2_repeated = refl;
  kind3_missing = refl;
  kind4_fields = refl;
  kind5_number = refl;
  kind6_huge = refl;
  kind7_fine = refl;
  kind8_row = refl;
  kind9_column = refl;
  kind10_row_again = refl;
  kind11_value_again = refl;
  kind12_column_again = refl;
  kind13_row_type = refl;
  kind14_bound_type = refl;
  kind15_marker = refl;
  kind16_objective = refl;
  kind17_end = refl;
  kind18_row_too_many = refl;
  kind18_last_row = refl;
  kind18_text = refl;
  kind18_before = refl;
  kind18_least = refl;
  kind18_less = refl;
  kind18_no_end = refl;
  kind19_name = refl;
  kind19_short = refl;
  kind20_range = refl;
  kind21_bound = refl;
  kind21_sense = refl;
}
