use Rattle.std.proofs.Common.{refl}
use Rattle.cip_rational.specs.Numeral.{numeral_of}
use Rattle.cip_text_rules.specs.LineTexts.{outcome_of}
use Rattle.cip_text_rules.proofs.lp_examples.each_lp_kind_is_found.Goals as goal

pub returns : goal.returns
unfolding numeral_of outcome_of
returns c = record {
  kind1_token = refl;
  kind1_first = refl;
  kind2_section = refl;
  kind2_again = refl;
  kind2_first = refl;
  kind2_end = refl;
  kind3_statement = refl;
  kind3_direction = refl;
  kind3_equality = refl;
  kind3_value = refl;
  kind4_huge = refl;
  kind5_fine = refl;
  kind5_bound = refl;
  kind6_row_again = refl;
  kind6_objective = refl;
  kind6_own_name = refl;
  kind7_entry_again = refl;
  kind7_cost_again = refl;
  kind8_end = refl;
  kind8_nothing = refl;
  kind9_row = refl;
  kind9_last_row = refl;
  kind9_entry = refl;
  kind9_no_entry = refl;
  kind9_last_entry = refl;
  kind9_text = refl;
  kind9_told = refl;
  kind9_end = refl;
  kind9_first = refl;
  kind10_name = refl;
  kind10_short = refl;
  kind11_section = refl;
  kind11_high = refl;
  kind11_value = refl;
}
