use Rattle.std.proofs.Common.{refl}
use Rattle.cip_rational.specs.Numeral.{numeral_of}
use Rattle.cip_text_rules.specs.LineTexts.{outcome_of}
use Rattle.cip_text_rules.proofs.lp_examples.lp_statements_are_read.Goals as goal

pub returns : goal.returns
unfolding numeral_of outcome_of
returns c = record {
  empty_objective = refl;
  two_constants = refl;
  constant_first = refl;
  reserved = refl;
  section_inside = refl;
  order_inside = refl;
  section_colon = refl;
  outside_first = refl;
  outside_inside = refl;
  fault_before_section = refl;
  infinity_in_row = refl;
  far_in_row = refl;
  huge_bound = refl;
  equal_bound = refl;
  equal_twice = refl;
  other_way = refl;
  zero_form = refl;
  zero_value = refl;
  behind_end = refl;
}
