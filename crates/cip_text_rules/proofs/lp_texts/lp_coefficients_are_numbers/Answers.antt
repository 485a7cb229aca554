use Rattle.cip_text_rules.proofs.LpFits.{none_again, own_given, others_given}
use Rattle.cip_text_rules.proofs.LpForms.{row_numbers}
use Rattle.cip_text_rules.proofs.lp_texts.lp_coefficients_are_numbers.Goals as goal

pub returns : goal.returns
returns c = record { none = none_again; own = own_given; others = others_given; row = row_numbers }
