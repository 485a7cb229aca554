use Rattle.cip_text_rules.proofs.Coefficients.{coefficients_are}
use Rattle.cip_text_rules.proofs.mps_texts.coefficients_are_numbers.Goals as goal

pub returns : goal.returns
returns c = coefficients_are
