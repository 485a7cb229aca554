use Rattle.cip_rational.specs.Numeral.{numeral_of}
use Rattle.cip_text_rules.specs.LineTexts.{outcome_of}
use Rattle.cip_text_rules.proofs.Tried as tried
use Rattle.cip_text_rules.proofs.mps_examples.texts_have_programs.Goals as goal

pub returns : goal.returns
unfolding numeral_of outcome_of
returns c = record {
  three_columns = tried.three_columns_is;
  loose = tried.loose_is;
  open_columns = tried.open_is;
  semi = tried.semi_is;
}
