use Rattle.std.proofs.Common.{refl}
use Rattle.cip_rational.specs.Numeral.{numeral_of}
use Rattle.cip_text_rules.specs.LineTexts.{outcome_of}
use Rattle.cip_text_rules.proofs.lp_examples.lp_texts_have_programs.Goals as goal

pub returns : goal.returns
unfolding numeral_of outcome_of
returns c = record {
  three_columns = refl;
  loose = refl;
  empty = refl;
}
