use Rattle.std.proofs.Common.{refl}
use Rattle.cip_rational.specs.Numeral.{numeral_of}
use Rattle.cip_rational.specs.FractionText.{fraction_of}
use Rattle.cip_text_rules.specs.LineTexts.{outcome_of}
use Rattle.cip_text_rules.proofs.point_examples.point_faults_are_told.Goals as goal

pub returns : goal.returns
unfolding numeral_of fraction_of outcome_of
returns c = record {
  again_and_bad = refl;
  unknown_and_bad = refl;
  first_line = refl;
  before_end = refl;
  large_letters = refl;
  star_behind_blank = refl;
  block_comment = refl;
}
