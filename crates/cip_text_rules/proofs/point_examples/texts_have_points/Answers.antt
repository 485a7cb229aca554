use Rattle.std.proofs.Common.{refl}
use Rattle.cip_rational.specs.Numeral.{numeral_of}
use Rattle.cip_rational.specs.FractionText.{fraction_of}
use Rattle.cip_text_rules.specs.LineTexts.{outcome_of}
use Rattle.cip_text_rules.proofs.point_examples.texts_have_points.Goals as goal

pub returns : goal.returns
unfolding numeral_of fraction_of outcome_of
returns c = record { by_name = refl; no_column = refl }
