use Rattle.cip_rational.proofs.NumberText.{fraction_text_injective}
use Rattle.cip_rational.proofs.numerals.texts_tell_numbers.Goals as goal

pub returns : goal.returns
returns c = fraction_text_injective
