use Rattle.cip_rational.specs.Numeral.{numeral_of}
use Rattle.cip_rational.specs.FractionText.{fraction_of}
use Rattle.cip_rational.proofs.InRange.{sound_numeral, sound_fraction, fits_value}
use Rattle.cip_rational.proofs.number_laws.values_are_exact.Goals as goal

pub returns : goal.returns
returns c = record {
  number = λ text. fits_value (numeral_of text) (sound_numeral text);
  fraction = λ text. fits_value (fraction_of text) (sound_fraction text);
}
