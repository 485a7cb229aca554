use Rattle.cip_rational.proofs.InRange.{sound_numeral, sound_fraction}
use Rattle.cip_rational.proofs.number_laws.numbers_fit.Goals as goal

pub returns : goal.returns
returns c = record { number = λ text. (sound_numeral text).told; fraction = λ text. (sound_fraction text).told }
