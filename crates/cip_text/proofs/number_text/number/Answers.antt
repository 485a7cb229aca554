use Rattle.std.proofs.lemmas.Grind.{common_steps}
use Rattle.std.proofs.Common.{sym, subst, arith}
use Rattle.cip_rational.proofs.InRange.{IsSound, sound_numeral}
use Rattle.cip_text.proofs.Reduced.{kept_reading}
use Rattle.cip_text.proofs.number_text.number.Goals as goal

pub value_of-requires : goal.value_of-requires
value_of-requires c = kept_reading c.numeral.result (subst IsSound (sym c.numeral.ensures) (sound_numeral c.args.bytes.now))

pub returns : goal.returns
returns c = grind (arith, common_steps)
