use Rattle.std.proofs.lemmas.Grind.{common_steps}
use Rattle.std.proofs.Common.{◌≡◌, ◌∙◌, subst, arith}
use Rattle.cip_rational.specs.Rational.{ratio}
use Rattle.cip_rational.specs.Numeral as text
use Rattle.cip_text.specs.Readings.{FitsRange}
use Rattle.cip_text.specs.declared.reading.Reading.TheVariants.{Fits}
use Rattle.cip_text.proofs.Reduced.{no_fault, quotient_read}
use Rattle.cip_text.proofs.number_text.value_of.Goals as goal

pub unreachable-requires : goal.unreachable-requires
unreachable-requires c =
    let fits : FitsRange (Fits c.in-Fits.negative c.in-Fits.size c.in-Fits.below) = subst FitsRange c.in-Fits.is c.requires in
    no_fault c.in-Fits.negative c.in-Fits.size c.in-Fits.below c.signed.result c.signed-in-Fits.result c.signed.ensures c.signed-in-Fits.ensures fits.0 fits.1 fits.2 c.in-Err.field-0 c.in-Err.ensures

pub returns-in-Ok : goal.returns-in-Ok
returns-in-Ok c =
    let fits : FitsRange (Fits c.in-Fits.negative c.in-Fits.size c.in-Fits.below) = subst FitsRange c.in-Fits.is c.requires in
    let value : c.in-Ok.value ≡ ratio (text.signed c.in-Fits.negative c.in-Fits.size) c.in-Fits.below =
    c.in-Ok.ensures.1
    ∙ quotient_read c.in-Fits.negative c.in-Fits.size c.in-Fits.below c.signed.result c.signed-in-Fits.result c.signed.ensures c.signed-in-Fits.ensures fits.0 fits.1 fits.2 in
    grind (arith, common_steps, value)

pub signed-requires-in-Fits : goal.signed-requires-in-Fits
signed-requires-in-Fits c = grind (arith, common_steps)

pub signed-requires : goal.signed-requires
signed-requires c = grind (arith, common_steps)

pub returns-in-Large : goal.returns-in-Large
returns-in-Large c = grind (arith, common_steps)

pub returns-in-Fine : goal.returns-in-Fine
returns-in-Fine c = grind (arith, common_steps)

pub returns-in-NoNumber : goal.returns-in-NoNumber
returns-in-NoNumber c = grind (arith, common_steps)

pub unreachable-unreachable : goal.unreachable-unreachable
unreachable-unreachable c = grind (arith, common_steps)
