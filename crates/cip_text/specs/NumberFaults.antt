-- Why a text has no value, as what it says.
use Rattle.cip_rational.specs.Numeral as text
use Rattle.cip_text.specs.declared.number_text.NumberFault.{NumberFault}
use Rattle.cip_text.specs.declared.number_text.NumberFault.TheVariants.{NotANumber, Huge, TooFine}

-- what a text with this fault says
abbrev pub faulty : NumberFault → text.Numeral
faulty NotANumber = text.NotANumber
faulty (Huge negative) = text.Huge negative
faulty TooFine = text.TooFine
