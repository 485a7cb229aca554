-- What the code reads in a text, as the number that the text says.
use Rattle.std.specs.Prelude.{◌<◌, ◌≤◌}
use Rattle.cip_rational.specs.Range.{largest}
use Rattle.cip_rational.specs.Numeral.{Numeral, Exact, NotANumber, Huge, TooFine}
use Rattle.cip_text.specs.declared.reading.Reading.{Reading}
use Rattle.cip_text.specs.declared.reading.Reading.TheVariants.{Fits, NoNumber, Large, Fine}

-- what a text says that was read so
abbrev pub said : Reading → Numeral
said (Fits negative size below) = Exact negative size below
said NoNumber = NotANumber
said (Large negative) = Huge negative
said Fine = TooFine

-- both numbers of a fraction are at most 2^127-1, and the lower one is not 0
abbrev pub FitsRange : Reading → Type 0
FitsRange (Fits negative size below) = (size ≤ largest) × (0 < below) × (below ≤ largest)
FitsRange NoNumber = Unit {0}
FitsRange (Large negative) = Unit {0}
FitsRange Fine = Unit {0}
