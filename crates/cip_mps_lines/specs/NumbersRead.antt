-- What was read of a number.
use Rattle.std.specs.Prelude.{◌≡◌, Result, Some, MatchResult}
use Rattle.cip_rational.specs.Rational.{ℚ}
use Rattle.cip_rational.specs.Numeral.{Numeral, value_of}
use Rattle.cip_text.specs.NumberFaults.{faulty}
use Rattle.cip_text.specs.declared.number_text.NumberFault.{NumberFault}

-- the value of a number, or why it has none
abbrev pub IsRead : Numeral → Result ℚ NumberFault → Type 0
IsRead numeral outcome =
    MatchResult outcome (λ value. value_of numeral ≡ Some value) (λ fault. numeral ≡ faulty fault)
