-- The law of the texts of numbers, as one statement: a function of `src/lib.rt` has it as its contract.
use Rattle.std.specs.Prelude.{◌≡◌}
use Rattle.cip_rational.specs.Rational.{ℚ}
use Rattle.cip_rational.specs.NumberText.{fraction_text}

-- two numbers with one text are one number
abbrev pub TextsTellNumbers : Type 0
TextsTellNumbers = (x y : ℚ) → fraction_text x ≡ fraction_text y → x ≡ y
