-- The numbers of the rows that the values of a line name.
use Rattle.std.specs.Prelude.{◌≡◌, ℕ, ◌<◌, List, length, Option, None, Some, IfSome}
use Rattle.cip_text_rules.specs.MpsWords.{number_in}
use Rattle.cip_mps_lines.specs.declared.line.Pair.{Pair}
use Rattle.cip_mps_lines.specs.declared.line.Pairs.{Pairs}
use Rattle.cip_mps.specs.declared.names.RowNumbers.{RowNumbers}

-- the number of the row of a second value
abbrev pub second_number : List (List ℕ) → Option Pair → Option ℕ
second_number names None = None
second_number names (Some pair) = number_in names pair.row.now

-- these are the numbers of the rows that these values name
pub record AreFound (names : List (List ℕ)) (values : Pairs) (rows : RowNumbers) : Type 0 where
  pub first : rows.first ≡ number_in names values.first.row.now
  pub second : rows.second ≡ second_number names values.second
  pub first_within : IfSome rows.first (λ number. number < length names)
  pub second_within : IfSome rows.second (λ number. number < length names)
