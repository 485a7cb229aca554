-- A reader of texts of points on plain values: it keeps one value for each column, once that was given.
--     point_steps program      how such a text is read so
use Rattle.std.specs.Prelude.{ℕ, Bool, false, if◌then◌else◌, List, [], ◌∷◌, length, map, Option, None, Some, is_none, is_some, unwrap_or, replicate, slice_index_or, slice_set}
use Rattle.std.specs.List.{list_any}
use Rattle.cip_rational.specs.Rational.{ℚ, zeroℚ}
use Rattle.cip_problem.specs.Program.{Program}
use Rattle.cip_rational.specs.Numeral.{Numeral, value_of}
use Rattle.cip_text_rules.specs.MpsWords.{number_in}
use Rattle.cip_text_rules.specs.MpsRules.{Rule, rule, least}
use Rattle.cip_text_rules.specs.LineTexts.{Reading}
use Rattle.cip_text_rules.specs.PointRules.{PointLine, ValueLine, BadLine, point_lines, is_bad_line, is_unknown_column, is_bad_fraction}

-- the values of the columns by their numbers; one that wasn't given isn't there
abbrev pub no_values : Program → List (Option ℚ)
no_values program = replicate (length program.column_names) None

-- the value of a column by its number
abbrev pub value_held : List (Option ℚ) → Option ℕ → Option ℚ
value_held values None = None
value_held values (Some k) = slice_index_or values k None

-- a column whose value is there
abbrev pub is_held_again : (columns : List (List ℕ)) → List (Option ℚ) → PointLine → Bool
is_held_again columns values (ValueLine column number) = is_some (value_held values (number_in columns column))
is_held_again columns values BadLine = false

-- the tests of a line, by rising kind
abbrev pub point_tests : Program → List (Option ℚ) → PointLine → List Rule
point_tests program values now =
    rule 1 (is_bad_line now)
    ∷ rule 2 (is_unknown_column program.column_names now)
    ∷ rule 3 (is_held_again program.column_names values now)
    ∷ rule 4 (is_bad_fraction now)
    ∷ []

-- the tests of a line with a column and a fraction, in the order in which code makes them
abbrev pub value_tests : Program → List (Option ℚ) → (column : List ℕ) → Numeral → List Rule
value_tests program values column number =
    rule 2 (is_none (number_in program.column_names column))
    ∷ rule 3 (is_some (value_held values (number_in program.column_names column)))
    ∷ rule 4 (is_none (value_of number))
    ∷ []

-- the value of a number is put in its place
abbrev pub put_value : List (Option ℚ) → Option ℕ → Option ℚ → List (Option ℚ)
put_value values None value = values
put_value values (Some k) value = slice_set values k value

-- the values behind a line without fault
abbrev pub values_with : Program → List (Option ℚ) → PointLine → List (Option ℚ)
values_with program values (ValueLine column number) =
    put_value values (number_in program.column_names column) (value_of number)
values_with program values BadLine = values

-- how a text of a point is read on plain values
abbrev pub point_steps : Program → Reading (List (Option ℚ)) PointLine (List ℚ)
point_steps program = record {
  items = point_lines;
  start = no_values program;
  fault = λ values now. least (point_tests program values now);
  next = values_with program;
  end_fault = λ values. if list_any is_none values then Some 5 else None;
  result = λ values. map (λ value. unwrap_or value zeroℚ) values;
  long = 6;
}
