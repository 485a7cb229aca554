-- The limits of programs and of their texts.
use Rattle.std.specs.Prelude.{ℕ}

-- the most rows of a program
abbrev pub most_rows : ℕ
most_rows = 65536

-- the most columns of a program
abbrev pub most_columns : ℕ
most_columns = 65536

-- the most entries of a program: pairs of a row and a column with a coefficient that is not 0
abbrev pub most_entries : ℕ
most_entries = 4194304

-- the most bytes of the name of a row or of a column
abbrev pub longest_name : ℕ
longest_name = 255

-- the most bytes of a text
abbrev pub longest_text : ℕ
longest_text = 67108864
