-- The kinds of faults of a text of a point: the number and the name of each, as they are printed.
use lib.Chars.{codes}
use Rattle.std.specs.Prelude.{ℕ, ◌-◌, List, [], ◌∷◌, slice_index_or}
use Rattle.cip_input.specs.declared.kinds.PointKind.{PointKind}

-- the number of a kind
abbrev pub kind_number : PointKind → ℕ
kind_number kind = kind.number

-- those of all kinds
abbrev pub kind_texts : List (List ℕ)
kind_texts =
    codes "1 BadLine"
    ∷ codes "2 UnknownColumn"
    ∷ codes "3 ColumnTwice"
    ∷ codes "4 BadFraction"
    ∷ codes "5 ColumnMissing"
    ∷ codes "6 TooLong"
    ∷ []

-- that of the kind of this number
abbrev pub kind_text : (number : ℕ) → List ℕ
kind_text number = slice_index_or kind_texts (number - 1) []
