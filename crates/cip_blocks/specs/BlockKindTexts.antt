-- The kinds of faults of a text of blocks: the number and the name of each, as they are printed.
use lib.Chars.{codes}
use Rattle.std.specs.Prelude.{ℕ, ◌-◌, List, [], ◌∷◌, slice_index_or}
use Rattle.cip_blocks.specs.declared.kinds.BlockKind.{BlockKind}

-- the number of a kind
abbrev pub kind_number : BlockKind → ℕ
kind_number kind = kind.number

-- those of all kinds
abbrev pub kind_texts : List (List ℕ)
kind_texts =
    codes "1 BadWord"
    ∷ codes "2 BadCount"
    ∷ codes "3 BadBlock"
    ∷ codes "4 UnknownRow"
    ∷ codes "5 RowTwice"
    ∷ codes "6 LinkingColumn"
    ∷ codes "7 OpenColumn"
    ∷ codes "8 Missing"
    ∷ codes "9 TooLong"
    ∷ []

-- that of the kind of this number
abbrev pub kind_text : (number : ℕ) → List ℕ
kind_text number = slice_index_or kind_texts (number - 1) []
