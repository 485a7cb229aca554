-- The kinds of faults of a text of free MPS: the number and the name of each, as they are printed.
use lib.Chars.{codes}
use Rattle.std.specs.Prelude.{ℕ, ◌-◌, List, [], ◌∷◌, slice_index_or}
use Rattle.cip_mps.specs.declared.kinds.MpsKind.{MpsKind}

-- the number of a kind
abbrev pub kind_number : MpsKind → ℕ
kind_number kind = kind.number

-- those of all kinds
abbrev pub kind_texts : List (List ℕ)
kind_texts =
    codes "1 UnknownSection"
    ∷ codes "2 SectionOrder"
    ∷ codes "3 MissingSection"
    ∷ codes "4 FieldCount"
    ∷ codes "5 BadNumber"
    ∷ codes "6 NumberHuge"
    ∷ codes "7 NumberTooFine"
    ∷ codes "8 UnknownRow"
    ∷ codes "9 UnknownColumn"
    ∷ codes "10 DuplicateRow"
    ∷ codes "11 DuplicateEntry"
    ∷ codes "12 ColumnSplit"
    ∷ codes "13 BadRowType"
    ∷ codes "14 BadBoundType"
    ∷ codes "15 BadMarker"
    ∷ codes "16 NoObjective"
    ∷ codes "17 NoEnd"
    ∷ codes "18 TooMany"
    ∷ codes "19 NameTooLong"
    ∷ codes "20 RangeOnObjective"
    ∷ codes "21 OutOfProfile"
    ∷ []

-- that of the kind of this number
abbrev pub kind_text : (number : ℕ) → List ℕ
kind_text number = slice_index_or kind_texts (number - 1) []
