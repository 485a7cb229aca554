-- The kinds of faults of an LP text: the number and the name of each, as they are printed.
use lib.Chars.{codes}
use Rattle.std.specs.Prelude.{ℕ, ◌-◌, List, [], ◌∷◌, slice_index_or}
use Rattle.cip_lp.specs.declared.kinds.LpKind.{LpKind}

-- the number of a kind
abbrev pub kind_number : LpKind → ℕ
kind_number kind = kind.number

-- those of all kinds
abbrev pub kind_texts : List (List ℕ)
kind_texts =
    codes "1 BadToken"
    ∷ codes "2 SectionOrder"
    ∷ codes "3 BadStatement"
    ∷ codes "4 NumberHuge"
    ∷ codes "5 NumberTooFine"
    ∷ codes "6 DuplicateRow"
    ∷ codes "7 DuplicateEntry"
    ∷ codes "8 NoEnd"
    ∷ codes "9 TooMany"
    ∷ codes "10 NameTooLong"
    ∷ codes "11 OutOfProfile"
    ∷ []

-- that of the kind of this number
abbrev pub kind_text : (number : ℕ) → List ℕ
kind_text number = slice_index_or kind_texts (number - 1) []
