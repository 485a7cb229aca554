-- Where the tokens of a line have ended, whatever follows.
--     ends_before last byte      a token has ended between these two bytes
--     hangs pieces      what the first word is hangs on what follows
use Rattle.std.specs.Prelude.{ℕ, ◌==◌, Bool, true, false, not, ◌&&◌, ◌||◌, List, [], ◌∷◌, Option, None, Some}
use Rattle.cip_rational.specs.Numeral.{is_sign, is_exponent_mark}
use Rattle.cip_text_rules.specs.Lines.{is_blank}
use Rattle.cip_text_rules.specs.LpWords.{WordMeaning, OpensPart, OpensWith, Outside, FreeWord, Infinity, word_meaning, is_name_byte, Piece, WordPiece}

-- ---- bytes

-- `<`, `=` and `>`
abbrev pub is_relation_mark : ℕ → Bool
is_relation_mark byte = byte == 60 || (byte == 61 || byte == 62)

-- a byte may go on with what the byte before it belongs to: it is one of names and numbers, the sign of an exponent, or
-- the second of a relation
abbrev pub joins : (last byte : ℕ) → Bool
joins last byte =
    is_name_byte byte
    || ((is_exponent_mark last && is_sign byte) || (is_relation_mark last && is_relation_mark byte))

-- a token has ended between these two bytes
abbrev pub ends_before : (last byte : ℕ) → Bool
ends_before last byte = not (is_blank last || joins last byte)

-- a token has ended behind these bytes, where this one follows
abbrev pub ends_with : List ℕ → (byte : ℕ) → Bool
ends_with [] byte = false
ends_with (last ∷ []) byte = ends_before last byte
ends_with (first ∷ second ∷ others) byte = ends_with (second ∷ others) byte

-- ---- words in front

-- there is no piece
abbrev pub is_over : List Piece → Bool
is_over [] = true
is_over (piece ∷ pieces) = false

-- there is no piece, or a word alone
abbrev pub is_short : List Piece → Bool
is_short [] = true
is_short (WordPiece word ∷ pieces) = is_over pieces
is_short other = false

-- whether a word opens a section hangs on the piece behind these; or on the two behind it, where it does with a second
-- word
abbrev pub hangs_on : Option WordMeaning → List Piece → Bool
hangs_on None pieces = false
hangs_on (Some FreeWord) pieces = false
hangs_on (Some Infinity) pieces = false
hangs_on (Some (OpensPart part)) pieces = is_over pieces
hangs_on (Some Outside) pieces = is_over pieces
hangs_on (Some (OpensWith second part)) pieces = is_short pieces

-- what the first token of a line is hangs on what follows these pieces
abbrev pub hangs : List Piece → Bool
hangs [] = true
hangs (WordPiece word ∷ pieces) = hangs_on (word_meaning word) pieces
hangs other = false
