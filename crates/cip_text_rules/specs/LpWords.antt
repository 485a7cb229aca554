-- What an LP text is cut into: names, numbers, signs and relations; and the words that are never names.
--     word_meaning word      what a word means that is never a name
--     number_length text, first_piece, first_rest      the piece that stands first, and how much stands behind its byte
use lib.Chars.{codes}
use Rattle.std.specs.Prelude.{ℕ, ◌+◌, ◌-◌, ◌==◌, nat_lt, Bool, true, false, ◌&&◌, ◌||◌, if◌then◌else◌, List, [], ◌∷◌, take, drop, Option}
use Rattle.std.specs.Char.{is_ascii_digit, is_ascii_alphabetic, is_ascii_alphanumeric}
use Rattle.std.specs.List.{prefix_len}
use Rattle.std.specs.Str.{str_to_ascii_lowercase}
use Rattle.cip_rational.specs.Numeral.{is_sign, is_exponent_mark, is_point}
use Rattle.cip_text_rules.specs.MpsWords.{Word, meaning_in}

-- ---- words

-- the sections of a text; it begins in none of them. The first one says whether the cost is to be greatest
pub data LpPart : Type 0 where
  NoPart : LpPart
  Costs : (maximized : Bool) → LpPart
  Constraints : LpPart
  Bounds : LpPart
  Generals : LpPart
  Binaries : LpPart
  End : LpPart

-- a word that is never a name: it opens a section; it does with a second word behind it; it is a section that this
-- profile hasn't got; or it is `free` or infinity
pub data WordMeaning : Type 0 where
  OpensPart : (part : LpPart) → WordMeaning
  OpensWith : (second : List ℕ) (part : LpPart) → WordMeaning
  Outside : WordMeaning
  FreeWord : WordMeaning
  Infinity : WordMeaning

-- a word with its meaning
abbrev pub with_meaning : List ℕ → WordMeaning → Word WordMeaning
with_meaning text meaning = record { text = text; meaning = meaning }

-- the words that are never names, in small letters
abbrev pub lp_words : List (Word WordMeaning)
lp_words =
    with_meaning (codes "minimize") (OpensPart (Costs false)) ∷ with_meaning (codes "minimum") (OpensPart (Costs false))
    ∷ with_meaning (codes "min") (OpensPart (Costs false)) ∷ with_meaning (codes "maximize") (OpensPart (Costs true))
    ∷ with_meaning (codes "maximum") (OpensPart (Costs true)) ∷ with_meaning (codes "max") (OpensPart (Costs true))
    ∷ with_meaning (codes "subject") (OpensWith (codes "to") Constraints)
    ∷ with_meaning (codes "such") (OpensWith (codes "that") Constraints)
    ∷ with_meaning (codes "st") (OpensPart Constraints) ∷ with_meaning (codes "s.t.") (OpensPart Constraints)
    ∷ with_meaning (codes "bounds") (OpensPart Bounds) ∷ with_meaning (codes "bound") (OpensPart Bounds)
    ∷ with_meaning (codes "generals") (OpensPart Generals) ∷ with_meaning (codes "general") (OpensPart Generals)
    ∷ with_meaning (codes "gen") (OpensPart Generals) ∷ with_meaning (codes "binaries") (OpensPart Binaries)
    ∷ with_meaning (codes "binary") (OpensPart Binaries) ∷ with_meaning (codes "bin") (OpensPart Binaries)
    ∷ with_meaning (codes "end") (OpensPart End) ∷ with_meaning (codes "semi") Outside
    ∷ with_meaning (codes "semis") Outside ∷ with_meaning (codes "sos") Outside ∷ with_meaning (codes "sos1") Outside
    ∷ with_meaning (codes "sos2") Outside ∷ with_meaning (codes "free") FreeWord
    ∷ with_meaning (codes "inf") Infinity ∷ with_meaning (codes "infinity") Infinity ∷ []

-- what a word means that is never a name; its letters may be large or small
abbrev pub word_meaning : List ℕ → Option WordMeaning
word_meaning word = meaning_in lp_words (str_to_ascii_lowercase word)

-- ---- bytes

-- a name begins with a letter or `_`
abbrev pub begins_name : ℕ → Bool
begins_name byte = is_ascii_alphabetic byte || byte == 95

-- and goes on with letters, digits, `_`, `.`, `#` and `$`
abbrev pub is_name_byte : ℕ → Bool
is_name_byte byte = is_ascii_alphanumeric byte || (byte == 95 || (byte == 46 || (byte == 35 || byte == 36)))

-- a number begins with a digit or a point
abbrev pub begins_number : ℕ → Bool
begins_number byte = is_ascii_digit byte || is_point byte

-- ---- numbers

-- how many digits stand first
abbrev pub digits_length : List ℕ → ℕ
digits_length text = prefix_len is_ascii_digit text

-- the length of a sign that stands first
abbrev pub sign_length : List ℕ → ℕ
sign_length [] = 0
sign_length (byte ∷ bytes) = if is_sign byte then 1 else 0

-- the length of the digits behind a sign
abbrev pub signed_length : List ℕ → ℕ
signed_length text = digits_length (drop (sign_length text) text)

-- the length of an exponent that stands first: `e` or `E`, a sign or none, and digits
abbrev pub exponent_length : List ℕ → ℕ
exponent_length [] = 0
exponent_length (byte ∷ bytes) =
    if is_exponent_mark byte && nat_lt 0 (signed_length bytes) then 1 + (sign_length bytes + signed_length bytes)
    else 0

-- the length of a point that stands first, and the digits behind it
abbrev pub decimals_length : List ℕ → ℕ
decimals_length [] = 0
decimals_length (byte ∷ bytes) = if is_point byte then 1 + digits_length bytes else 0

-- the length of digits with at most one point
abbrev pub mantissa_length : List ℕ → ℕ
mantissa_length text = digits_length text + decimals_length (drop (digits_length text) text)

-- there is a digit among these
abbrev pub has_digit : List ℕ → Bool
has_digit text = nat_lt 0 (digits_length text) || nat_lt 1 (mantissa_length text)

-- the length of the longest number that stands first; 0 where none does
abbrev pub number_length : List ℕ → ℕ
number_length text =
    if has_digit text then mantissa_length text + exponent_length (drop (mantissa_length text) text) else 0

-- ---- pieces

-- `<`, `<=` and `=<`; `=`; `>`, `>=` and `=>`
pub data Relation : Type 0 where
  AtMost : Relation
  EqualTo : Relation
  AtLeast : Relation

-- a word, a number, a sign, `:`, a relation; or a byte that begins nothing
pub data Piece : Type 0 where
  WordPiece : (text : List ℕ) → Piece
  NumberPiece : (text : List ℕ) → Piece
  SignPiece : (minus : Bool) → Piece
  ColonPiece : Piece
  RelationPiece : (relation : Relation) → Piece
  NoPiece : Piece

-- a byte stands first
abbrev pub begins_with : ℕ → List ℕ → Bool
begins_with wanted [] = false
begins_with wanted (byte ∷ bytes) = byte == wanted

-- the relation that `=` begins
abbrev pub equal_relation : List ℕ → Relation
equal_relation behind =
    if begins_with 60 behind then AtMost else if begins_with 62 behind then AtLeast else EqualTo

-- a piece of one byte, or of two, and the byte behind it
abbrev pub mark_piece : ℕ → List ℕ → Piece
mark_piece byte behind =
    if byte == 43 then SignPiece false else if byte == 45 then SignPiece true else if byte == 58 then ColonPiece
    else if byte == 60 then RelationPiece AtMost else if byte == 62 then RelationPiece AtLeast
    else if byte == 61 then RelationPiece (equal_relation behind) else NoPiece

-- a relation has two bytes: `<=`, `>=`, `=<` or `=>`
abbrev pub is_double : ℕ → List ℕ → Bool
is_double byte behind =
    ((byte == 60 || byte == 62) && begins_with 61 behind)
    || (byte == 61 && (begins_with 60 behind || begins_with 62 behind))

-- the piece of a number of this length, if it has any
abbrev pub number_piece : ℕ → List ℕ → Piece
number_piece length text = if nat_lt 0 length then NumberPiece (take length text) else NoPiece

-- the piece that begins with this byte
abbrev pub first_piece : ℕ → List ℕ → Piece
first_piece byte behind =
    if begins_name byte then WordPiece (byte ∷ take (prefix_len is_name_byte behind) behind)
    else if begins_number byte then number_piece (number_length (byte ∷ behind)) (byte ∷ behind)
    else mark_piece byte behind

-- how many bytes of it stand behind this one
abbrev pub first_rest : ℕ → List ℕ → ℕ
first_rest byte behind =
    if begins_name byte then prefix_len is_name_byte behind
    else if begins_number byte then number_length (byte ∷ behind) - 1
    else if is_double byte behind then 1 else 0
