-- The tokens of a line of an LP text.
--     line_pieces line      what the line is cut into
--     line_tokens line      its tokens: a word at its front may open a section
--     tokens_from front bytes      those of a part of it
use Rattle.std.specs.Prelude.{ℕ, zero, suc, ◌==◌, Bool, true, false, not, ◌&&◌, if◌then◌else◌, List, [], ◌∷◌, length, drop, map, Option, None, Some}
use Rattle.std.specs.Str.{bytes_eq, str_to_ascii_lowercase}
use Rattle.cip_text_rules.specs.Lines.{is_blank}
use Rattle.cip_text_rules.specs.LpWords.{LpPart, WordMeaning, OpensPart, OpensWith, Outside, FreeWord, Infinity, word_meaning, Relation, Piece, WordPiece, NumberPiece, SignPiece, ColonPiece, RelationPiece, NoPiece, first_piece, first_rest}

-- ---- pieces

-- `\` begins a comment
abbrev pub is_comment : ℕ → Bool
is_comment byte = byte == 92

-- the pieces of a line, cut at most so often: blanks part them, and each is the longest that stands there
abbrev pub pieces_from : (most : ℕ) → List ℕ → List Piece
pieces_from zero line = []
pieces_from (suc most) [] = []
pieces_from (suc most) (byte ∷ behind) =
    if is_blank byte then pieces_from most behind
    else if is_comment byte then []
    else first_piece byte behind ∷ pieces_from most (drop (first_rest byte behind) behind)

-- the pieces of a line
abbrev pub line_pieces : List ℕ → List Piece
line_pieces line = pieces_from (length line) line

-- ---- tokens

-- a section word, a section that isn't in the profile, a word that is neither section nor name, `free`, infinity, a
-- number, a name, a sign, `:`, a relation; or a byte that begins no token
pub data Token : Type 0 where
  Opening : (part : LpPart) → Token
  OutsideSection : Token
  Reserved : Token
  Free : Token
  Infinite : (text : List ℕ) → Token
  Number : (text : List ℕ) → Token
  Name : (name : List ℕ) → Token
  Sign : (minus : Bool) → Token
  Colon : Token
  Relates : (relation : Relation) → Token
  BadToken : Token

-- a word that isn't a section
abbrev pub plain_word : Option WordMeaning → List ℕ → Token
plain_word None word = Name word
plain_word (Some FreeWord) word = Free
plain_word (Some Infinity) word = Infinite word
plain_word (Some other) word = Reserved

-- a piece that opens no section
abbrev pub token_of : Piece → Token
token_of (WordPiece text) = plain_word (word_meaning text) text
token_of (NumberPiece text) = Number text
token_of (SignPiece minus) = Sign minus
token_of ColonPiece = Colon
token_of (RelationPiece relation) = Relates relation
token_of NoPiece = BadToken

-- `:` stands first
abbrev pub has_colon : List Piece → Bool
has_colon (ColonPiece ∷ pieces) = true
has_colon other = false

-- a section word, unless `:` stands behind it
abbrev pub opening_unless : Bool → Token → Token
opening_unless colon token = if colon then Reserved else token

-- what a word in front of these pieces is
abbrev pub front_token : Option WordMeaning → List ℕ → List Piece → Token
front_token (Some (OpensPart part)) word behind = opening_unless (has_colon behind) (Opening part)
front_token (Some Outside) word behind = opening_unless (has_colon behind) OutsideSection
front_token meaning word behind = plain_word meaning word

-- a word is this one, in letters large or small, and has no `:` behind it
abbrev pub is_second : List ℕ → List ℕ → List Piece → Bool
is_second second word behind = bytes_eq (str_to_ascii_lowercase word) second && not (has_colon behind)

-- the tokens behind the first of two words that open a section together
abbrev pub tokens_with : (second : List ℕ) → LpPart → List Piece → List Token
tokens_with second part (WordPiece word ∷ pieces) =
    if is_second second word pieces then Opening part ∷ map token_of pieces
    else Reserved ∷ map token_of (WordPiece word ∷ pieces)
tokens_with second part pieces = Reserved ∷ map token_of pieces

-- the tokens of a word in front and the pieces behind it
abbrev pub front_tokens : Option WordMeaning → List ℕ → List Piece → List Token
front_tokens (Some (OpensWith second part)) word pieces = tokens_with second part pieces
front_tokens meaning word pieces = front_token meaning word pieces ∷ map token_of pieces

-- the tokens of the pieces of a line
abbrev pub tokens_of : List Piece → List Token
tokens_of (WordPiece word ∷ pieces) = front_tokens (word_meaning word) word pieces
tokens_of pieces = map token_of pieces

-- the tokens of a line
abbrev pub line_tokens : List ℕ → List Token
line_tokens line = tokens_of (line_pieces line)

-- the tokens of bytes of a line, in its front or not: in front a word may open a section
abbrev pub tokens_from : (front : Bool) → List ℕ → List Token
tokens_from front bytes = if front then line_tokens bytes else map token_of (line_pieces bytes)
