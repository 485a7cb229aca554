-- An LP text byte by byte. A token is read as soon as it has ended; what stands behind is kept as bytes.
--     text_taken text      what is known behind these bytes
--     IsTold text line kind      a token that has ended is faulty, or the text is too long
use Rattle.std.specs.Prelude.{◌≡◌, ℕ, ◌+◌, nat_lt, Bool, true, false, not, ◌&&◌, ◌||◌, if◌then◌else◌, List, [], ◌∷◌, ◌++◌, fold}
use Rattle.cip_problem.specs.Limits.{longest_text}
use Rattle.cip_text_rules.specs.Lines.{is_line_feed}
use Rattle.cip_text_rules.specs.LineEnds.{Stage}
use Rattle.cip_text_rules.specs.LineStream.{Progress, Going, Failed, item_read}
use Rattle.cip_text_rules.specs.LpTokens.{Token, is_comment, line_pieces, tokens_from}
use Rattle.cip_text_rules.specs.LpOutcome.{LpContext, lp_reading, told_kind}
use Rattle.cip_text_rules.specs.LpParts.{ends_with, hangs}

-- what is read of tokens of a line of this number
abbrev pub tokens_read : (number : ℕ) → Progress (Stage LpContext) → List Token → Progress (Stage LpContext)
tokens_read number progress tokens = fold (λ p item. item_read lp_reading p number item) progress tokens

-- what the tokens that have ended say; how many lines have ended; whether no token of the line that hasn't ended was
-- read; its bytes behind these tokens; and how many bytes the text has so far
pub record LpBytes : Type 0 where
  pub stage : Stage LpContext
  pub ended : ℕ
  pub front : Bool
  pub rest : List ℕ
  pub size : ℕ

-- what the bytes that are kept say as tokens
abbrev pub part_read : LpBytes → Progress (Stage LpContext)
part_read bytes = tokens_read (bytes.ended + 1) (Going bytes.stage) (tokens_from bytes.front bytes.rest)

-- with what tokens have said; a fault is all that is left
abbrev pub behind : Progress (Stage LpContext) → (ended : ℕ) → (front : Bool) → (rest : List ℕ) → (size : ℕ)
    → Progress LpBytes
behind (Going stage) ended front rest size =
    Going (record { stage = stage; ended = ended; front = front; rest = rest; size = size })
behind (Failed line kind) ended front rest size = Failed line kind

-- a comment stands first
abbrev pub in_comment : List ℕ → Bool
in_comment [] = false
in_comment (byte ∷ others) = is_comment byte

-- the tokens that are kept have ended where this byte follows
abbrev pub is_cut : LpBytes → (byte : ℕ) → Bool
is_cut bytes byte =
    is_comment byte || (ends_with bytes.rest byte && not (bytes.front && hangs (line_pieces bytes.rest)))

-- a byte of the line; of a comment the first one is kept
abbrev pub byte_put : LpBytes → (byte : ℕ) → Progress LpBytes
byte_put bytes byte =
    if in_comment bytes.rest then Going (record bytes { size = bytes.size + 1 })
    else if is_cut bytes byte then behind (part_read bytes) bytes.ended false (byte ∷ []) (bytes.size + 1)
    else Going (record bytes { rest = bytes.rest ++ byte ∷ []; size = bytes.size + 1 })

-- the line feed that ends the line
abbrev pub feed_put : LpBytes → Progress LpBytes
feed_put bytes = behind (part_read bytes) (bytes.ended + 1) true [] (bytes.size + 1)

-- the line with the first byte too many
abbrev pub with_last : List ℕ → (byte : ℕ) → List ℕ
with_last rest byte = if is_line_feed byte then rest else rest ++ byte ∷ []

-- behind the tokens as far as the first byte too many, which is on this line
abbrev pub beyond : Progress (Stage LpContext) → (line : ℕ) → Progress LpBytes
beyond (Going stage) line = Failed line lp_reading.long
beyond (Failed first kind) line = Failed first kind

-- the first byte too many
abbrev pub last_put : LpBytes → (byte : ℕ) → Progress LpBytes
last_put bytes byte = beyond (part_read (record bytes { rest = with_last bytes.rest byte })) (bytes.ended + 1)

-- one byte more; behind a fault none is looked at
abbrev pub byte_taken : Progress LpBytes → (byte : ℕ) → Progress LpBytes
byte_taken (Failed line kind) byte = Failed line kind
byte_taken (Going bytes) byte =
    if nat_lt bytes.size longest_text then (if is_line_feed byte then feed_put bytes else byte_put bytes byte)
    else last_put bytes byte

-- before the first byte
abbrev pub first_bytes : LpBytes
first_bytes = record { stage = lp_reading.start; ended = 0; front = true; rest = []; size = 0 }

-- what is known behind these bytes
abbrev pub text_taken : List ℕ → Progress LpBytes
text_taken text = fold byte_taken (Going first_bytes) text

-- a token that has ended is faulty, or the text is too long; and the kind that is told of it
pub record IsTold (text : List ℕ) (line kind : ℕ) : Type 0 where
  pub number : ℕ
  pub taken : text_taken text ≡ Failed line number
  pub is_kind : told_kind number ≡ kind
