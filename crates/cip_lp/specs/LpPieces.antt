-- The pieces of a line, as the code hands them out.
use Rattle.std.specs.Prelude.{ℕ, Bool, false, ◌||◌, List, [], ◌∷◌}
use Rattle.cip_text_rules.specs.Lines.{is_blank}
use Rattle.cip_text_rules.specs.LpWords as text
use Rattle.cip_text_rules.specs.LpTokens.{is_comment}
use Rattle.cip_lp.specs.declared.pieces.Piece.{Piece}
use Rattle.cip_lp.specs.declared.pieces.Piece.TheVariants.{Word, Number, Sign, Colon, Relates, Nothing}
use Rattle.cip_lp.specs.LpKinds.{relation_shown}

-- a piece
abbrev pub piece_shown : Piece → text.Piece
piece_shown (Word word) = text.WordPiece word.now
piece_shown (Number number) = text.NumberPiece number.now
piece_shown (Sign minus) = text.SignPiece minus
piece_shown Colon = text.ColonPiece
piece_shown (Relates relation) = text.RelationPiece (relation_shown relation)
piece_shown Nothing = text.NoPiece

-- a blank stands first
abbrev pub begins_blank : List ℕ → Bool
begins_blank [] = false
begins_blank (byte ∷ behind) = is_blank byte

-- a blank or a comment stands first
abbrev pub begins_nothing : List ℕ → Bool
begins_nothing [] = false
begins_nothing (byte ∷ behind) = is_blank byte || is_comment byte
