-- The first piece of a line, as a pattern cuts the line.
use Rattle.std.proofs.Common.{◌≡◌, ℕ, ◌-◌, ◌<◌, ◌≤◌, true, false, List, [], ◌∷◌, length, take, drop, get_or, sym, ap, ◌∙◌, arith}
use Rattle.cip_text_rules.specs.LpWords.{Piece, first_piece, first_rest}
use Rattle.cip_text_rules.specs.LpTokens.{line_pieces}
use Rattle.cip_text_rules.specs.Lines.{is_blank}
use Rattle.cip_text_rules.proofs.LpPieceLaws.{piece_cut, blank_cut}
use Rattle.cip_text_rules.proofs.LineBytes.{take_all}
use Rattle.cip_lp.specs.LpPieces.{begins_nothing}

-- what a pattern calls the rest of a line
abbrev pub rest_of : List ℕ → List ℕ
rest_of line = take (length line - 1) (drop 1 line)

same_rest : (byte : ℕ) (behind : List ℕ) → rest_of (byte ∷ behind) ≡ behind
same_rest byte behind = take_all (length (byte ∷ behind) - 1) behind (omega arith)

-- the pieces of a line that a blank begins are those of its rest
pub blank_passed : (line whole : List ℕ) → 1 ≤ length line → true ≡ is_blank (get_or line 0 0) → line_pieces line ≡ line_pieces whole → line_pieces (rest_of line) ≡ line_pieces whole
blank_passed [] whole l b e = absurd (omega (arith, l))
blank_passed (byte ∷ behind) whole l b e = ap line_pieces (same_rest byte behind) ∙ sym (blank_cut byte behind (sym b)) ∙ e

pub rest_shorter : (line : List ℕ) → 1 ≤ length line → length (rest_of line) < length line
rest_shorter [] l = absurd (omega (arith, l))
rest_shorter (byte ∷ behind) l = let e = ap length (same_rest byte behind) in omega (arith, e)

-- the first piece of a line that neither a blank nor a comment begins
pub first_cut : (line : List ℕ) (piece : Piece) (rest : List ℕ) → 0 < length line → begins_nothing line ≡ false → piece ≡ first_piece (get_or line 0 0) (rest_of line)
    → rest ≡ drop (first_rest (get_or line 0 0) (rest_of line)) (rest_of line) → line_pieces line ≡ piece ∷ line_pieces rest
first_cut [] piece rest l e p r = absurd (omega (arith, l))
first_cut (byte ∷ behind) piece rest l e p r =
    let q : piece ≡ first_piece byte behind = p ∙ ap (λ (xs : List ℕ). first_piece byte xs) (same_rest byte behind) in
    let s : rest ≡ drop (first_rest byte behind) behind = r ∙ ap (λ (xs : List ℕ). drop (first_rest byte xs) xs) (same_rest byte behind) in
    piece_cut byte behind e ∙ ap (λ (x : Piece). x ∷ line_pieces (drop (first_rest byte behind) behind)) (sym q) ∙ ap (λ (xs : List ℕ). piece ∷ line_pieces xs) (sym s)
