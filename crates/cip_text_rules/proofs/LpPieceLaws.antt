-- A line is cut piece by piece, however often it may be cut.
use Rattle.std.proofs.Common.{◌≡◌, ℕ, zero, suc, ◌≤◌, Bool, true, false, ◌||◌, cond, List, [], ◌∷◌, length, drop, refl, ap, arith}
use Rattle.std.proofs.lemmas.List.{length-drop}
use Rattle.cip_text_rules.specs.Lines.{is_blank}
use Rattle.cip_text_rules.specs.LpWords.{Piece, first_piece, first_rest}
use Rattle.cip_text_rules.specs.LpTokens.{is_comment, pieces_from, line_pieces}

-- how often doesn't matter where it is often enough
more : (n m : ℕ) (line : List ℕ) → length line ≤ n → length line ≤ m → pieces_from n line ≡ pieces_from m line
more zero zero [] h k = refl
more zero (suc m) [] h k = refl
more (suc n) zero [] h k = refl
more (suc n) (suc m) [] h k = refl
more zero m (byte ∷ behind) h k = absurd (omega (arith, h))
more (suc n) zero (byte ∷ behind) h k = absurd (omega (arith, k))
more (suc n) (suc m) (byte ∷ behind) h k =
    let a : length behind ≤ n = omega (arith, h) in
    let b : length behind ≤ m = omega (arith, k) in
    let d = length-drop (first_rest byte behind) behind in
    go (is_blank byte) (is_comment byte) (more n m behind a b)
    (more n m (drop (first_rest byte behind) behind) (omega (arith, d, a)) (omega (arith, d, b)))
  where
    go : (s c : Bool) → pieces_from n behind ≡ pieces_from m behind → pieces_from n (drop (first_rest byte behind) behind) ≡ pieces_from m (drop (first_rest byte behind) behind)
        → cond s (pieces_from n behind) (cond c [] (first_piece byte behind ∷ pieces_from n (drop (first_rest byte behind) behind)))
        ≡ cond s (pieces_from m behind) (cond c [] (first_piece byte behind ∷ pieces_from m (drop (first_rest byte behind) behind)))
    go true c e d = e
    go false true e d = refl
    go false false e d = ap (λ (xs : List Piece). first_piece byte behind ∷ xs) d

pub blank_cut : (byte : ℕ) (behind : List ℕ) → is_blank byte ≡ true → line_pieces (byte ∷ behind) ≡ line_pieces behind
blank_cut byte behind e = go (is_blank byte) e
  where
    go : (s : Bool) → s ≡ true → cond s (pieces_from (length behind) behind) (cond (is_comment byte) [] (first_piece byte behind ∷ pieces_from (length behind) (drop (first_rest byte behind) behind))) ≡ line_pieces behind
    go true e = refl
    go false e = absurd (cc)

pub comment_cut : (byte : ℕ) (behind : List ℕ) → is_blank byte ≡ false → is_comment byte ≡ true → line_pieces (byte ∷ behind) ≡ []
comment_cut byte behind e f = go (is_blank byte) (is_comment byte) e f
  where
    go : (s c : Bool) → s ≡ false → c ≡ true → cond s (pieces_from (length behind) behind) (cond c [] (first_piece byte behind ∷ pieces_from (length behind) (drop (first_rest byte behind) behind))) ≡ []
    go true c e f = absurd (cc)
    go false true e f = refl
    go false false e f = absurd (cc)

pub piece_cut : (byte : ℕ) (behind : List ℕ) → (is_blank byte || is_comment byte) ≡ false → line_pieces (byte ∷ behind) ≡ first_piece byte behind ∷ line_pieces (drop (first_rest byte behind) behind)
piece_cut byte behind e =
    let d = length-drop (first_rest byte behind) behind in
    go (is_blank byte) (is_comment byte) e
    (more (length behind) (length (drop (first_rest byte behind) behind)) (drop (first_rest byte behind) behind) (omega (arith, d)) (omega arith))
  where
    go : (s c : Bool) → (s || c) ≡ false → pieces_from (length behind) (drop (first_rest byte behind) behind) ≡ line_pieces (drop (first_rest byte behind) behind)
        → cond s (pieces_from (length behind) behind) (cond c [] (first_piece byte behind ∷ pieces_from (length behind) (drop (first_rest byte behind) behind)))
        ≡ first_piece byte behind ∷ line_pieces (drop (first_rest byte behind) behind)
    go true c e d = absurd (cc)
    go false true e d = absurd (cc)
    go false false e d = ap (λ (xs : List Piece). first_piece byte behind ∷ xs) d
