-- Where a token has ended, the pieces of a line are those before and those behind.
use Rattle.std.proofs.Common.{◌≡◌, ℕ, zero, suc, ◌≤◌, Bool, true, false, not, ◌&&◌, ◌||◌, List, [], ◌∷◌, ◌++◌, length, drop, refl, sym, ap, ◌∙◌, arith, length-drop}
use Rattle.std.specs.List.{list_any}
use Rattle.std.proofs.lemmas.List.{drop-append-le}
use Rattle.std.proofs.lemmas.Bool.{eqb-true, or_from}
use Rattle.cip_rational.specs.Numeral.{is_exponent_mark}
use Rattle.cip_text_rules.specs.Lines.{is_blank}
use Rattle.cip_text_rules.specs.LpWords.{Piece, first_piece, first_rest}
use Rattle.cip_text_rules.specs.LpTokens.{is_comment, line_pieces}
use Rattle.cip_text_rules.proofs.LpPieceLaws.{blank_cut, comment_cut, piece_cut}
use Rattle.cip_text_rules.specs.LpParts.{is_relation_mark, joins, ends_with}
use Rattle.cip_text_rules.specs.LpBytes.{in_comment}
use Rattle.cip_text_rules.proofs.PieceEnds.{stops, stops_behind, stops_drop, piece_stop, rest_stop, rest_le}
use Rattle.cip_text_rules.proofs.BlockLaws.{not_true}
use Rattle.cip_text_rules.proofs.Quiet.{left_false, right_false}

-- ---- comments

none_drop : (n : ℕ) (xs : List ℕ) → list_any is_comment xs ≡ false → list_any is_comment (drop n xs) ≡ false
none_drop zero [] h = h
none_drop zero (x ∷ xs) h = h
none_drop (suc n) [] h = h
none_drop (suc n) (x ∷ xs) h = none_drop n xs (right_false (is_comment x) (list_any is_comment xs) h)

no_blank : (x : ℕ) → is_comment x ≡ true → is_blank x ≡ false
no_blank x e = ap is_blank (eqb-true x 92 e)

-- behind the byte of a comment there is no piece
pub comment_rest : (rest more : List ℕ) → in_comment rest ≡ true → line_pieces (rest ++ more) ≡ []
comment_rest [] more h = absurd (cc)
comment_rest (x ∷ xs) more h = comment_cut x (xs ++ more) (no_blank x h) h

-- each token has ended before a comment
pub stops_comment : (xs : List ℕ) (b : ℕ) → is_comment b ≡ true → stops xs b ≡ true
stops_comment xs b e = ap (stops xs) (eqb-true b 92 e) ∙ at_sign xs
  where
    none : (s t : Bool) → not (false || ((s && false) || (t && false))) ≡ true
    none true true = refl
    none true false = refl
    none false true = refl
    none false false = refl

    at_sign : (ys : List ℕ) → stops ys 92 ≡ true
    at_sign [] = refl
    at_sign (y ∷ []) = none (is_exponent_mark y) (is_relation_mark y)
    at_sign (y ∷ z ∷ zs) = at_sign (z ∷ zs)

-- a token that has ended stops there
pub ends_stop : (xs : List ℕ) (b : ℕ) → ends_with xs b ≡ true → stops xs b ≡ true
ends_stop [] b h = refl
ends_stop (x ∷ []) b h = ap not (right_false (is_blank x) (joins x b) (not_true (is_blank x || joins x b) h))
ends_stop (x ∷ y ∷ ys) b h = ends_stop (y ∷ ys) b h

-- ---- the cut

parted_to : (n : ℕ) (xs : List ℕ) (b : ℕ) (ys : List ℕ) → length xs ≤ n → stops xs b ≡ true → list_any is_comment xs ≡ false → line_pieces (xs ++ b ∷ ys) ≡ line_pieces xs ++ line_pieces (b ∷ ys)
parted_to n [] b ys l s c = refl
parted_to zero (x ∷ xs) b ys l s c = absurd (omega (arith, l))
parted_to (suc n) (x ∷ xs) b ys l s c =
    let few : length xs ≤ n = omega (arith, l) in
    let d = length-drop (first_rest x xs) xs in
    go (is_blank x) refl
    (parted_to n xs b ys few (stops_behind x xs b s) (right_false (is_comment x) (list_any is_comment xs) c))
    (parted_to n (drop (first_rest x xs) xs) b ys (omega (arith, d, few)) (stops_drop (first_rest x xs) xs b (stops_behind x xs b s)) (none_drop (first_rest x xs) xs (right_false (is_comment x) (list_any is_comment xs) c)))
  where
    go : (t : Bool) → is_blank x ≡ t → line_pieces (xs ++ b ∷ ys) ≡ line_pieces xs ++ line_pieces (b ∷ ys)
        → line_pieces (drop (first_rest x xs) xs ++ b ∷ ys) ≡ line_pieces (drop (first_rest x xs) xs) ++ line_pieces (b ∷ ys)
        → line_pieces (x ∷ xs ++ b ∷ ys) ≡ line_pieces (x ∷ xs) ++ line_pieces (b ∷ ys)
    go true e h k = blank_cut x (xs ++ b ∷ ys) e ∙ h ∙ ap (λ (ps : List Piece). ps ++ line_pieces (b ∷ ys)) (sym (blank_cut x xs e))
    go false e h k =
        let none : (is_blank x || is_comment x) ≡ false = or_from (is_blank x) (is_comment x) e (left_false (is_comment x) (list_any is_comment xs) c) in
        let p : first_piece x (xs ++ b ∷ ys) ≡ first_piece x xs = piece_stop x xs b ys s in
        let r : first_rest x (xs ++ b ∷ ys) ≡ first_rest x xs = rest_stop x xs b ys s in
        piece_cut x (xs ++ b ∷ ys) none
        ∙ (λ i. p i ∷ line_pieces (drop (r i) (xs ++ b ∷ ys)))
        ∙ ap (λ (zs : List ℕ). first_piece x xs ∷ line_pieces zs) (drop-append-le (first_rest x xs) xs (b ∷ ys) (rest_le x xs))
        ∙ ap (λ (ps : List Piece). first_piece x xs ∷ ps) k
        ∙ ap (λ (ps : List Piece). ps ++ line_pieces (b ∷ ys)) (sym (piece_cut x xs none))

-- the pieces of a line without comment as far as this place, and those behind
pub parted : (xs : List ℕ) (b : ℕ) (ys : List ℕ) → stops xs b ≡ true → list_any is_comment xs ≡ false → line_pieces (xs ++ b ∷ ys) ≡ line_pieces xs ++ line_pieces (b ∷ ys)
parted xs b ys s c = parted_to (length xs) xs b ys (omega arith) s c
