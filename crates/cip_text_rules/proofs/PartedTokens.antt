-- The tokens that have ended stay whatever follows.
use Rattle.std.proofs.Common.{◌≡◌, ℕ, Bool, true, false, cond, not, ◌&&◌, ◌||◌, List, [], ◌∷◌, ◌++◌, map, Option, None, Some, refl, sym, ap, ◌∙◌}
use Rattle.std.specs.List.{list_any}
use Rattle.std.specs.Str.{bytes_eq, str_to_ascii_lowercase}
use Rattle.std.proofs.lemmas.List.{map-append, append-nil}
use Rattle.cip_text_rules.specs.LpWords.{LpPart, WordMeaning, OpensPart, OpensWith, Outside, FreeWord, Infinity, word_meaning, Piece, WordPiece, NumberPiece, SignPiece, ColonPiece, RelationPiece, NoPiece}
use Rattle.cip_text_rules.specs.LpTokens.{is_comment, line_pieces, Token, Opening, OutsideSection, Reserved, plain_word, token_of, has_colon, opening_unless, tokens_with, front_tokens, tokens_of, tokens_from}
use Rattle.cip_text_rules.specs.LpParts.{ends_with, is_short, hangs_on, hangs}
use Rattle.cip_text_rules.specs.LpBytes.{LpBytes, is_cut}
use Rattle.cip_text_rules.proofs.PartedPieces.{comment_rest, stops_comment, ends_stop, parted}
use Rattle.cip_text_rules.proofs.BlockLaws.{not_true}

-- ---- pieces as tokens

map_more : (ps qs : List Piece) → map token_of (ps ++ qs) ≡ map token_of ps ++ map token_of qs
map_more ps qs = map-append token_of ps qs

colon_same : (p : Piece) (ps qs : List Piece) → has_colon (p ∷ (ps ++ qs)) ≡ has_colon (p ∷ ps)
colon_same (WordPiece text) ps qs = refl
colon_same (NumberPiece text) ps qs = refl
colon_same (SignPiece minus) ps qs = refl
colon_same ColonPiece ps qs = refl
colon_same (RelationPiece relation) ps qs = refl
colon_same NoPiece ps qs = refl

-- behind the first of two words
second_more : (second : List ℕ) (part : LpPart) (ps qs : List Piece) → is_short ps ≡ false → tokens_with second part (ps ++ qs) ≡ tokens_with second part ps ++ map token_of qs
second_more second part [] qs h = absurd (cc)
second_more second part (WordPiece word ∷ []) qs h = absurd (cc)
second_more second part (WordPiece word ∷ p ∷ ps) qs h =
    ap (λ colon. cond (bytes_eq (str_to_ascii_lowercase word) second && not colon) (Opening part ∷ map token_of (p ∷ (ps ++ qs))) (Reserved ∷ map token_of (WordPiece word ∷ p ∷ (ps ++ qs)))) (colon_same p ps qs)
    ∙ go (bytes_eq (str_to_ascii_lowercase word) second && not (has_colon (p ∷ ps)))
  where
    go : (t : Bool) → cond t (Opening part ∷ map token_of (p ∷ (ps ++ qs))) (Reserved ∷ map token_of (WordPiece word ∷ p ∷ (ps ++ qs)))
        ≡ cond t (Opening part ∷ map token_of (p ∷ ps)) (Reserved ∷ map token_of (WordPiece word ∷ p ∷ ps)) ++ map token_of qs
    go true = ap (λ (ts : List Token). Opening part ∷ ts) (map_more (p ∷ ps) qs)
    go false = ap (λ (ts : List Token). Reserved ∷ ts) (map_more (WordPiece word ∷ p ∷ ps) qs)
second_more second part (NumberPiece text ∷ ps) qs h = ap (λ (ts : List Token). Reserved ∷ ts) (map_more (NumberPiece text ∷ ps) qs)
second_more second part (SignPiece minus ∷ ps) qs h = ap (λ (ts : List Token). Reserved ∷ ts) (map_more (SignPiece minus ∷ ps) qs)
second_more second part (ColonPiece ∷ ps) qs h = ap (λ (ts : List Token). Reserved ∷ ts) (map_more (ColonPiece ∷ ps) qs)
second_more second part (RelationPiece relation ∷ ps) qs h = ap (λ (ts : List Token). Reserved ∷ ts) (map_more (RelationPiece relation ∷ ps) qs)
second_more second part (NoPiece ∷ ps) qs h = ap (λ (ts : List Token). Reserved ∷ ts) (map_more (NoPiece ∷ ps) qs)

-- behind a word in front
front_more : (meaning : Option WordMeaning) (word : List ℕ) (ps qs : List Piece) → hangs_on meaning ps ≡ false → front_tokens meaning word (ps ++ qs) ≡ front_tokens meaning word ps ++ map token_of qs
front_more None word ps qs h = ap (λ (ts : List Token). plain_word None word ∷ ts) (map_more ps qs)
front_more (Some FreeWord) word ps qs h = ap (λ (ts : List Token). plain_word (Some FreeWord) word ∷ ts) (map_more ps qs)
front_more (Some Infinity) word ps qs h = ap (λ (ts : List Token). plain_word (Some Infinity) word ∷ ts) (map_more ps qs)
front_more (Some (OpensPart part)) word [] qs h = absurd (cc)
front_more (Some (OpensPart part)) word (p ∷ ps) qs h = λ i. opening_unless (colon_same p ps qs i) (Opening part) ∷ map_more (p ∷ ps) qs i
front_more (Some Outside) word [] qs h = absurd (cc)
front_more (Some Outside) word (p ∷ ps) qs h = λ i. opening_unless (colon_same p ps qs i) OutsideSection ∷ map_more (p ∷ ps) qs i
front_more (Some (OpensWith second part)) word ps qs h = second_more second part ps qs h

tokens_more : (ps qs : List Piece) → hangs ps ≡ false → tokens_of (ps ++ qs) ≡ tokens_of ps ++ map token_of qs
tokens_more [] qs h = absurd (cc)
tokens_more (WordPiece word ∷ ps) qs h = front_more (word_meaning word) word ps qs h
tokens_more (NumberPiece text ∷ ps) qs h = map_more (NumberPiece text ∷ ps) qs
tokens_more (SignPiece minus ∷ ps) qs h = map_more (SignPiece minus ∷ ps) qs
tokens_more (ColonPiece ∷ ps) qs h = map_more (ColonPiece ∷ ps) qs
tokens_more (RelationPiece relation ∷ ps) qs h = map_more (RelationPiece relation ∷ ps) qs
tokens_more (NoPiece ∷ ps) qs h = map_more (NoPiece ∷ ps) qs

-- ---- parts of a line

-- before a comment
at_comment : (front : Bool) (rest : List ℕ) (b : ℕ) (more : List ℕ) → list_any is_comment rest ≡ false → is_comment b ≡ true → tokens_from front (rest ++ b ∷ more) ≡ tokens_from front rest ++ tokens_from false (b ∷ more)
at_comment front rest b more c e = go front
  where
    nothing : line_pieces (b ∷ more) ≡ []
    nothing = comment_rest (b ∷ []) more e

    same : line_pieces (rest ++ b ∷ more) ≡ line_pieces rest
    same = parted rest b more (stops_comment rest b e) c ∙ ap (λ (ps : List Piece). line_pieces rest ++ ps) nothing ∙ append-nil (line_pieces rest)

    go : (t : Bool) → tokens_from t (rest ++ b ∷ more) ≡ tokens_from t rest ++ tokens_from false (b ∷ more)
    go true =
        ap tokens_of same ∙ sym (append-nil (tokens_of (line_pieces rest)))
        ∙ ap (λ (ps : List Piece). tokens_of (line_pieces rest) ++ map token_of ps) (sym nothing)
    go false =
        ap (map token_of) same ∙ sym (append-nil (map token_of (line_pieces rest)))
        ∙ ap (λ (ps : List Piece). map token_of (line_pieces rest) ++ map token_of ps) (sym nothing)

-- behind a token that has ended
at_end : (front : Bool) (rest : List ℕ) (b : ℕ) (more : List ℕ) → list_any is_comment rest ≡ false → ends_with rest b ≡ true → (front && hangs (line_pieces rest)) ≡ false → tokens_from front (rest ++ b ∷ more) ≡ tokens_from front rest ++ tokens_from false (b ∷ more)
at_end front rest b more c e h = go front h
  where
    same : line_pieces (rest ++ b ∷ more) ≡ line_pieces rest ++ line_pieces (b ∷ more)
    same = parted rest b more (ends_stop rest b e) c

    go : (t : Bool) → (t && hangs (line_pieces rest)) ≡ false → tokens_from t (rest ++ b ∷ more) ≡ tokens_from t rest ++ tokens_from false (b ∷ more)
    go true h = ap tokens_of same ∙ tokens_more (line_pieces rest) (line_pieces (b ∷ more)) h
    go false h = ap (map token_of) same ∙ map_more (line_pieces rest) (line_pieces (b ∷ more))

-- the tokens of a part that has ended, and those behind
pub cut_tokens : (m : LpBytes) (b : ℕ) (more : List ℕ) → list_any is_comment m.rest ≡ false → is_cut m b ≡ true → tokens_from m.front (m.rest ++ b ∷ more) ≡ tokens_from m.front m.rest ++ tokens_from false (b ∷ more)
cut_tokens m b more c h = go (is_comment b) (ends_with m.rest b) refl refl h
  where
    go : (s t : Bool) → is_comment b ≡ s → ends_with m.rest b ≡ t → (s || (t && not (m.front && hangs (line_pieces m.rest)))) ≡ true → tokens_from m.front (m.rest ++ b ∷ more) ≡ tokens_from m.front m.rest ++ tokens_from false (b ∷ more)
    go true t e f h = at_comment m.front m.rest b more c e
    go false true e f h = at_end m.front m.rest b more c f (not_true (m.front && hangs (line_pieces m.rest)) h)
    go false false e f h = absurd (cc)
