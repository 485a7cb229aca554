-- How a text is cut into lines, and a line into fields: equations that say it for each text.
--     lines_ended, lines_last                   a line up to its line feed; the last line, without one
--     fields_blank, fields_word, fields_last     blanks before a word, a word up to a blank, the last word
use Rattle.std.proofs.Common.{◌≡◌, ℕ, Bool, true, false, cond, List, [], ◌∷◌, ◌++◌, refl, ap, ◌∙◌}
use Rattle.std.specs.List.{slice_split, onto_first, filter}
use Rattle.std.proofs.lemmas.List.Splits.{slice_split_at, slice_split_none, slice_split-cons_yes}
use Rattle.std.proofs.lemmas.List.Elements.{All-from_recursion}
use Rattle.cip_text_rules.specs.Lines.{is_line_feed, is_blank, is_filled, HasNoLineFeed, HasNoBlank, without_empty_end, lines, fields}

-- ---- lines

-- a text has a first piece
pub record HasFirst (pieces : List (List ℕ)) : Type 0 where
  pub first : List ℕ
  pub others : List (List ℕ)
  pub are : pieces ≡ first ∷ others

pub has_first : (test : ℕ → Bool) (text : List ℕ) → HasFirst (slice_split test text)
has_first test [] = record { first = []; others = []; are = refl }
has_first test (byte ∷ bytes) = cut (test byte) (slice_split test bytes)
  where
    onto : (pieces : List (List ℕ)) → HasFirst (onto_first byte pieces)
    onto [] = record { first = byte ∷ []; others = []; are = refl }
    onto (piece ∷ pieces) = record { first = byte ∷ piece; others = pieces; are = refl }

    cut : (b : Bool) (pieces : List (List ℕ)) → HasFirst (cond b ([] ∷ pieces) (onto_first byte pieces))
    cut true pieces = record { first = []; others = pieces; are = refl }
    cut false pieces = onto pieces

pub end_of_more :
    (piece : List ℕ) (pieces : List (List ℕ)) → HasFirst pieces
    → without_empty_end (piece ∷ pieces) ≡ piece ∷ without_empty_end pieces
end_of_more piece pieces h = rw (h.are)

pub lines_ended : (line rest : List ℕ) → HasNoLineFeed line → lines (line ++ 10 ∷ rest) ≡ line ∷ lines rest
lines_ended line rest h =
    let none = All-from_recursion (λ byte. is_line_feed byte ≡ false) line h in
    ap without_empty_end (slice_split_at is_line_feed line 10 rest none refl)
    ∙ end_of_more line (slice_split is_line_feed rest) (has_first is_line_feed rest)

pub lines_last : (byte : ℕ) (bytes : List ℕ) → HasNoLineFeed (byte ∷ bytes) → lines (byte ∷ bytes) ≡ (byte ∷ bytes) ∷ []
lines_last byte bytes h =
    let none = All-from_recursion (λ b. is_line_feed b ≡ false) (byte ∷ bytes) h in
    ap without_empty_end (slice_split_none is_line_feed (byte ∷ bytes) none)

-- ---- fields

pub fields_blank : (byte : ℕ) (rest : List ℕ) → is_blank byte ≡ true → fields (byte ∷ rest) ≡ fields rest
fields_blank byte rest e = ap (filter is_filled) (slice_split-cons_yes is_blank byte rest e)

pub fields_word :
    (byte : ℕ) (word : List ℕ) (blank : ℕ) (rest : List ℕ) → HasNoBlank (byte ∷ word) → is_blank blank ≡ true
    → fields (byte ∷ word ++ blank ∷ rest) ≡ (byte ∷ word) ∷ fields rest
fields_word byte word blank rest h e =
    let none = All-from_recursion (λ b. is_blank b ≡ false) (byte ∷ word) h in
    ap (filter is_filled) (slice_split_at is_blank (byte ∷ word) blank rest none e)

pub fields_last : (byte : ℕ) (word : List ℕ) → HasNoBlank (byte ∷ word) → fields (byte ∷ word) ≡ (byte ∷ word) ∷ []
fields_last byte word h =
    let none = All-from_recursion (λ b. is_blank b ≡ false) (byte ∷ word) h in
    ap (filter is_filled) (slice_split_none is_blank (byte ∷ word) none)
