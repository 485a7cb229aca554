-- A text and its first line, a line and its first field.
use Rattle.std.proofs.Common.{◌≡◌, ℕ, suc, ◌+◌, ◌-◌, ◌<◌, ◌≤◌, Bool, true, false, not, ltb, eqb, cond, List, [], ◌∷◌, ◌++◌, length, map, take, Option, None, Some, refl, sym, ap, ◌∙◌, arith}
use Rattle.std.specs.List.{slice_split, filter, before_first, after_first, position_or_len}
use Rattle.std.proofs.lemmas.Bool.{ltb-true, ltb-false}
use Rattle.std.proofs.lemmas.List.{take_all, drop_all, length-drop}
use Rattle.std.proofs.lemmas.List.Sums.{fails_before_first}
use Rattle.std.proofs.lemmas.List.Splits.{slice_split_first, slice_split_none}
use Rattle.cip_text_rules.specs.Lines.{Record, is_line_feed, is_blank, is_filled, without_empty_end, lines, fields, record_of}
use Rattle.cip_text_rules.specs.LineTexts as texts
use Rattle.cip_text_rules.specs.LineTexts.{Numbered, records_in}
use Rattle.cip_text_rules.proofs.Cuts.{has_first, end_of_more}
use Rattle.cip_text.specs.LineStarts.{begins_blank}
use Rattle.cip_text.specs.TextLines.{records_with}

module _ (p : ℕ → Bool) (xs : List ℕ) where
  whole : length xs ≤ position_or_len p xs → slice_split p xs ≡ xs ∷ []
  whole h = slice_split_none p xs (λ k d lt. fails_before_first p xs k d (omega (arith, lt, h)))

  before_whole : length xs ≤ position_or_len p xs → before_first p xs ≡ xs
  before_whole h = take_all (position_or_len p xs) xs h

  after_whole : length xs ≤ position_or_len p xs → after_first p xs ≡ []
  after_whole h = drop_all (position_or_len p xs + 1) xs (omega (arith, h))

-- ---- lines

filled_end : (xs : List ℕ) → 0 < length xs → without_empty_end (xs ∷ []) ≡ xs ∷ []
filled_end [] h = absurd (omega arith)
filled_end (x ∷ xs) h = refl

pub first_line : (xs : List ℕ) → 0 < length xs → lines xs ≡ before_first is_line_feed xs ∷ lines (after_first is_line_feed xs)
first_line xs some = go (ltb (position_or_len is_line_feed xs) (length xs)) refl
  where
    go : (b : Bool) → ltb (position_or_len is_line_feed xs) (length xs) ≡ b → lines xs ≡ before_first is_line_feed xs ∷ lines (after_first is_line_feed xs)
    go true e =
        ap without_empty_end (slice_split_first is_line_feed xs 0 (ltb-true _ _ e))
        ∙ end_of_more (before_first is_line_feed xs) (slice_split is_line_feed (after_first is_line_feed xs)) (has_first is_line_feed (after_first is_line_feed xs))
    go false e =
        let h : length xs ≤ position_or_len is_line_feed xs = ltb-false _ _ e in
        ap without_empty_end (whole is_line_feed xs h) ∙ filled_end xs some
        ∙ sym (ap (λ l. l ∷ lines (after_first is_line_feed xs)) (before_whole is_line_feed xs h) ∙ ap (λ l. xs ∷ lines l) (after_whole is_line_feed xs h))

-- ---- fields

filled_first : (xs : List ℕ) → 0 < length xs → begins_blank xs ≡ false → is_filled (before_first is_blank xs) ≡ true
filled_first [] h e = absurd (omega arith)
filled_first (x ∷ xs) h e =
    let n : 1 + position_or_len is_blank xs ≡ suc (position_or_len is_blank xs) = omega arith in
    ap (λ t. is_filled (take (cond (not t) (1 + position_or_len is_blank xs) 0) (x ∷ xs))) e ∙ ap (λ k. is_filled (take k (x ∷ xs))) n

filled_whole : (xs : List ℕ) → 0 < length xs → filter is_filled (xs ∷ []) ≡ xs ∷ []
filled_whole [] h = absurd (omega arith)
filled_whole (x ∷ xs) h = refl

pub first_field : (xs : List ℕ) → 0 < length xs → begins_blank xs ≡ false → fields xs ≡ before_first is_blank xs ∷ fields (after_first is_blank xs)
first_field xs some starts = go (ltb (position_or_len is_blank xs) (length xs)) refl
  where
    go : (b : Bool) → ltb (position_or_len is_blank xs) (length xs) ≡ b → fields xs ≡ before_first is_blank xs ∷ fields (after_first is_blank xs)
    go true e =
        ap (filter is_filled) (slice_split_first is_blank xs 0 (ltb-true _ _ e))
        ∙ ap (λ t. cond t (before_first is_blank xs ∷ fields (after_first is_blank xs)) (fields (after_first is_blank xs))) (filled_first xs some starts)
    go false e =
        let h : length xs ≤ position_or_len is_blank xs = ltb-false _ _ e in
        ap (filter is_filled) (whole is_blank xs h) ∙ filled_whole xs some
        ∙ sym (ap (λ l. l ∷ fields (after_first is_blank xs)) (before_whole is_blank xs h) ∙ ap (λ l. xs ∷ fields l) (after_whole is_blank xs h))

-- ---- numbered lines

-- a record, where there is one, before others
abbrev with_record : ℕ → Option Record → List (Numbered Record) → List (Numbered Record)
with_record number found others = map (texts.numbered number) (records_in found) ++ others

pub silent_line : (comment number : ℕ) (xs line behind : List ℕ) → 0 < length xs → line ≡ before_first is_line_feed xs → behind ≡ after_first is_line_feed xs → record_of comment line ≡ None
    → records_with comment number (lines xs) ≡ records_with comment (number + 1) (lines behind)
silent_line comment number xs line behind some l_is b_is none =
    ap (records_with comment number) (first_line xs some)
    ∙ ap (λ l. with_record number (record_of comment l) (records_with comment (number + 1) (lines (after_first is_line_feed xs)))) (sym l_is)
    ∙ ap (λ r. with_record number r (records_with comment (number + 1) (lines (after_first is_line_feed xs)))) none
    ∙ ap (λ l. records_with comment (number + 1) (lines l)) (sym b_is)

pub said_line_is : (comment number : ℕ) (xs line behind : List ℕ) (content : Record) → 0 < length xs → line ≡ before_first is_line_feed xs → behind ≡ after_first is_line_feed xs → record_of comment line ≡ Some content
    → records_with comment number (lines xs) ≡ record { line = number; item = content } ∷ records_with comment (number + 1) (lines behind)
said_line_is comment number xs line behind content some l_is b_is found =
    ap (records_with comment number) (first_line xs some)
    ∙ ap (λ l. with_record number (record_of comment l) (records_with comment (number + 1) (lines (after_first is_line_feed xs)))) (sym l_is)
    ∙ ap (λ r. with_record number r (records_with comment (number + 1) (lines (after_first is_line_feed xs)))) found
    ∙ ap (λ l. with_record number (Some content) (records_with comment (number + 1) (lines l))) (sym b_is)

-- ---- the steps of the code

pub filled : (xs : List ℕ) → eqb (length xs) 0 ≡ false → 0 < length xs
filled [] e = absurd (cc)
filled (x ∷ xs) e = omega arith

pub behind_shorter : (xs behind : List ℕ) → 0 < length xs → behind ≡ after_first is_line_feed xs → length behind + 1 ≤ length xs
behind_shorter xs behind some e =
    let n : length (after_first is_line_feed xs) ≡ length xs - (position_or_len is_line_feed xs + 1) = length-drop (position_or_len is_line_feed xs + 1) xs in
    let m : length behind ≡ length (after_first is_line_feed xs) = ap length e in
    omega (arith, n, m, some)

abbrev numbered_at : ℕ → Record → Numbered Record
numbered_at number content = record { line = number; item = content }

pub said_line_at : (comment number told : ℕ) (xs line behind : List ℕ) (content : Record) → 0 < length xs → line ≡ before_first is_line_feed xs → behind ≡ after_first is_line_feed xs → Some content ≡ record_of comment line → told ≡ number
    → records_with comment number (lines xs) ≡ record { line = told; item = content } ∷ records_with comment (told + 1) (lines behind)
said_line_at comment number told xs line behind content some l_is b_is found e =
    said_line_is comment number xs line behind content some l_is b_is (sym found) ∙ ap (λ n. numbered_at n content ∷ records_with comment (n + 1) (lines behind)) (sym e)

pub field_is : (xs rest word behind : List ℕ) → fields rest ≡ fields xs → 0 < length rest → begins_blank rest ≡ false → word ≡ before_first is_blank rest → behind ≡ after_first is_blank rest → fields xs ≡ word ∷ fields behind
field_is xs rest word behind same some starts w b =
    sym same ∙ first_field rest some starts ∙ sym (ap (λ l. l ∷ fields behind) w ∙ ap (λ l. before_first is_blank rest ∷ fields l) b)
