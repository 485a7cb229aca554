-- The record of a text of one line.
use Rattle.std.proofs.Common.{◌≡◌, ℕ, false, List, [], ◌∷◌, ◌++◌, map, Option, None, Some, MatchOption, refl, sym, ap, ◌∙◌}
use Rattle.std.specs.Prelude.{option_map}
use Rattle.std.specs.List.{list_any}
use Rattle.cip_text_rules.specs.Lines.{Record, is_line_feed, HasNoLineFeed, lines, record_of}
use Rattle.cip_text_rules.proofs.Cuts.{lines_last}
use Rattle.cip_text_rules.specs.LineTexts as texts
use Rattle.cip_text_rules.specs.LineTexts.{Numbered, records_in}
use Rattle.cip_text_rules.proofs.Quiet.{left_false, right_false}
use Rattle.cip_text.specs.TextLines.{records_with, content_of, numbered}
use Rattle.cip_text.specs.declared.text_lines.TextLine.{TextLine}

-- no byte is a line feed
pub without_feed : (line : List ℕ) → list_any is_line_feed line ≡ false → HasNoLineFeed line
without_feed [] h = tt
without_feed (b ∷ bs) h = (left_false (is_line_feed b) (list_any is_line_feed bs) h, without_feed bs (right_false (is_line_feed b) (list_any is_line_feed bs) h))

-- the records of one line
one_record : (comment : ℕ) (line : List ℕ) → HasNoLineFeed line → records_with comment 1 (lines line) ≡ map (texts.numbered 1) (records_in (record_of comment line)) ++ []
one_record comment [] h = refl
one_record comment (byte ∷ bytes) h = ap (records_with comment 1) (lines_last byte bytes h)

-- what the first of them says
pub record_is : (comment : ℕ) (line : List ℕ) (found : Option TextLine) (left after : List (Numbered Record)) → list_any is_line_feed line ≡ false → left ≡ records_with comment 1 (lines line) → MatchOption found ((left ≡ []) × (after ≡ [])) (λ now. left ≡ numbered now ∷ after) → option_map content_of found ≡ record_of comment line
record_is comment line found left after h e told = first found (record_of comment line) (e ∙ one_record comment line (without_feed line h)) told
  where
    first : (found : Option TextLine) (said : Option Record) → left ≡ map (texts.numbered 1) (records_in said) ++ [] → MatchOption found ((left ≡ []) × (after ≡ [])) (λ now. left ≡ numbered now ∷ after) → option_map content_of found ≡ said
    first None None p q = refl
    first None (Some content) p q = cc (p, q.0)
    first (Some now) None p q = cc (p, q)
    first (Some now) (Some content) p q =
        let same : numbered now ∷ after ≡ (record { line = 1; item = content }) ∷ [] = sym q ∙ p in
        let one : numbered now ≡ record { line = 1; item = content } = cc same in
        ap (λ n. Some n.item) one
