-- The lines of a text that say something, with their numbers, as the code hands them out.
--     records_with comment number lines      the records of lines, the first of which has this number
--     left lines      those that are still to come
use Rattle.std.specs.Prelude.{ℕ, List, if◌then◌else◌}
use Rattle.cip_text_rules.specs.Lines.{Record, Section, Entry, lines, fields}
use Rattle.cip_text_rules.specs.LineTexts.{Numbered, items_from, records_of}
use Rattle.cip_text.specs.declared.text_lines.Fields.{Fields}
use Rattle.cip_text.specs.declared.text_lines.TextLine.{TextLine}
use Rattle.cip_text.specs.declared.text_lines.Lines.{Lines}

-- the records of lines, the first of which has this number; empty lines, lines that begin with the byte of comments and
-- lines of blanks alone have none
abbrev pub records_with : (comment number : ℕ) → List (List ℕ) → List (Numbered Record)
records_with comment number lines = items_from (records_of comment) number lines

-- the fields that are still to come
abbrev pub fields_left : Fields → List (List ℕ)
fields_left of_line = fields of_line.rest.now

-- what a line says
abbrev pub content_of : TextLine → Record
content_of line = if line.is_section then Section (fields_left line.fields) else Entry (fields_left line.fields)

-- what a line says, with its number
abbrev pub numbered : TextLine → Numbered Record
numbered line = record { line = line.number; item = content_of line }

-- the records that are still to come
abbrev pub left : Lines → List (Numbered Record)
left of_text = records_with of_text.comment of_text.number (lines of_text.rest.now)
