-- Faults that are known before a text ends.
--     IsKnownFault reading text line kind      the text is faulty at a line that has ended
use Rattle.std.specs.Prelude.{ℕ, ◌+◌, ◌≤◌, List, ◌++◌, take}
use Rattle.std.specs.List.{count_by}
use Rattle.cip_problem.specs.Limits.{longest_text}
use Rattle.cip_text_rules.specs.Lines.{is_line_feed}
use Rattle.cip_text_rules.specs.LineTexts.{Reading, HasFault}

-- how many lines have ended, as far as the first byte too many
abbrev pub lines_ended : List ℕ → ℕ
lines_ended text = count_by is_line_feed (take (longest_text + 1) text)

-- the first fault of a text, at a line that has ended
pub record IsKnownFault {K I X : Type 0} (reading : Reading K I X) (text : List ℕ) (line kind : ℕ) : Type 0 where
  pub fault : HasFault reading text line kind
  pub ended : line ≤ lines_ended text

-- a known fault is that of the text with whatever follows, and stays known
abbrev pub KnownFaultsStay : {K I X : Type 0} → Reading K I X → Type 0
KnownFaultsStay reading =
    (text rest : List ℕ) (line kind : ℕ) → IsKnownFault reading text line kind
    → IsKnownFault reading (text ++ rest) line kind
