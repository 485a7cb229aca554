-- The lines of a trace, and the text of an answer with them: `trace K ID NAME WORD` behind the figures, K from 1.
use lib.Chars.{codes}
use Rattle.std.specs.Prelude.{ℕ, suc, List, [], ◌∷◌, ◌++◌}
use Rattle.cip_rational.specs.NumberText.{natural_text}
use Rattle.cip_search.specs.Figures.{Figures, Names, status_word, line, figure_lines, end_line}

-- what a line says: the number and the name of a plugin, and the word that was written of it, with what follows the
-- word
pub record Traced : Type 0 where
  pub id : ℕ
  pub name : List ℕ
  pub word : List ℕ

-- `trace K ID NAME`
abbrev pub traced_front : (number id : ℕ) → (name : List ℕ) → List ℕ
traced_front number id name = codes "trace " ++ natural_text number ++ 32 ∷ natural_text id ++ 32 ∷ name

-- `trace K ID NAME WORD`, and a line feed
abbrev pub trace_line : ℕ → Traced → List ℕ
trace_line number traced = line (traced_front number traced.id traced.name) traced.word

-- the lines, numbered from this number on
abbrev pub trace_lines : ℕ → List Traced → List ℕ
trace_lines number [] = []
trace_lines number (traced ∷ others) = trace_line number traced ++ trace_lines (suc number) others

-- the lines of a trace, and the last line
abbrev pub traced_end : List Traced → List ℕ
traced_end lines = trace_lines 1 lines ++ end_line

-- the text of an answer with the lines of a trace, for a program with these names
abbrev pub traced_text : Names → Figures → List Traced → List ℕ
traced_text names figures lines =
    line (codes "status") (status_word figures.status) ++ figure_lines names figures ++ traced_end lines
