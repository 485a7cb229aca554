-- The text of an answer to `self`, of which each line is always there: `self SEED COLS ROWS`, `entries E`, `status W`,
-- `cost C`, `bound B`, `end`.
use lib.Chars.{codes}
use Rattle.std.specs.Prelude.{ℕ, List, ◌∷◌, ◌++◌}
use Rattle.cip_rational.specs.NumberText.{natural_text}
use Rattle.cip_search.specs.Figures.{Figures, status_word, line, cost_lines, end_line}

-- what is told of a program that is drawn: its seed, how many columns and rows it has, and how many of the coefficients
-- of its rows aren't 0
pub record Drawn : Type 0 where
  pub seed : ℕ
  pub columns : ℕ
  pub rows : ℕ
  pub entries : ℕ

-- `SEED COLS ROWS`
abbrev pub sizes_text : Drawn → List ℕ
sizes_text drawn = natural_text drawn.seed ++ 32 ∷ natural_text drawn.columns ++ 32 ∷ natural_text drawn.rows

-- the lines of the program
abbrev pub drawn_lines : Drawn → List ℕ
drawn_lines drawn = line (codes "self") (sizes_text drawn) ++ line (codes "entries") (natural_text drawn.entries)

-- the lines of its figures: status, cost and bound, after infeasible too
abbrev pub outcome_lines : Figures → List ℕ
outcome_lines figures = line (codes "status") (status_word figures.status) ++ cost_lines figures

-- the text of an answer
abbrev pub self_text : Drawn → Figures → List ℕ
self_text drawn figures = drawn_lines drawn ++ outcome_lines figures ++ end_line
