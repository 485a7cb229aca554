-- The figures of an answer to `solve`, and its text.
use lib.Chars.{codes}
use Rattle.std.specs.Prelude.{◌≡◌, length, map, IfSome, ℕ, Bool, true, false, List, [], ◌∷◌, ◌++◌, Option, None, Some, ⊤}
use Rattle.cip_rational.specs.Rational.{ℚ}
use Rattle.cip_rational.specs.NumberText.{natural_text, fraction_text}
use Rattle.cip_search.specs.Program.{Program}
use Rattle.cip_search.specs.Choices.{is_open}
use Rattle.cip_search.specs.Leaf.{at_wholes, Leaf}

-- what overflows of a leaf: a sum of the row of this name, or of the cost; or so many moves come to one out of range
pub data Overflow : Type 0 where
  AtRow : (name : List ℕ) → Overflow
  AtCost : Overflow
  AtMoves : (number : ℕ) → Overflow

-- how a search ended; where the cost falls without end there is a ray, and where a leaf is wide it is shown, with what
-- overflows
pub data Status : Type 0 where
  Optimal : Status
  Infeasible : Status
  Unbounded : (ray : List ℚ) → Status
  NodeLimit : Status
  Gap : Status
  Wide : (leaf : Leaf) (place : Overflow) → Status
  NoMemory : Status

-- a point with its cost: one is printed exactly where the other is
pub record Held : Type 0 where
  pub cost : ℚ
  pub point : List ℚ

-- the figures of an answer, as they are printed
pub record Figures : Type 0 where
  pub status : Status
  pub held : Option Held
  pub bound : Option ℚ

-- the printed word
abbrev pub status_word : Status → List ℕ
status_word Optimal = codes "optimal"
status_word Infeasible = codes "infeasible"
status_word (Unbounded ray) = codes "unbounded"
status_word NodeLimit = codes "nodelimit"
status_word Gap = codes "gap"
status_word (Wide leaf place) = codes "wide"
status_word NoMemory = codes "nomemory"

-- the exit status
abbrev pub exit_status : Status → ℕ
exit_status Optimal = 0
exit_status Infeasible = 0
exit_status (Unbounded ray) = 0
exit_status NodeLimit = 10
exit_status Gap = 13
exit_status (Wide leaf place) = 11
exit_status NoMemory = 6

-- a word, a blank, a figure, and a line feed
abbrev pub line : List ℕ → List ℕ → List ℕ
line word figure = word ++ 32 ∷ figure ++ 10 ∷ []

-- the last line
abbrev pub end_line : List ℕ
end_line = codes "end" ++ 10 ∷ []

-- a figure, or `none`
abbrev pub figure_text : Option ℚ → List ℕ
figure_text None = codes "none"
figure_text (Some figure) = fraction_text figure

-- a line for each column: its name and its value
abbrev pub point_lines : List (List ℕ) → List ℚ → List ℕ
point_lines [] point = []
point_lines (name ∷ names) [] = []
point_lines (name ∷ names) (value ∷ values) = line name (fraction_text value) ++ point_lines names values

-- the cost of the point, if there is one
abbrev pub held_cost : Option Held → Option ℚ
held_cost None = None
held_cost (Some held) = Some held.cost

-- the lines of cost and bound
abbrev pub cost_lines : Figures → List ℕ
cost_lines figures =
    line (codes "cost") (figure_text (held_cost figures.held)) ++ line (codes "bound") (figure_text figures.bound)

-- the lines of the point, if there is one
abbrev pub held_lines : List (List ℕ) → Option Held → List ℕ
held_lines names None = []
held_lines names (Some held) = point_lines names held.point

-- the names that an answer is printed with: those of the columns, and among them those of the whole columns and of the
-- semi-continuous ones
pub record Names : Type 0 where
  pub columns : List (List ℕ)
  pub wholes : List (List ℕ)
  pub semis : List (List ℕ)

abbrev pub names_of : Program → Names
names_of program = record {
  columns = program.column_names;
  wholes = at_wholes program.integral program.column_names;
  semis = at_wholes (map is_open program.choices) program.column_names;
}

-- `leaf` before a name
abbrev pub leaf_name : List ℕ → List ℕ
leaf_name name = codes "leaf " ++ name

-- whether a column is on
abbrev pub choice_text : Bool → List ℕ
choice_text true = codes "on"
choice_text false = codes "off"

-- a line for each semi-continuous column: its name and whether it is on
abbrev pub choice_lines : List (List ℕ) → List Bool → List ℕ
choice_lines [] on = []
choice_lines (name ∷ names) [] = []
choice_lines (name ∷ names) (is_on ∷ on) = line name (choice_text is_on) ++ choice_lines names on

-- a line for each whole column, with its value in a leaf, and then one for each semi-continuous column
abbrev pub leaf_lines : Names → Leaf → List ℕ
leaf_lines names leaf =
    point_lines (map leaf_name names.wholes) leaf.values ++ choice_lines (map leaf_name names.semis) leaf.on

-- what overflows
abbrev pub overflow_text : Overflow → List ℕ
overflow_text (AtRow name) = codes "row " ++ name
overflow_text AtCost = codes "cost"
overflow_text (AtMoves number) = codes "moves " ++ natural_text number

-- `ray` before a name
abbrev pub ray_name : List ℕ → List ℕ
ray_name name = codes "ray " ++ name

-- a line for each column: its name and by how much it changes along a ray
abbrev pub ray_lines : List (List ℕ) → List ℚ → List ℕ
ray_lines names ray = point_lines (map ray_name names) ray

-- the lines of the ray or of the leaf that is shown, if there is one
abbrev pub shown_lines : Names → Status → List ℕ
shown_lines names Optimal = []
shown_lines names Infeasible = []
shown_lines names (Unbounded ray) = ray_lines names.columns ray
shown_lines names NodeLimit = []
shown_lines names Gap = []
shown_lines names (Wide leaf place) = leaf_lines names leaf ++ line (codes "overflow") (overflow_text place)
shown_lines names NoMemory = []

-- after infeasible there are no more figures
abbrev pub unless_infeasible : Status → List ℕ → List ℕ
unless_infeasible Optimal text = text
unless_infeasible Infeasible text = []
unless_infeasible (Unbounded ray) text = text
unless_infeasible NodeLimit text = text
unless_infeasible Gap text = text
unless_infeasible (Wide leaf place) text = text
unless_infeasible NoMemory text = text

-- the lines between status and end
abbrev pub figure_lines : Names → Figures → List ℕ
figure_lines names figures =
    unless_infeasible figures.status
    (cost_lines figures ++ held_lines names.columns figures.held ++ shown_lines names figures.status)

-- the ray, if there is one, has a change for each column, and there is no bound; the leaf that is shown, if there is
-- one, has a value for each whole column and a choice for each semi-continuous one; after infeasible there is neither a
-- point nor a bound
abbrev pub EndFits : Names → Figures → Status → Type 0
EndFits names figures Optimal = ⊤
EndFits names figures Infeasible = (figures.held ≡ None) × (figures.bound ≡ None)
EndFits names figures (Unbounded ray) = (length ray ≡ length names.columns) × (figures.bound ≡ None)
EndFits names figures NodeLimit = ⊤
EndFits names figures Gap = ⊤
EndFits names figures (Wide leaf place) =
    (length leaf.values ≡ length names.wholes) × (length leaf.on ≡ length names.semis)
EndFits names figures NoMemory = ⊤

-- figures fit the names: the point, if there is one, has a value for each column, and the end fits
pub record FitNames (names : Names) (figures : Figures) : Type 0 where
  pub point : IfSome figures.held (λ held. length held.point ≡ length names.columns)
  pub end_ : EndFits names figures figures.status

-- the text of an answer, for a program with these names
abbrev pub answer_text : Names → Figures → List ℕ
answer_text names figures =
    line (codes "status") (status_word figures.status) ++ figure_lines names figures ++ end_line

-- the texts that have no figures
abbrev pub usage_text : List ℕ
usage_text = line (codes "status") (codes "usage") ++ end_line

abbrev pub read_fault_text : List ℕ
read_fault_text = line (codes "status") (codes "readfault") ++ end_line

abbrev pub no_memory_text : List ℕ
no_memory_text = line (codes "status") (codes "nomemory") ++ end_line

-- the text of a refusal: of which text, at which line, and the number and name of the kind
abbrev pub refusal_text : List ℕ → List ℕ → List ℕ → List ℕ
refusal_text text number kind =
    line (codes "status") (codes "refused") ++ line (codes "text") text ++ line (codes "line") number
    ++ line (codes "kind") kind ++ end_line
