-- Programs whose figures are drawn: `generated seed columns rows`. Columns and rows are numbered from 0.
use Rattle.std.specs.Prelude.{ℕ, zero, suc, ◌+◌, ◌*◌, ◌/◌, ◌%◌, ◌^◌, Bool, true, List, [], ◌∷◌, None, Some, map, filter, sum, sum_by, length, replicate, nat_lt, pos}
use Rattle.std.specs.List.{range_with_len}
use Rattle.cip_rational.specs.Rational.{ℚ, zeroℚ, negate, integer}
use Rattle.cip_rational.specs.NumberText.{natural_text}
use Rattle.cip_problem.specs.Program.{Term, Sides, Row, Program}

-- the most columns, and the most rows, of such a program
abbrev pub most_drawn : ℕ
most_drawn = 256

-- ---- draws: a linear congruential generator, with the factor and the increment of Knuth's MMIX

-- the state behind a state, of 64 bits
unfoldable pub next_state : ℕ → ℕ
next_state state = (state * 6364136223846793005 + 1442695040888963407) % 2 ^ 64

-- the state that is reached from one by so many draws
abbrev pub state_after : ℕ → ℕ → ℕ
state_after zero state = state
state_after (suc n) state = next_state (state_after n state)

-- what is drawn as a state is reached: its upper 32 bits
abbrev pub drawn_at : ℕ → ℕ
drawn_at state = state / 2 ^ 32

-- the draw of a number, counted from 0, of those from a state on
abbrev pub draw : ℕ → ℕ → ℕ
draw state number = drawn_at (next_state (state_after number state))

-- ---- figures

-- a natural number
abbrev pub natural : ℕ → ℚ
natural n = integer (pos n)

-- the cost of a column is from 1 to 20; a program that maximises keeps its negative
abbrev pub cost_from : ℕ → ℕ → ℚ
cost_from state column = negate (natural (1 + draw state column % 20))

-- the coefficient of a column in the row that begins at a state, from 0 to 9
abbrev pub coefficient_from : ℕ → ℕ → ℕ
coefficient_from state column = draw state column % 10

-- a column has a term where its coefficient isn't 0
abbrev pub has_term : ℕ → ℕ → Bool
has_term state column = nat_lt 0 (coefficient_from state column)

-- a term with a natural number as its coefficient; the term of a column in the row that begins at a state
abbrev pub term_on : ℕ → ℕ → Term
term_on column coefficient = record { column = column; coefficient = natural coefficient }

abbrev pub term_from : ℕ → ℕ → Term
term_from state column = term_on column (coefficient_from state column)

-- the terms on the first columns
abbrev pub terms_from : ℕ → ℕ → List Term
terms_from columns state = map (term_from state) (filter (has_term state) (range_with_len 0 columns))

-- the sum of the coefficients of the first columns
abbrev pub total_from : ℕ → ℕ → ℕ
total_from columns state = sum (map (coefficient_from state) (range_with_len 0 columns))

-- the row that begins at a state: at most the sum of its coefficients
abbrev pub row_from : ℕ → ℕ → Row
row_from columns state = record {
  terms = terms_from columns state;
  low = None;
  high = Some (natural (total_from columns state));
}

-- where a row begins: behind the draws of the costs, and of the rows before it
abbrev pub row_start : ℕ → ℕ → ℕ → ℕ
row_start seed columns row = state_after (row * columns) (state_after columns seed)

-- ---- programs

-- a letter with a number behind it, as `x0`
abbrev pub name_of : ℕ → ℕ → List ℕ
name_of letter number = letter ∷ natural_text number

-- from 0 to 3
abbrev pub zero_to_three : Sides
zero_to_three = record { low = Some zeroℚ; high = Some (natural 3) }

-- the program: whole columns x0, x1, .. from 0 to 3 with a cost that is to be greatest, and rows r0, r1, ..
abbrev pub generated : ℕ → ℕ → ℕ → Program
generated seed columns rows = record {
  column_names = map (name_of 120) (range_with_len 0 columns);
  row_names = map (name_of 114) (range_with_len 0 rows);
  rows = map (λ row. row_from columns (row_start seed columns row)) (range_with_len 0 rows);
  costs = map (cost_from seed) (range_with_len 0 columns);
  constant = zeroℚ;
  maximized = true;
  integral = replicate columns true;
  bounds = replicate columns zero_to_three;
  choices = [];
}

-- how many coefficients of a program's rows aren't 0
abbrev pub entries_of : Program → ℕ
entries_of program = sum_by (λ row. length row.terms) program.rows
