-- What the ends of a list of moves answer on a linear program: the point, the certificate by its names and factors, the
-- ray and the cost.
use Rattle.std.specs.Prelude.{ℕ, ◌+◌, ◌-◌, ◌==◌, nat_lt, List, [], ◌∷◌, ◌++◌, length, map, unwrap_or, slice_index_or, if◌then◌else◌}
use Rattle.cip_rational.specs.Rational.{ℚ, negate, zeroℚ, oneℚ, lt_test, is_zero}
use Rattle.cip_bland.specs.Program.{Row, no_row}
use Rattle.cip_bland.specs.Box.{sides_at}
use Rattle.cip_bland.specs.LinearProgram.{LinearProgram}
use Rattle.cip_bland.specs.Aggregate.{Part, used_side}
use Rattle.cip_bland.specs.Multipliers.{column_part}
use Rattle.cip_bland.specs.Tables.{table, each}
use Rattle.cip_bland.specs.Dictionary.{Dictionary, is_basic, entry, cost_entry, value}
use Rattle.cip_bland.specs.FirstState.{first_operations}
use Rattle.cip_bland.specs.ProgramState.{system_of, first_of_program}
use Rattle.cip_bland.specs.declared.moves.Move.{Move}
use Rattle.cip_bland.specs.Headings.{back_of, along}
use Rattle.cip_bland.specs.Rule.{outside_heading, falling_heading}
use Rattle.cip_bland.specs.MoveList.{is_out_of_range, Ending, Ends, Overflows, Stops, Run, run}
use Rattle.cip_bland.specs.declared.steps.Step.{Step}
use Rattle.cip_bland.specs.declared.steps.Step.TheVariants.{Crossed, Infeasible, Optimum, Ray, Makes}

-- ---- points and rays

-- the values of the columns
abbrev pub point_of : LinearProgram → Dictionary → List ℚ
point_of program d = table (length program.bounds) (value d)

-- by how much a variable changes as j goes by 1 with the heading that lets the cost fall
abbrev pub change_of : Dictionary → ℕ → ℕ → ℚ
change_of d j v =
    if v == j then along (falling_heading d j) oneℚ
    else (if is_basic d v then along (falling_heading d j) (entry d v j) else zeroℚ)

abbrev pub ray_of : LinearProgram → Dictionary → ℕ → List ℚ
ray_of program d j = table (length program.bounds) (change_of d j)

-- ---- certificates

-- a row or a column by its number, with a factor
pub record Multiple : Type 0 where
  pub number : ℕ
  pub factor : ℚ

-- rows, low sides of columns and high sides of columns, each with a factor. A row uses its low side where its factor is
-- above 0, else its high one; factors of low sides are above 0, those of high sides below 0.
pub record Certificate : Type 0 where
  pub rows : List Multiple
  pub lows : List Multiple
  pub highs : List Multiple

abbrev pub row_part : LinearProgram → Multiple → Part
row_part program m =
    let row : Row = slice_index_or program.rows m.number no_row in
    record { factor = m.factor; terms = row.terms; side = unwrap_or (used_side m.factor row.low row.high) zeroℚ }

abbrev pub low_part : LinearProgram → Multiple → Part
low_part program m = column_part m.number m.factor (unwrap_or (sides_at program.bounds m.number).low zeroℚ)

abbrev pub high_part : LinearProgram → Multiple → Part
high_part program m = column_part m.number m.factor (unwrap_or (sides_at program.bounds m.number).high zeroℚ)

-- the parts that a certificate names
abbrev pub parts_of : LinearProgram → Certificate → List Part
parts_of program c =
    map (row_part program) c.rows ++ (map (low_part program) c.lows ++ map (high_part program) c.highs)

-- a multiple, if its factor isn't 0, is above 0, or is below 0
abbrev pub any_multiple : ℕ → ℚ → List Multiple
any_multiple k y = if is_zero y then [] else record { number = k; factor = y } ∷ []

abbrev pub low_multiple : ℕ → ℚ → List Multiple
low_multiple k y = if lt_test zeroℚ y then record { number = k; factor = y } ∷ [] else []

abbrev pub high_multiple : ℕ → ℚ → List Multiple
high_multiple k y = if lt_test y zeroℚ then record { number = k; factor = y } ∷ [] else []

-- the certificate of a multiplier for each variable
abbrev pub certificate_of : LinearProgram → (ℕ → ℚ) → Certificate
certificate_of program y =
    let columns : ℕ = length program.bounds in
    record {
      rows = each (length program.rows) (λ r. any_multiple r (y (columns + r)));
      lows = each columns (λ k. low_multiple k (y k));
      highs = each columns (λ k. high_multiple k (y k));
    }

-- of an optimum the multipliers are the entries of the cost
abbrev pub optimal_certificate : LinearProgram → Dictionary → Certificate
optimal_certificate program d = certificate_of program (cost_entry d)

-- the row of a variable outside, as what is 0 at each solution: 1 on the variable and its entries negated where it is
-- below its low side, and the negative of that where it is above its high side
abbrev pub row_multiplier : Dictionary → ℕ → ℕ → ℚ
row_multiplier d i v =
    if v == i then along (back_of (outside_heading d i)) oneℚ else along (outside_heading d i) (entry d i v)

abbrev pub outside_certificate : LinearProgram → Dictionary → ℕ → Certificate
outside_certificate program d i = certificate_of program (row_multiplier d i)

-- of crossed sides: the low one by 1 and the high one by -1
abbrev pub crossed_certificate : LinearProgram → ℕ → Certificate
crossed_certificate program v =
    let columns : ℕ = length program.bounds in
    if nat_lt v columns then
    record {
      rows = [];
      lows = record { number = v; factor = oneℚ } ∷ [];
      highs = record { number = v; factor = negate oneℚ } ∷ [];
    }
    else
    record {
      rows = record { number = v - columns; factor = oneℚ }
          ∷ record { number = v - columns; factor = negate oneℚ } ∷ [];
      lows = [];
      highs = [];
    }

-- ---- answers

-- what the simplex method answers
pub data Answer : Type 0 where
  -- a point, its certificate and its cost
  Optimal : List ℚ → Certificate → ℚ → Answer
  -- there is no point, by this certificate
  NoPoint : Certificate → Answer
  -- a point, and a ray from it
  Unbounded : List ℚ → List ℚ → Answer
  -- these moves, the last of which is out of range; none where the first state is
  OutOfRange : List Move → Answer
  -- so many moves as are allowed lead to a state that is no end
  LimitReached : Answer

-- at a state where this is the step
abbrev pub answer_at : LinearProgram → Dictionary → Step → Answer
answer_at program d (Crossed v) = NoPoint (crossed_certificate program v)
answer_at program d (Infeasible i) = NoPoint (outside_certificate program d i)
answer_at program d Optimum = Optimal (point_of program d) (optimal_certificate program d) d.cost
answer_at program d (Ray j) = Unbounded (point_of program d) (ray_of program d j)
answer_at program d (Makes move) = LimitReached

-- after these moves, which lead to d
abbrev pub answer_after : LinearProgram → List Move → Dictionary → Ending → Answer
answer_after program moves d (Ends step) = answer_at program d step
answer_after program moves d (Overflows move) = OutOfRange (moves ++ move ∷ [])
answer_after program moves d Stops = LimitReached

abbrev pub answer_of : LinearProgram → Run → Answer
answer_of program r = answer_after program r.moves r.last r.ending

-- the answer on a linear program from its first state, with at most so many moves
unfoldable pub answer : ℕ → LinearProgram → Answer
answer limit program =
    if is_out_of_range (first_operations (system_of program)) then OutOfRange []
    else answer_of program (run limit (first_of_program program))
