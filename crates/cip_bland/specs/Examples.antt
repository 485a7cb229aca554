-- The definitions tried on programs that were worked out by hand.
use Rattle.std.specs.Prelude.{◌≡◌, ℕ, ◌^◌, pos, negsuc, List, [], ◌∷◌, length, None, Some}
use Rattle.cip_rational.specs.Rational.{ℚ, integer, ratio, zeroℚ, oneℚ, negate}
use Rattle.cip_bland.specs.Program.{Term, Sides, Row}
use Rattle.cip_bland.specs.LinearProgram.{LinearProgram}
use Rattle.cip_bland.specs.DictionaryExamples.{from, small, turned}
use Rattle.cip_bland.specs.FirstState.{first}
use Rattle.cip_bland.specs.ProgramState.{first_of_program}
use Rattle.cip_bland.specs.declared.moves.Stand.TheVariants.{Low, High}
use Rattle.cip_bland.specs.declared.moves.Move.TheVariants.{Exchange, Flip}
use Rattle.cip_bland.specs.Rule.{next}
use Rattle.cip_bland.specs.MoveList.{Ends, run, state_after}
use Rattle.cip_bland.specs.EndAnswers.{Multiple, Answer, Optimal, NoPoint, Unbounded, OutOfRange, LimitReached, answer}
use Rattle.cip_bland.specs.declared.steps.Step.TheVariants.{Optimum, Makes}

-- ---- programs

-- n, and -(n + 1)
abbrev pub plus : ℕ → ℚ
plus n = integer (pos n)

abbrev pub minus : ℕ → ℚ
minus n = integer (negsuc n)

abbrev pub term : ℕ → ℚ → Term
term column coefficient = record { column = column; coefficient = coefficient }

abbrev pub at_least_row : List Term → ℚ → Row
at_least_row terms low = record { terms = terms; low = Some low; high = None }

abbrev pub at_most_row : List Term → ℚ → Row
at_most_row terms high = record { terms = terms; low = None; high = Some high }

abbrev pub between : ℚ → ℚ → Sides
between low high = record { low = Some low; high = Some high }

-- a x + b y + c z at most this
abbrev pub sum_row : ℕ → ℕ → ℕ → ℕ → Row
sum_row a b c most = at_most_row (term 0 (plus a) ∷ term 1 (plus b) ∷ term 2 (plus c) ∷ []) (plus most)

-- -5 x - 4 y - 3 z over three rows, each column from 0 to 10
abbrev pub three_columns : LinearProgram
three_columns = record {
  rows = sum_row 2 3 1 5 ∷ sum_row 4 1 2 11 ∷ sum_row 3 4 2 8 ∷ [];
  bounds = between zeroℚ (plus 10) ∷ between zeroℚ (plus 10) ∷ between zeroℚ (plus 10) ∷ [];
  costs = minus 4 ∷ minus 3 ∷ minus 2 ∷ [];
}

-- a program of one column
abbrev pub one_column : List Row → Sides → ℚ → LinearProgram
one_column rows sides cost = record { rows = rows; bounds = sides ∷ []; costs = cost ∷ [] }

-- x, at least 2 and at most 1 by rows, from 0 to 5
abbrev pub contradiction : LinearProgram
contradiction =
    one_column (at_least_row (term 0 oneℚ ∷ []) (plus 2) ∷ at_most_row (term 0 oneℚ ∷ []) oneℚ ∷ [])
    (between zeroℚ (plus 5)) oneℚ

-- x from 0, where x is at least 1 and at least 3
abbrev pub two_outside : LinearProgram
two_outside =
    one_column (at_least_row (term 0 oneℚ ∷ []) oneℚ ∷ at_least_row (term 0 oneℚ ∷ []) (plus 3) ∷ []) (from zeroℚ) oneℚ

-- y, without sides, where 3 y is at least -2 and at least 2
abbrev pub free_column : LinearProgram
free_column =
    one_column (at_least_row (term 0 (plus 3) ∷ []) (minus 1) ∷ at_least_row (term 0 (plus 3) ∷ []) (plus 2) ∷ [])
    (record { low = None; high = None }) oneℚ

-- -y without rows, y from 0
abbrev pub falling : LinearProgram
falling = one_column [] (from zeroℚ) (negate oneℚ)

-- -x without rows, x at most -3
abbrev pub high_alone : LinearProgram
high_alone = one_column [] (record { low = None; high = Some (minus 2) }) (negate oneℚ)

-- -x, x from 0 to 1, and the row x at most 1
abbrev pub equal_ways : LinearProgram
equal_ways = one_column (at_most_row (term 0 oneℚ ∷ []) oneℚ ∷ []) (between zeroℚ oneℚ) (negate oneℚ)

-- -x, x from 1 to 1
abbrev pub fixed : LinearProgram
fixed = one_column [] (between oneℚ oneℚ) (negate oneℚ)

-- x from 2 to 1, and beside it a column that lets the cost fall
abbrev pub crossed : LinearProgram
crossed = record {
  rows = [];
  bounds = from zeroℚ ∷ between (plus 2) oneℚ ∷ [];
  costs = negate oneℚ ∷ oneℚ ∷ [];
}

-- x from 0 to 5, and a row x that is at least 2 and at most 1
abbrev pub crossed_row : LinearProgram
crossed_row =
    one_column (record { terms = term 0 oneℚ ∷ []; low = Some (plus 2); high = Some oneℚ } ∷ [])
    (between zeroℚ (plus 5)) oneℚ

-- y from 0, where 10^38 y is at least 1 and y over 10^38 at most 5
abbrev pub far_apart : LinearProgram
far_apart =
    one_column
    (at_least_row (term 0 (plus (10 ^ 38)) ∷ []) oneℚ
    ∷ at_most_row (term 0 (ratio (pos 1) (10 ^ 38)) ∷ []) (plus 5) ∷ [])
    (from zeroℚ) oneℚ

-- -y, y from 0, where y over 2^70 is at most 2^70, which is far off, and y at most 1
abbrev pub long_way : LinearProgram
long_way =
    one_column
    (at_most_row (term 0 (ratio (pos 1) (2 ^ 70)) ∷ []) (plus (2 ^ 70)) ∷ at_most_row (term 0 oneℚ ∷ []) oneℚ ∷ [])
    (from zeroℚ) (negate oneℚ)

-- -y, y from 0, where y over 2^70 is at most 2^70, and y at least 1, so that the first move is to there
abbrev pub long_later : LinearProgram
long_later =
    one_column
    (at_most_row (term 0 (ratio (pos 1) (2 ^ 70)) ∷ []) (plus (2 ^ 70)) ∷ at_least_row (term 0 oneℚ ∷ []) oneℚ ∷ [])
    (from zeroℚ) (negate oneℚ)

-- x from 2^63, in a row with the coefficient 2^64
abbrev pub large_row : LinearProgram
large_row =
    one_column (at_least_row (term 0 (plus (2 ^ 64)) ∷ []) zeroℚ ∷ []) (from (plus (2 ^ 63))) zeroℚ

-- a row with a high side of 0: a x + b y + c z + e w
abbrev pub below_zero_row : ℚ → ℚ → ℚ → ℚ → Row
below_zero_row a b c e = at_most_row (term 0 a ∷ term 1 b ∷ term 2 c ∷ term 3 e ∷ []) zeroℚ

-- the program on which the rule of the most negative entry comes back to its first state (Beale 1955)
abbrev pub cycling : LinearProgram
cycling = record {
  rows =
      below_zero_row (ratio (pos 1) 4) (minus 59) (ratio (negsuc 0) 25) (plus 9)
      ∷ below_zero_row (ratio (pos 1) 2) (minus 89) (ratio (negsuc 0) 50) (plus 3)
      ∷ at_most_row (term 2 oneℚ ∷ []) oneℚ ∷ [];
  bounds = from zeroℚ ∷ from zeroℚ ∷ from zeroℚ ∷ from zeroℚ ∷ [];
  costs = ratio (negsuc 2) 4 ∷ plus 150 ∷ ratio (negsuc 0) 50 ∷ plus 6 ∷ [];
}

-- ---- answers

abbrev pub multiple : ℕ → ℚ → Multiple
multiple number factor = record { number = number; factor = factor }

-- (2, 0, 1) at -13: the first and the third row by -1, and the low side of y by 3
abbrev pub three_answer : Answer
three_answer =
    Optimal (plus 2 ∷ zeroℚ ∷ oneℚ ∷ [])
    (record {
      rows = multiple 0 (negate oneℚ) ∷ multiple 2 (negate oneℚ) ∷ [];
      lows = multiple 1 (plus 3) ∷ [];
      highs = [];
    })
    (minus 12)

-- of one column, with the rows and the sides of that column
abbrev pub optimal_at : ℚ → List Multiple → List Multiple → List Multiple → ℚ → Answer
optimal_at x rows lows highs cost = Optimal (x ∷ []) (record { rows = rows; lows = lows; highs = highs }) cost

abbrev pub no_point_by : List Multiple → List Multiple → List Multiple → Answer
no_point_by rows lows highs = NoPoint (record { rows = rows; lows = lows; highs = highs })

-- what the rule and the list come to
pub record Examples : Type 0 where
  -- x and y from 0, the row 2x - 3y from 1: the row is below its side and leaves, and x enters; then x + y is least
  pub small_move : next (first small) ≡ Makes (Exchange 2 0 Low)
  pub small_end : next turned ≡ Optimum
  -- of two rows that are outside the first leaves, and then the second
  pub least_leaves : (run 5 (first_of_program two_outside)).moves ≡ Exchange 1 0 Low ∷ Exchange 2 1 Low ∷ []
  -- two moves lead to the optimum: so it is with a limit of 2 and more, and one of 1 or 0 is reached
  pub three_moves : (run 5 (first_of_program three_columns)).moves ≡ Exchange 3 0 High ∷ Exchange 5 2 High ∷ []
  pub three : answer 2 three_columns ≡ three_answer
  pub three_at_one : answer 1 three_columns ≡ LimitReached
  pub three_at_none : answer 0 three_columns ≡ LimitReached
  -- from its last state the list ends at once, with no move allowed
  pub three_again : (run 0 (state_after 2 (first_of_program three_columns))).ending ≡ Ends Optimum
  -- ends that need no move are answered with no move allowed
  pub contradicts : answer 1 contradiction ≡ no_point_by (multiple 0 oneℚ ∷ multiple 1 (negate oneℚ) ∷ []) [] []
  pub free : answer 1 free_column
      ≡ optimal_at (ratio (pos 2) 3) (multiple 1 (ratio (pos 1) 3) ∷ []) [] [] (ratio (pos 2) 3)
  pub falls : answer 0 falling ≡ Unbounded (zeroℚ ∷ []) (oneℚ ∷ [])
  pub high : answer 0 high_alone ≡ optimal_at (minus 2) [] [] (multiple 0 (negate oneℚ) ∷ []) (plus 3)
  pub fixed_stays : answer 0 fixed ≡ optimal_at oneℚ [] [] (multiple 0 (negate oneℚ) ∷ []) (negate oneℚ)
  pub crosses : answer 0 crossed ≡ no_point_by [] (multiple 1 oneℚ ∷ []) (multiple 1 (negate oneℚ) ∷ [])
  pub crosses_row : answer 0 crossed_row ≡ no_point_by (multiple 0 oneℚ ∷ multiple 0 (negate oneℚ) ∷ []) [] []
  -- of equal ways that of the least variable is gone
  pub flips : next (first_of_program equal_ways) ≡ Makes (Flip 0)
  -- a move, a way and a first state out of range; without a move allowed neither of the first two is formed
  pub far : answer 1 far_apart ≡ OutOfRange (Exchange 1 0 Low ∷ [])
  pub far_at_none : answer 0 far_apart ≡ LimitReached
  pub long : answer 1 long_way ≡ OutOfRange (Exchange 1 0 High ∷ [])
  pub long_choice : next (first_of_program long_way) ≡ Makes (Exchange 2 0 High)
  pub long_at_none : answer 0 long_way ≡ LimitReached
  -- no way is formed while a variable is outside, and the ways of a second move are
  pub long_first : answer 1 long_later ≡ LimitReached
  pub long_second : answer 2 long_later ≡ OutOfRange (Exchange 2 0 Low ∷ Exchange 1 2 High ∷ [])
  pub large : answer 5 large_row ≡ OutOfRange []
  -- six moves
  pub six_moves : length (run 9 (first_of_program cycling)).moves ≡ 6
