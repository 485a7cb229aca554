-- The examples, computed.
use Rattle.std.proofs.Common.{◌≡◌, true, pos, [], ◌∷◌, length, refl, ap}
use Rattle.cip_rational.specs.Gcd.{gcd}
use Rattle.cip_rational.specs.Range.{fits_range, sum_overflows, difference_overflows, product_overflows}
use Rattle.cip_rational.specs.Rational.{ℚ, ◌+ℚ◌, ◌-ℚ◌, ◌*ℚ◌, zeroℚ, oneℚ, negate, integer, ratio, whole, inverse, numerator, denominator, le_test, lt_test, is_zero}
use Rattle.cip_rational.proofs.Rational.Order.{≤ℚ_antisymm, le_of_test}
use Rattle.cip_bland.specs.Tables.{table}
use Rattle.cip_bland.specs.Dictionary.{Dictionary, value, cost_entry}
use Rattle.cip_bland.specs.Exchange.{exchanged, flipped}
use Rattle.cip_bland.specs.FirstState.{first}
use Rattle.cip_bland.specs.ProgramState.{first_of_program}
use Rattle.cip_bland.specs.DictionaryExamples.{small, turned}
use Rattle.cip_bland.specs.declared.moves.Stand.TheVariants.{Low, High}
use Rattle.cip_bland.specs.declared.moves.Move.TheVariants.{Exchange, Flip}
use Rattle.cip_bland.specs.Rule.{next}
use Rattle.cip_bland.specs.MoveList.{Ends, run, state_after}
use Rattle.cip_bland.specs.EndAnswers.{Optimal, Unbounded, OutOfRange, LimitReached, row_multiplier, answer}
use Rattle.cip_bland.specs.Examples.{plus, minus, three_columns, contradiction, free_column, falling, high_alone, equal_ways, fixed, crossed, crossed_row, far_apart, two_outside, long_way, long_later, large_row, cycling, multiple, three_answer, optimal_at, no_point_by, Examples}
use Rattle.cip_bland.specs.declared.steps.Step.TheVariants.{Optimum, Makes}

-- numbers of which each is at most the other are the same
pub same : (a b : ℚ) → le_test a b ≡ true → le_test b a ≡ true → a ≡ b
same a b e f = ≤ℚ_antisymm (le_of_test e) (le_of_test f)

small_move : next (first small) ≡ Makes (Exchange 2 0 Low)
unfolding first table ratio integer whole zeroℚ oneℚ ◌+ℚ◌ ◌*ℚ◌ ◌-ℚ◌ negate inverse numerator denominator le_test lt_test is_zero exchanged flipped gcd
small_move = refl

small_end : next turned ≡ Optimum
unfolding first table ratio integer whole zeroℚ oneℚ ◌+ℚ◌ ◌*ℚ◌ ◌-ℚ◌ negate inverse numerator denominator le_test lt_test is_zero exchanged flipped gcd
small_end = refl

three_moves : (run 5 (first_of_program three_columns)).moves ≡ Exchange 3 0 High ∷ Exchange 5 2 High ∷ []
unfolding first table ratio integer whole zeroℚ oneℚ ◌+ℚ◌ ◌*ℚ◌ ◌-ℚ◌ negate inverse numerator denominator le_test lt_test is_zero exchanged flipped gcd run answer fits_range sum_overflows difference_overflows product_overflows
three_moves = refl

three_at_one : answer 1 three_columns ≡ LimitReached
unfolding first table ratio integer whole zeroℚ oneℚ ◌+ℚ◌ ◌*ℚ◌ ◌-ℚ◌ negate inverse numerator denominator le_test lt_test is_zero exchanged flipped gcd run answer fits_range sum_overflows difference_overflows product_overflows
three_at_one = refl

three_at_none : answer 0 three_columns ≡ LimitReached
unfolding first table ratio integer whole zeroℚ oneℚ ◌+ℚ◌ ◌*ℚ◌ ◌-ℚ◌ negate inverse numerator denominator le_test lt_test is_zero exchanged flipped gcd run answer fits_range sum_overflows difference_overflows product_overflows
three_at_none = refl

flips : next (first_of_program equal_ways) ≡ Makes (Flip 0)
unfolding first table ratio integer whole zeroℚ oneℚ ◌+ℚ◌ ◌*ℚ◌ ◌-ℚ◌ negate inverse numerator denominator le_test lt_test is_zero exchanged flipped gcd
flips = refl

far : answer 1 far_apart ≡ OutOfRange (Exchange 1 0 Low ∷ [])
unfolding first table ratio integer whole zeroℚ oneℚ ◌+ℚ◌ ◌*ℚ◌ ◌-ℚ◌ negate inverse numerator denominator le_test lt_test is_zero exchanged flipped gcd run answer fits_range sum_overflows difference_overflows product_overflows
far = refl

far_at_none : answer 0 far_apart ≡ LimitReached
unfolding first table ratio integer whole zeroℚ oneℚ ◌+ℚ◌ ◌*ℚ◌ ◌-ℚ◌ negate inverse numerator denominator le_test lt_test is_zero exchanged flipped gcd run answer fits_range sum_overflows difference_overflows product_overflows
far_at_none = refl

long : answer 1 long_way ≡ OutOfRange (Exchange 1 0 High ∷ [])
unfolding first table ratio integer whole zeroℚ oneℚ ◌+ℚ◌ ◌*ℚ◌ ◌-ℚ◌ negate inverse numerator denominator le_test lt_test is_zero exchanged flipped gcd run answer fits_range sum_overflows difference_overflows product_overflows
long = refl

long_choice : next (first_of_program long_way) ≡ Makes (Exchange 2 0 High)
unfolding first table ratio integer whole zeroℚ oneℚ ◌+ℚ◌ ◌*ℚ◌ ◌-ℚ◌ negate inverse numerator denominator le_test lt_test is_zero exchanged flipped gcd
long_choice = refl

long_at_none : answer 0 long_way ≡ LimitReached
unfolding first table ratio integer whole zeroℚ oneℚ ◌+ℚ◌ ◌*ℚ◌ ◌-ℚ◌ negate inverse numerator denominator le_test lt_test is_zero exchanged flipped gcd run answer fits_range sum_overflows difference_overflows product_overflows
long_at_none = refl

large : answer 5 large_row ≡ OutOfRange []
unfolding first table ratio integer whole zeroℚ oneℚ ◌+ℚ◌ ◌*ℚ◌ ◌-ℚ◌ negate inverse numerator denominator le_test lt_test is_zero exchanged flipped gcd run answer fits_range sum_overflows difference_overflows product_overflows
large = refl

six_moves : length (run 9 (first_of_program cycling)).moves ≡ 6
unfolding first table ratio integer whole zeroℚ oneℚ ◌+ℚ◌ ◌*ℚ◌ ◌-ℚ◌ negate inverse numerator denominator le_test lt_test is_zero exchanged flipped gcd run answer fits_range sum_overflows difference_overflows product_overflows
six_moves = refl

crosses_row : answer 0 crossed_row ≡ no_point_by (multiple 0 oneℚ ∷ multiple 0 (negate oneℚ) ∷ []) [] []
unfolding first table ratio integer whole zeroℚ oneℚ ◌+ℚ◌ ◌*ℚ◌ ◌-ℚ◌ negate inverse numerator denominator le_test lt_test is_zero exchanged flipped gcd run answer fits_range sum_overflows difference_overflows product_overflows
crosses_row = refl

crosses : answer 0 crossed ≡ no_point_by [] (multiple 1 oneℚ ∷ []) (multiple 1 (negate oneℚ) ∷ [])
unfolding first table ratio integer whole zeroℚ oneℚ ◌+ℚ◌ ◌*ℚ◌ ◌-ℚ◌ negate inverse numerator denominator le_test lt_test is_zero exchanged flipped gcd run answer fits_range sum_overflows difference_overflows product_overflows
crosses = refl

least_leaves : (run 5 (first_of_program two_outside)).moves ≡ Exchange 1 0 Low ∷ Exchange 2 1 Low ∷ []
unfolding first table ratio integer whole zeroℚ oneℚ ◌+ℚ◌ ◌*ℚ◌ ◌-ℚ◌ negate inverse numerator denominator le_test lt_test is_zero exchanged flipped gcd run answer fits_range sum_overflows difference_overflows product_overflows
least_leaves = refl

long_first : answer 1 long_later ≡ LimitReached
unfolding first table ratio integer whole zeroℚ oneℚ ◌+ℚ◌ ◌*ℚ◌ ◌-ℚ◌ negate inverse numerator denominator le_test lt_test is_zero exchanged flipped gcd run answer fits_range sum_overflows difference_overflows product_overflows
long_first = refl

long_second : answer 2 long_later ≡ OutOfRange (Exchange 2 0 Low ∷ Exchange 1 2 High ∷ [])
unfolding first table ratio integer whole zeroℚ oneℚ ◌+ℚ◌ ◌*ℚ◌ ◌-ℚ◌ negate inverse numerator denominator le_test lt_test is_zero exchanged flipped gcd run answer fits_range sum_overflows difference_overflows product_overflows
long_second = refl

three_again : (run 0 (state_after 2 (first_of_program three_columns))).ending ≡ Ends Optimum
unfolding first table ratio integer whole zeroℚ oneℚ ◌+ℚ◌ ◌*ℚ◌ ◌-ℚ◌ negate inverse numerator denominator le_test lt_test is_zero exchanged flipped gcd run answer fits_range sum_overflows difference_overflows product_overflows state_after
three_again = refl

three : answer 2 three_columns ≡ three_answer
unfolding first table ratio integer whole zeroℚ oneℚ ◌+ℚ◌ ◌*ℚ◌ ◌-ℚ◌ negate inverse numerator denominator le_test lt_test is_zero exchanged flipped gcd run answer fits_range sum_overflows difference_overflows product_overflows
three =
    let d : Dictionary = (run 2 (first_of_program three_columns)).last in
    let x : value d 0 ≡ plus 2 = same (value d 0) (plus 2) refl refl in
    let y : value d 1 ≡ zeroℚ = same (value d 1) zeroℚ refl refl in
    let z : value d 2 ≡ oneℚ = same (value d 2) oneℚ refl refl in
    let first_row : cost_entry d 3 ≡ negate oneℚ = same (cost_entry d 3) (negate oneℚ) refl refl in
    let third_row : cost_entry d 5 ≡ negate oneℚ = same (cost_entry d 5) (negate oneℚ) refl refl in
    let second : cost_entry d 1 ≡ plus 3 = same (cost_entry d 1) (plus 3) refl refl in
    let cost : d.cost ≡ minus 12 = same d.cost (minus 12) refl refl in
    λ i. Optimal (x i ∷ y i ∷ z i ∷ []) (record { rows = multiple 0 (first_row i) ∷ multiple 2 (third_row i) ∷ []; lows = multiple 1 (second i) ∷ []; highs = [] }) (cost i)

contradicts : answer 1 contradiction ≡ no_point_by (multiple 0 oneℚ ∷ multiple 1 (negate oneℚ) ∷ []) [] []
unfolding first table ratio integer whole zeroℚ oneℚ ◌+ℚ◌ ◌*ℚ◌ ◌-ℚ◌ negate inverse numerator denominator le_test lt_test is_zero exchanged flipped gcd run answer fits_range sum_overflows difference_overflows product_overflows
contradicts =
    let d : Dictionary = (run 1 (first_of_program contradiction)).last in
    let first_row : row_multiplier d 2 1 ≡ oneℚ = same (row_multiplier d 2 1) oneℚ refl refl in
    λ i. no_point_by (multiple 0 (first_row i) ∷ multiple 1 (negate oneℚ) ∷ []) [] []

free : answer 1 free_column ≡ optimal_at (ratio (pos 2) 3) (multiple 1 (ratio (pos 1) 3) ∷ []) [] [] (ratio (pos 2) 3)
unfolding first table ratio integer whole zeroℚ oneℚ ◌+ℚ◌ ◌*ℚ◌ ◌-ℚ◌ negate inverse numerator denominator le_test lt_test is_zero exchanged flipped gcd run answer fits_range sum_overflows difference_overflows product_overflows
free =
    let d : Dictionary = (run 1 (first_of_program free_column)).last in
    let y : value d 0 ≡ ratio (pos 2) 3 = same (value d 0) (ratio (pos 2) 3) refl refl in
    let row : cost_entry d 2 ≡ ratio (pos 1) 3 = same (cost_entry d 2) (ratio (pos 1) 3) refl refl in
    let cost : d.cost ≡ ratio (pos 2) 3 = same d.cost (ratio (pos 2) 3) refl refl in
    λ i. optimal_at (y i) (multiple 1 (row i) ∷ []) [] [] (cost i)

falls : answer 0 falling ≡ Unbounded (zeroℚ ∷ []) (oneℚ ∷ [])
unfolding first table ratio integer whole zeroℚ oneℚ ◌+ℚ◌ ◌*ℚ◌ ◌-ℚ◌ negate inverse numerator denominator le_test lt_test is_zero exchanged flipped gcd run answer fits_range sum_overflows difference_overflows product_overflows
falls = refl

high : answer 0 high_alone ≡ optimal_at (minus 2) [] [] (multiple 0 (negate oneℚ) ∷ []) (plus 3)
unfolding first table ratio integer whole zeroℚ oneℚ ◌+ℚ◌ ◌*ℚ◌ ◌-ℚ◌ negate inverse numerator denominator le_test lt_test is_zero exchanged flipped gcd run answer fits_range sum_overflows difference_overflows product_overflows
high = ap (optimal_at (minus 2) [] [] (multiple 0 (negate oneℚ) ∷ [])) (same ((first_of_program high_alone).cost) (plus 3) refl refl)

fixed_stays : answer 0 fixed ≡ optimal_at oneℚ [] [] (multiple 0 (negate oneℚ) ∷ []) (negate oneℚ)
unfolding first table ratio integer whole zeroℚ oneℚ ◌+ℚ◌ ◌*ℚ◌ ◌-ℚ◌ negate inverse numerator denominator le_test lt_test is_zero exchanged flipped gcd run answer fits_range sum_overflows difference_overflows product_overflows
fixed_stays = ap (optimal_at oneℚ [] [] (multiple 0 (negate oneℚ) ∷ [])) (same ((first_of_program fixed).cost) (negate oneℚ) refl refl)

pub examples : Examples
examples = record {
  small_move = small_move;
  small_end = small_end;
  least_leaves = least_leaves;
  three_moves = three_moves;
  three = three;
  three_at_one = three_at_one;
  three_at_none = three_at_none;
  three_again = three_again;
  contradicts = contradicts;
  free = free;
  falls = falls;
  high = high;
  fixed_stays = fixed_stays;
  crosses = crosses;
  crosses_row = crosses_row;
  flips = flips;
  far = far;
  far_at_none = far_at_none;
  long = long;
  long_choice = long_choice;
  long_at_none = long_at_none;
  long_first = long_first;
  long_second = long_second;
  large = large;
  six_moves = six_moves;
}
