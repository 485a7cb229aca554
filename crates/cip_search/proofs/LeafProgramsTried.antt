-- The examples, computed.
use Rattle.std.proofs.Common.{◌≡◌, pos, negsuc, List, [], ◌∷◌, length, refl, ap, ◌∙◌, sym, arith}
use Rattle.cip_rational.specs.Gcd.{gcd}
use Rattle.cip_rational.specs.Range.{fits_range, sum_overflows, difference_overflows, product_overflows}
use Rattle.cip_rational.specs.Rational.{ℚ, ◌+ℚ◌, ◌-ℚ◌, ◌*ℚ◌, zeroℚ, oneℚ, negate, integer, ratio, whole, inverse, numerator, denominator, le_test, lt_test, is_zero}
use Rattle.cip_problem.specs.LinearProgram.{LinearProgram}
use Rattle.cip_bland.specs.Tables.{table}
use Rattle.cip_bland.specs.Dictionary.{Dictionary, value, cost_entry}
use Rattle.cip_bland.specs.Exchange.{exchanged, flipped}
use Rattle.cip_bland.specs.FirstState.{first}
use Rattle.cip_bland.specs.ProgramState.{first_of_program}
use Rattle.cip_bland.specs.declared.moves.Stand.TheVariants.{Low}
use Rattle.cip_bland.specs.declared.moves.Move.{Move}
use Rattle.cip_bland.specs.declared.moves.Move.TheVariants.{Exchange}
use Rattle.cip_bland.specs.MoveList.{run}
use Rattle.cip_bland.specs.EndAnswers.{Optimal, Unbounded, OutOfRange, answer}
use Rattle.cip_bland.specs.NoRepeat.{whole_answer}
use Rattle.cip_bland.proofs.Tried.{same}
use Rattle.cip_search.specs.LeafProgram.{program_of_leaf}
use Rattle.cip_search.specs.LeafProgramExamples.{on, at_least, kink, steep, endless, kink_at_one, by_row, Examples, free}

first_move : whole_answer (program_of_leaf steep []) ≡ OutOfRange (Exchange 1 0 Low ∷ [])
unfolding first table ratio integer whole zeroℚ oneℚ ◌+ℚ◌ ◌*ℚ◌ ◌-ℚ◌ negate inverse numerator denominator le_test lt_test is_zero exchanged flipped gcd run answer whole_answer fits_range sum_overflows difference_overflows product_overflows
first_move = refl

one_third : whole_answer (program_of_leaf kink (zeroℚ ∷ [])) ≡ Optimal (ratio (pos 1) 3 ∷ []) (by_row 0 (ratio (pos 1) 3)) (ratio (pos 1) 3)
unfolding first table ratio integer whole zeroℚ oneℚ ◌+ℚ◌ ◌*ℚ◌ ◌-ℚ◌ negate inverse numerator denominator le_test lt_test is_zero exchanged flipped gcd run answer whole_answer fits_range sum_overflows difference_overflows product_overflows
one_third =
    let d : Dictionary = (run 64 (first_of_program (program_of_leaf kink (zeroℚ ∷ [])))).last in
    let y : value d 0 ≡ ratio (pos 1) 3 = same (value d 0) (ratio (pos 1) 3) refl refl in
    let r : cost_entry d 1 ≡ ratio (pos 1) 3 = same (cost_entry d 1) (ratio (pos 1) 3) refl refl in
    let cost : d.cost ≡ ratio (pos 1) 3 = same d.cost (ratio (pos 1) 3) refl refl in
    λ i. Optimal (y i ∷ []) (by_row 0 (r i)) (cost i)

two_thirds : whole_answer (program_of_leaf kink (oneℚ ∷ [])) ≡ Optimal (ratio (pos 2) 3 ∷ []) (by_row 1 (ratio (pos 1) 3)) (ratio (pos 2) 3)
unfolding first table ratio integer whole zeroℚ oneℚ ◌+ℚ◌ ◌*ℚ◌ ◌-ℚ◌ negate inverse numerator denominator le_test lt_test is_zero exchanged flipped gcd run answer whole_answer fits_range sum_overflows difference_overflows product_overflows
two_thirds =
    let d : Dictionary = (run 64 (first_of_program (program_of_leaf kink (oneℚ ∷ [])))).last in
    let y : value d 0 ≡ ratio (pos 2) 3 = same (value d 0) (ratio (pos 2) 3) refl refl in
    let r : cost_entry d 2 ≡ ratio (pos 1) 3 = same (cost_entry d 2) (ratio (pos 1) 3) refl refl in
    let cost : d.cost ≡ ratio (pos 2) 3 = same d.cost (ratio (pos 2) 3) refl refl in
    λ i. Optimal (y i ∷ []) (by_row 1 (r i)) (cost i)

falls : whole_answer (program_of_leaf endless (zeroℚ ∷ [])) ≡ Unbounded (zeroℚ ∷ []) (oneℚ ∷ [])
unfolding first table ratio integer whole zeroℚ oneℚ ◌+ℚ◌ ◌*ℚ◌ ◌-ℚ◌ negate inverse numerator denominator le_test lt_test is_zero exchanged flipped gcd run answer whole_answer fits_range sum_overflows difference_overflows product_overflows
falls = refl

at_one : program_of_leaf kink (oneℚ ∷ []) ≡ kink_at_one
unfolding ratio integer whole zeroℚ oneℚ ◌+ℚ◌ ◌*ℚ◌ ◌-ℚ◌ negate le_test
at_one =
    let p : LinearProgram = program_of_leaf kink (oneℚ ∷ []) in
    let a : oneℚ -ℚ (integer (pos 3) *ℚ oneℚ +ℚ (integer (pos 3) *ℚ zeroℚ +ℚ zeroℚ)) ≡ integer (negsuc 1) = same (oneℚ -ℚ (integer (pos 3) *ℚ oneℚ +ℚ (integer (pos 3) *ℚ zeroℚ +ℚ zeroℚ))) (integer (negsuc 1)) refl refl in
    let b : integer (negsuc 0) -ℚ (integer (negsuc 2) *ℚ oneℚ +ℚ (integer (pos 3) *ℚ zeroℚ +ℚ zeroℚ)) ≡ integer (pos 2) = same (integer (negsuc 0) -ℚ (integer (negsuc 2) *ℚ oneℚ +ℚ (integer (pos 3) *ℚ zeroℚ +ℚ zeroℚ))) (integer (pos 2)) refl refl in
    λ i. record {
      rows = at_least (on 0 (integer (pos 3)) ∷ []) (a i) ∷ at_least (on 0 (integer (pos 3)) ∷ []) (b i) ∷ [];
      bounds = free ∷ [];
      costs = oneℚ ∷ [];
    }

same_moves : (moves : List Move) → OutOfRange (Exchange 1 0 Low ∷ []) ≡ OutOfRange moves → length moves ≡ 1
same_moves moves e = let f : Exchange 1 0 Low ∷ [] ≡ moves = cc in sym (ap length f)

pub examples : Examples
examples = record {
  at_one = at_one;
  least_at_zero = one_third;
  least_at_one = two_thirds;
  first_move = first_move;
  wide = record { moves = Exchange 1 0 Low ∷ []; is_answer = first_move; count = refl; some = omega arith };
  not_two = λ h. (let one : length h.moves ≡ 1 = same_moves h.moves (sym first_move ∙ h.is_answer) in omega (arith, one, h.count));
  falls = falls;
  kept = refl;
  together = refl;
  renumbered = refl;
  continuous = refl;
}
