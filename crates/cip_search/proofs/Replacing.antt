-- A row, the sides of a column or a cost are replaced.
use Rattle.std.proofs.Common.{◌≡◌, ℕ, zero, suc, true, List, [], ◌∷◌, Some, slice_get, refl, sym, subst}
use Rattle.std.specs.Prelude.{slice_set}
use Rattle.std.proofs.lemmas.Option.{same_Some}
use Rattle.cip_rational.specs.Rational.{ℚ}
use Rattle.cip_problem.specs.Program.{Sides, Row, Program}
use Rattle.cip_problem.specs.Activity.{value_at}
use Rattle.cip_problem.specs.Box.{Between, sides_at, sides_inside}
use Rattle.cip_problem.specs.Points.{IsSatisfied, IsFeasible, cost_of}
use Rattle.cip_problem.proofs.Choices.Meeting.{set_in_box}
use Rattle.cip_problem.specs.Reduced.{IsRelaxed}
use Rattle.cip_search.specs.NarrowedPrograms.{AllSatisfied, IsTightened, IsStep, IsExactStep, with_row, with_sides, with_cost}
use Rattle.cip_search.specs.Pairs.{HasNear}
use Rattle.cip_search.proofs.Inside.{all_self, set_inside}

-- where the new row's program is satisfied and the old row is, all old rows are
old_satisfied : (rows : List Row) (number : ℕ) (old new : Row) (point : List ℚ) → slice_get rows number ≡ Some old → AllSatisfied (slice_set rows number new) point → IsSatisfied old point → AllSatisfied rows point
old_satisfied [] number old new point e h k = tt
old_satisfied (r ∷ rs) zero old new point e h k = (subst (λ r. IsSatisfied r point) (sym (same_Some r old e)) k, h.1)
old_satisfied (r ∷ rs) (suc number) old new point e h k = (h.0, old_satisfied rs number old new point e h.1 k)

new_satisfied : (rows : List Row) (number : ℕ) (new : Row) (point : List ℚ) → AllSatisfied rows point → IsSatisfied new point → AllSatisfied (slice_set rows number new) point
new_satisfied [] number new point h k = tt
new_satisfied (r ∷ rs) zero new point h k = (k, h.1)
new_satisfied (r ∷ rs) (suc number) new point h k = (h.0, new_satisfied rs number new point h.1 k)

-- a row is replaced by one that says as much beside the others
pub row_replaced : (program : Program) (number : ℕ) (old new : Row) → slice_get program.rows number ≡ Some old → ((point : List ℚ) → IsRelaxed (with_row program number new) point → IsSatisfied old point) → ((point : List ℚ) → IsFeasible program point → IsSatisfied new point) → IsExactStep program (with_row program number new)
row_replaced program number old new e back onward = record {
  narrowed = record {
    integral = refl;
    choices = refl;
    inside = all_self program.bounds;
    rows = λ point h. old_satisfied program.rows number old new point e h.rows (back point h);
    cost = λ point h. refl;
  };
  keeps = λ point h. record {
    within = h.within;
    whole = h.whole;
    choices = h.choices;
    rows = new_satisfied program.rows number new point h.rows (onward point h);
  };
}

pub sides_narrowed : (program : Program) (column : ℕ) (sides : Sides) → sides_inside sides (sides_at program.bounds column) ≡ true → IsTightened program (with_sides program column sides)
sides_narrowed program column sides i = record {
  integral = refl;
  choices = refl;
  inside = set_inside program.bounds column sides i;
  rows = λ point h. h.rows;
  cost = λ point h. refl;
}

-- sides of a column are taken that hold at each feasible point
pub sides_replaced : (program : Program) (column : ℕ) (sides : Sides) → sides_inside sides (sides_at program.bounds column) ≡ true → ((point : List ℚ) → IsFeasible program point → Between sides.low sides.high (value_at point column)) → IsExactStep program (with_sides program column sides)
sides_replaced program column sides i f = record {
  narrowed = sides_narrowed program column sides i;
  keeps = λ point h. record {
    within = set_in_box program.bounds column sides point h.within (f point h);
    whole = h.whole;
    choices = h.choices;
    rows = h.rows;
  };
}

-- sides of a column are taken at which some feasible point near costs no more
pub sides_chosen : (program : Program) (column : ℕ) (sides : Sides) → sides_inside sides (sides_at program.bounds column) ≡ true → ((point : List ℚ) → IsFeasible program point → HasNear program (with_sides program column sides) (λ number. number) point) → IsStep program (with_sides program column sides)
sides_chosen program column sides i f = record { narrowed = sides_narrowed program column sides i; none_lost = f }

-- a cost is replaced by one that comes to the same wherever bounds and rows are kept
pub cost_replaced : (program : Program) (column : ℕ) (cost constant : ℚ) → ((point : List ℚ) → IsRelaxed program point → cost_of program point ≡ cost_of (with_cost program column cost constant) point) → IsExactStep program (with_cost program column cost constant)
cost_replaced program column cost constant f = record {
  narrowed = record {
    integral = refl;
    choices = refl;
    inside = all_self program.bounds;
    rows = λ point h. h.rows;
    cost = λ point h. f point (record { within = h.within; rows = h.rows });
  };
  keeps = λ point h. record { within = h.within; whole = h.whole; choices = h.choices; rows = h.rows };
}
