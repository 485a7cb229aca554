use Rattle.cip_problem.proofs.Implied.{bound_valid, whole_bound, empty_valid, sides_valid, whole_sides, narrowed}
use Rattle.cip_problem.proofs.cuts.valid_rows_imply.Goals as goal

pub returns : goal.returns
returns c = record {
  bound = bound_valid;
  whole_bound = whole_bound;
  empty = empty_valid;
  sides = sides_valid;
  whole_sides = whole_sides;
  narrowed = narrowed;
}
