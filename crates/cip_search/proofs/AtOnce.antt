-- Where no point is feasible, that is a right answer without a search.
use Rattle.std.proofs.Common.{inr, ℕ, List, [], Option, None, Some, IfSome, refl, arith}
use Rattle.cip_rational.specs.Rational.{ℚ}
use Rattle.cip_problem.specs.Program.{Program, Sides}
use Rattle.cip_problem.specs.Points.{IsFeasible}
use Rattle.cip_problem.specs.Improving.{IsBoundIn}
use Rattle.cip_problem.proofs.Covers.{none_of_nothing}
use Rattle.cip_search.specs.Searched.{IsCovered}
use Rattle.cip_search.specs.SearchEnds.{Infeasible, ReachesGap, IsSettled}
use Rattle.cip_search.specs.SearchAnswers.{EndsAtOnce}

module _ (program : Program) (none : (point : List ℚ) → ¬ IsFeasible program point) (start : Option ℚ) where
  -- each bound holds
  any_bound : (bound : Option ℚ) (box : List Sides) → IfSome bound (IsBoundIn program None box)
  any_bound None box = tt
  any_bound (Some b) box = λ point i w. absurd (none point i.feasible)

  cover : IsCovered program start [] None
  cover = record {
    reached = λ point i. absurd (none point i.feasible);
    open_bounds = λ node l. any_bound node.bound node.box;
    parked_bounds = λ entry node l. any_bound entry.bound node.box;
  }

  settled : (nodes : ℕ) (asked : Option ℚ) → IsSettled program start nodes asked [] (record { ended = Infeasible; held = None; bound = None })
  settled nodes asked = record {
    least = λ n. absurd (n refl);
    no_bound = λ e. refl;
    bound = tt;
    infeasible = λ e. none;
    agree = λ e. absurd (cc);
    wide = λ leaf shown e. absurd (cc);
    ends = (inr refl, refl);
    gap = λ n. (λ e. absurd (cc), λ r. absurd (not_reached asked r));
    cover = cover;
    entries = λ entry node c. absurd (none_of_nothing entry c);
  }
    where
      not_reached : (asked : Option ℚ) → ¬ ReachesGap asked None None
      not_reached None r = r
      not_reached (Some gap) r = r

pub ends_at_once : EndsAtOnce
ends_at_once program start nodes asked none = record {
  right = record { point = tt; end_ = settled program none start nodes asked; logged = tt };
  within = omega arith;
  bound = λ t. absurd t;
  searched = λ e. inr refl;
  long = λ ray e. absurd (cc);
  ray = λ ray e. absurd (cc);
  work = λ entry node c. absurd (none_of_nothing entry c);
  marks = tt;
}
