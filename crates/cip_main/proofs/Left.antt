-- The figures of a right answer leave out nothing that the search found.
use Rattle.std.proofs.Common.{◌≡◌, ◌≢◌, inl, inr, ℕ, List, Option, None, Some, IfSome, refl, ap, subst}
use Rattle.std.specs.Prelude.{option_map}
use Rattle.cip_rational.specs.Rational.{ℚ}
use Rattle.cip_problem.specs.Program.{Program}
use Rattle.cip_problem.specs.Log.{Entry}
use Rattle.cip_search.specs.Searched.{IsLeast, IsOneOf, IsCovered}
use Rattle.cip_search.specs.SearchEnds as ends
use Rattle.cip_search.specs.SearchEnds.{Ended, Held, Answer, IsHeldPoint, EndHolds, IsSettled}
use Rattle.cip_search.specs.SearchAnswers.{IsSearchAnswer}
use Rattle.cip_search.specs.Figures.{Infeasible, Unbounded}
use Rattle.cip_search.specs.Headline.{cost_of_printed}
use Rattle.cip_search.specs.Printed.{status_of, printed_held, figures_of}
use Rattle.cip_search.proofs.TrueFigures.{none_before}
use Rattle.cip_solve.specs.Solved.{IsShownBeside, RayIsShown}
use Rattle.cip_main.specs.Work.{HasNoRay, HasNoBound, TellsWhatIsLeft}

is_unbounded : (rows : List (List ℕ)) (ended : Ended) (ray : List ℚ) → status_of rows ended ≡ Unbounded ray → ended ≡ ends.Unbounded ray
is_unbounded rows ends.Optimal ray e = absurd (cc)
is_unbounded rows ends.Infeasible ray e = absurd (cc)
is_unbounded rows (ends.Unbounded other) ray e = ap ends.Unbounded (same e)
  where
    same : Unbounded other ≡ Unbounded ray → other ≡ ray
    same e = cc
is_unbounded rows ends.NodeLimit ray e = absurd (cc)
is_unbounded rows ends.Gap ray e = absurd (cc)
is_unbounded rows (ends.Wide leaf shown) ray e = absurd (cc)
is_unbounded rows ends.NoMemory ray e = absurd (cc)

-- the costs held, as they are and as they are printed
costs_held : (program : Program) (held : Option Held) → IfSome held (IsHeldPoint program) → ends.cost_of_held held ≡ cost_of_printed program (option_map (printed_held program) held)
costs_held program None h = refl
costs_held program (Some held) h = ap Some h.cost

-- the points held, as they are and as they are printed
points_held : (program : Program) (held : Option Held) → option_map (λ h. h.point) held ≡ option_map (λ h. h.point) (option_map (printed_held program) held)
points_held program None = refl
points_held program (Some held) = refl

-- where no bound is the least of what is left, something that is left has none
none_least : (program : Program) (start : Option ℚ) (log : List Entry) (held : Option ℚ) → IsOneOf program start log held None → HasNoBound program start log
none_least program start log held (inl c) = absurd (no_cost c.cost c.is_bound)
  where
    no_cost : (cost : ℚ) → None ≡ Some cost → ⊥
    no_cost cost e = cc
none_least program start log held (inr left) = left

module _ (program : Program) (start : Option ℚ) (nodes : ℕ) (asked : Option ℚ) (log : List Entry) (answer : Answer) where
  settled : (ended : Ended) → ((ray : List ℚ) → ended ≢ ends.Unbounded ray) → EndHolds program start nodes asked log answer ended → IsSettled program start nodes asked log answer
  settled ends.Optimal n h = h
  settled ends.Infeasible n h = h
  settled (ends.Unbounded ray) n h = absurd (n ray refl)
  settled ends.NodeLimit n h = h
  settled ends.Gap n h = h
  settled (ends.Wide leaf shown) n h = h
  settled ends.NoMemory n h = h

pub left_of : (program : Program) (start : Option ℚ) (nodes : ℕ) (asked : Option ℚ) (log : List Entry) (marked : List ℕ) (answer : Answer) → IsSearchAnswer program start nodes asked log marked answer → RayIsShown program answer → TellsWhatIsLeft program start log (figures_of program answer)
left_of program start nodes asked log marked answer r s =
    let rows = program.row_names in
    let costs : ends.cost_of_held answer.held ≡ cost_of_printed program (option_map (printed_held program) answer.held) = costs_held program answer.held r.right.point in
    let at_end : HasNoRay (status_of rows answer.ended) → IsSettled program start nodes asked log answer = λ m. settled program start nodes asked log answer answer.ended (λ ray e. m ray (ap (status_of rows) e)) r.right.end_ in
    let is_least : status_of rows answer.ended ≢ Infeasible → HasNoRay (status_of rows answer.ended) → IsLeast program start log (ends.cost_of_held answer.held) answer.bound = λ n m. (at_end m).least (λ e. n (ap (status_of rows) e)) in
    record {
      cover = λ m. subst (IsCovered program start log) costs (at_end m).cover;
      least = λ n m. record {
        bound = answer.bound;
        is_printed = refl;
        is_least = subst (λ held. IsLeast program start log held answer.bound) costs (is_least n m);
      };
      no_bound = λ n m e. none_least program start log (ends.cost_of_held answer.held) (subst (IsOneOf program start log (ends.cost_of_held answer.held)) (none_before program answer.bound e) (is_least n m).one);
      empty = λ e. elim (r.searched e) [
        | inl m ↦ inl (ap (status_of rows) m)
        | inr i ↦ inr (ap (status_of rows) i)
      ];
      ray = λ ray e. r.ray ray (is_unbounded rows answer.ended ray e);
      shown = λ ray e. subst (λ point. IsShownBeside program point ray) (points_held program answer.held) (s ray (is_unbounded rows answer.ended ray e));
    }
