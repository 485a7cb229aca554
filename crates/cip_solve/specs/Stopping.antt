-- What a search hands over: the least bound before memory was refused, and the point held.
use Rattle.std.specs.Prelude.{◌≡◌, List, [], Option, None, Some}
use Rattle.cip_rational.specs.Rational.{ℚ}
use Rattle.cip_problem.specs.Program.{Program}
use Rattle.cip_problem.specs.Log.{Entry}
use Rattle.cip_problem.specs.Improving.{IsNoDearer}
use Rattle.cip_search.specs.WideLeaf.{IsWideLeaf}
use Rattle.cip_incumbent.specs.HeldPoint.{HeldPoint}
use Rattle.cip_search.specs.SearchState.{State, WayBack, all_nodes, IsSearch, IsAsGiven}
use Rattle.cip_search.specs.Endings.{IsLeastBound}
use Rattle.cip_endings.specs.Held.{Held}

-- the search stood so before, with this log and a cost held that was no less, and this was the least bound
pub record WasLeast
    (program reduced : Program) (way : WayBack) (start : Option ℚ) (log : List Entry) (held bound : Option ℚ)
    : Type 0 where
  pub before : State
  pub searched : IsSearch program reduced way IsWideLeaf start before
  pub as_given : IsAsGiven reduced start before
  pub idle : before.work ≡ []
  pub logged : before.log ≡ log
  pub no_dearer : IsNoDearer held before.held
  pub least : IsLeastBound before.held (all_nodes before) bound

-- the point handed over is the one held
abbrev pub BestIs : Option HeldPoint → Option Held → Type 0
BestIs best None = best ≡ None
BestIs best (Some held) = best ≡ Some (record { cost = held.cost; point = held.point.items })
