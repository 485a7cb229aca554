-- How often plugins are asked while nodes are worked on: at least once for each node that is split.
use Rattle.std.specs.Prelude.{◌≡◌, ◌≤◌, ◌||◌, ℕ, List, length, sum_by, Some, Bool, true, slice_get}
use Rattle.cip_problem.specs.Log.{End, Split, Closed, Parked, Entry}
use Rattle.cip_plugin.specs.Asking.{asks}
use Rattle.cip_plugin.specs.Calls.{Separate, Propagate, Search}
use Rattle.cip_plugin.specs.declared.kinds.Kind.{Kind}
use Rattle.cip_plugin.specs.Seats.{Seat, State}
use Rattle.cip_plugin.specs.Steps.{Step, Runs, calls_of, asks_in}
use Rattle.cip_plugin.specs.Wishing.{IsOnThroughout}
use Rattle.cip_solve.specs.NodeEnd.{NodeEnd}
use Rattle.cip_solve.specs.NodeEnd.TheVariants as by

-- 1 where an entry's end is a split, else 0
abbrev pub split_count : End → ℕ
split_count (Split column at low high) = 1
split_count Closed = 0
split_count Parked = 0

-- how many entries of a log are splits
abbrev pub splits_in : List Entry → ℕ
splits_in log = sum_by (λ entry. split_count entry.end) log

-- 1 where a node ended by a split, else 0
abbrev pub splits_by : NodeEnd → ℕ
splits_by (by.Split low high) = 1
splits_by by.Pruned = 0
splits_by by.Empty = 0
splits_by by.Solved = 0
splits_by (by.Parked leaf on bound shown) = 0
splits_by (by.Ray point ray) = 0

-- plugins of a kind are asked for sides, for rows or for points
abbrev pub is_worker : Kind → Bool
is_worker kind = asks kind Propagate || (asks kind Separate || asks kind Search)

-- some steps were taken; of each plugin that was on throughout and is of a kind that is asked for sides, rows or
-- points, they have at least so many calls that ask it
pub record HasServed (splits : ℕ) (before after : State) : Type 0 where
  pub steps : List Step
  pub run : Runs before steps after
  pub each : (id : ℕ) (seat later : Seat) → slice_get before.seats id ≡ Some seat
      → slice_get after.seats id ≡ Some later → IsOnThroughout seat later → is_worker seat.who.kind ≡ true
      → splits ≤ length (asks_in (calls_of id steps))
