-- What plugins were asked for while a node was worked on, and how many of the proposals that they handed out were
-- judged.
use Rattle.std.specs.Prelude.{◌≡◌, ℕ, ◌+◌, ◌==◌, List, [], ◌∷◌, length, count_by, All, Some, Bool, true, slice_get}
use Rattle.std.specs.List.{Contains}
use Rattle.cip_plugin.specs.Asking.{asks, first_part}
use Rattle.cip_plugin.specs.Calls.{Ask, Separate, Propagate, Price, Search, Branch, Enforce, OnEvent, Answer, Cuts, Reductions, Guesses, Splits, Says, Call, Asked}
use Rattle.cip_plugin.specs.Seats.{Seat, State}
use Rattle.cip_plugin.specs.Steps.{Step, Runs, calls_of, asks_in}
use Rattle.cip_plugin.specs.Wishing.{IsOnThroughout, hears}
use Rattle.cip_calls.specs.declared.judged.Judged.{Judged}

-- ---- proposals

-- how many proposals are handed out in answer to a question that are judged: neither what a pricer brings nor wishes
-- are
abbrev pub count_for : Ask → Answer → ℕ
count_for Separate (Cuts xs) = length xs
count_for Propagate (Reductions xs) = length xs
count_for Search (Guesses xs) = length xs
count_for Branch (Splits (Some split)) = 1
count_for Enforce (Says said) = 1
count_for ask other = 0

-- how many a plugin handed out in some calls: of each answer the first 64
abbrev pub handed_out : List Call → ℕ
handed_out [] = 0
handed_out (Asked ask answer ∷ calls) = count_for ask (first_part answer) + handed_out calls
handed_out (call ∷ calls) = handed_out calls

-- how many of a plugin's proposals were judged
abbrev pub judged_of : ℕ → List (ℕ × Judged) → ℕ
judged_of id judged = count_by (λ entry. entry.0 == id) judged

-- ---- plugins that are on throughout

-- a plugin is asked so: an event handler where it wants the event
abbrev pub is_wanted : Ask → Seat → Bool
is_wanted (OnEvent event) seat = hears event seat
is_wanted Separate seat = asks seat.who.kind Separate
is_wanted Propagate seat = asks seat.who.kind Propagate
is_wanted (Price block costs) seat = asks seat.who.kind (Price block costs)
is_wanted Search seat = asks seat.who.kind Search
is_wanted Branch seat = asks seat.who.kind Branch
is_wanted Enforce seat = asks seat.who.kind Enforce

-- these calls ask a plugin each of some questions that it is asked at all, and as many of its proposals were judged
-- meanwhile as it handed out
pub record IsServed (asks : List Ask) (seat : Seat) (calls : List Call) (had has : ℕ) : Type 0 where
  pub asked : All (λ ask. is_wanted ask seat ≡ true → Contains (asks_in calls) ask) asks
  pub judged : has ≡ had + handed_out calls

-- so it is for each plugin that is on throughout, from one list of what was judged to the next
pub record Used (asks : List Ask) (before : State) (had : List (ℕ × Judged)) (after : State) (has : List (ℕ × Judged))
    : Type 0 where
  pub steps : List Step
  pub run : Runs before steps after
  pub each : (id : ℕ) (seat later : Seat) → slice_get before.seats id ≡ Some seat
      → slice_get after.seats id ≡ Some later → IsOnThroughout seat later
      → IsServed asks seat (calls_of id steps) (judged_of id had) (judged_of id has)
