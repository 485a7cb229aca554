-- What comes of asking plugins.
use Rattle.std.specs.Prelude.{◌≡◌, ℕ, ◌==◌, List, [], ◌∷◌, ◌++◌, map, count_by, replicate, All, Option, None, Some, IsSome, slice_get, if◌then◌else◌}
use Rattle.cip_events.specs.declared.events.Event.{Event}
use Rattle.cip_plugin.specs.Asking.{asks, answer_of}
use Rattle.cip_plugin.specs.Calls.{Ask, Separate, Propagate, Search, Branch, Enforce, Answer}
use Rattle.cip_plugin.specs.declared.asking.Given.{Given}
use Rattle.cip_plugin.specs.Seats.{Seat, State}
use Rattle.cip_plugin.specs.Steps.{Step, Runs, calls_of, asks_in}
use Rattle.cip_plugin.specs.Wishing.{IsOnThroughout, to_each}
use Rattle.cip_calls.specs.Served.{count_for, handed_out}
use Rattle.cip_calls.specs.declared.asks.Round.{Round}
use Rattle.cip_calls.specs.declared.asks.Round.TheVariants as round
use Rattle.cip_calls.specs.declared.asks.Turn.{Turn}
use Rattle.cip_calls.specs.declared.asks.Turn.TheVariants as turn

-- the questions
abbrev pub ask_in : Round → Ask
ask_in round.Cuts = Separate
ask_in round.Sides = Propagate
ask_in round.Points = Search

abbrev pub ask_at : Turn → Ask
ask_at turn.Split = Branch
ask_at turn.Verdict = Enforce

-- what was given, by the numbers of who gave it, as it is told
abbrev pub told : List (ℕ × Given) → List (ℕ × Answer)
told gave = map (λ entry. (entry.0, answer_of entry.1)) gave

-- what the next plugin gave, if there is one and it answered
abbrev pub told_next : Option (ℕ × Option Given) → List (ℕ × Answer)
told_next None = []
told_next (Some (id, None)) = []
told_next (Some (id, Some given)) = (id, answer_of given) ∷ []

-- who made the proposals among them that are judged, one number for each
abbrev pub proposers : Ask → List (ℕ × Answer) → List ℕ
proposers ask [] = []
proposers ask (gave ∷ others) = replicate (count_for ask gave.1) gave.0 ++ proposers ask others

-- how often a number stands in a list
abbrev pub count_of : ℕ → List ℕ → ℕ
count_of id ids = count_by (λ k. k == id) ids

-- some plugins were asked, and what is given is what was handed out
pub record HasAskedSome (ask : Ask) (before after : State) (gave : List (ℕ × Answer)) : Type 0 where
  pub steps : List Step
  pub run : Runs before steps after
  pub handed : (id : ℕ) → handed_out (calls_of id steps) ≡ count_of id (proposers ask gave)

-- so it is, and each plugin that is on throughout and is asked at all was asked once
pub record HasAsked (ask : Ask) (before after : State) (gave : List (ℕ × Answer)) : Type 0 where
  pub some : HasAskedSome ask before after gave
  pub each : (id : ℕ) (seat later : Seat) → slice_get before.seats id ≡ Some seat
      → slice_get after.seats id ≡ Some later → IsOnThroughout seat later
      → asks_in (calls_of id some.steps) ≡ (if asks seat.who.kind ask then ask ∷ [] else [])

-- who gave something has a seat
abbrev pub AreSeated : State → List (ℕ × Given) → Type 0
AreSeated state gave = All (λ entry. IsSome (slice_get state.seats entry.0)) gave

abbrev pub IsSeatedNext : State → Option (ℕ × Option Given) → Type 0
IsSeatedNext state None = Unit {0}
IsSeatedNext state (Some (id, given)) = IsSome (slice_get state.seats id)

-- events were told: each plugin that is on throughout heard those of them that it wants, and then others
pub record HasTold (events : List Event) (before after : State) : Type 0 where
  pub steps : List Step
  pub run : Runs before steps after
  pub each : (id : ℕ) (seat later : Seat) → slice_get before.seats id ≡ Some seat
      → slice_get after.seats id ≡ Some later → IsOnThroughout seat later
      → (others : List Event) × (asks_in (calls_of id steps) ≡ to_each seat (events ++ others))
