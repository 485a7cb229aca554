-- Which plugins wait for their turn, where they are asked one at a time.
use Rattle.std.specs.Prelude.{◌≡◌, ◌⊎◌, ℕ, ◌<◌, ◌&&◌, List, [], length, Option, None, Some, Bool}
use Rattle.std.specs.List.{Contains, filter}
use Rattle.cip_plugin.specs.Asking.{asks}
use Rattle.cip_plugin.specs.Calls.{Ask}
use Rattle.cip_plugin.specs.declared.asking.Given.{Given}
use Rattle.cip_plugin.specs.declared.keys.Key.{Key}
use Rattle.cip_plugin.specs.Calling.{keys_from}
use Rattle.cip_plugin.specs.Seats.{Seat, State, is_on}
use Rattle.cip_plugin.specs.Steps.{Step, calls_of, asks_in}
use Rattle.cip_roster.specs.Nexts.{key_at, is_behind}
use Rattle.cip_calls.specs.Asked.{HasAskedSome, told_next}

-- a plugin is live and enabled, and of a kind that is asked so
abbrev pub is_asked : Ask → Seat → Bool
is_asked ask seat = is_on seat && asks seat.who.kind ask

-- the keys of those behind the one of a number, by priority and number; of all, where none is named
abbrev pub waiting : Ask → List Seat → Option ℕ → List Key
waiting ask seats named = filter (is_behind (key_at seats named)) (keys_from (is_asked ask) 0 seats)

-- the first of those that wait had its turn: those behind it wait still
pub record IsTurnOf (ask : Ask) (before after : List Seat) (named : Option ℕ) (steps : List Step) (id : ℕ) : Type 0
  where
    pub asked : Contains (asks_in (calls_of id steps)) ask
    pub others : (key : Key) → Contains (waiting ask before named) key
        → (key.id ≡ id) ⊎ Contains (waiting ask after (Some id)) key
    pub fewer : length (waiting ask after (Some id)) < length (waiting ask before named)

-- none waits; or one had its turn
abbrev pub IsNextTurn : Ask → List Seat → List Seat → Option ℕ → List Step → Option (ℕ × Option Given) → Type 0
IsNextTurn ask before after named steps None = waiting ask before named ≡ []
IsNextTurn ask before after named steps (Some (id, given)) = IsTurnOf ask before after named steps id

-- the next plugin was asked, if one waits, and what is given is what was handed out
pub record HasAskedNext (ask : Ask) (before after : State) (named : Option ℕ) (gave : Option (ℕ × Option Given))
    : Type 0 where
  pub some : HasAskedSome ask before after (told_next gave)
  pub next : IsNextTurn ask before.seats after.seats named some.steps gave
