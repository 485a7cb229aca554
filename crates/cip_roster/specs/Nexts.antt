-- Who is called behind a plugin, one at a time.
use Rattle.std.specs.Prelude.{◌≡◌, ℕ, List, Option, None, Some, Bool, true, slice_get}
use Rattle.std.specs.List.{find}
use Rattle.std.specs.List.Sorted.{IsPermutation, IsSorted}
use Rattle.std.specs.Ordering.{is_lt}
use Rattle.cip_plugin.specs.Calls.{Ask}
use Rattle.cip_plugin.specs.declared.asking.Given.{Given}
use Rattle.cip_plugin.specs.declared.kinds.Kind.{Kind}
use Rattle.cip_plugin.specs.declared.keys.Key.{Key}
use Rattle.cip_plugin.specs.Seats.{Seat, State}
use Rattle.cip_plugin.specs.Calling.{is_ready, keys_from}
use Rattle.cip_plugin.specs.Ranks.{rank_order}
use Rattle.cip_roster.specs.Turns.{HadTurn}

-- the key of the plugin of a number, as its priority is now
abbrev pub key_of : ℕ → Option Seat → Option Key
key_of id None = None
key_of id (Some seat) = Some (record { rank = record { 0 = seat.priority }; id = id })

-- that of a plugin, if one is named
abbrev pub key_at : List Seat → Option ℕ → Option Key
key_at seats None = None
key_at seats (Some id) = key_of id (slice_get seats id)

-- a key comes behind another one; each does where no other is named
abbrev pub is_behind : Option Key → Key → Bool
is_behind None key = true
is_behind (Some after) key = is_lt (rank_order after key)

-- the first of the live and enabled plugins of a kind behind another one, by falling priority and rising number; none
-- exactly where none of them is behind it
pub record IsNext (kind : Kind) (seats : List Seat) (after : Option ℕ) (found : Option Key) : Type 0 where
  pub keys : List Key
  pub permutation : IsPermutation (keys_from (is_ready kind) 0 seats) keys
  pub sorted : IsSorted rank_order keys
  pub first : found ≡ find (is_behind (key_at seats after)) keys

-- the plugin of a key had its turn, and nobody else; where there is none, nothing changed
abbrev pub AskedNext : Option Key → Ask → State → State → Option (ℕ × Option Given) → Type 0
AskedNext None ask before after gave = (after ≡ before) × (gave ≡ None)
AskedNext (Some key) ask before after gave =
    (given : Option Given) × (gave ≡ Some (key.id, given)) × HadTurn key.id ask before after given

-- the next plugin of a kind was called, if there was one, and nobody else
pub record CalledNext (kind : Kind) (ask : Ask) (named : Option ℕ) (before after : State)
    (gave : Option (ℕ × Option Given)) : Type 0 where
  pub found : Option Key
  pub next : IsNext kind before.seats named found
  pub asked : AskedNext found ask before after gave
