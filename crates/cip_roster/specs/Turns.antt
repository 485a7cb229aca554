-- Room for lines, and what comes of a plugin's turn.
use Rattle.std.specs.Prelude.{◌≡◌, ℕ, ◌+◌, ◌*◌, ◌<◌, ◌≤◌, ◌^◌, List, [], ◌∷◌, length, map, take, drop, Option, None, Some, true, All, slice_get, if◌then◌else◌}
use Rattle.std.specs.List.Sorted.{IsPermutation, IsSorted}
use Rattle.cip_plugin.specs.Calls.{Ask, Answer, NoAnswer}
use Rattle.cip_plugin.specs.Asking.{asks, first_part, answer_of}
use Rattle.cip_plugin.specs.declared.asking.Given.{Given}
use Rattle.cip_plugin.specs.declared.kinds.Kind.{Kind}
use Rattle.cip_plugin.specs.declared.kinds.Kind.TheVariants as kinds
use Rattle.cip_plugin.specs.declared.keys.Key.{Key}
use Rattle.cip_plugin.specs.declared.stages.Stage.{Stage}
use Rattle.cip_plugin.specs.Seats.{Seat, State, is_live, is_on, is_settled, live_count, held_count}
use Rattle.cip_plugin.specs.Steps.{Runs}
use Rattle.cip_plugin.specs.Calling.{Called, is_ready, ids_of, keys_from, turn_of, is_answer}
use Rattle.cip_plugin.specs.Ranks.{rank_order}
use Rattle.cip_roster.specs.KeptRankings.{AreRanked, Room}

-- each plugin may be asked or was closed, numbers are enough for all plugins, there is room for the two last lines of
-- each live one, and each ranking that is kept is that of the seats as they are
pub record IsSound (state : State) (room : Room) : Type 0 where
  pub settled : All (λ seat. is_settled seat ≡ true) state.seats
  pub numbers : length state.seats + held_count state.places < 2 ^ 32
  pub lasts : 2 * live_count state.seats ≤ room.lines
  pub ranked : AreRanked state.seats room.rankings

-- a plugin has this seat, and its life has come to this stage
pub record StandsAt (stage : Stage) (state : State) (id : ℕ) : Type 0 where
  pub seat : Seat
  pub at : slice_get state.seats id ≡ Some seat
  pub stands : seat.standing.stage ≡ stage

-- a plugin may be asked so now
pub record CanBeAsked (state : State) (ask : Ask) (id : ℕ) : Type 0 where
  pub seat : Seat
  pub at : slice_get state.seats id ≡ Some seat
  pub on : is_on seat ≡ true
  pub fits : asks seat.who.kind ask ≡ true

-- what is put behind a list of what was given
abbrev pub entries : ℕ → Option Given → List (ℕ × Given)
entries id None = []
entries id (Some given) = (id, given) ∷ []

-- what was put behind a list, each as it is told
abbrev pub handed : List (ℕ × Given) → List (ℕ × Given) → List (ℕ × Answer)
handed before after = map (λ entry. (entry.0, answer_of entry.1)) (drop (length before) after)

-- all live and enabled plugins of a kind were asked, by falling priority and rising number; what they gave stands
-- behind what was there
pub record CalledKind (kind : Kind) (ask : Ask) (before after : State) (had has : List (ℕ × Given)) : Type 0 where
  pub keys : List Key
  pub permutation : IsPermutation (keys_from (is_ready kind) 0 before.seats) keys
  pub sorted : IsSorted rank_order keys
  pub kept : take (length had) has ≡ had
  pub called : Called (ids_of keys) ask before after (handed had has)

-- those of a kind, and then the handlers
pub record CalledBoth (kind : Kind) (ask : Ask) (before after : State) (has : List (ℕ × Given)) : Type 0 where
  pub between : State
  pub some : List (ℕ × Given)
  pub first : CalledKind kind ask before between [] some
  pub second : CalledKind kinds.ConsHandler ask between after some has

-- what is handed on of an answer: its first 64 proposals, if memory was there
abbrev pub HandsOn : Answer → Option Given → Type 0
HandsOn answer None = answer ≡ NoAnswer
HandsOn answer (Some given) = (is_answer answer ≡ true) × (answer_of given ≡ first_part answer)

-- a plugin had its turn
pub record HadTurn (id : ℕ) (ask : Ask) (before after : State) (given : Option Given) : Type 0 where
  pub answer : Answer
  pub run : Runs before (turn_of id ask answer) after
  pub hands_on : HandsOn answer given

-- a plugin that wasn't closed has this seat
pub record IsLiveAt (state : State) (id : ℕ) : Type 0 where
  pub seat : Seat
  pub at : slice_get state.seats id ≡ Some seat
  pub lives : is_live seat ≡ true

-- the key of a live and enabled plugin of a kind
abbrev pub ready_key : Kind → ℕ → Option Seat → Option Key
ready_key kind id None = None
ready_key kind id (Some seat) =
    if is_ready kind seat then Some (record { rank = record { 0 = seat.priority }; id = id }) else None
