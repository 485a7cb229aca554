-- How events are delivered: who is told of them, in which order, and what comes of the wishes.
use Rattle.std.specs.Prelude.{◌≡◌, ℕ, List, [], ◌∷◌, ◌++◌, Option, None, Some, Bool, true, false, ◌⊎◌, slice_get}
use Rattle.std.specs.List.Sorted.{IsPermutation, IsSorted}
use Rattle.cip_events.specs.declared.words.Word.{Word}
use Rattle.cip_events.specs.declared.words.Word.TheVariants as say
use Rattle.cip_events.specs.declared.events.Event.{Event}
use Rattle.cip_plugin.specs.Calls.{Answer, Wishes, OnEvent}
use Rattle.cip_plugin.specs.Asking.{first_part}
use Rattle.cip_plugin.specs.declared.kinds.Kind.TheVariants.{EventHandler}
use Rattle.cip_plugin.specs.declared.proposals.Wish.{Wish}
use Rattle.cip_plugin.specs.declared.faults.WishFault.{WishFault}
use Rattle.cip_plugin.specs.declared.keys.Key.{Key}
use Rattle.cip_plugin.specs.Seats.{Seat, State}
use Rattle.cip_plugin.specs.Steps.{Step, Notes, Runs, calls_of, asks_in}
use Rattle.cip_plugin.specs.Calling.{ids_of, is_ready, keys_from, turn_of}
use Rattle.cip_plugin.specs.FaultNames.{name_of}
use Rattle.cip_plugin.specs.Ranks.{rank_order}
use Rattle.cip_plugin.specs.Wishing.{Grants, IsOnThroughout, fault_of, is_to_hear, raised_in, to_each}

-- one after the other, each by its own steps
abbrev pub InTurn : {X : Type 0} → (X → State → List Step → State → Type 0) → List X → State → List Step → State
    → Type 0
InTurn Does [] before steps after = (steps ≡ []) × (after ≡ before)
InTurn Does (x ∷ xs) before steps after = (between : State) × (first : List Step) × (rest : List Step)
    × (steps ≡ first ++ rest) × Does x before first between × InTurn Does xs between rest after

-- the wishes of an answer
abbrev pub wishes_in : Answer → List Wish
wishes_in (Wishes xs) = xs
wishes_in other = []

-- a word says that a wish was refused, by the name of its fault
abbrev pub Names : WishFault → Word → Type 0
Names fault (say.Refused text) = text.now ≡ name_of fault
Names fault word = ⊥

-- a wish was granted, and nothing was wrong with it
pub record IsGranted (wish : Wish) (before : State) (steps : List Step) (after : State) : Type 0 where
  pub fine : fault_of before wish ≡ None
  pub grants : Grants before wish steps
  pub run : Runs before steps after

-- a wish was refused: nothing was done but to write its fault's name of the plugin whose wish it was
pub record IsRefused (id : ℕ) (wish : Wish) (before : State) (steps : List Step) (after : State) : Type 0 where
  pub fault : WishFault
  pub cause : fault_of before wish ≡ Some fault
  pub word : Word
  pub names : Names fault word
  pub writes : steps ≡ Notes id word ∷ []
  pub run : Runs before steps after

-- a wish of a plugin was tried
abbrev pub IsTried : ℕ → Wish → State → List Step → State → Type 0
IsTried id wish before steps after = IsGranted wish before steps after ⊎ IsRefused id wish before steps after

-- whether the plugin of a number is to hear an event
abbrev pub hears_there : Event → Option Seat → Bool
hears_there event None = false
hears_there event (Some seat) = is_to_hear event seat

-- a plugin that is to hear an event has its turn, and then its first 64 wishes are tried, in their order
pub record Heeds (event : Event) (id : ℕ) (before : State) (steps : List Step) (after : State) : Type 0 where
  pub hears : hears_there event (slice_get before.seats id) ≡ true
  pub answer : Answer
  pub between : State
  pub turn : Runs before (turn_of id (OnEvent event) answer) between
  pub tries : List Step
  pub tried : InTurn (IsTried id) (wishes_in (first_part answer)) between tries after
  pub both : steps ≡ turn_of id (OnEvent event) answer ++ tries

-- a plugin that isn't to hear an event as its turn comes is passed over
pub record IsPassed (event : Event) (id : ℕ) (before : State) (steps : List Step) (after : State) : Type 0 where
  pub deaf : hears_there event (slice_get before.seats id) ≡ false
  pub none : steps ≡ []
  pub same : after ≡ before

-- an event came to a plugin
abbrev pub ComesTo : Event → ℕ → State → List Step → State → Type 0
ComesTo event id before steps after = Heeds event id before steps after ⊎ IsPassed event id before steps after

-- an event came to all event handlers that were live and enabled as it was taken, by falling priority and rising number
pub record ComesToAll (event : Event) (before : State) (steps : List Step) (after : State) : Type 0 where
  pub keys : List Key
  pub permutation : IsPermutation (keys_from (is_ready EventHandler) 0 before.seats) keys
  pub sorted : IsSorted rank_order keys
  pub comes : InTurn (ComesTo event) (ids_of keys) before steps after

-- all events came to all at a node, those that waited in their order and then those that were raised meanwhile; so each
-- handler that is on throughout was told exactly those of them that it wants
pub record Delivered (node : ℕ) (events : List Event) (before after : State) : Type 0 where
  pub steps : List Step
  pub run : Runs before steps after
  pub comes : InTurn ComesToAll (events ++ raised_in node steps) before steps after
  pub each : (id : ℕ) (seat later : Seat) → slice_get before.seats id ≡ Some seat
      → slice_get after.seats id ≡ Some later → IsOnThroughout seat later
      → asks_in (calls_of id steps) ≡ to_each seat (events ++ raised_in node steps)
