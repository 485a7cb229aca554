-- Wishes: when they are refused, what they change, and what they raise; and the delivery of events.
use Rattle.std.specs.Prelude.{◌≡◌, ℕ, ◌-◌, ◌^◌, ◌<◌, List, [], ◌∷◌, ◌++◌, length, Option, None, Some, Bool, true, false, ◌&&◌, if◌then◌else◌, slice_get}
use Rattle.cip_events.specs.declared.words.Word.TheVariants as say
use Rattle.cip_events.specs.declared.events.Event.{Event}
use Rattle.cip_events.specs.declared.events.EventKind.TheVariants.{PluginIncluded, PluginFreed}
use Rattle.cip_events.specs.Events.{event_at, wants}
use Rattle.cip_plugin.specs.Who.{Who}
use Rattle.cip_plugin.specs.Calls.{Ask, OnEvent, Call, Init, InitSolve, ExitSolve, Exit}
use Rattle.cip_plugin.specs.declared.kinds.Kind.TheVariants as kinds
use Rattle.cip_plugin.specs.declared.proposals.Wish.{Wish}
use Rattle.cip_plugin.specs.declared.proposals.Wish.TheVariants.{Include, Disable, Enable, Free, Priority}
use Rattle.cip_plugin.specs.declared.faults.WishFault.{WishFault}
use Rattle.cip_plugin.specs.declared.faults.WishFault.TheVariants.{NoSuchPlace, TakenPlace, NoSuchPlugin, Gone}
use Rattle.cip_plugin.specs.Seats.{Seat, State, is_live, is_on}
use Rattle.cip_plugin.specs.Steps.{Step, Calls, Notes, Turns, Ranks, Takes, Runs}
use Rattle.cip_plugin.specs.Calling.{same_kind, is_ready}

-- what is wrong with a place of the shelf
abbrev pub place_fault : Option (Option Who) → Option WishFault
place_fault None = Some NoSuchPlace
place_fault (Some None) = Some TakenPlace
place_fault (Some (Some who)) = None

-- what is wrong with a plugin's number
abbrev pub seat_fault : Option Seat → Option WishFault
seat_fault None = Some NoSuchPlugin
seat_fault (Some seat) = if is_live seat then None else Some Gone

-- what is wrong with a wish
abbrev pub fault_of : State → Wish → Option WishFault
fault_of state (Include place) = place_fault (slice_get state.places place)
fault_of state (Disable id) = seat_fault (slice_get state.seats id)
fault_of state (Enable id) = seat_fault (slice_get state.seats id)
fault_of state (Free id) = seat_fault (slice_get state.seats id)
fault_of state (Priority id priority) = seat_fault (slice_get state.seats id)

-- whether the plugin of a number is enabled
abbrev pub is_enabled : Option Seat → Bool
is_enabled None = false
is_enabled (Some seat) = seat.standing.on

-- a callback at a life's begin, and a note where it wanted memory
abbrev pub begun_with : ℕ → Call → Bool → List Step
begun_with id call answered = Calls id call ∷ (if answered then [] else Notes id say.NoMemory ∷ [])

-- a plugin is set up, and hears that the search is on
abbrev pub begins : ℕ → Bool → Bool → List Step
begins id first second = begun_with id (Init first) first ++ begun_with id (InitSolve second) second

-- a plugin hears that the search ends, and is closed
abbrev pub ends : ℕ → List Step
ends id = Calls id ExitSolve ∷ Calls id Exit ∷ []

-- the steps that grant a wish: one that asks for what is so already takes none
abbrev pub Grants : State → Wish → List Step → Type 0
Grants state (Include place) steps =
    (first : Bool) × (second : Bool) × (steps ≡ Takes place ∷ begins (length state.seats) first second)
Grants state (Disable id) steps =
    steps ≡ (if is_enabled (slice_get state.seats id) then Turns id false ∷ [] else [])
Grants state (Enable id) steps =
    steps ≡ (if is_enabled (slice_get state.seats id) then [] else Turns id true ∷ [])
Grants state (Free id) steps = steps ≡ ends id
Grants state (Priority id priority) steps = steps ≡ Ranks id priority ∷ []

-- the event that a granted wish raises
abbrev pub raised_by : ℕ → Wish → List Event
raised_by node (Include place) = event_at node PluginIncluded ∷ []
raised_by node (Free id) = event_at node PluginFreed ∷ []
raised_by node wish = []

-- a wish was granted
pub record Granted (wish : Wish) (before after : State) : Type 0 where
  pub steps : List Step
  pub run : Runs before steps after
  pub grants : Grants before wish steps

-- a plugin is live and enabled before and after, and wasn't disabled between
pub record IsOnThroughout (before after : Seat) : Type 0 where
  pub on_before : is_on before ≡ true
  pub on_after : is_on after ≡ true
  pub offs : after.offs ≡ before.offs
  pub counted : before.offs < 2 ^ 64 - 1

-- a live and enabled event handler that wants events of a kind
abbrev pub hears : Event → Seat → Bool
hears event seat = same_kind kinds.EventHandler seat.who.kind && wants seat.interest event.kind

-- what a plugin is to be told of these events
abbrev pub to_each : Seat → List Event → List Ask
to_each seat [] = []
to_each seat (event ∷ events) = if hears event seat then OnEvent event ∷ to_each seat events else to_each seat events

-- a live and enabled event handler that wants an event
abbrev pub is_to_hear : Event → Seat → Bool
is_to_hear event seat = is_ready kinds.EventHandler seat && hears event seat

-- the events that some steps raise: one for each inclusion and one for each free, in their order
abbrev pub raised_in : ℕ → List Step → List Event
raised_in node [] = []
raised_in node (Takes place ∷ steps) = event_at node PluginIncluded ∷ raised_in node steps
raised_in node (Calls id Exit ∷ steps) = event_at node PluginFreed ∷ raised_in node steps
raised_in node (step ∷ steps) = raised_in node steps
