-- What comes of a wish, and of an event that is told.
use Rattle.std.specs.Prelude.{◌≡◌, ◌≢◌, ◌==◌, ◌&&◌, ℕ, List, [], ◌∷◌, ◌++◌, None, Some, ◌⊎◌, slice_get, if◌then◌else◌}
use Rattle.cip_events.specs.declared.events.Event.{Event}
use Rattle.cip_events.specs.declared.words.Word.{Word}
use Rattle.cip_plugin.specs.Calls.{OnEvent}
use Rattle.cip_plugin.specs.declared.proposals.Wish.{Wish}
use Rattle.cip_plugin.specs.declared.faults.WishFault.{WishFault}
use Rattle.cip_plugin.specs.declared.faults.WishFault.TheVariants.{NoMemory}
use Rattle.cip_plugin.specs.Seats.{Seat, State}
use Rattle.cip_plugin.specs.Steps.{Step, Notes, Runs, calls_of, asks_in}
use Rattle.cip_plugin.specs.Wishing.{Granted, IsOnThroughout, fault_of, hears, raised_in}
use Rattle.cip_plugin.specs.Delivering.{ComesTo, ComesToAll, InTurn, IsTried, Names}

-- a wish was granted, and nothing was wrong with it
pub record WasGranted (wish : Wish) (before after : State) : Type 0 where
  pub granted : Granted wish before after
  pub fine : fault_of before wish ≡ None

-- nothing changed, as something was wrong with the wish, or memory was refused
pub record WasRefused (wish : Wish) (fault : WishFault) (before after : State) : Type 0 where
  pub cause : (fault ≡ NoMemory) ⊎ (fault_of before wish ≡ Some fault)
  pub same : after ≡ before

-- the name of a fault, which isn't want of memory, was written of a plugin, and nothing else was done
pub record IsNoted (id : ℕ) (fault : WishFault) (before after : State) : Type 0 where
  pub other : fault ≢ NoMemory
  pub word : Word
  pub names : Names fault word
  pub run : Runs before (Notes id word ∷ []) after

-- these wishes of a plugin were tried, in their order, which asked nobody, and what it raised stands behind what waited
pub record TookQuietly (id node : ℕ) (wishes : List Wish) (before after : State) (waited waits : List Event)
    : Type 0 where
  pub steps : List Step
  pub run : Runs before steps after
  pub tried : InTurn (IsTried id) wishes before steps after
  pub quiet : (k : ℕ) → asks_in (calls_of k steps) ≡ []
  pub raised : waits ≡ waited ++ raised_in node steps

-- an event came to all handlers, so that each that wants it and is on throughout was told it, and what was raised
-- stands behind what waited
pub record WasTold (node : ℕ) (event : Event) (before after : State) (waited waits : List Event) : Type 0 where
  pub steps : List Step
  pub run : Runs before steps after
  pub comes : ComesToAll event before steps after
  pub each : (id : ℕ) (seat later : Seat) → slice_get before.seats id ≡ Some seat
      → slice_get after.seats id ≡ Some later → IsOnThroughout seat later
      → asks_in (calls_of id steps) ≡ (if hears event seat then OnEvent event ∷ [] else [])
  pub raised : waits ≡ waited ++ raised_in node steps

-- some steps were taken
pub record Ran (before after : State) : Type 0 where
  pub steps : List Step
  pub run : Runs before steps after

-- an event came to one plugin, so that it was told it, if it wants it and is on throughout, and nobody else was
pub record WasToldOne (node : ℕ) (event : Event) (named : ℕ) (before after : State) (waited waits : List Event)
    : Type 0 where
  pub steps : List Step
  pub run : Runs before steps after
  pub comes : ComesTo event named before steps after
  pub each : (id : ℕ) (seat later : Seat) → slice_get before.seats id ≡ Some seat
      → slice_get after.seats id ≡ Some later → IsOnThroughout seat later
      → asks_in (calls_of id steps) ≡ (if (named == id) && hears event seat then OnEvent event ∷ [] else [])
  pub raised : waits ≡ waited ++ raised_in node steps
