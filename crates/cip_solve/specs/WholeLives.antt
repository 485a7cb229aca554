-- The lives of the plugins that served in a search, as its trace tells them.
use Rattle.std.specs.Prelude.{◌≡◌, ℕ, List, ◌++◌, map, Option, Some, Bool, true, slice_get}
use Rattle.cip_events.specs.declared.traces.Trace.{Trace}
use Rattle.cip_events.specs.declared.words.Word.{Word}
use Rattle.cip_problem.specs.Log.{Entry}
use Rattle.cip_plugin.specs.Calls.{Call}
use Rattle.cip_plugin.specs.Telling.{Heard}
use Rattle.cip_plugin.specs.Who.{Who}
use Rattle.cip_plugin.specs.declared.kinds.Kind.{Kind}
use Rattle.cip_plugin.specs.declared.stages.Stage.TheVariants.{Gone}
use Rattle.cip_plugin.specs.Lives.{life, newborn, words_of, word_of, callbacks}
use Rattle.cip_plugin.specs.Seats.{Seat}
use Rattle.cip_roster.specs.Closed.{backs, shelf_backs}
use Rattle.cip_solve.specs.Kits.{Stock}
use Rattle.cip_solve.specs.KitsServed.{HasServedKit}

-- the words of a plugin of a kind are those of a whole life: behind the last one it is closed
pub record IsWholeLife (kind : Kind) (words : List Word) : Type 0 where
  pub on : Bool
  pub closed : life kind (Some newborn) words ≡ Some (record { stage = Gone; on = on })

-- the calls among these words are exactly those that a plugin has told since, as far as it tells
pub record HasTold (before after : Who) (words : List Word) : Type 0 where
  pub calls : List Call
  pub are_words : callbacks words ≡ map (λ call. word_of call) calls
  pub heard : Heard before.told calls after.told

-- plugins served, and a trace tells it: those that got numbers are done with in their order, and then those that were
-- left on the shelf; each life is whole, and each plugin of the start has the number of its place
pub record HaveLived (had has : Stock) (trace : Option Trace) : Type 0 where
  pub told : Trace
  pub is_told : trace ≡ Some told
  pub seats : List Seat
  pub places : List (Option Who)
  pub spent : has.spent ≡ had.spent ++ (backs 0 seats ++ shelf_backs places)
  pub whole : (id : ℕ) (seat : Seat) → slice_get seats id ≡ Some seat
      → IsWholeLife seat.who.kind (words_of id told.lines.items)
  pub calls : (id : ℕ) (who : Who) (seat : Seat) → slice_get had.start id ≡ Some who → slice_get seats id ≡ Some seat
      → HasTold who seat.who (words_of id told.lines.items)

-- so it is of each kit that served in a search whose trace is told
abbrev pub LivesAreWhole : Type 0
LivesAreWhole =
    (log : List Entry) (had has : Stock) (trace : Option Trace)
    → HasServedKit true log had has trace → HaveLived had has trace
