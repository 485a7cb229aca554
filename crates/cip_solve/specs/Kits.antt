-- What a kit of plugins is, and what becomes of it as a search begins and ends.
use Rattle.std.specs.Prelude.{◌≡◌, ℕ, ◌+◌, ◌^◌, ◌<◌, ◌≤◌, ◌==◌, ◌&&◌, ◌++◌, Bool, true, false, not, List, [], length}
use Rattle.std.specs.Prelude.{Option, None, Some, filter, map}
use Rattle.std.specs.List.{list_any}
use Rattle.std.specs.Str.{bytes_eq}
use Rattle.cip_events.specs.declared.traces.Trace.{Trace}
use Rattle.cip_plugin.specs.Who.{Who}
use Rattle.cip_plugin.specs.declared.boxed.AnyPlugin.{AnyPlugin}
use Rattle.cip_plugin.specs.declared.kits.Kit.{Kit}
use Rattle.cip_roster.specs.Seats.{State, held_count}
use Rattle.cip_roster.specs.Begun.{IsBegun}
use Rattle.cip_roster.specs.Closed.{Back, back, IsClosed}

-- what the plugins of a kit mean: those of its start and of its shelf, in order, and those that are done with
pub record Stock : Type 0 where
  pub start : List Who
  pub shelf : List Who
  pub spent : List Back

-- so it is of a kit, by what a plugin means; X1 to X7 are the types of plugins of the seven kinds, and Y1 to Y7 what is
-- kept of their values
abbrev pub stock_of : {X1 X2 X3 X4 X5 X6 X7 : Type 0}
    {Y1 : X1 → Type 0} {Y2 : X2 → Type 0} {Y3 : X3 → Type 0} {Y4 : X4 → Type 0}
    {Y5 : X5 → Type 0} {Y6 : X6 → Type 0} {Y7 : X7 → Type 0}
    → (AnyPlugin X1 X2 X3 X4 X5 X6 X7 Y1 Y2 Y3 Y4 Y5 Y6 Y7 → Who)
    → Kit X1 X2 X3 X4 X5 X6 X7 Y1 Y2 Y3 Y4 Y5 Y6 Y7 → Stock
stock_of who kit = record {
  start = map who kit.start.items;
  shelf = map who kit.shelf.items;
  spent = map (λ spent. back spent.id (who spent.plugin)) kit.spent.items;
}

-- start and shelf together have fewer than 2 ^ 32 plugins
abbrev pub IsFew : Stock → Type 0
IsFew stock = length stock.start + length stock.shelf < 2 ^ 32

-- there is no plugin that begins, and none that a wish could include
abbrev pub is_bare : Stock → Bool
is_bare stock = (length stock.start == 0) && (length stock.shelf == 0)

-- whether a plugin has one of these names
abbrev pub is_off : (names : List (List ℕ)) → Who → Bool
is_off names who = list_any (λ name. bytes_eq who.label name) names

-- a kit without the plugins of its start that have one of these names: they stand behind those that are done with, in
-- their order and without numbers, since nobody called them
abbrev pub less_off : (names : List (List ℕ)) → Stock → Stock
less_off names stock = record {
  start = filter (λ who. not (is_off names who)) stock.start;
  shelf = stock.shelf;
  spent = stock.spent ++ map (λ who. back None who) (filter (is_off names) stock.start);
}

-- all plugins of a kit have moved into a roster, which has begun with those of the start
pub record HasBegun (had has : Stock) (kept : Bool) (begun : State) : Type 0 where
  pub begins : IsBegun had.start had.shelf kept begun
  pub start : has.start ≡ []
  pub shelf : has.shelf ≡ []
  pub spent : has.spent ≡ had.spent

-- a list that holds so many and has room for so many in all has room for the plugins of a roster
abbrev pub HasRoomFor : (held most : ℕ) → State → Type 0
HasRoomFor held most state = held + (length state.seats + held_count state.places) ≤ most

-- a trace has the lines that a roster has written, and the names that they speak of
pub record TellsLines (state : State) (trace : Option Trace) : Type 0 where
  pub told : Trace
  pub is_told : trace ≡ Some told
  pub names : told.names.items ≡ state.names
  pub lines : told.lines.items ≡ state.lines

-- where lines are kept there is such a trace, and else there is none
abbrev pub IsTraceOf : (kept : Bool) → State → Option Trace → Type 0
IsTraceOf true state trace = TellsLines state trace
IsTraceOf false state trace = trace ≡ None

-- a roster was closed: each live plugin had its two last calls, and all went back into the kit, behind those that were
-- done with before, the seated ones with their numbers in order
pub record HasEnded (kept : Bool) (left : State) (had has : Stock) (trace : Option Trace) : Type 0 where
  pub closed : State
  pub closes : IsClosed left closed had.spent has.spent
  pub start : has.start ≡ had.start
  pub shelf : has.shelf ≡ had.shelf
  pub told : IsTraceOf kept closed trace
