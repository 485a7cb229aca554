-- Events, and which kinds of them a mask wants.
use Rattle.std.specs.Prelude.{ℕ, Bool, false, None, slice_index_or}
use Rattle.cip_events.specs.declared.events.EventKind.{EventKind}
use Rattle.cip_events.specs.declared.events.EventKind.TheVariants.{NodeFocused, NodeFeasible, NodeInfeasible, NodeBranched, FirstLpSolved, LpSolved, BestSolFound, PoorSolFound, LbTightened, UbTightened, RowAdded, PluginIncluded, PluginFreed}
use Rattle.cip_events.specs.declared.events.Event.{Event}
use Rattle.cip_events.specs.declared.masks.EventMask.{EventMask}

-- an event of a node, without a column
abbrev pub event_at : ℕ → EventKind → Event
event_at node kind = record { kind = kind; node = node; col = None }

-- the number of a kind, from 0
abbrev pub place_of : EventKind → ℕ
place_of NodeFocused = 0
place_of NodeFeasible = 1
place_of NodeInfeasible = 2
place_of NodeBranched = 3
place_of FirstLpSolved = 4
place_of LpSolved = 5
place_of BestSolFound = 6
place_of PoorSolFound = 7
place_of LbTightened = 8
place_of UbTightened = 9
place_of RowAdded = 10
place_of PluginIncluded = 11
place_of PluginFreed = 12

-- whether a mask wants events of a kind
abbrev pub wants : EventMask → EventKind → Bool
wants mask kind = slice_index_or mask.wanted (place_of kind) false
