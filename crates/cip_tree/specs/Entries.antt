-- The log of a tree as entries.
use Rattle.std.specs.Prelude.{List, map}
use Rattle.cip_problem.specs.Log.{End, Split, Closed, Parked, Entry}
use Rattle.cip_tree.specs.declared.logs.End.{End as LoggedEnd}
use Rattle.cip_tree.specs.declared.logs.End.TheVariants.{Split as LoggedSplit, Closed as LoggedClosed, Parked as LoggedParked}
use Rattle.cip_tree.specs.declared.logs.Logged.{Logged}

-- an end of the code as one of the definitions
abbrev pub end_of : LoggedEnd → End
end_of (LoggedSplit column at low high) = Split column at low high
end_of LoggedClosed = Closed
end_of LoggedParked = Parked

-- an entry of the code as one of the definitions
abbrev pub entry_of : Logged → Entry
entry_of logged = record { node = logged.id; bound = logged.bound; end = end_of logged.end }

-- a log as entries
abbrev pub entries_of : List Logged → List Entry
entries_of log = map entry_of log
