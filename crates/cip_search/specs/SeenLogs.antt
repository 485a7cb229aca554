-- The log of a search over a reduced program, seen in the program: over the program's columns, where `kept` is the
-- number there of each column of the reduced program. And its nodes, in the boxes that this log gives in the program.
use Rattle.std.specs.Prelude.{ℕ, List, map, Option, None, Some}
use Rattle.cip_rational.specs.Rational.{ℚ}
use Rattle.cip_problem.specs.Program.{Program}
use Rattle.cip_problem.specs.Log.{End, Split, Closed, Parked, Entry, Node, node_of}
use Rattle.cip_search.specs.Searched.{nodes_given}
use Rattle.cip_search.specs.SearchState.{State}

-- a split names the program's column
abbrev pub end_seen : (kept : ℕ → ℕ) → End → End
end_seen kept (Split column at low high) = Split (kept column) at low high
end_seen kept Closed = Closed
end_seen kept Parked = Parked

-- nodes keep their numbers and their bounds
abbrev pub entry_seen : (kept : ℕ → ℕ) → Entry → Entry
entry_seen kept entry = record entry { end = end_seen kept entry.end }

abbrev pub log_seen : (kept : ℕ → ℕ) → List Entry → List Entry
log_seen kept log = map (entry_seen kept) log

-- a node with the box and the choices of another one, where there is one
abbrev pub with_box_of : Option Node → Node → Node
with_box_of None node = node
with_box_of (Some given) node = record node { box = given.box; choices = given.choices }

-- a node with its number and the bound that it has now, in the box and with the choices that the log seen gives to the
-- node of this number
abbrev pub node_seen : Program → (start : Option ℚ) → (kept : ℕ → ℕ) → List Entry → Node → Node
node_seen program start kept log node =
    with_box_of (node_of (nodes_given program start (log_seen kept log)) node.number) node

-- where a search stands: the cost held is that of a point of the program, and stays
abbrev pub state_seen : Program → (start : Option ℚ) → (kept : ℕ → ℕ) → State → State
state_seen program start kept state = record {
  held = state.held;
  work = map (node_seen program start kept state.log) state.work;
  open_ = map (node_seen program start kept state.log) state.open_;
  parked = map (node_seen program start kept state.log) state.parked;
  log = log_seen kept state.log;
}
