-- What a search did: the nodes that it took and ended, in that order. A node is a box with choices and a bound.
-- Node 0 has the program's box and choices; a split of a node gives two new nodes. Their boxes are its box with one
-- whole column at most a whole number, and at least the next one; or an open choice is made, off and on. The modules
-- below have the laws.
use Rattle.std.specs.Prelude.{◌≡◌, ◌≢◌, ℕ, ◌==◌, ℤ, pos, ◌+ℤ◌, Bool, true, false, List, [], ◌∷◌, ◌++◌, map, Option, None, Some, if◌then◌else◌, slice_set, slice_get, ⊤}
use Rattle.std.specs.List.{Contains}
use Rattle.cip_rational.specs.Rational.{ℚ, integer, lt_test}
use Rattle.cip_problem.specs.Program.{Sides, Choice, Plain, Open, Off, On, Program}
use Rattle.cip_problem.specs.Box.{sides_at}
use Rattle.cip_problem.specs.BoxBound.{box_bound}
use Rattle.cip_problem.specs.Choices.{choice_at, met, zero_sides, ways}
use Rattle.cip_problem.specs.Wholes.{times, assignments, AllHaveWholes}

-- how a node ended: by a split of a column at a whole number, with the numbers of the low and the high half;
-- closed, as it has no point that is better than the one held; or put aside
pub data End : Type 0 where
  Split : (column : ℕ) (at : ℤ) (low high : ℕ) → End
  Closed : End
  Parked : End

-- a node that was taken and has ended, with the bound that it had then
pub record Entry : Type 0 where
  pub node : ℕ
  pub bound : Option ℚ
  pub end : End

-- a node: its number, its box and choices, and a bound below the cost of its points, if there is one
pub record Node : Type 0 where
  pub number : ℕ
  pub box : List Sides
  pub choices : List Choice
  pub bound : Option ℚ

-- the node that a search begins with
abbrev pub root : Program → Node
root program = record {
  number = 0;
  box = program.bounds;
  choices = program.choices;
  bound = box_bound program program.bounds;
}

-- a box with a column at most `at`
abbrev pub low_half : List Sides → ℕ → ℤ → List Sides
low_half box column at = slice_set box column (record { low = (sides_at box column).low; high = Some (integer at) })

-- a box with a column at least `at + 1`
abbrev pub high_half : List Sides → ℕ → ℤ → List Sides
high_half box column at =
    slice_set box column (record { low = Some (integer (at +ℤ pos 1)); high = (sides_at box column).high })

-- a node with the choice of a column made: its sides are met with those that the choice leaves
abbrev pub chosen_node : Node → ℕ → Choice → Sides → Node
chosen_node node column choice sides = record node {
  box = slice_set node.box column (met (sides_at node.box column) sides);
  choices = slice_set node.choices column choice;
}

-- the low half of a node whose column has this choice: where it is open, the column is off; else it is at most `at`
abbrev pub low_of : Choice → Node → ℕ → ℤ → Node
low_of (Open own) node column at = chosen_node node column Off zero_sides
low_of choice node column at = record node { box = low_half node.box column at }

-- the high half: where the choice is open, the column is on, between its own sides; else it is at least `at + 1`
abbrev pub high_of : Choice → Node → ℕ → ℤ → Node
high_of (Open own) node column at = chosen_node node column On own
high_of choice node column at = record node { box = high_half node.box column at }

-- the halves of a node
abbrev pub low_node : Node → ℕ → ℤ → Node
low_node node column at = low_of (choice_at node.choices column) node column at

abbrev pub high_node : Node → ℕ → ℤ → Node
high_node node column at = high_of (choice_at node.choices column) node column at

-- how many leaves a node's box has: the whole assignments, times the ways to make the open choices
abbrev pub leaf_count : List Bool → Node → Option ℕ
leaf_count integral node = times (Some (ways node.choices)) (assignments integral node.box)

-- the node of this number
abbrev pub node_of : List Node → ℕ → Option Node
node_of [] number = None
node_of (node ∷ nodes) number = if node.number == number then Some node else node_of nodes number

-- the nodes that an end of a node gives; they inherit its bound
abbrev pub halves : Option Node → Option ℚ → End → List Node
halves None bound end = []
halves (Some node) bound Closed = []
halves (Some node) bound Parked = []
halves (Some node) bound (Split column at low high) =
    record (low_node node column at) { number = low; bound = bound }
    ∷ record (high_node node column at) { number = high; bound = bound } ∷ []

-- the nodes given by an entry
abbrev pub nodes_of : List Node → Entry → List Node
nodes_of given entry = halves (node_of given entry.node) entry.bound entry.end

-- all nodes given: those given before, and those that the entries give
abbrev pub given_after : List Node → List Entry → List Node
given_after given [] = given
given_after given (entry ∷ entries) = given_after (given ++ nodes_of given entry) entries

-- which columns can be split: a whole one that is plain, and a continuous one whose choice is open
abbrev pub CanSplitAt : Choice → Option Bool → Type 0
CanSplitAt Plain whole = whole ≡ Some true
CanSplitAt (Open own) whole = whole ≡ Some false
CanSplitAt Off whole = ⊥
CanSplitAt On whole = ⊥

-- a node can be split at a column, a whole one at a whole number; in both halves each whole column has a whole value
pub record CanSplit (integral : List Bool) (node : Node) (column : ℕ) (at : ℤ) : Type 0 where
  pub kind : CanSplitAt (choice_at node.choices column) (slice_get integral column)
  pub low : AllHaveWholes integral (low_node node column at).box
  pub high : AllHaveWholes integral (high_node node column at).box

-- the end of a node is a right one: a split has two new numbers and can be made
abbrev pub IsRightEnd : List Bool → List Node → Node → End → Type 0
IsRightEnd integral given node Closed = ⊤
IsRightEnd integral given node Parked = ⊤
IsRightEnd integral given node (Split column at low high) =
    CanSplit integral node column at
    × (node_of given low ≡ None) × (node_of given high ≡ None) × (low ≢ high)

-- an entry can follow: it is of a node given before and not yet taken, and its end is a right one
pub record CanFollow (integral : List Bool) (given : List Node) (taken : List ℕ) (entry : Entry) : Type 0 where
  pub node : Node
  pub given_before : node_of given entry.node ≡ Some node
  pub once : ¬ Contains taken entry.node
  pub right : IsRightEnd integral given node entry.end

-- entries can follow, one after another
abbrev pub AllFollow : List Bool → List Node → List ℕ → List Entry → Type 0
AllFollow integral given taken [] = ⊤
AllFollow integral given taken (entry ∷ entries) =
    CanFollow integral given taken entry
    × AllFollow integral (given ++ nodes_of given entry) (entry.node ∷ taken) entries

-- the log of a search over a program
abbrev pub IsLog : Program → List Entry → Type 0
IsLog program log = AllFollow program.integral (root program ∷ []) [] log

-- a node matters beside what is held: nothing is held, it has no bound, or its bound is below the cost held
abbrev pub matters : Option ℚ → Option ℚ → Bool
matters None bound = true
matters (Some cost) None = true
matters (Some cost) (Some bound) = lt_test bound cost

-- a node is open where it was given and has not been taken
pub record IsOpen (program : Program) (log : List Entry) (node : Node) : Type 0 where
  pub given : node_of (given_after (root program ∷ []) log) node.number ≡ Some node
  pub not_taken : ¬ Contains (map (λ entry. entry.node) log) node.number

-- an open node matters
pub record HasOpenNode (program : Program) (log : List Entry) (held : Option ℚ) : Type 0 where
  pub node : Node
  pub open_ : IsOpen program log node
  pub matter : matters held node.bound ≡ true
