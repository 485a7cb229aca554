-- The definitions tried on a program of three whole columns, of which the second one is gone from the reduced program:
-- the root was split at the reduced program's second column, the program's third one.
use Rattle.std.specs.Prelude.{◌≡◌, ℕ, true, false, List, [], ◌∷◌, Some, pos}
use Rattle.cip_rational.specs.Rational.{integer, whole}
use Rattle.cip_problem.specs.Program.{Sides, Program}
use Rattle.cip_problem.specs.Log.{Split, Closed, Entry, Node, node_of}
use Rattle.cip_search.specs.Searched.{nodes_given}
use Rattle.cip_search.specs.Forms.{kept_at}
use Rattle.cip_search.specs.ReductionExamples.{at_two}
use Rattle.cip_search.specs.SeenLogs.{log_seen, node_seen}

abbrev pub up_to : ℕ → Sides
up_to most = record { low = Some (whole 0 0); high = Some (whole most 0) }

abbrev pub three : Program
three = record {
  column_names = [] ∷ [] ∷ [] ∷ [];
  row_names = [];
  rows = [];
  costs = whole 1 0 ∷ whole 1 0 ∷ whole 1 0 ∷ [];
  constant = whole 0 0;
  maximized = false;
  integral = true ∷ true ∷ true ∷ [];
  bounds = up_to 5 ∷ up_to 9 ∷ up_to 3 ∷ [];
  choices = [];
}

-- the root was split into the nodes 1 and 2, and 1 closed
abbrev pub split_at : ℕ → List Entry
split_at column =
    record { node = 0; bound = Some (whole 0 0); end = Split column (pos 1) 1 2 }
    ∷ record { node = 1; bound = Some (whole 4 0); end = Closed } ∷ []

-- the third column is at most 1 in the node 1
abbrev pub box_seen : List Sides
box_seen = up_to 5 ∷ up_to 9 ∷ record { low = Some (whole 0 0); high = Some (integer (pos 1)) } ∷ []

-- a node of this box and bound
abbrev pub node_one : List Sides → ℕ → Node
node_one box bound = record { number = 1; box = box; choices = []; bound = Some (whole bound 0) }

pub record Examples : Type 0 where
  pub renamed : log_seen (kept_at at_two) (split_at 1) ≡ split_at 2
  -- a node whose box has become narrower and whose bound has risen: seen, it has the box that the log gives it in the
  -- program, and its own bound
  pub given : node_of (nodes_given three (Some (whole 0 0)) (split_at 2)) 1 ≡ Some (node_one box_seen 0)
  pub seen :
      node_seen three (Some (whole 0 0)) (kept_at at_two) (split_at 1) (node_one (up_to 2 ∷ up_to 1 ∷ []) 4)
      ≡ node_one box_seen 4
