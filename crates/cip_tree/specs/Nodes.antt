-- What contracts see of a tree: its open and parked nodes with their boxes, and what it keeps of those that are taken.
use Rattle.std.specs.Prelude.{◌≡◌, ℕ, ℤ, Bool, true, false, List, [], ◌++◌, map, Option, None, Some, slice_index_or, refl}
use Rattle.std.specs.Coded.{Coded, code_by, coded×, coded_ℕ, coded_ℤ, coded_bool, coded_list, coded_option}
use Rattle.cip_rational.specs.Rational.{ℚ, coded_ℚ}
use Rattle.cip_problem.specs.Program.{Sides, Choice}
use Rattle.cip_problem.specs.Codes.{box_code, choices_code}
use Rattle.cip_problem.specs.Log.{Node, Entry, End, Split, Closed, Parked}
use Rattle.cip_domain.specs.Changes.{Region, Change, region_code, change_code, narrowed}
use Rattle.cip_tree.specs.declared.notes.Note.{Note}
use Rattle.cip_tree.specs.Notes.{noted, note_code}
use Rattle.cip_tree.specs.Origins.{filled}

-- a node in work: its number, its bound, where the tree keeps the rest, and the changes of its own work, the oldest
-- first
pub record TakenNode : Type 0 where
  pub number : ℕ
  pub bound : Option ℚ
  pub place : ℕ
  pub notes : List Note

-- what a tree keeps of a node in work: its number, and the changes of the splits and of the nodes above it, the newest
-- first; those that make a choice without the sides that this leaves
pub record Base : Type 0 where
  pub number : ℕ
  pub changes : List Change

-- a tree: its root; which columns are whole; the open nodes, in no order; the parked ones, by the time of parking; by
-- place what is kept of nodes in work; how many numbers were given; the log; and the region in work
pub record Nodes : Type 0 where
  pub root : Node
  pub integral : List Bool
  pub open_ : List Node
  pub parked : List Node
  pub taken : List (Option Base)
  pub ids : ℕ
  pub log : List Entry
  pub work : Region

-- with the sides that choices leave
abbrev pub filled_base : List Choice → Option Base → Option Base
filled_base choices None = None
filled_base choices (Some base) =
    Some (record { number = base.number; changes = map (filled choices) base.changes })

-- what is kept of a node in work
abbrev pub base_at : Nodes → ℕ → Option Base
base_at tree place = filled_base tree.root.choices (slice_index_or tree.taken place None)

abbrev pub base_changes : Option Base → List Change
base_changes None = []
base_changes (Some base) = base.changes

-- the changes of a node in work and of those above it, the newest first
abbrev pub node_changes : Nodes → TakenNode → List Change
node_changes tree node = noted node.notes ++ base_changes (base_at tree node.place)

-- the box and the choices of a node
abbrev pub region_in : Node → Region
region_in node = record { box = node.box; choices = node.choices }

-- a node with this box and these choices
abbrev pub node_in : Region → ℕ → Option ℚ → Node
node_in region number bound =
    record { number = number; box = region.box; choices = region.choices; bound = bound }

-- the region of a node in work: the root's, after its changes
abbrev pub region_of : Nodes → TakenNode → Region
region_of tree node = narrowed (region_in tree.root) (node_changes tree node)

-- its box: the root's, with the strongest change of each side
abbrev pub box_of : Nodes → TakenNode → List Sides
box_of tree node = (region_of tree node).box

-- its choices: the root's, with those that were made
abbrev pub choices_of : Nodes → TakenNode → List Choice
choices_of tree node = (region_of tree node).choices

-- a node in work as a node of the log
abbrev pub shown : Nodes → TakenNode → Node
shown tree node = node_in (region_of tree node) node.number node.bound

-- a node was taken from the tree, and has not ended
pub record IsTaken (tree : Nodes) (node : TakenNode) : Type 0 where
  pub base : Base
  pub found : base_at tree node.place ≡ Some base
  pub same : base.number ≡ node.number

-- ---- codes

abbrev pub taken_code : Coded TakenNode
taken_code =
    code_by (ℕ × (Option ℚ × (ℕ × List Note)))
    (coded× coded_ℕ (coded× (coded_option coded_ℚ) (coded× coded_ℕ (coded_list note_code))))
    (λ n. (n.number, (n.bound, (n.place, n.notes))))
    (λ p. record { number = p.0; bound = p.1.0; place = p.1.1.0; notes = p.1.1.1 }) (λ _. refl)

abbrev base_code : Coded Base
base_code =
    code_by (ℕ × List Change) (coded× coded_ℕ (coded_list change_code))
    (λ b. (b.number, b.changes)) (λ p. record { number = p.0; changes = p.1 }) (λ _. refl)

abbrev node_code : Coded Node
node_code =
    code_by (ℕ × ((List Sides × List Choice) × Option ℚ))
    (coded× coded_ℕ (coded× (coded× box_code choices_code) (coded_option coded_ℚ)))
    (λ n. (n.number, ((n.box, n.choices), n.bound)))
    (λ p. record { number = p.0; box = p.1.0.0; choices = p.1.0.1; bound = p.1.1 }) (λ _. refl)

-- the parts of a split, and else whether the node was closed
abbrev pub end_parts : End → Option (ℕ × (ℤ × (ℕ × ℕ))) × Bool
end_parts (Split column at low high) = (Some (column, (at, (low, high))), true)
end_parts Closed = (None, true)
end_parts Parked = (None, false)

abbrev pub end_from : Option (ℕ × (ℤ × (ℕ × ℕ))) → Bool → End
end_from (Some parts) closed = Split parts.0 parts.1.0 parts.1.1.0 parts.1.1.1
end_from None true = Closed
end_from None false = Parked

pub end_back : (end : End) → end_from (end_parts end).0 (end_parts end).1 ≡ end
end_back (Split column at low high) = refl
end_back Closed = refl
end_back Parked = refl

abbrev end_code : Coded End
end_code =
    code_by (Option (ℕ × (ℤ × (ℕ × ℕ))) × Bool)
    (coded× (coded_option (coded× coded_ℕ (coded× coded_ℤ (coded× coded_ℕ coded_ℕ)))) coded_bool)
    end_parts (λ p. end_from p.0 p.1) end_back

abbrev entry_code : Coded Entry
entry_code =
    code_by (ℕ × (Option ℚ × End)) (coded× coded_ℕ (coded× (coded_option coded_ℚ) end_code))
    (λ e. (e.node, (e.bound, e.end))) (λ p. record { node = p.0; bound = p.1.0; end = p.1.1 }) (λ _. refl)

-- all fields of a tree, in pairs
abbrev pub nodes_code : Coded Nodes
nodes_code =
    code_by
    ((Node × List Bool) × ((List Node × List Node) × (List (Option Base) × (ℕ × (List Entry × Region)))))
    (coded× (coded× node_code (coded_list coded_bool))
    (coded× (coded× (coded_list node_code) (coded_list node_code))
    (coded× (coded_list (coded_option base_code)) (coded× coded_ℕ (coded× (coded_list entry_code) region_code)))))
    (λ t. ((t.root, t.integral), ((t.open_, t.parked), (t.taken, (t.ids, (t.log, t.work))))))
    (λ p. record {
      root = p.0.0;
      integral = p.0.1;
      open_ = p.1.0.0;
      parked = p.1.0.1;
      taken = p.1.1.0;
      ids = p.1.1.1.0;
      log = p.1.1.1.1.0;
      work = p.1.1.1.1.1;
    })
    (λ _. refl)
