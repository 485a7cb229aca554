-- How a tree changes from call to call.
use Rattle.std.specs.Prelude.{◌≡◌, ◌≢◌, ℕ, ◌<◌, ◌≤◌, ◌+◌, ◌^◌, ℤ, unsigned_abs, Bool, true, List, [], ◌∷◌, ◌++◌, Option, None, Some, slice_get, All, Contains}
use Rattle.std.specs.List.Sorted.{IsPermutation}
use Rattle.cip_rational.specs.Rational.{ℚ}
use Rattle.cip_problem.specs.Log.{Node, Split, low_node, high_node, CanSplit}
use Rattle.cip_domain.specs.Changes.{Region}
use Rattle.cip_tree.specs.Bounds.{IsBoundAtMost}
use Rattle.cip_tree.specs.Queue.{bound_below}
use Rattle.cip_tree.specs.Searched.{HasNotEnded, HalvesHold}
use Rattle.cip_tree.specs.Nodes.{TakenNode, Nodes, base_at, node_in, shown, IsTaken}

-- a node is taken before another: without a bound, of lesser bound, or of lesser number
pub record IsBefore (node other : Node) : Type 0 where
  pub bounds : IsBoundAtMost node.bound other.bound
  pub numbers : node.bound ≡ other.bound → node.number ≤ other.number

-- a tree of one open node, the root, with this region, which is in work, and this bound, over so many columns of which
-- these are whole
pub record IsNew (tree : Nodes) (region : Region) (integral : List Bool) (bound : Option ℚ) : Type 0 where
  pub open_ : tree.open_ ≡ tree.root ∷ []
  pub root : tree.root ≡ node_in region 0 bound
  pub integral_is : tree.integral ≡ integral
  pub parked : tree.parked ≡ []
  pub taken : (place : ℕ) → base_at tree place ≡ None
  pub ids : tree.ids ≡ 1
  pub log : tree.log ≡ []
  pub work : tree.work ≡ region

-- the first open node was taken, which has no entry in the log, and no other one changed
pub record TakesFirst (old new : Nodes) (node : TakenNode) : Type 0 where
  pub nodes : IsPermutation old.open_ (shown new node ∷ new.open_)
  pub first : All (IsBefore (shown new node)) new.open_
  pub taken : IsTaken new node
  pub fresh : base_at old node.place ≡ None
  pub given : node.number < old.ids
  pub unended : HasNotEnded old.log node.number
  pub others : (place : ℕ) → place ≢ node.place → base_at new place ≡ base_at old place
  pub rest : new ≡ record old { open_ = new.open_; taken = new.taken }

-- the node kept at a place is in work no more, and the others are as they were
pub record LetsGo (old new : Nodes) (place : ℕ) : Type 0 where
  pub gone : base_at new place ≡ None
  pub others : (other : ℕ) → other ≢ place → base_at new other ≡ base_at old other

-- a bound is the least of the nodes' bounds, where none is less than each that is there
pub record IsLeastBound (bound : Option ℚ) (nodes : List Node) : Type 0 where
  pub node : Node
  pub among : Contains nodes node
  pub is : bound ≡ node.bound
  pub least : All (λ other. IsBoundAtMost bound other.bound) nodes

-- the node's bound is below a cost, or it has none
abbrev pub is_cheaper : ℚ → Node → Bool
is_cheaper cost node = bound_below cost node.bound

-- ---- splits

-- a node in work was split: it has ended, and its halves are open, with its bound and the next two numbers; they hold
-- each point of its box whose value is whole, or allowed where the choice of the column was open
pub record IsSplit (old new : Nodes) (node : TakenNode) (column : ℕ) (at : ℤ) (low high : ℕ) : Type 0 where
  pub low_is : low ≡ old.ids
  pub high_is : high ≡ old.ids + 1
  pub near : slice_get old.integral column ≡ Some true → unsigned_abs at ≤ 2 ^ 101
  pub can : CanSplit old.integral (shown old node) column at
  pub hold : HalvesHold (shown old node) column at
  pub nodes : IsPermutation
      (record (low_node (shown old node) column at) { number = low; bound = node.bound }
      ∷ record (high_node (shown old node) column at) { number = high; bound = node.bound } ∷ old.open_)
      new.open_
  pub taken : LetsGo old new node.place
  pub rest : new ≡ record old {
    open_ = new.open_;
    taken = new.taken;
    ids = old.ids + 2;
    log = old.log ++ record { node = node.number; bound = node.bound; end = Split column at low high } ∷ [];
  }
