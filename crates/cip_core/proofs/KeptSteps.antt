-- Steps of the tree keep what holds of a search.
use Rattle.std.proofs.Common.{◌≡◌, ◌≢◌, inl, inr, ℕ, zero, suc, ◌+◌, ◌≤◌, ℤ, pos, ◌+ℤ◌, unsigned_abs, length, slice_set, slice_get, IfSome, Bool, true, false, List, [], ◌∷◌, ◌++◌, filter, Option, None, Some, Contains, refl, sym, ap, ◌∙◌, subst, arith, true≢false}
use Rattle.std.specs.List.Sorted.{IsPermutation}
use Rattle.std.proofs.lemmas.Bool.{cases_lt, cases_eq}
use Rattle.std.proofs.lemmas.Option.{same_Some, none-some}
use Rattle.cip_rational.specs.Rational.{ℚ, integer, floor, ceil}
use Rattle.cip_rational.proofs.Rational.Rounding.{floor-integer, ceil-integer}
use Rattle.cip_problem.specs.Box.{sides_at}
use Rattle.cip_problem.specs.Program.{Sides, Choice, Plain, Open, Off, On, Program}
use Rattle.cip_problem.specs.Choices.{choice_at, is_open, met, zero_sides}
use Rattle.cip_problem.specs.Log.{Entry, Node, node_of, Split, Closed, Parked, low_of, high_of, low_node, high_node, CanSplit, matters}
use Rattle.std.proofs.lemmas.List.Elements.{Contains-append_left, Contains-append_right, Contains-append_cases}
use Rattle.cip_domain.specs.Changes.{narrowed}
use Rattle.cip_problem.specs.Improving.{IsBoundIn, HasNoImproving, IsNoDearer}
use Rattle.cip_problem.proofs.Log.Entering.{contains_here, contains_cons, contains_later}
use Rattle.cip_search.specs.Searched.{first_node, nodes_given, NoMore}
use Rattle.cip_search.specs.WideLeaf.{IsWideLeaf}
use Rattle.cip_search.specs.SearchState.{WayBack, HasGivenBoxes, IsAttained, IsStuck}
use Rattle.cip_search.specs.Statements.{AreHalves}
use Rattle.cip_search.proofs.Members.{kept_was_there}
use Rattle.cip_search.proofs.Kept as searching
use Rattle.cip_search.proofs.Ended as ending
use Rattle.cip_search.proofs.AsGiven as giving
use Rattle.cip_search.proofs.GivenBoxes as boxing
use Rattle.cip_search.proofs.Moving.{sides_set}
use Rattle.std.proofs.lemmas.List.Sorted.{Contains-permutation, IsPermutation-sym}
use Rattle.cip_tree.specs.Nodes.{Nodes, Base, TakenNode, base_at, base_changes, region_in, node_in, region_of, box_of, choices_of, shown}
use Rattle.cip_tree.specs.Notes.{noted}
use Rattle.cip_tree.specs.Moves.{IsSplit, is_cheaper}
use Rattle.cip_tree.specs.Searched.{IsSearched}
use Rattle.cip_node_rules.specs.OpenColumns.{is_whole_at}
use Rattle.cip_node_rules.specs.SplitRules.{AreNear, LeavesBoth}
use Rattle.cip_tree.specs.Queue.{bound_below}
use Rattle.cip_core.specs.KeptNodes.{state_of, farthest, IsNearBox, IsKept}
use Rattle.cip_core.specs.SplitPlaces.{IsSplitPlace}

-- what holds of a tree holds of one that is the same
pub kept_same : (program reduced : Program) (way : WayBack) (old new : Nodes) (held : Option ℚ) (work : List Node) → new ≡ old → IsKept program reduced way old held work → IsKept program reduced way new held work
kept_same program reduced way old new held work e k = subst (λ t. IsKept program reduced way t held work) (sym e) k

-- a first node in work has ended, with this log and these parked nodes
pub kept_closed : (program reduced : Program) (way : WayBack) (old new : Nodes) (held : Option ℚ) (node : Node) (taken : List (Option Base)) → new ≡ record old { taken = taken; log = old.log ++ record { node = node.number; bound = node.bound; end = Closed } ∷ [] } → HasNoImproving reduced held node.box → IsKept program reduced way old held (node ∷ []) → IsKept program reduced way new held []
kept_closed program reduced way old new held node taken e h k =
    let state = state_of old held (node ∷ []) in
    kept_same program reduced way (record old { taken = taken; log = old.log ++ record { node = node.number; bound = node.bound; end = Closed } ∷ [] }) new held [] e
    (record {
      searched = ending.closed program reduced way IsWideLeaf old.root.bound state node [] refl h k.searched;
      as_given = giving.closed program reduced way IsWideLeaf old.root.bound state node [] refl k.searched k.as_given;
      root = k.root;
      integral = k.integral;
      near = λ other c. k.near other (contains_later node other old.open_ c);
    })

pub kept_pruned : (program reduced : Program) (way : WayBack) (old new : Nodes) (held : Option ℚ) (node : Node) (taken : List (Option Base)) → new ≡ record old { taken = taken; log = old.log ++ record { node = node.number; bound = node.bound; end = Closed } ∷ [] } → matters held node.bound ≡ false → IsKept program reduced way old held (node ∷ []) → IsKept program reduced way new held []
kept_pruned program reduced way old new held node taken e h k =
    let state = state_of old held (node ∷ []) in
    kept_same program reduced way (record old { taken = taken; log = old.log ++ record { node = node.number; bound = node.bound; end = Closed } ∷ [] }) new held [] e
    (record {
      searched = ending.pruned program reduced way IsWideLeaf old.root.bound state node [] refl h k.searched;
      as_given = giving.closed program reduced way IsWideLeaf old.root.bound state node [] refl k.searched k.as_given;
      root = k.root;
      integral = k.integral;
      near = λ other c. k.near other (contains_later node other old.open_ c);
    })

pub kept_parked : (program reduced : Program) (way : WayBack) (old new : Nodes) (held : Option ℚ) (node : Node) (taken : List (Option Base)) → new ≡ record old { parked = old.parked ++ node ∷ []; taken = taken; log = old.log ++ record { node = node.number; bound = node.bound; end = Parked } ∷ [] } → IsStuck program reduced way IsWideLeaf node → IsKept program reduced way old held (node ∷ []) → IsKept program reduced way new held []
kept_parked program reduced way old new held node taken e h k =
    let state = state_of old held (node ∷ []) in
    kept_same program reduced way (record old { parked = old.parked ++ node ∷ []; taken = taken; log = old.log ++ record { node = node.number; bound = node.bound; end = Parked } ∷ [] }) new held [] e
    (record {
      searched = ending.parked program reduced way IsWideLeaf old.root.bound state node [] refl h k.searched;
      as_given = giving.parked program reduced way IsWideLeaf old.root.bound state node [] refl k.searched k.as_given;
      root = k.root;
      integral = k.integral;
      near = λ other c. k.near other (contains_later node other old.open_ c);
    })

-- the first open node is taken up
pub kept_taken : (program reduced : Program) (way : WayBack) (old new : Nodes) (held : Option ℚ) (node : Node) (open_ : List Node) (taken : List (Option Base)) → new ≡ record old { open_ = open_; taken = taken } → IsPermutation old.open_ (node ∷ open_) → IsKept program reduced way old held [] → IsKept program reduced way new held (node ∷ [])
kept_taken program reduced way old new held node open_ taken e p k =
    let state = state_of old held [] in
    kept_same program reduced way (record old { open_ = open_; taken = taken }) new held (node ∷ []) e
    (record {
      searched = searching.taken program reduced way IsWideLeaf old.root.bound state node open_ p k.searched;
      as_given = giving.taken reduced old.root.bound state node open_ p k.as_given;
      root = k.root;
      integral = k.integral;
      near = λ other c. k.near other (Contains-permutation (node ∷ open_) old.open_ other (IsPermutation-sym old.open_ (node ∷ open_) p) c);
    })

-- ---- what a call leaves of a node in work

-- a node is shown as it was where what is kept of it and the root are the same
pub shown_same : (old new : Nodes) (node : TakenNode) → base_at new node.place ≡ base_at old node.place → new.root ≡ old.root → shown new node ≡ shown old node
shown_same old new node e f =
    ap (λ (b : Option Base). node_in (narrowed (region_in new.root) (noted node.notes ++ base_changes b)) node.number node.bound) e
    ∙ ap (λ (r : Node). node_in (narrowed (region_in r) (noted node.notes ++ base_changes (base_at old node.place))) node.number node.bound) f

-- the bound of the first node in work rises
pub kept_raised : (program reduced : Program) (way : WayBack) (tree : Nodes) (held : Option ℚ) (node : Node) (b : ℚ) → IsBoundIn reduced held node.box b → NoMore node.bound (Some b) → IsKept program reduced way tree held (node ∷ []) → IsKept program reduced way tree held (record node { bound = Some b } ∷ [])
kept_raised program reduced way tree held node b h l k =
    let state = state_of tree held (node ∷ []) in
    record {
      searched = searching.raised program reduced way IsWideLeaf tree.root.bound state node [] b refl h l k.searched;
      as_given = giving.raised reduced tree.root.bound state node [] (Some b) refl k.as_given;
      root = k.root;
      integral = k.integral;
      near = λ other c. elim (contains_cons (record node { bound = Some b }) other tree.open_ c) [
        | inl e ↦ subst (λ (n : Node). IsNearBox reduced tree.ids n.box) e (k.near node (contains_here node tree.open_))
        | inr j ↦ k.near other (contains_later node other tree.open_ j)
      ];
    }

-- the bound of the first node in work is that of the log again
pub kept_lowered : (program reduced : Program) (way : WayBack) (tree : Nodes) (held : Option ℚ) (node : Node) (bound : Option ℚ) → ((given : Node) → node_of (nodes_given reduced tree.root.bound tree.log) node.number ≡ Some given → bound ≡ given.bound) → IsKept program reduced way tree held (node ∷ []) → IsKept program reduced way tree held (record node { bound = bound } ∷ [])
kept_lowered program reduced way tree held node bound f k =
    let state = state_of tree held (node ∷ []) in
    record {
      searched = searching.lowered program reduced way IsWideLeaf tree.root.bound state node [] bound refl f k.searched;
      as_given = giving.worked reduced tree.root.bound state (record node { bound = bound } ∷ []) k.as_given;
      root = k.root;
      integral = k.integral;
      near = λ other c. elim (contains_cons (record node { bound = bound }) other tree.open_ c) [
        | inl e ↦ subst (λ (n : Node). IsNearBox reduced tree.ids n.box) e (k.near node (contains_here node tree.open_))
        | inr j ↦ k.near other (contains_later node other tree.open_ j)
      ];
    }

-- a node in work goes back with the bound that the log gave it
pub kept_back : (program reduced : Program) (way : WayBack) (tree : Nodes) (held : Option ℚ) (node : Node) (open_ : List Node) (taken : List (Option Base)) → ((given : Node) → node_of (nodes_given reduced tree.root.bound tree.log) node.number ≡ Some given → node.bound ≡ given.bound) → IsPermutation (node ∷ tree.open_) open_ → IsKept program reduced way tree held (node ∷ []) → IsKept program reduced way (record tree { open_ = open_; taken = taken }) held []
kept_back program reduced way tree held node open_ taken f p k =
    let state = state_of tree held (node ∷ []) in
    record {
      searched = searching.put_back program reduced way IsWideLeaf tree.root.bound state node [] open_ refl p k.searched;
      as_given = giving.put_back reduced tree.root.bound state node [] open_ refl p f k.as_given;
      root = k.root;
      integral = k.integral;
      near = λ other c. k.near other (Contains-permutation open_ (node ∷ tree.open_) other (IsPermutation-sym (node ∷ tree.open_) open_ p) c);
    }

-- a cheaper point is held
pub kept_offered : (program reduced : Program) (way : WayBack) (tree : Nodes) (held : Option ℚ) (work : List Node) (cost : ℚ) → IsAttained program cost → IsNoDearer (Some cost) held → IsKept program reduced way tree held work → IsKept program reduced way tree (Some cost) work
kept_offered program reduced way tree held work cost a l k =
    let state = state_of tree held work in
    record {
      searched = searching.offered program reduced way IsWideLeaf tree.root.bound state cost a l k.searched;
      as_given = giving.offered reduced tree.root.bound state (Some cost) k.as_given;
      root = k.root;
      integral = k.integral;
      near = k.near;
    }

pub cheaper_matters : (cost : ℚ) (node : Node) (bound : Option ℚ) → bound_below cost bound ≡ matters (Some cost) bound
cheaper_matters cost node None = refl
cheaper_matters cost node (Some b) = refl

-- open nodes that don't matter are let go
pub kept_let_go : (program reduced : Program) (way : WayBack) (old new : Nodes) (cost : ℚ) (work open_ : List Node) (taken : List (Option Base)) → new ≡ record old { open_ = open_; taken = taken } → IsPermutation (filter (is_cheaper cost) old.open_) open_ → IsKept program reduced way old (Some cost) work → IsKept program reduced way new (Some cost) work
kept_let_go program reduced way old new cost work open_ taken e p k =
    let state = state_of old (Some cost) work in
    kept_same program reduced way (record old { open_ = open_; taken = taken }) new (Some cost) work e
    (record {
      searched = searching.closed_from program reduced way IsWideLeaf old.root.bound state open_ (is_cheaper cost) (λ node. cheaper_matters cost node node.bound) p k.as_given k.searched;
      as_given = giving.closed_from reduced old.root.bound state open_ (is_cheaper cost) p k.as_given;
      root = k.root;
      integral = k.integral;
      near = λ other c. elim (Contains-append_cases work open_ other c) [
        | inl j ↦ k.near other (Contains-append_left work old.open_ other j)
        | inr j ↦ k.near other (Contains-append_right work old.open_ other (kept_was_there (is_cheaper cost) old.open_ other (Contains-permutation open_ (filter (is_cheaper cost) old.open_) other (IsPermutation-sym (filter (is_cheaper cost) old.open_) open_ p) j)))
      ];
    })

-- ---- splits

pub no_farther : (n m : ℕ) (sides : Sides) → n ≤ m → AreNear n sides → AreNear m sides
no_farther n m sides l h = record { low = weaker sides.low ceil h.low; high = weaker sides.high floor h.high }
  where
    weaker : (side : Option ℚ) (f : ℚ → ℤ) → IfSome side (λ s. unsigned_abs (f s) ≤ n) → IfSome side (λ s. unsigned_abs (f s) ≤ m)
    weaker None f k = tt
    weaker (Some s) f k = omega (arith, k, l)

at_other : (box : List Sides) (column other : ℕ) (sides : Sides) → other ≢ column → sides_at (slice_set box column sides) other ≡ sides_at box other
at_other [] column other sides d = refl
at_other (s ∷ ss) zero zero sides d = absurd (d refl)
at_other (s ∷ ss) zero (suc other) sides d = refl
at_other (s ∷ ss) (suc column) zero sides d = refl
at_other (s ∷ ss) (suc column) (suc other) sides d = at_other ss column other sides (λ e. d (omega (arith, e)))

past_end : (box : List Sides) (column : ℕ) (sides : Sides) → length box ≤ column → slice_set box column sides ≡ box
past_end [] column sides l = refl
past_end (s ∷ ss) zero sides l = absurd (omega (arith, l))
past_end (s ∷ ss) (suc column) sides l = ap (λ t. s ∷ t) (past_end ss column sides (omega (arith, l)))

-- a box with other sides for one column is near
pub near_set : (program : Program) (ids : ℕ) (box : List Sides) (column : ℕ) (sides : Sides) → IsNearBox program ids box → AreNear (farthest ids) sides → IsNearBox program ids (slice_set box column sides)
near_set program ids box column sides h k = λ other w. elim (cases_lt column (length box)) [
  | inl l ↦ elim (cases_eq other column) [
    | inl e ↦ subst (λ c. AreNear (farthest ids) (sides_at (slice_set box column sides) c)) (sym e) (subst (AreNear (farthest ids)) (sym (sides_set box column sides l)) k)
    | inr d ↦ subst (AreNear (farthest ids)) (sym (at_other box column other sides d)) (h other w)
  ]
  | inr l ↦ subst (λ b. AreNear (farthest ids) (sides_at b other)) (sym (past_end box column sides l)) (h other w)
]

-- a box with other sides for a column that isn't whole is near
pub near_apart : (program : Program) (ids : ℕ) (box : List Sides) (column : ℕ) (sides : Sides) → is_whole_at program.integral column ≡ false → IsNearBox program ids box → IsNearBox program ids (slice_set box column sides)
near_apart program ids box column sides n h = λ other w. elim (cases_eq other column) [
  | inl e ↦ absurd (true≢false (sym w ∙ ap (is_whole_at program.integral) e ∙ n))
  | inr d ↦ subst (AreNear (farthest ids)) (sym (at_other box column other sides d)) (h other w)
]

nearer : (program : Program) (ids more : ℕ) (box : List Sides) → ids ≤ more → IsNearBox program ids box → IsNearBox program more box
nearer program ids more box l h = λ column w. no_farther (farthest ids) (farthest more) (sides_at box column) (omega (arith, l)) (h column w)

not_whole : (integral : List Bool) (column : ℕ) → slice_get integral column ≡ Some false → is_whole_at integral column ≡ false
not_whole [] column e = refl
not_whole (w ∷ ws) zero e = same_Some w false e
not_whole (w ∷ ws) (suc column) e = not_whole ws column e

is_whole : (integral : List Bool) (column : ℕ) → slice_get integral column ≡ Some true → is_whole_at integral column ≡ true
is_whole [] column e = absurd (none-some true e)
is_whole (w ∷ ws) zero e = same_Some w true e
is_whole (w ∷ ws) (suc column) e = is_whole ws column e

-- the halves of a near box are near
module _ (program : Program) (ids : ℕ) (node : Node) (column : ℕ) (at : ℤ) (near : IsNearBox program (ids + 2) node.box) where
  abbrev AreNearHalves : Choice → Type 0
  AreNearHalves choice = IsNearBox program (ids + 2) (low_of choice node column at).box × IsNearBox program (ids + 2) (high_of choice node column at).box

  whole_halves : is_whole_at program.integral column ≡ true → LeavesBoth (sides_at node.box column) (farthest ids + 1) at → AreNearHalves Plain
  whole_halves whole b =
      let own = near column whole in (
        near_set program (ids + 2) node.box column (record { low = (sides_at node.box column).low; high = Some (integer at) }) near (record { low = own.low; high = omega (arith, b.near, ap unsigned_abs (floor-integer at)) }),
        near_set program (ids + 2) node.box column (record { low = Some (integer (at +ℤ pos 1)); high = (sides_at node.box column).high }) near (record { low = omega (arith, b.next_near, ap unsigned_abs (ceil-integer (at +ℤ pos 1))); high = own.high }),
      )

  choice_halves : (choice : Choice) → is_whole_at program.integral column ≡ false → is_open choice ≡ true → AreNearHalves choice
  choice_halves Plain n e = absurd (true≢false (sym e))
  choice_halves (Open own) n e = (
    near_apart program (ids + 2) node.box column (met (sides_at node.box column) zero_sides) n near,
    near_apart program (ids + 2) node.box column (met (sides_at node.box column) own) n near,
  )
  choice_halves Off n e = absurd (true≢false (sym e))
  choice_halves On n e = absurd (true≢false (sym e))

  near_halves : IsSplitPlace program.integral (region_in node) (farthest ids + 1) column at → AreNearHalves (choice_at node.choices column)
  near_halves (inl p) = subst AreNearHalves (sym p.plain) (whole_halves (is_whole program.integral column p.whole) p.both)
  near_halves (inr p) = choice_halves (choice_at node.choices column) (not_whole program.integral column p.continuous) p.open_

module _ (program reduced : Program) (way : WayBack) (old new : Nodes) (held : Option ℚ) (node : TakenNode) (column : ℕ) (at : ℤ) (low high : ℕ) (s : IsSplit old new node column at low high) (k : IsKept program reduced way old held (shown old node ∷ [])) (place : IsSplitPlace reduced.integral (region_of old node) (farthest old.ids + 1) column at) where
  abbrev low_half_node : Node
  low_half_node = record (low_node (shown old node) column at) { number = low; bound = node.bound }

  abbrev high_half_node : Node
  high_half_node = record (high_node (shown old node) column at) { number = high; bound = node.bound }

  abbrev entry : Entry
  entry = record { node = node.number; bound = node.bound; end = Split column at low high }

  abbrev split_tree : Nodes
  split_tree = record old { open_ = new.open_; taken = new.taken; ids = old.ids + 2; log = old.log ++ entry ∷ [] }

  own_near : IsNearBox reduced old.ids (box_of old node)
  own_near = k.near (shown old node) (contains_here (shown old node) old.open_)

  wider_near : IsNearBox reduced (old.ids + 2) (box_of old node)
  wider_near = nearer reduced old.ids (old.ids + 2) (box_of old node) (omega arith) own_near

  both_near : AreNearHalves reduced old.ids (shown old node) column at wider_near (choice_at (choices_of old node) column)
  both_near = near_halves reduced old.ids (shown old node) column at wider_near place

  all_near : (other : Node) → Contains new.open_ other → IsNearBox reduced (old.ids + 2) other.box
  all_near other c = elim (contains_cons low_half_node other (high_half_node ∷ old.open_) (Contains-permutation new.open_ (low_half_node ∷ high_half_node ∷ old.open_) other (IsPermutation-sym (low_half_node ∷ high_half_node ∷ old.open_) new.open_ s.nodes) c)) [
    | inl e ↦ subst (λ (n : Node). IsNearBox reduced (old.ids + 2) n.box) e both_near.0
    | inr j ↦ elim (contains_cons high_half_node other old.open_ j) [
      | inl e ↦ subst (λ (n : Node). IsNearBox reduced (old.ids + 2) n.box) e both_near.1
      | inr i ↦ nearer reduced old.ids (old.ids + 2) other.box (omega arith) (k.near other (contains_later (shown old node) other old.open_ i))
    ]
  ]

  module _ (logged : IsSearched new.integral new.root new.log) where
    followed : IsSearched reduced.integral (first_node reduced old.root.bound) (old.log ++ entry ∷ [])
    followed =
        subst (λ r. IsSearched reduced.integral r (old.log ++ entry ∷ [])) k.root
        (subst (λ i. IsSearched i old.root (old.log ++ entry ∷ [])) k.integral
        (subst (λ (t : Nodes). IsSearched t.integral t.root t.log) s.rest logged))

    can : CanSplit reduced.integral (shown old node) column at
    can = subst (λ i. CanSplit i (shown old node) column at) k.integral s.can

    halved : AreHalves (shown old node) column at low_half_node high_half_node
    halved = record { low_box = refl; high_box = refl; low_choices = refl; high_choices = refl; low_bound = refl; high_bound = refl }

    pub kept_split : IsKept program reduced way new held []
    kept_split =
        let state = state_of old held (shown old node ∷ []) in
        kept_same program reduced way split_tree new held [] s.rest
        (record {
          searched = ending.split program reduced way IsWideLeaf old.root.bound state (shown old node) low_half_node high_half_node [] new.open_ column at refl can halved s.nodes followed k.searched;
          as_given = giving.split program reduced way IsWideLeaf old.root.bound state (shown old node) low_half_node high_half_node [] new.open_ column at refl can halved s.nodes followed k.searched k.as_given;
          root = k.root;
          integral = k.integral;
          near = all_near;
        })

    pub boxes_split : HasGivenBoxes reduced old.root.bound (state_of old held (shown old node ∷ [])) → HasGivenBoxes reduced new.root.bound (state_of new held [])
    boxes_split b =
        let state = state_of old held (shown old node ∷ []) in
        subst (λ (t : Nodes). HasGivenBoxes reduced t.root.bound (state_of t held [])) (sym s.rest)
        (boxing.split program reduced way IsWideLeaf old.root.bound state (shown old node) low_half_node high_half_node [] new.open_ column at refl can halved s.nodes followed k.searched b)
