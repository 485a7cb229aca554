-- What steps of the tree and of the point held leave of a core.
use Rattle.std.proofs.Common.{◌≡◌, inr, ℕ, zero, suc, ◌+◌, ◌-◌, length, drop, ◌≤◌, ℤ, Bool, true, false, List, [], ◌∷◌, ◌++◌, filter, Option, None, Some, Contains, MatchOption, refl, sym, ap, ◌∙◌, subst, arith}
use Rattle.std.specs.List.Sorted.{IsPermutation}
use Rattle.std.proofs.lemmas.List.Sorted.{Contains-permutation, IsPermutation-sym}
use Rattle.cip_rational.specs.Rational.{ℚ, IsWhole}
use Rattle.cip_problem.specs.Program.{Row, Program}
use Rattle.cip_problem.specs.WellFormed.{IsWellFormed, columns}
use Rattle.cip_problem.specs.Log.{End, Node, Split, Closed, Parked, matters}
use Rattle.cip_problem.specs.Cuts.{HasWholeCosts}
use Rattle.cip_problem.specs.Improving.{IsBoundIn, HasNoImproving, IsNoDearer}
use Rattle.cip_problem.proofs.Log.Entering.{contains_here, contains_later}
use Rattle.cip_rows.proofs.ValidPools.{last_valid, later_valid}
use Rattle.cip_domain.proofs.Boxes.{length-narrowed}
use Rattle.cip_cert.specs.declared.rows.PoolRow.{PoolRow}
use Rattle.cip_search.specs.WideLeaf.{IsWideLeaf}
use Rattle.cip_search.specs.Searched.{NoMore}
use Rattle.cip_search.specs.SearchState.{IsStuck, HasGivenBoxes}
use Rattle.cip_search.proofs.Members.{is_kept, kept_passes}
use Rattle.cip_search.proofs.GivenBoxes as boxing
use Rattle.cip_incumbent.specs.HeldPoint.{Holding}
use Rattle.cip_tree.specs.Nodes.{Nodes, TakenNode, base_at, node_changes, region_in, region_of, box_of, shown}
use Rattle.cip_tree.specs.Moves.{TakesFirst, IsSplit, is_cheaper}
use Rattle.cip_tree.specs.Searched.{IsSearched}
use Rattle.cip_domain.specs.Changes.{Region}
use Rattle.cip_rows.specs.RowPools.{Pool, kept_pool_rows}
use Rattle.cip_core.specs.CutoffRow.{cutoff_side, with_high}
use Rattle.cip_core.specs.CoreStates.{CoreState, reduced_of, way_of, held_of, IsSound, IsFitted, IsKeptIn, IsTakenUp, IsAtWork, IsGivenBound}
use Rattle.cip_core.specs.KeptNodes.{cost_held, state_of, farthest, IsKept, AllMatter, IsHolding}
use Rattle.cip_core.specs.Later.{IsLater, IsNarrower, IsLaterAt}
use Rattle.cip_core.specs.SplitPlaces.{IsSplitPlace}
use Rattle.cip_core.specs.Steps.{LeavesEntry, HasLeft, IsBack, IsTrimmedAt, IsTrimmed, aged}
use Rattle.cip_core.proofs.KeptSteps.{kept_closed, kept_pruned, kept_parked, kept_taken, kept_raised, kept_lowered, kept_back, kept_let_go, kept_split, boxes_split, shown_same, cheaper_matters}
use Rattle.cip_core.proofs.HeldAfter.{itself}
use Rattle.cip_core.proofs.Relations.{narrower_itself}

-- a core with another tree
abbrev pub with_tree : CoreState → Nodes → CoreState
with_tree core tree = record core { tree = tree }

-- what holds over a tree holds over one that is the same
kept_in_same : (core : CoreState) (tree other : Nodes) (work : List Node) → tree ≡ other → IsKeptIn (with_tree core other) work → IsKeptIn (with_tree core tree) work
kept_in_same core tree other work e k = subst (λ t. IsKeptIn (with_tree core t) work) (sym e) k

-- the tree of a core is one whose root, columns and numbers are the same
later_tree : (core : CoreState) (tree : Nodes) → tree.root ≡ core.tree.root → tree.integral ≡ core.tree.integral → core.tree.ids ≤ tree.ids → IsLater core (with_tree core tree)
later_tree core tree r i n = record {
  program = refl;
  reduced = refl;
  steps = refl;
  root = r;
  integral = i;
  ids = n;
  no_dearer = itself (held_of core);
  untouched = λ e. e;
}

-- ---- nodes are taken up

pub taken_up : (core : CoreState) (tree : Nodes) (node : TakenNode) → TakesFirst core.tree tree node → IsKeptIn core [] → IsTakenUp (with_tree core tree) node
taken_up core tree node t k =
    let old = core.tree in
    let now : Nodes = record old { open_ = tree.open_; taken = tree.taken } in
    let state = state_of old (held_of core) [] in
    record {
      nodes = kept_in_same core tree now (shown tree node ∷ []) t.rest (record {
        kept = kept_taken core.program (reduced_of core) (way_of core) old now (held_of core) (shown tree node) tree.open_ tree.taken refl t.nodes k.kept;
        matter = λ other c. k.matter other (Contains-permutation (shown tree node ∷ tree.open_) old.open_ other (IsPermutation-sym old.open_ (shown tree node ∷ tree.open_) t.nodes) (contains_later (shown tree node) other tree.open_ c));
        boxes = λ u. boxing.taken (reduced_of core) old.root.bound state (shown tree node) tree.open_ t.nodes (k.boxes u);
      });
      taken = t.taken;
    }

-- its bound is the one that the log gave it
pub taken_given : (core : CoreState) (tree : Nodes) (node : TakenNode) → TakesFirst core.tree tree node → IsKeptIn core [] → IsGivenBound (with_tree core tree) node.number node.bound
taken_given core tree node t k =
    subst (λ (t : Nodes). IsGivenBound (with_tree core t) node.number node.bound) (sym t.rest)
    (λ given e. k.kept.as_given.bounds (shown tree node) given (Contains-permutation (shown tree node ∷ tree.open_) core.tree.open_ (shown tree node) (IsPermutation-sym core.tree.open_ (shown tree node ∷ tree.open_) t.nodes) (contains_here (shown tree node) tree.open_)) e)

pub took : (core : CoreState) (tree : Nodes) (node : Option TakenNode) → MatchOption node ((core.tree.open_ ≡ []) × (tree ≡ core.tree)) (TakesFirst core.tree tree) → IsKeptIn core [] → MatchOption node (IsKeptIn (with_tree core tree) []) (IsTakenUp (with_tree core tree))
took core tree None h k = kept_in_same core tree core.tree [] h.1 k
took core tree (Some node) h k = taken_up core tree node h k

pub took_given : (core : CoreState) (tree : Nodes) (node : Option TakenNode) → MatchOption node ((core.tree.open_ ≡ []) × (tree ≡ core.tree)) (TakesFirst core.tree tree) → IsKeptIn core [] → MatchOption node (IsKeptIn (with_tree core tree) []) (λ node. IsGivenBound (with_tree core tree) node.number node.bound)
took_given core tree None h k = kept_in_same core tree core.tree [] h.1 k
took_given core tree (Some node) h k = taken_given core tree node h k

-- ---- nodes end

module _ (core : CoreState) (node : TakenNode) (tree : Nodes) (up : IsTakenUp core node) where
  abbrev work : Node
  work = shown core.tree node

  abbrev closed_tree : Nodes
  closed_tree = record core.tree { taken = tree.taken; log = core.tree.log ++ record { node = node.number; bound = node.bound; end = Closed } ∷ [] }

  abbrev parked_tree : Nodes
  parked_tree = record core.tree {
    parked = core.tree.parked ++ work ∷ [];
    taken = tree.taken;
    log = core.tree.log ++ record { node = node.number; bound = node.bound; end = Parked } ∷ [];
  }

  left_same : (other : Nodes) (end : End) → tree ≡ other → HasLeft core (with_tree core other) node end → HasLeft core (with_tree core tree) node end
  left_same other end e h = subst (λ t. HasLeft core (with_tree core t) node end) (sym e) h

  pub left_empty : tree ≡ closed_tree → HasNoImproving (reduced_of core) (held_of core) (box_of core.tree node) → HasLeft core (with_tree core tree) node Closed
  left_empty e h = left_same closed_tree Closed e (record {
    entry = record { logged = refl; parked = refl };
    kept = record {
      kept = kept_closed core.program (reduced_of core) (way_of core) core.tree closed_tree (held_of core) work tree.taken refl h up.nodes.kept;
      matter = up.nodes.matter;
      boxes = λ u. boxing.closed core.program (reduced_of core) (way_of core) IsWideLeaf core.tree.root.bound (state_of core.tree (held_of core) (work ∷ [])) work [] refl up.nodes.kept.searched (up.nodes.boxes u);
    };
    later = later_tree core closed_tree refl refl (omega arith);
    few = omega arith;
  })

  pub left_pruned : tree ≡ closed_tree → matters (held_of core) node.bound ≡ false → HasLeft core (with_tree core tree) node Closed
  left_pruned e h = left_same closed_tree Closed e (record {
    entry = record { logged = refl; parked = refl };
    kept = record {
      kept = kept_pruned core.program (reduced_of core) (way_of core) core.tree closed_tree (held_of core) work tree.taken refl h up.nodes.kept;
      matter = up.nodes.matter;
      boxes = λ u. boxing.closed core.program (reduced_of core) (way_of core) IsWideLeaf core.tree.root.bound (state_of core.tree (held_of core) (work ∷ [])) work [] refl up.nodes.kept.searched (up.nodes.boxes u);
    };
    later = later_tree core closed_tree refl refl (omega arith);
    few = omega arith;
  })

  pub left_parked : tree ≡ parked_tree → IsStuck core.program (reduced_of core) (way_of core) IsWideLeaf work → HasLeft core (with_tree core tree) node Parked
  left_parked e h = left_same parked_tree Parked e (record {
    entry = record { logged = refl; parked = refl };
    kept = record {
      kept = kept_parked core.program (reduced_of core) (way_of core) core.tree parked_tree (held_of core) work tree.taken refl h up.nodes.kept;
      matter = up.nodes.matter;
      boxes = λ u. boxing.parked core.program (reduced_of core) (way_of core) IsWideLeaf core.tree.root.bound (state_of core.tree (held_of core) (work ∷ [])) work [] refl up.nodes.kept.searched (up.nodes.boxes u);
    };
    later = later_tree core parked_tree refl refl (omega arith);
    few = omega arith;
  })

  pub endless_entry : tree ≡ parked_tree → LeavesEntry core.tree tree work Parked
  endless_entry e = record { logged = ap (λ (t : Nodes). t.log) e; parked = ap (λ (t : Nodes). t.parked) e }

  pub endless_later : tree ≡ parked_tree → IsLater core (with_tree core tree)
  endless_later e = later_tree core tree (ap (λ (t : Nodes). t.root) e) (ap (λ (t : Nodes). t.integral) e) (omega (arith, ap (λ (t : Nodes). t.ids) e))

-- ---- open nodes are let go

-- what is left of the open nodes matters
module _ (old new : Nodes) (cost : ℚ) (t : IsTrimmedAt old new cost) where
  was_open : (node : Node) → Contains new.open_ node → Contains (filter (is_cheaper cost) old.open_) node
  was_open node c = Contains-permutation new.open_ (filter (is_cheaper cost) old.open_) node (IsPermutation-sym (filter (is_cheaper cost) old.open_) new.open_ t.nodes) c

  left_matter : AllMatter (Some cost) new.open_
  left_matter node c = sym (cheaper_matters cost node node.bound) ∙ kept_passes (is_cheaper cost) old.open_ node (was_open node c)

  still_open : (node : Node) → Contains old.open_ node → matters (Some cost) node.bound ≡ true → Contains new.open_ node
  still_open node c m = Contains-permutation (filter (is_cheaper cost) old.open_) new.open_ node t.nodes (is_kept (is_cheaper cost) old.open_ node c (cheaper_matters cost node node.bound ∙ m))

-- what letting go leaves the same
module _ (old new : Nodes) where
  pub trimmed_is : (held : Option ℚ) → IsTrimmed old new held → new ≡ record old { open_ = new.open_; taken = new.taken }
  trimmed_is None t = t ∙ sym (subst (λ (n : Nodes). record old { open_ = n.open_; taken = n.taken } ≡ old) (sym t) refl)
  trimmed_is (Some cost) t = t.rest

  pub trimmed_base : (held : Option ℚ) (place : ℕ) → IsTrimmed old new held → base_at new place ≡ base_at old place
  trimmed_base None place t = ap (λ (n : Nodes). base_at n place) t
  trimmed_base (Some cost) place t = t.taken place

  pub trimmed_matter : (held : Option ℚ) → IsTrimmed old new held → AllMatter held new.open_
  trimmed_matter None t = λ node c. refl
  trimmed_matter (Some cost) t = left_matter old new cost t

  pub trimmed_open : (held : Option ℚ) (node : Node) → IsTrimmed old new held → Contains old.open_ node → matters held node.bound ≡ true → Contains new.open_ node
  trimmed_open None node t c m = subst (λ (n : Nodes). Contains n.open_ node) (sym t) c
  trimmed_open (Some cost) node t c m = still_open old new cost t node c m

  pub trimmed_idle : (reduced : Program) (held : Option ℚ) → IsTrimmed old new held → HasGivenBoxes reduced old.root.bound (state_of old held []) → HasGivenBoxes reduced new.root.bound (state_of new held [])
  trimmed_idle reduced None t b = subst (λ (n : Nodes). HasGivenBoxes reduced n.root.bound (state_of n None [])) (sym t) b
  trimmed_idle reduced (Some cost) t b =
      subst (λ (n : Nodes). HasGivenBoxes reduced n.root.bound (state_of n (Some cost) [])) (sym t.rest)
      (boxing.closed_from reduced old.root.bound (state_of old (Some cost) []) new.open_ (is_cheaper cost) t.nodes b)

  pub trimmed_boxes : (reduced : Program) (held before : Option ℚ) (node now : Node) → now ≡ node → IsTrimmed old new held → HasGivenBoxes reduced old.root.bound (state_of old before (node ∷ [])) → HasGivenBoxes reduced new.root.bound (state_of new held (now ∷ []))
  trimmed_boxes reduced None before node now e t b =
      subst (λ n. HasGivenBoxes reduced new.root.bound (state_of new None (n ∷ []))) (sym e)
      (subst (λ (n : Nodes). HasGivenBoxes reduced n.root.bound (state_of n None (node ∷ []))) (sym t)
      (boxing.offered reduced old.root.bound (state_of old before (node ∷ [])) None b))
  trimmed_boxes reduced (Some cost) before node now e t b =
      subst (λ n. HasGivenBoxes reduced new.root.bound (state_of new (Some cost) (n ∷ []))) (sym e)
      (subst (λ (n : Nodes). HasGivenBoxes reduced n.root.bound (state_of n (Some cost) (node ∷ []))) (sym t.rest)
      (boxing.closed_from reduced old.root.bound (state_of old (Some cost) (node ∷ [])) new.open_ (is_cheaper cost) t.nodes
      (boxing.offered reduced old.root.bound (state_of old before (node ∷ [])) (Some cost) b)))

  pub trimmed_kept : (program reduced : Program) (core : CoreState) (held : Option ℚ) (work : List Node) → IsTrimmed old new held → IsKept program reduced (way_of core) old held work → IsKept program reduced (way_of core) new held work
  trimmed_kept program reduced core None work t k = subst (λ n. IsKept program reduced (way_of core) n None work) (sym t) k
  trimmed_kept program reduced core (Some cost) work t k = kept_let_go program reduced (way_of core) old new cost work new.open_ new.taken t.rest t.nodes k

-- ---- a point is offered

-- open nodes are let go beside what is held now, while a node is in work
module _ (core : CoreState) (node : TakenNode) (holding : Holding) (tree : Nodes) (at_work : IsAtWork core node) (d : IsNoDearer (cost_held holding) (held_of core)) (t : IsTrimmed core.tree tree (cost_held holding)) where
  abbrev now : CoreState
  now = record core { tree = tree; incumbent = holding }

  same_tree : tree ≡ record core.tree { open_ = tree.open_; taken = tree.taken }
  same_tree = trimmed_is core.tree tree (cost_held holding) t

  abbrev root_same : tree.root ≡ core.tree.root
  root_same = ap (λ (n : Nodes). n.root) same_tree

  pub shown_there : shown tree node ≡ shown core.tree node
  shown_there = shown_same core.tree tree node (trimmed_base core.tree tree (cost_held holding) node.place t) root_same

  regions_there : region_of tree node ≡ region_of core.tree node
  regions_there = ap region_in shown_there

  boxes_there : HasGivenBoxes (reduced_of core) core.tree.root.bound (state_of core.tree (held_of core) (shown core.tree node ∷ [])) → HasGivenBoxes (reduced_of core) tree.root.bound (state_of tree (cost_held holding) (shown tree node ∷ []))
  boxes_there b = trimmed_boxes core.tree tree (reduced_of core) (cost_held holding) (held_of core) (shown core.tree node) (shown tree node) shown_there t b

  module _ (k : IsKept core.program (reduced_of core) (way_of core) core.tree (cost_held holding) (shown core.tree node ∷ [])) where
    kept_there : IsKept core.program (reduced_of core) (way_of core) tree (cost_held holding) (shown tree node ∷ [])
    kept_there = subst (λ n. IsKept core.program (reduced_of core) (way_of core) tree (cost_held holding) (n ∷ [])) (sym shown_there) (trimmed_kept core.tree tree core.program (reduced_of core) core (cost_held holding) (shown core.tree node ∷ []) t k)

    pub later_offered : IsLaterAt core node now node
    later_offered = record {
      later = record {
        program = refl;
        reduced = refl;
        steps = refl;
        root = root_same;
        integral = ap (λ (n : Nodes). n.integral) same_tree;
        ids = omega (arith, ap (λ (n : Nodes). n.ids) same_tree);
        no_dearer = d;
        untouched = λ e. e;
      };
      at_work = record {
        up = record {
          nodes = record {
            kept = kept_there;
            matter = trimmed_matter core.tree tree (cost_held holding) t;
            boxes = λ u. boxes_there (at_work.up.nodes.boxes u);
          };
          taken = record { base = at_work.up.taken.base; found = trimmed_base core.tree tree (cost_held holding) node.place t ∙ at_work.up.taken.found; same = at_work.up.taken.same };
        };
        region = ap (λ (n : Nodes). n.work) same_tree ∙ at_work.region ∙ sym regions_there;
      };
      narrower = subst (IsNarrower now (shown core.tree node)) (sym shown_there) (narrower_itself now (shown core.tree node));
      log = ap (λ (n : Nodes). n.log) same_tree;
      parked = ap (λ (n : Nodes). n.parked) same_tree;
      ids = ap (λ (n : Nodes). n.ids) same_tree;
      same = λ u. regions_there;
    }

-- ---- a bound rises

module _ (core : CoreState) (node : TakenNode) (b : ℚ) (at_work : IsAtWork core node) (holds : IsBoundIn (reduced_of core) (held_of core) (box_of core.tree node) b) (weaker : NoMore node.bound (Some b)) (whole : HasWholeCosts (reduced_of core) → IsWhole b) where
  abbrev raised : TakenNode
  raised = record node { bound = Some b }

  pub later_raised : IsLaterAt core node core raised
  later_raised = record {
    later = later_tree core core.tree refl refl (omega arith);
    at_work = record {
      up = record {
        nodes = record {
          kept = kept_raised core.program (reduced_of core) (way_of core) core.tree (held_of core) (shown core.tree node) b holds weaker at_work.up.nodes.kept;
          matter = at_work.up.nodes.matter;
          boxes = λ u. boxing.raised (reduced_of core) core.tree.root.bound (state_of core.tree (held_of core) (shown core.tree node ∷ [])) (shown core.tree node) [] (Some b) refl (at_work.up.nodes.boxes u);
        };
        taken = record { base = at_work.up.taken.base; found = at_work.up.taken.found; same = at_work.up.taken.same };
      };
      region = at_work.region;
    };
    narrower = record {
      number = refl;
      choices = refl;
      inside = λ point w. w;
      keeps = λ point i w. w;
      bound = weaker;
      whole = inr whole;
    };
    log = refl;
    parked = refl;
    ids = refl;
    same = λ u. refl;
  }

-- ---- a node goes back

-- with the bound that the log gave it; then open nodes that don't matter are let go
module _ (core : CoreState) (node : TakenNode) (bound : Option ℚ) (back tree : Nodes) (up : IsTakenUp core node) (given : IsGivenBound core node.number bound) (nodes : IsPermutation (shown core.tree (record node { bound = bound }) ∷ core.tree.open_) back.open_) (rest : back ≡ record core.tree { open_ = back.open_; taken = back.taken }) (t : IsTrimmed back tree (held_of core)) where
  abbrev restored : Node
  restored = shown core.tree (record node { bound = bound })

  abbrev back_tree : Nodes
  back_tree = record core.tree { open_ = back.open_; taken = back.taken }

  back_kept : IsKept core.program (reduced_of core) (way_of core) back (held_of core) []
  back_kept =
      subst (λ n. IsKept core.program (reduced_of core) (way_of core) n (held_of core) []) (sym rest)
      (kept_back core.program (reduced_of core) (way_of core) core.tree (held_of core) restored back.open_ back.taken given nodes
      (kept_lowered core.program (reduced_of core) (way_of core) core.tree (held_of core) (shown core.tree node) bound given up.nodes.kept))

  back_boxes : HasGivenBoxes (reduced_of core) core.tree.root.bound (state_of core.tree (held_of core) (shown core.tree node ∷ [])) → HasGivenBoxes (reduced_of core) back.root.bound (state_of back (held_of core) [])
  back_boxes b =
      subst (λ (n : Nodes). HasGivenBoxes (reduced_of core) n.root.bound (state_of n (held_of core) [])) (sym rest)
      (boxing.put_back (reduced_of core) core.tree.root.bound (state_of core.tree (held_of core) (restored ∷ [])) restored [] back.open_ refl nodes
      (boxing.raised (reduced_of core) core.tree.root.bound (state_of core.tree (held_of core) (shown core.tree node ∷ [])) (shown core.tree node) [] bound refl b))

  same_back : tree ≡ record back { open_ = tree.open_; taken = tree.taken }
  same_back = trimmed_is back tree (held_of core) t

  all_same : tree ≡ record core.tree { open_ = tree.open_; taken = tree.taken }
  all_same = same_back ∙ ap (λ (n : Nodes). record n { open_ = tree.open_; taken = tree.taken }) rest

  pub gone_back : IsBack core (with_tree core tree) node.number bound
  gone_back = record {
    kept = record {
      kept = trimmed_kept back tree core.program (reduced_of core) core (held_of core) [] t back_kept;
      matter = trimmed_matter back tree (held_of core) t;
      boxes = λ u. trimmed_idle back tree (reduced_of core) (held_of core) t (back_boxes (up.nodes.boxes u));
    };
    log = ap (λ (n : Nodes). n.log) all_same;
    parked = ap (λ (n : Nodes). n.parked) all_same;
    ids = ap (λ (n : Nodes). n.ids) all_same;
    later = later_tree core tree (ap (λ (n : Nodes). n.root) all_same) (ap (λ (n : Nodes). n.integral) all_same) (omega (arith, ap (λ (n : Nodes). n.ids) all_same));
    open_ = λ m. record {
      node = restored;
      among = trimmed_open back tree (held_of core) restored t (Contains-permutation (restored ∷ core.tree.open_) back.open_ restored nodes (contains_here restored core.tree.open_)) m;
      number_is = refl;
      bound_is = refl;
    };
  }

-- ---- a node is split

module _ (core : CoreState) (node : TakenNode) (column : ℕ) (at : ℤ) (low high : ℕ) (halved tree : Nodes) (up : IsTakenUp core node) (s : IsSplit core.tree halved node column at low high) (place : IsSplitPlace (reduced_of core).integral (region_of core.tree node) (farthest core.tree.ids + 1) column at) (logged : IsSearched halved.integral halved.root halved.log) (t : IsTrimmed halved tree (held_of core)) where
  abbrev halved_tree : Nodes
  halved_tree = record core.tree {
    open_ = halved.open_;
    taken = halved.taken;
    ids = core.tree.ids + 2;
    log = core.tree.log ++ record { node = node.number; bound = node.bound; end = Split column at low high } ∷ [];
  }

  same_halved : tree ≡ record halved_tree { open_ = tree.open_; taken = tree.taken }
  same_halved = trimmed_is halved tree (held_of core) t ∙ ap (λ (n : Nodes). record n { open_ = tree.open_; taken = tree.taken }) s.rest

  split_boxes : HasGivenBoxes (reduced_of core) core.tree.root.bound (state_of core.tree (held_of core) (shown core.tree node ∷ [])) → HasGivenBoxes (reduced_of core) halved.root.bound (state_of halved (held_of core) [])
  split_boxes b = boxes_split core.program (reduced_of core) (way_of core) core.tree halved (held_of core) node column at low high s up.nodes.kept place logged b

  pub split_off : HasLeft core (with_tree core tree) node (Split column at low high)
  split_off = record {
    entry = record { logged = ap (λ (n : Nodes). n.log) same_halved; parked = ap (λ (n : Nodes). n.parked) same_halved };
    kept = record {
      kept = trimmed_kept halved tree core.program (reduced_of core) core (held_of core) [] t (kept_split core.program (reduced_of core) (way_of core) core.tree halved (held_of core) node column at low high s up.nodes.kept place logged);
      matter = trimmed_matter halved tree (held_of core) t;
      boxes = λ u. trimmed_idle halved tree (reduced_of core) (held_of core) t (split_boxes (up.nodes.boxes u));
    };
    later = later_tree core tree (ap (λ (n : Nodes). n.root) same_halved) (ap (λ (n : Nodes). n.integral) same_halved) (omega (arith, ap (λ (n : Nodes). n.ids) same_halved));
    few = omega (arith, ap (λ (n : Nodes). n.ids) same_halved);
  }

-- ---- what is beside the nodes changes

-- a node in work stays so with another pool
pub up_aged : (core : CoreState) (pool : Pool) (node : TakenNode) → IsTakenUp core node → IsTakenUp (record core { pool = pool }) node
up_aged core pool node up = record {
  nodes = record { kept = up.nodes.kept; matter = up.nodes.matter; boxes = up.nodes.boxes };
  taken = up.taken;
}

-- and with another region in work
pub up_entered : (core : CoreState) (region : Region) (node : TakenNode) → IsTakenUp core node → IsTakenUp (with_tree core (record core.tree { work = region })) node
up_entered core region node up = record {
  nodes = record {
    kept = record { searched = up.nodes.kept.searched; as_given = up.nodes.kept.as_given; root = up.nodes.kept.root; integral = up.nodes.kept.integral; near = up.nodes.kept.near };
    matter = up.nodes.matter;
    boxes = up.nodes.boxes;
  };
  taken = record { base = up.taken.base; found = up.taken.found; same = up.taken.same };
}

-- the region in work has the program's columns, where it is a node's
pub work_long : (core : CoreState) (node : TakenNode) → IsWellFormed (reduced_of core) → IsAtWork core node → length core.tree.work.box ≡ columns (reduced_of core)
work_long core node formed w =
    ap (λ (r : Region). length r.box) w.region ∙ length-narrowed (region_in core.tree.root) (node_changes core.tree node)
    ∙ ap (λ (n : Node). length n.box) w.up.nodes.kept.root ∙ formed.bounds

-- ---- what holds always

drop_none : (n : ℕ) (rows : List PoolRow) → rows ≡ [] → drop n rows ≡ []
drop_none zero rows e = e
drop_none (suc n) [] e = refl
drop_none (suc n) (row ∷ rows) e = absurd (cc)

-- rows may go
pub sound_aged : (core : CoreState) → IsSound core → IsSound (record core { pool = aged core.pool })
sound_aged core s =
    let n = length core.pool.rows - kept_pool_rows in
    record {
      is_held = s.is_held;
      valid = last_valid (reduced_of core) (held_of core) core.pool.rows n s.valid;
      same = s.same;
      bare = λ u. drop_none n core.pool.rows (s.bare u);
      back = s.back;
    }

-- the point held may be cheaper
pub sound_offered : (core : CoreState) (tree : Nodes) (holding : Holding) → IsHolding core.program holding → IsNoDearer (cost_held holding) (held_of core) → IsSound core → IsSound (record core { tree = tree; incumbent = holding })
sound_offered core tree holding h d s = record {
  is_held = h;
  valid = later_valid (reduced_of core) (cost_held holding) (held_of core) core.pool.rows d s.valid;
  same = s.same;
  bare = s.bare;
  back = s.back;
}

pub fitted_offered : (program : Program) (held now : Option ℚ) (cutoff : Option Row) (whole_costs : Bool) (room : ℕ) → IsFitted program held cutoff whole_costs room → IsFitted program now (with_high cutoff (cutoff_side program now)) whole_costs room
fitted_offered program held now cutoff whole_costs room f = record {
  cutoff_is = ap (λ c. with_high c (cutoff_side program now)) f.cutoff_is;
  whole = f.whole;
  wide = f.wide;
}

-- the nodes may be others
pub sound_tree : (core : CoreState) (tree : Nodes) → IsSound core → IsSound (with_tree core tree)
sound_tree core tree s = record { is_held = s.is_held; valid = s.valid; same = s.same; bare = s.bare; back = s.back }
