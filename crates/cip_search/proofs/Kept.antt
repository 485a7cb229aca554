-- Steps that add no entry to the log: nodes are regrouped, a node in work changes, a cheaper point is held, open nodes
-- are let go.
use Rattle.std.proofs.Common.{◌≡◌, inl, inr, ℕ, ◌≤◌, ◌==◌, Bool, true, false, cond, List, [], ◌∷◌, ◌++◌, map, filter, Option, Some, IfSome, Contains, refl, sym, ap, ◌∙◌, subst, arith}
use Rattle.std.specs.List.Sorted.{IsPermutation}
use Rattle.std.proofs.lemmas.List.Elements.{Contains-append_left, Contains-append_right, Contains-append_cases}
use Rattle.std.proofs.lemmas.List.Sums.{sum_by-cons, sum_by-append}
use Rattle.std.proofs.lemmas.List.Sorted.{Contains-permutation, IsPermutation-sym, IsPermutation-trans, IsPermutation-middle, IsPermutation-append_left, IsPermutation-append_right, sum_by-IsPermutation}
use Rattle.cip_rational.specs.Rational.{ℚ}
use Rattle.cip_problem.specs.Program.{Sides, Program}
use Rattle.cip_problem.specs.Box.{IsInBox}
use Rattle.cip_problem.specs.Log.{Entry, Node, node_of, matters}
use Rattle.cip_problem.specs.Improving.{HoldsInBox, IsBoundIn, IsNoDearer}
use Rattle.cip_problem.specs.Cover.{IsBounded, IsCover, IsReplacedBy}
use Rattle.cip_problem.proofs.Covers as covers
use Rattle.cip_problem.proofs.Improving.{fewer}
use Rattle.cip_problem.proofs.Log.Entering.{contains_here, contains_cons, contains_later}
use Rattle.cip_problem.proofs.Covers.{none_of_nothing, the_only}
use Rattle.cip_search.specs.Searched.{first_node, nodes_given, NoMore}
use Rattle.cip_search.specs.SearchState.{State, WayBack, IsWayBack, unended, all_nodes, IsGiven, IsAttained, IsSearch, IsAsGiven}
use Rattle.cip_search.proofs.Members.{kept_was_there, is_kept, hits, same_hits, fewer_hits}
use Rattle.cip_search.proofs.Bounds.{HoldsThere, no_more_itself, there_inside, there_later, at_point, matters_at, matters_before}
use Rattle.cip_search.proofs.OneMore.{node_of_among}
use Rattle.cip_search.proofs.Leading.{still_leads}
use Rattle.cip_search.proofs.Roots.{no_more}

-- ---- members

AreAmong : List Node → List Node → Type 0
AreAmong xs ys = (node : Node) → Contains xs node → Contains ys node

-- a cover is one by its members alone
pub same_cover : (program : Program) (held : Option ℚ) (xs ys : List Node) → ((node : Node) → Contains xs node → Contains ys node) → ((node : Node) → Contains ys node → Contains xs node) → IsCover program held xs → IsCover program held ys
same_cover program held xs ys f g c = record {
  reached = λ point i. let r = c.reached point i in record { node = r.node; among = f r.node r.among; within = r.within };
  bounded = λ node k. c.bounded node (g node k);
}

pub with_more : (xs ys more : List Node) → ((node : Node) → Contains xs node → Contains ys node) → (node : Node) → Contains (xs ++ more) node → Contains (ys ++ more) node
with_more xs ys more f node h = elim (Contains-append_cases xs more node h) [
  | inl k ↦ Contains-append_left ys more node (f node k)
  | inr k ↦ Contains-append_right ys more node k
]

pub behind_more : (more xs ys : List Node) → ((node : Node) → Contains xs node → Contains ys node) → (node : Node) → Contains (more ++ xs) node → Contains (more ++ ys) node
behind_more more xs ys f node h = elim (Contains-append_cases more xs node h) [
  | inl k ↦ Contains-append_left more ys node k
  | inr k ↦ Contains-append_right more ys node (f node k)
]

module _ (program reduced : Program) (way : WayBack) (Wide : Program → List ℚ → Type 0) (start : Option ℚ) where
  -- ---- nodes that haven't ended stand in another order

  pub regrouped : (state : State) (work open_ : List Node) → IsPermutation (unended state) (work ++ open_) → IsSearch program reduced way Wide start state → IsSearch program reduced way Wide start (record state { work = work; open_ = open_ })
  regrouped state work open_ p s =
      let forth : (node : Node) → Contains (unended state) node → Contains (work ++ open_) node = λ node c. Contains-permutation (unended state) (work ++ open_) node p c in
      let back : (node : Node) → Contains (work ++ open_) node → Contains (unended state) node = λ node c. Contains-permutation (work ++ open_) (unended state) node (IsPermutation-sym (unended state) (work ++ open_) p) c in
      record {
        back = s.back;
        attained = s.attained;
        cover = same_cover reduced state.held (all_nodes state) ((work ++ open_) ++ state.parked) (with_more (unended state) (work ++ open_) state.parked forth) (with_more (work ++ open_) (unended state) state.parked back) s.cover;
        logged = s.logged;
        given = λ node c. s.given node (with_more (work ++ open_) (unended state) state.parked back node c);
        unlogged = λ node c. s.unlogged node (back node c);
        apart = λ number. omega (arith, s.apart number, sum_by-IsPermutation (hits number) (unended state) (work ++ open_) p);
        parked = s.parked;
        stuck = s.stuck;
        bounds = s.bounds;
        entries = s.entries;
        complete = λ node l m. let h = s.complete node l m in record { node = h.node; among = forth h.node h.among; is = h.is };
      }

  pub taken : (state : State) (node : Node) (open_ : List Node) → IsPermutation state.open_ (node ∷ open_) → IsSearch program reduced way Wide start state → IsSearch program reduced way Wide start (record state { work = node ∷ state.work; open_ = open_ })
  taken state node open_ p s =
      regrouped state (node ∷ state.work) open_
      (IsPermutation-trans (unended state) (state.work ++ node ∷ open_) (node ∷ (state.work ++ open_))
      (IsPermutation-append_right state.work state.open_ (node ∷ open_) p) (IsPermutation-middle state.work node open_)) s

  pub put_back : (state : State) (node : Node) (work open_ : List Node) → state.work ≡ node ∷ work → IsPermutation (node ∷ state.open_) open_ → IsSearch program reduced way Wide start state → IsSearch program reduced way Wide start (record state { work = work; open_ = open_ })
  put_back state node work open_ e p s =
      regrouped state work open_
      (subst (λ w. IsPermutation (w ++ state.open_) (work ++ open_)) (sym e)
      (IsPermutation-trans (node ∷ (work ++ state.open_)) (work ++ node ∷ state.open_) (work ++ open_)
      (IsPermutation-sym (work ++ node ∷ state.open_) (node ∷ (work ++ state.open_)) (IsPermutation-middle work node state.open_))
      (IsPermutation-append_right work (node ∷ state.open_) open_ p))) s

  pub reordered : (state : State) (work open_ : List Node) → IsPermutation state.work work → IsPermutation state.open_ open_ → IsSearch program reduced way Wide start state → IsSearch program reduced way Wide start (record state { work = work; open_ = open_ })
  reordered state work open_ p q s =
      regrouped state work open_
      (IsPermutation-trans (unended state) (work ++ state.open_) (work ++ open_)
      (IsPermutation-append_left state.open_ state.work work p) (IsPermutation-append_right work state.open_ open_ q)) s

  -- ---- the first node in work changes

  changed_at : (held : Option ℚ) (node other : Node) (work open_ parked : List Node) (log : List Entry) → other.number ≡ node.number → IsReplacedBy reduced held node (other ∷ []) → (IsGiven reduced start log held node → IsGiven reduced start log held other)
      → IsSearch program reduced way Wide start (record { held = held; work = node ∷ work; open_ = open_; parked = parked; log = log })
      → IsSearch program reduced way Wide start (record { held = held; work = other ∷ work; open_ = open_; parked = parked; log = log })
  changed_at held node other work open_ parked log e r f s =
      let rest = (work ++ open_) ++ parked in
      record {
        back = s.back;
        attained = s.attained;
        cover = covers.cover_step reduced held node rest (other ∷ []) r s.cover;
        logged = s.logged;
        given = λ at c. elim (contains_cons other at rest c) [
          | inl k ↦ subst (IsGiven reduced start log held) k (f (s.given node (contains_here node rest)))
          | inr k ↦ s.given at (contains_later node at rest k)
        ];
        unlogged = λ at c. elim (contains_cons other at (work ++ open_) c) [
          | inl k ↦ subst (λ n. ¬ Contains (map (λ (entry : Entry). entry.node) log) n) (sym e ∙ ap (λ t. t.number) k) (s.unlogged node (contains_here node (work ++ open_)))
          | inr k ↦ s.unlogged at (contains_later node at (work ++ open_) k)
        ];
        apart = λ number. omega (arith, s.apart number, sum_by-cons (hits number) node (work ++ open_), sum_by-cons (hits number) other (work ++ open_), same_hits number other node e);
        parked = s.parked;
        stuck = s.stuck;
        bounds = s.bounds;
        entries = s.entries;
        complete = λ at l m. let h = s.complete at l m in elim (contains_cons node h.node (work ++ open_) h.among) [
          | inl k ↦ record { node = other; among = contains_here other (work ++ open_); is = e ∙ ap (λ t. t.number) k ∙ h.is }
          | inr k ↦ record { node = h.node; among = contains_later other h.node (work ++ open_) k; is = h.is }
        ];
      }

  -- of the first node in work the bounds hold
  first_bounded : (state : State) (node : Node) (work : List Node) → state.work ≡ node ∷ work → IsSearch program reduced way Wide start state → IsBounded reduced state.held node
  first_bounded state node work e s = s.cover.bounded node (subst (λ w. Contains ((w ++ state.open_) ++ state.parked) node) (sym e) (contains_here node ((work ++ state.open_) ++ state.parked)))

  changed : (state : State) (node other : Node) (work : List Node) → state.work ≡ node ∷ work → other.number ≡ node.number → IsReplacedBy reduced state.held node (other ∷ []) → (IsGiven reduced start state.log state.held node → IsGiven reduced start state.log state.held other) → IsSearch program reduced way Wide start state → IsSearch program reduced way Wide start (record state { work = other ∷ work })
  changed state node other work w e r f s = changed_at state.held node other work state.open_ state.parked state.log e r f (subst (λ t. IsSearch program reduced way Wide start (record state { work = t })) w s)

  pub raised : (state : State) (node : Node) (work : List Node) (b : ℚ) → state.work ≡ node ∷ work → IsBoundIn reduced state.held node.box b → NoMore node.bound (Some b) → IsSearch program reduced way Wide start state → IsSearch program reduced way Wide start (record state { work = record node { bound = Some b } ∷ work })
  raised state node work b w h l s =
      changed state node (record node { bound = Some b }) work w refl
      (covers.changed reduced state.held node (record node { bound = Some b }) (λ point i k. k) (λ k. h))
      (λ g. record { given = g.given; found = g.found; holds = g.holds; keeps = g.keeps; choices = g.choices; bound = no_more g.given.bound node.bound (Some b) g.bound l }) s

  -- the bound that the log gave holds in the node's box, too
  pub lowered : (state : State) (node : Node) (work : List Node) (bound : Option ℚ) → state.work ≡ node ∷ work → ((given : Node) → node_of (nodes_given reduced start state.log) node.number ≡ Some given → bound ≡ given.bound) → IsSearch program reduced way Wide start state → IsSearch program reduced way Wide start (record state { work = record node { bound = bound } ∷ work })
  lowered state node work bound w f s =
      let g = s.given node (subst (λ t. Contains ((t ++ state.open_) ++ state.parked) node) (sym w) (contains_here node ((work ++ state.open_) ++ state.parked))) in
      let same : bound ≡ g.given.bound = f g.given g.found in
      let there : HoldsThere reduced state.held bound node.box = subst (λ b. HoldsThere reduced state.held b node.box) (sym same) (there_inside reduced state.held g.given.bound g.given.box node.box (λ point i c. g.holds point c) (s.bounds node.number g.given g.found)) in
      changed state node (record node { bound = bound }) work w refl
      (covers.changed reduced state.held node (record node { bound = bound }) (λ point i k. k) (λ k. there))
      (λ h. record { given = h.given; found = h.found; holds = h.holds; keeps = h.keeps; choices = h.choices; bound = subst (NoMore h.given.bound) (sym (f h.given h.found)) (no_more_itself h.given.bound) }) s

  pub tightened : (state : State) (node : Node) (work : List Node) (box : List Sides) → state.work ≡ node ∷ work → ((point : List ℚ) → IsInBox box point → IsInBox node.box point) → HoldsInBox reduced state.held node.box (IsInBox box) → IsSearch program reduced way Wide start state → IsSearch program reduced way Wide start (record state { work = record node { box = box } ∷ work })
  tightened state node work box w f h s =
      changed state node (record node { box = box }) work w refl
      (covers.changed reduced state.held node (record node { box = box }) h (λ k. there_inside reduced state.held node.bound node.box box (λ point i c. f point c) k))
      (λ g. record { given = g.given; found = g.found; holds = λ point k. g.holds point (f point k); keeps = λ point i k. h point i (g.keeps point i k); choices = g.choices; bound = g.bound }) s

  -- ---- a cheaper point is held

  pub offered : (state : State) (cost : ℚ) → IsAttained program cost → IsNoDearer (Some cost) state.held → IsSearch program reduced way Wide start state → IsSearch program reduced way Wide start (record state { held = Some cost })
  offered state cost a l s = record {
    back = s.back;
    attained = a;
    cover = covers.cover_later reduced (Some cost) state.held (all_nodes state) l s.cover;
    logged = s.logged;
    given = λ node c. let g = s.given node c in record { given = g.given; found = g.found; holds = g.holds; keeps = λ point i k. g.keeps point (fewer reduced (Some cost) state.held point l i) k; choices = g.choices; bound = g.bound };
    unlogged = s.unlogged;
    apart = s.apart;
    parked = s.parked;
    stuck = λ node c. still_leads program reduced Wide (Some cost) state.held node l (s.stuck node c);
    bounds = λ number node e. there_later reduced (Some cost) state.held node.bound node.box l (s.bounds number node e);
    entries = λ entry node c e. let r = s.entries entry node c e in record { kept = r.kept; holds = there_later reduced (Some cost) state.held entry.bound node.box l r.holds };
    complete = λ node k m. s.complete node k (matters_before (Some cost) state.held node.bound l m);
  }

  -- ---- open nodes are let go

  pub closed_from : (state : State) (open_ : List Node) (stays : Node → Bool) → ((node : Node) → stays node ≡ matters state.held node.bound) → IsPermutation (filter stays state.open_) open_ → IsAsGiven reduced start state → IsSearch program reduced way Wide start state → IsSearch program reduced way Wide start (record state { open_ = open_ })
  closed_from state open_ stays says p as_given s =
      let left : (node : Node) → Contains open_ node → Contains state.open_ node = λ node c. kept_was_there stays state.open_ node (Contains-permutation open_ (filter stays state.open_) node (IsPermutation-sym (filter stays state.open_) open_ p) c) in
      let back : (node : Node) → Contains (state.work ++ open_) node → Contains (unended state) node = behind_more state.work open_ state.open_ left in
      let forth : (node : Node) → matters state.held node.bound ≡ true → Contains (unended state) node → Contains (state.work ++ open_) node =
      λ node m c. elim (Contains-append_cases state.work state.open_ node c) [
        | inl k ↦ Contains-append_left state.work open_ node k
        | inr k ↦ Contains-append_right state.work open_ node (Contains-permutation (filter stays state.open_) open_ node p (is_kept stays state.open_ node k (says node ∙ m)))
      ] in
      record {
        back = s.back;
        attained = s.attained;
        cover = record {
          reached = λ point i.
              let r = s.cover.reached point i in
              let m : matters state.held r.node.bound ≡ true = matters_at reduced state.held r.node.bound point i (at_point reduced state.held r.node.bound r.node.box point (s.cover.bounded r.node r.among) i r.within) in
              record {
                node = r.node;
                among = elim (Contains-append_cases (unended state) state.parked r.node r.among) [
                  | inl k ↦ Contains-append_left (state.work ++ open_) state.parked r.node (forth r.node m k)
                  | inr k ↦ Contains-append_right (state.work ++ open_) state.parked r.node k
                ];
                within = r.within;
              };
          bounded = λ node c. s.cover.bounded node (with_more (state.work ++ open_) (unended state) state.parked back node c);
        };
        logged = s.logged;
        given = λ node c. s.given node (with_more (state.work ++ open_) (unended state) state.parked back node c);
        unlogged = λ node c. s.unlogged node (back node c);
        apart = λ number. omega (
          arith,
          s.apart number,
          sum_by-append (hits number) state.work state.open_,
          sum_by-append (hits number) state.work open_,
          sum_by-IsPermutation (hits number) (filter stays state.open_) open_ p,
          fewer_hits number stays state.open_,
        );
        parked = s.parked;
        stuck = s.stuck;
        bounds = s.bounds;
        entries = s.entries;
        complete = λ node l m.
            let h = s.complete node l m in
            record {
              node = h.node;
              among = elim (Contains-append_cases state.work state.open_ h.node h.among) [
                | inl k ↦ Contains-append_left state.work open_ h.node k
                | inr k ↦
                    let same : h.node.bound ≡ node.bound = as_given.bounds h.node node k (ap (node_of (nodes_given reduced start state.log)) h.is ∙ l.given) in
                    Contains-append_right state.work open_ h.node (Contains-permutation (filter stays state.open_) open_ h.node p (is_kept stays state.open_ h.node k (says h.node ∙ ap (matters state.held) same ∙ m)))
              ];
              is = h.is;
            };
      }

  -- ---- a search begins

  only_first : (number : ℕ) (node : Node) → node_of (first_node reduced start ∷ []) number ≡ Some node → first_node reduced start ≡ node
  only_first number node e = the_only (first_node reduced start) node (node_of_among (first_node reduced start ∷ []) number node e).0

  pub begun : (held : Option ℚ) → IsWayBack program reduced way → IfSome held (IsAttained program) → IfSome start (IsBoundIn reduced held reduced.bounds) → IsSearch program reduced way Wide start (record { held = held; work = []; open_ = first_node reduced start ∷ []; parked = []; log = [] })
  begun held w a b =
      let first = first_node reduced start in
      record {
        back = w;
        attained = a;
        cover = record {
          reached = λ point i. record { node = first; among = contains_here first []; within = i.feasible.within };
          bounded = λ node c. subst (λ n. IsBounded reduced held n) (the_only first node c) b;
        };
        logged = tt;
        given = λ node c. subst (IsGiven reduced start [] held) (the_only first node c) (let g : IsGiven reduced start [] held first = record { given = first; found = refl; holds = λ point k. k; keeps = λ point i k. k; choices = refl; bound = no_more_itself start } in g);
        unlogged = λ node c h. none_of_nothing node.number h;
        apart = λ number. omega (arith, sum_by-cons (hits number) first [], at_most_one (0 == number));
        parked = refl;
        stuck = λ node c. absurd (none_of_nothing node c);
        bounds = λ number node e. subst (λ n. IfSome n.bound (IsBoundIn reduced held n.box)) (only_first number node e) b;
        entries = λ entry node c e. absurd (none_of_nothing entry c);
        complete = λ node l m. record { node = first; among = contains_here first []; is = ap (λ t. t.number) (only_first node.number node l.given) };
      }
    where
      at_most_one : (t : Bool) → cond t 1 0 ≤ 1
      at_most_one true = omega arith
      at_most_one false = omega arith
