-- What is done in a reduced program, as it is seen in the program as read.
use Rattle.std.proofs.Common.{◌≡◌, inl, inr, ℕ, zero, suc, List, [], ◌∷◌, ◌++◌, length, take, Option, None, Some, refl, sym, ap, ◌∙◌, subst, arith}
use Rattle.std.specs.Prelude.{map}
use Rattle.std.proofs.lemmas.List.{map-append}
use Rattle.cip_rational.specs.Rational.{ℚ}
use Rattle.cip_problem.specs.Program.{Program}
use Rattle.cip_problem.specs.Log.{Entry, Node, node_of, AllFollow, matters}
use Rattle.cip_search.specs.Searched.{NoMore, first_node, nodes_given}
use Rattle.cip_search.specs.WideLeaf.{IsWideLeaf}
use Rattle.cip_search.specs.SearchState.{State, WayBack, all_nodes, IsSearch, IsAsGiven}
use Rattle.cip_search.specs.Endings.{IsLeastBound}
use Rattle.cip_search.proofs.Members.{mapped, of_mapped}
use Rattle.cip_search.specs.SeenLogs.{entry_seen, log_seen, with_box_of, node_seen, state_seen}
use Rattle.cip_search.specs.SeenStatements.{IsReducedTo, IsLogSeen, IsSeen}
use Rattle.cip_search.proofs.LogsSeen.{logs_are_seen}
use Rattle.cip_search.proofs.SeenEnds.{searches_are_seen}
use Rattle.cip_solve.specs.KeptNodes.{cost_held, state_of, AllMatter}
use Rattle.cip_solve.specs.FirstStops.{IsShortAt, IsFirstStop}
use Rattle.cip_solve.specs.Searching.{WasShortAt, WasShort, CanBeSeen}

-- ---- logs

pub length_seen : (kept : ℕ → ℕ) (log : List Entry) → length (log_seen kept log) ≡ length log
length_seen kept [] = refl
length_seen kept (entry ∷ log) = ap (λ n. suc n) (length_seen kept log)

pub none_seen : (kept : ℕ → ℕ) (log : List Entry) → log_seen kept log ≡ [] → log ≡ []
none_seen kept [] e = refl
none_seen kept (entry ∷ log) e = absurd (omega (arith, ap length e))

take_seen : (kept : ℕ → ℕ) (n : ℕ) (log : List Entry) → log_seen kept (take n log) ≡ take n (log_seen kept log)
take_seen kept zero log = refl
take_seen kept (suc n) [] = refl
take_seen kept (suc n) (entry ∷ log) = ap (λ l. entry_seen kept entry ∷ l) (take_seen kept n log)

-- ---- nodes

bound_with : (given : Option Node) (node : Node) → (with_box_of given node).bound ≡ node.bound
bound_with None node = refl
bound_with (Some given) node = refl

module _ (program : Program) (start : Option ℚ) (kept : ℕ → ℕ) (log : List Entry) where
  abbrev seen_in : Node → Node
  seen_in node = node_seen program start kept log node

  bound_seen : (node : Node) → (seen_in node).bound ≡ node.bound
  bound_seen node = bound_with (node_of (nodes_given program start (log_seen kept log)) node.number) node

  least_seen : (held : Option ℚ) (nodes : List Node) (bound : Option ℚ) → IsLeastBound held nodes bound → IsLeastBound held (map seen_in nodes) bound
  least_seen held nodes bound l = record {
    one = elim l.one [
      | inl a ↦ inl a
      | inr b ↦ inr (record { node = seen_in b.node; among = mapped seen_in nodes b.node b.among; is_bound = b.is_bound ∙ sym (bound_seen b.node) })
    ];
    cost = l.cost;
    each = λ node c.
        let f = of_mapped seen_in nodes node c in
        subst (λ (n : Node). NoMore bound n.bound) f.is (subst (NoMore bound) (sym (bound_seen f.from)) (l.each f.from f.among));
  }

  least_back : (held : Option ℚ) (nodes : List Node) (bound : Option ℚ) → IsLeastBound held (map seen_in nodes) bound → IsLeastBound held nodes bound
  least_back held nodes bound l = record {
    one = elim l.one [
      | inl a ↦ inl a
      | inr b ↦
          let f = of_mapped seen_in nodes b.node b.among in
          inr (record { node = f.from; among = f.among; is_bound = b.is_bound ∙ (ap (λ (n : Node). n.bound) (sym f.is) ∙ bound_seen f.from) })
    ];
    cost = l.cost;
    each = λ node c. subst (NoMore bound) (bound_seen node) (l.each (seen_in node) (mapped seen_in nodes node c));
  }

  matter_seen : (held : Option ℚ) (nodes : List Node) → AllMatter held nodes → AllMatter held (map seen_in nodes)
  matter_seen held nodes m node c =
      let f = of_mapped seen_in nodes node c in
      ap (λ (n : Node). matters held n.bound) (sym f.is) ∙ (ap (matters held) (bound_seen f.from) ∙ m f.from f.among)

module _ (program : Program) (start : Option ℚ) (kept : ℕ → ℕ) (state : State) where
  pub seen_idle : state.work ≡ [] → (state_seen program start kept state).work ≡ []
  seen_idle e = ap (λ (nodes : List Node). map (node_seen program start kept state.log) nodes) e

  all_seen : map (node_seen program start kept state.log) (all_nodes state) ≡ all_nodes (state_seen program start kept state)
  all_seen =
      let f = node_seen program start kept state.log in
      map-append f (state.work ++ state.open_) state.parked ∙ ap (λ l. l ++ map f state.parked) (map-append f state.work state.open_)

  pub seen_least : (bound : Option ℚ) → IsLeastBound state.held (all_nodes state) bound → IsLeastBound state.held (all_nodes (state_seen program start kept state)) bound
  seen_least bound l =
      subst (λ nodes. IsLeastBound state.held nodes bound) all_seen (least_seen program start kept state.log state.held (all_nodes state) bound l)

  pub least_unseen : (bound : Option ℚ) → IsLeastBound state.held (all_nodes (state_seen program start kept state)) bound → IsLeastBound state.held (all_nodes state) bound
  least_unseen bound l =
      least_back program start kept state.log state.held (all_nodes state) bound (subst (λ nodes. IsLeastBound state.held nodes bound) (sym all_seen) l)

-- ---- the laws

module _ (program reduced : Program) (kept : ℕ → ℕ) (start : Option ℚ) (c : CanBeSeen program reduced kept) where
  reduced_to : IsReducedTo program reduced c.post kept
  reduced_to = record { formed = c.formed; reduced_formed = c.left; pair = c.pair }

  pub log_law : (log : List Entry) → AllFollow reduced.integral (first_node reduced start ∷ []) [] log → IsLogSeen program reduced kept start log
  log_law log f = logs_are_seen program reduced c.post kept start log reduced_to f

  pub search_law : (way : WayBack) (state : State) → IsSearch program reduced way IsWideLeaf start state → IsSeen program reduced kept start state
  search_law way state s = searches_are_seen program reduced c.post kept way start state reduced_to s

-- ---- where it stood

module _ (program reduced : Program) (way : WayBack) (kept : ℕ → ℕ) (start asked : Option ℚ) (c : CanBeSeen program reduced kept) where
  short_seen : (log : List Entry) (n : ℕ) → WasShortAt program reduced way start asked log n → IsShortAt program start asked (log_seen kept log) n
  short_seen log n w =
      let state : State = state_of w.tree (cost_held w.holding) [] in
      let k = search_law program reduced kept start c way state (subst (λ b. IsSearch program reduced way IsWideLeaf b state) w.still.start_is w.still.kept.searched) in
      record {
        state = state_seen program start kept state;
        holding = w.holding;
        searched = k.searched;
        as_given = k.as_given (subst (λ b. IsAsGiven reduced b state) w.still.start_is w.still.kept.as_given);
        boxes = k.boxes;
        idle = refl;
        logged = ap (log_seen kept) w.logged ∙ take_seen kept n log;
        is_held = w.still.is_held;
        cost_is = refl;
        matter = matter_seen program start kept w.tree.log (cost_held w.holding) w.tree.open_ w.still.matter;
        short = λ r. w.short (record { bound = r.bound; least = least_unseen program start kept state r.bound r.least; reached = r.reached });
      }

  pub first_seen : (log : List Entry) → WasShort program reduced way start asked log → IsFirstStop program start asked (log_seen kept log)
  first_seen log s n p l = short_seen log n (s n p (omega (arith, l, length_seen kept log)))
