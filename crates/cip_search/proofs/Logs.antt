-- What the log of a search says.
use Rattle.std.proofs.Common.{◌≡◌, ◌↔◌, inl, inr, ℕ, ◌*◌, ◌-◌, ◌<◌, ◌≤◌, max, true, false, List, [], ◌∷◌, ◌++◌, length, Option, None, Some, Contains, refl, sym, ap, ◌∙◌, subst, arith, length-append}
use Rattle.std.proofs.lemmas.Bool.{both_ways, cases_Bool}
use Rattle.std.proofs.lemmas.Option.{same_Some}
use Rattle.std.proofs.lemmas.List.Elements.{Contains-append_left, Contains-append_right, Contains-append_cases}
use Rattle.cip_rational.specs.Rational.{ℚ, lt_test}
use Rattle.cip_rational.proofs.Rational.Order.{le_or_lt, test_of_lt}
use Rattle.cip_problem.specs.Program.{Program}
use Rattle.cip_problem.specs.Log.{Closed, Parked, Entry, Node, root, leaf_count, node_of, IsLog, matters}
use Rattle.cip_problem.proofs.Log.Length.{log_is_short}
use Rattle.cip_problem.proofs.Log.Entering.{follow_more}
use Rattle.cip_problem.proofs.Covers.{none_of_nothing}
use Rattle.cip_search.specs.Leaf.{Leaf}
use Rattle.cip_search.specs.Wide.{IsWide}
use Rattle.cip_search.specs.Searched.{first_node, nodes_given, IsLeftOpen, OpenMatters, ParkedMatters, NoMore, IsOneOf, IsLeast, IsCovered, AreTrueEntries, LeadsTo}
use Rattle.cip_search.specs.SearchState.{State, WayBack, stay, unended, all_nodes, HasNoEntry, IsGiven, parked_entry, is_parked_end, LeadsBackTo, IsSearch, IsAsGiven}
use Rattle.cip_search.specs.Endings.{OneMatters, IsBoundOfOne, IsLeastBound}
use Rattle.cip_search.specs.Statements.{EntriesAreTrue}
use Rattle.cip_search.proofs.Members.{kept_was_there, is_kept, mapped, ComesFrom, of_mapped}
use Rattle.cip_search.proofs.Alike as alike
use Rattle.cip_search.proofs.OneMore.{node_of_among}
use Rattle.cip_search.proofs.Roots.{no_more}

-- a bound that doesn't matter is no less than the cost held
not_below : (held bound other : Option ℚ) → ((cost : ℚ) → held ≡ Some cost → NoMore bound (Some cost)) → matters held other ≡ false → NoMore bound other
not_below None bound other f e = absurd (let g : true ≡ false = e in cc)
not_below (Some cost) bound None f e = absurd (let g : true ≡ false = e in cc)
not_below (Some cost) bound (Some b) f e = no_more bound (Some cost) (Some b) (f cost refl) (elim (le_or_lt cost b) [
  | inl l ↦ l
  | inr l ↦ absurd (both_ways (lt_test b cost) e (test_of_lt l))
])

module _ (program reduced : Program) (way : WayBack) (Wide : Program → List ℚ → Type 0) (start : Option ℚ) where
  pub is_log : (state : State) → IsSearch program reduced way Wide start state → IsLog reduced state.log
  is_log state s = alike.is_log reduced start state.log s.logged

  module _ (state : State) (s : IsSearch program reduced way Wide start state) where
    abbrev given_nodes : List Node
    given_nodes = nodes_given reduced start state.log

    -- a node that has not ended, as the log gave it, is open
    same_number : (node : Node) (g : IsGiven reduced start state.log state.held node) → g.given.number ≡ node.number
    same_number node g = (node_of_among given_nodes node.number g.given g.found).1

    is_left : (node : Node) → Contains (unended state) node → (g : IsGiven reduced start state.log state.held node) → IsLeftOpen reduced start state.log g.given
    is_left node c g = record {
      given = ap (node_of given_nodes) (same_number node g) ∙ g.found;
      not_taken = subst (HasNoEntry state.log) (sym (same_number node g)) (s.unlogged node c);
    }

    unended_given : (node : Node) → Contains (unended state) node → IsGiven reduced start state.log state.held node
    unended_given node c = s.given node (Contains-append_left (unended state) state.parked node c)

    parked_given : (node : Node) → Contains state.parked node → IsGiven reduced start state.log state.held node
    parked_given node c = s.given node (Contains-append_right (unended state) state.parked node c)

    -- the entries of parked nodes
    pub has_parked : (node : Node) → Contains state.parked node → Contains state.log (parked_entry node)
    has_parked node c = kept_was_there (λ (t : Entry). is_parked_end t.end) state.log (parked_entry node) (subst (λ l. Contains l (parked_entry node)) (sym s.parked) (mapped parked_entry state.parked node c))

    pub parked_from : (entry : Entry) → Contains state.log entry → entry.end ≡ Parked → ComesFrom parked_entry state.parked entry
    parked_from entry c e = of_mapped parked_entry state.parked entry (subst (λ l. Contains l entry) s.parked (is_kept (λ (t : Entry). is_parked_end t.end) state.log entry c (ap is_parked_end e)))

    pub covered : IsCovered reduced start state.log state.held
    covered = record {
      reached = λ point i.
          let r = s.cover.reached point i in
          elim (Contains-append_cases (unended state) state.parked r.node r.among) [
            | inl c ↦ let g = unended_given r.node c in inl (record { node = g.given; left = is_left r.node c g; within = g.holds point r.within })
            | inr c ↦
                let g = parked_given r.node c in
                inr (record { entry = parked_entry r.node; node = g.given; leaf = record { among = has_parked r.node c; parked = refl; given = g.found }; within = g.holds point r.within })
          ];
      open_bounds = λ node l. s.bounds node.number node l.given;
      parked_bounds = λ entry node l. (s.entries entry node l.among l.given).holds;
    }

    pub parked_matter : OneMatters state.held state.parked ↔ ParkedMatters state.log state.held
    parked_matter = (
      λ o. record { entry = parked_entry o.node; among = has_parked o.node o.among; parked = refl; matter = o.matter },
      λ p.
          let f = parked_from p.entry p.among p.parked in
          record { node = f.from; among = f.among; matter = ap (λ (t : Entry). matters state.held t.bound) f.is ∙ p.matter },
    )

    pub short_log : (node : Node) (n : ℕ) → Contains (unended state) node → leaf_count reduced.integral (root reduced) ≡ Some n → length state.log < max 1 (2 * n - 1)
    short_log node n c e =
        let g = unended_given node c in
        let entry : Entry = record { node = node.number; bound = None; end = Closed } in
        let more : IsLog reduced (state.log ++ entry ∷ []) =
        alike.is_log reduced start (state.log ++ entry ∷ []) (follow_more reduced.integral (first_node reduced start ∷ []) [] state.log entry g.given s.logged g.found (none_of_nothing node.number) (s.unlogged node c) tt) in
        let short : length (state.log ++ entry ∷ []) ≤ max 1 (2 * n - 1) = log_is_short reduced (state.log ++ entry ∷ []) n more e in
        omega (arith, short, length-append state.log (entry ∷ []))

    module _ (as_given : IsAsGiven reduced start state) (idle : state.work ≡ []) where
      all_open : (node : Node) → Contains (unended state) node → Contains state.open_ node
      all_open node c = subst (λ w. Contains (w ++ state.open_) node) idle c

      are_open : (node : Node) → Contains state.open_ node → Contains (unended state) node
      are_open node c = Contains-append_right state.work state.open_ node c

      -- an open node by the log that matters is one of the search, with its bound
      pub is_bound_of : (node : Node) → IsLeftOpen reduced start state.log node → matters state.held node.bound ≡ true → IsBoundOfOne state.open_ node.bound
      is_bound_of node l m =
          let h = s.complete node l m in
          let c = all_open h.node h.among in
          record { node = h.node; among = c; is_bound = sym (as_given.bounds h.node node c (ap (node_of given_nodes) h.is ∙ l.given)) }

      pub open_matter : OneMatters state.held state.open_ ↔ OpenMatters reduced start state.log state.held
      open_matter = (
        λ o.
            let c = are_open o.node o.among in
            let g = unended_given o.node c in
            record { node = g.given; left = is_left o.node c g; matter = ap (matters state.held) (sym (as_given.bounds o.node g.given o.among g.found)) ∙ o.matter },
        λ p.
            let b = is_bound_of p.node p.left p.matter in
            record { node = b.node; among = b.among; matter = ap (matters state.held) (sym b.is_bound) ∙ p.matter },
      )

      module _ (bound : Option ℚ) (h : IsLeastBound state.held (all_nodes state) bound) where
        of_one : IsBoundOfOne (all_nodes state) bound → IsOneOf reduced start state.log state.held bound
        of_one b = elim (Contains-append_cases (unended state) state.parked b.node b.among) [
          | inl c ↦
              let g = unended_given b.node c in
              inr (inl (record { node = g.given; left = is_left b.node c g; is_bound = b.is_bound ∙ as_given.bounds b.node g.given (all_open b.node c) g.found }))
          | inr c ↦ inr (inr (record { entry = parked_entry b.node; among = has_parked b.node c; parked = refl; is_bound = b.is_bound }))
        ]

        each_open : (node : Node) → IsLeftOpen reduced start state.log node → NoMore bound node.bound
        each_open node l = elim (cases_Bool (matters state.held node.bound)) [
          | inl m ↦
              let b = is_bound_of node l m in
              subst (NoMore bound) (sym b.is_bound) (h.each b.node (Contains-append_left (unended state) state.parked b.node (are_open b.node b.among)))
          | inr m ↦ not_below state.held bound node.bound h.cost m
        ]

        pub least_bound : IsLeast reduced start state.log state.held bound
        least_bound = record {
          one = elim h.one [
            | inl c ↦ inl c
            | inr b ↦ of_one b
          ];
          least = λ other o. elim o [
            | inl c ↦ subst (NoMore bound) (sym c.is_bound) (h.cost c.cost c.is_held)
            | inr (inl c) ↦ subst (NoMore bound) (sym c.is_bound) (each_open c.node c.left)
            | inr (inr c) ↦
                let f = parked_from c.entry c.among c.parked in
                subst (NoMore bound) (ap (λ (t : Entry). t.bound) f.is ∙ sym c.is_bound) (h.each f.from (Contains-append_right (unended state) state.parked f.from f.among))
          ];
        }

  pub least : (state : State) (bound : Option ℚ) → IsSearch program reduced way Wide start state → IsAsGiven reduced start state → state.work ≡ [] → IsLeastBound state.held (all_nodes state) bound → IsLeast reduced start state.log state.held bound
  least state bound s a e h = least_bound state s a e bound h

  pub short : (state : State) (node : Node) (n : ℕ) → IsSearch program reduced way Wide start state → Contains (unended state) node → leaf_count reduced.integral (root reduced) ≡ Some n → length state.log < max 1 (2 * n - 1)
  short state node n s c e = short_log state s node n c e

-- ---- the program itself

-- the improving points of a node as the log gave it lead to the leaf that the node's own lead to
pub given_leads : (program : Program) (start : Option ℚ) (log : List Entry) (held : Option ℚ) (node : Node) (leaf : Leaf) → (g : IsGiven program start log held node) → LeadsBackTo program program held node leaf → LeadsTo program held g.given leaf
given_leads program start log held node leaf g h point i w = h point i (g.keeps point i w)

-- the log gave the node that an entry is of
pub given_entry : (program : Program) (start : Option ℚ) (log : List Entry) (held : Option ℚ) (parked node : Node) (entry : Entry) (g : IsGiven program start log held parked) → parked_entry parked ≡ entry → node_of (nodes_given program start log) entry.node ≡ Some node → g.given ≡ node
given_entry program start log held parked node entry g is e =
    let found : node_of (nodes_given program start log) parked.number ≡ Some node = ap (λ (t : Entry). node_of (nodes_given program start log) t.node) is ∙ e in
    same_Some g.given node (sym g.found ∙ found)

pub true_entries : (program : Program) (Wide : Program → List ℚ → Type 0) (start : Option ℚ) (state : State) → IsSearch program program stay Wide start state → AreTrueEntries program Wide start state.log state.held
true_entries program Wide start state s entry node c e =
    let r = s.entries entry node c e in
    record {
      kept = r.kept;
      holds = r.holds;
      parked = λ p.
          let f = parked_from program program stay Wide start state s entry c p in
          let k = s.stuck f.from f.among in
          let g = parked_given program program stay Wide start state s f.from f.among in
          record {
            leaf = k.leaf;
            is_leaf = k.is_leaf;
            leads = subst (λ n. LeadsTo program state.held n k.leaf) (given_entry program start state.log state.held f.from node entry g f.is e) (given_leads program start state.log state.held f.from k.leaf g k.leads);
            wide = k.wide;
          };
    }

pub entries_are_true : EntriesAreTrue
entries_are_true program start state s = true_entries program IsWide start state s
