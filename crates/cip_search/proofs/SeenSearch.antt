-- A search over a reduced program, seen in the program, is a search of the program.
use Rattle.std.proofs.Common.{◌≡◌, ℕ, ◌≤◌, true, List, ◌++◌, map, sum_by, Option, None, Some, IfSome, Contains, refl, sym, ap, ◌∙◌, subst, arith}
use Rattle.std.specs.List.{AllZip}
use Rattle.std.proofs.lemmas.List.{map-append}
use Rattle.std.proofs.lemmas.List.Elements.{Contains-append_right}
use Rattle.cip_rational.specs.Rational.{ℚ}
use Rattle.cip_rational.proofs.Rational.Order.{≤ℚ_trans}
use Rattle.cip_problem.specs.Program.{Program}
use Rattle.cip_problem.specs.Box.{IsInBox}
use Rattle.cip_problem.specs.Log.{Entry, Node, node_of, matters}
use Rattle.cip_problem.specs.Improving.{IsImproving, IsBoundIn}
use Rattle.cip_problem.specs.Cover.{IsBounded, IsCover}
use Rattle.cip_search.specs.Leaf.{Leaf}
use Rattle.cip_search.specs.Searched.{nodes_given, IsLeftOpen, NoMore}
use Rattle.cip_search.specs.Pairs.{HasNear, IsPair}
use Rattle.cip_search.specs.SearchState.{State, WayBack, stay, unended, all_nodes, HasNoEntry, IsGiven, HasNumber, IsRightEntry, LeadsBackTo, LeadsToWide, IsSearch, IsAsGiven}
use Rattle.cip_search.proofs.Leading.{stays}
use Rattle.cip_search.proofs.Members.{ComesFrom, mapped, of_mapped, hits}
use Rattle.cip_search.specs.SeenLogs.{entry_seen, log_seen, with_box_of, node_seen, state_seen}
use Rattle.cip_search.specs.SeenStatements.{IsReducedTo}
use Rattle.cip_search.proofs.Following.{IsMirrored, there, behind, followed_seen, given_mirrored}
use Rattle.cip_search.proofs.NearPoints.{inward, outward, near_improves, bound_there}
use Rattle.cip_search.proofs.SeenNodes.{same_taken, same_parked_entries, boxed, same_number, same_bound, same_entries, same_hits_seen}

module _ (program reduced : Program) (post : List ℚ → List ℚ) (kept : ℕ → ℕ) (given : IsReducedTo program reduced post kept) (way : WayBack) (Wide : Program → List ℚ → Type 0) (start : Option ℚ) (state : State) (s : IsSearch program reduced way Wide start state) where
  pair : IsPair program reduced post kept
  pair = given.pair

  abbrev own_given : List Node
  own_given = nodes_given reduced start state.log

  abbrev then_given : List Node
  then_given = nodes_given program start (log_seen kept state.log)

  abbrev seen : Node → Node
  seen = node_seen program start kept state.log

  abbrev pub now : State
  now = state_seen program start kept state

  -- a node of the search, as both logs gave it
  pub record IsBoth (node : Node) : Type 0 where
    pub own : IsGiven reduced start state.log state.held node
    pub other : Node
    pub found : node_of then_given node.number ≡ Some other
    pub mirrored : IsMirrored program reduced kept own.given other
    pub is : seen node ≡ boxed node other

  mirrored_given : AllZip (IsMirrored program reduced kept) own_given then_given
  mirrored_given = given_mirrored program reduced post kept given start state.log s.logged

  unended_now : unended now ≡ map seen (unended state)
  unended_now = sym (map-append seen state.work state.open_)

  pub all_now : all_nodes now ≡ map seen (all_nodes state)
  all_now = ap (λ t. t ++ map seen state.parked) unended_now ∙ sym (map-append seen (unended state) state.parked)

  pub is_both : (node : Node) → Contains (all_nodes state) node → IsBoth node
  is_both node c =
      let g = s.given node c in
      let t = there program reduced kept own_given then_given node.number g.given mirrored_given g.found in
      record { own = g; other = t.0; found = t.1; mirrored = t.2; is = ap (λ o. with_box_of o node) t.1 }

  -- ---- points

  near : (point : List ℚ) → IsImproving program state.held point → HasNear program reduced kept point
  near point i = pair.none_lost point i.feasible

  improves : (point : List ℚ) (i : IsImproving program state.held point) → IsImproving reduced state.held (near point i).other
  improves point i = near_improves program reduced kept state.held point (near point i) i

  -- an improving point of a node seen has one near it in the node
  goes_in : (node : Node) (point : List ℚ) → IsBoth node → (i : IsImproving program state.held point) → IsInBox (seen node).box point → IsInBox node.box (near point i).other
  goes_in node point b i w =
      let m = b.mirrored.mirrors in
      b.own.keeps (near point i).other (improves point i)
      (inward program reduced post kept pair b.own.given.box b.own.given.choices b.other.box b.other.choices m point i.feasible (near point i) (subst (λ (n : Node). IsInBox n.box point) b.is w))

  -- and one near a point of the node lies in the node seen
  goes_out : (node : Node) (point : List ℚ) → IsBoth node → (i : IsImproving program state.held point) → IsInBox node.box (near point i).other → IsInBox (seen node).box point
  goes_out node point b i w =
      let m = b.mirrored.mirrors in
      subst (λ (n : Node). IsInBox n.box point) (sym b.is)
      (outward program reduced post kept pair b.own.given.box b.own.given.choices b.other.box b.other.choices m point i.feasible (near point i) (b.own.holds (near point i).other w))

  bound_in : (bound : Option ℚ) (node : Node) → IsBoth node → IfSome bound (IsBoundIn reduced state.held node.box) → IfSome bound (IsBoundIn program state.held (seen node).box)
  bound_in None node b h = tt
  bound_in (Some x) node b h = λ point i w. ≤ℚ_trans (h (near point i).other (improves point i) (goes_in node point b i w)) (near point i).no_dearer

  pub leads_seen : (node : Node) (leaf : Leaf) → IsBoth node → LeadsBackTo program reduced state.held node leaf → LeadsBackTo program program state.held (seen node) leaf
  leads_seen node leaf b h point i w =
      let p = h (near point i).other (improves point i) (goes_in node point b i w) in
      record { point = p.point; is_point = p.is_point; no_dearer = ≤ℚ_trans p.no_dearer (near point i).no_dearer }

  -- ---- parts

  pub among_all : (node : Node) → Contains (all_nodes now) node → ComesFrom seen (all_nodes state) node
  among_all node c = of_mapped seen (all_nodes state) node (subst (λ l. Contains l node) all_now c)

  among_unended : (node : Node) → Contains (unended now) node → ComesFrom seen (unended state) node
  among_unended node c = of_mapped seen (unended state) node (subst (λ l. Contains l node) unended_now c)

  cover_seen : IsCover program state.held (all_nodes now)
  cover_seen = record {
    reached = λ point i.
        let r = s.cover.reached (near point i).other (improves point i) in
        record {
          node = seen r.node;
          among = subst (λ l. Contains l (seen r.node)) (sym all_now) (mapped seen (all_nodes state) r.node r.among);
          within = goes_out r.node point (is_both r.node r.among) i r.within;
        };
    bounded = λ node c.
        let r = among_all node c in
        let h = bound_in r.from.bound r.from (is_both r.from r.among) (s.cover.bounded r.from r.among) in
        subst (IsBounded program state.held) r.is (subst (λ b. IfSome b (IsBoundIn program state.held (seen r.from).box)) (sym (same_bound program start kept state.log r.from)) h);
  }

  boxed_given : (node : Node) (b : IsBoth node) → IsGiven program start (log_seen kept state.log) state.held (boxed node b.other)
  boxed_given node b = record {
    given = b.other;
    found = b.found;
    holds = λ point w. w;
    keeps = λ point i w. w;
    choices = refl;
    bound = subst (λ x. NoMore x node.bound) (sym b.mirrored.bound) b.own.bound;
  }

  given_seen : (node : Node) → Contains (all_nodes now) node → IsGiven program start (log_seen kept state.log) state.held node
  given_seen node c =
      let r = among_all node c in
      let b = is_both r.from r.among in
      subst (IsGiven program start (log_seen kept state.log) state.held) (sym b.is ∙ r.is) (boxed_given r.from b)

  no_entry_seen : (number : ℕ) → HasNoEntry state.log number → HasNoEntry (log_seen kept state.log) number
  no_entry_seen number h c = h (subst (λ l. Contains l number) (same_taken kept state.log) c)

  entry_before : (number : ℕ) → HasNoEntry (log_seen kept state.log) number → HasNoEntry state.log number
  entry_before number h c = h (subst (λ l. Contains l number) (sym (same_taken kept state.log)) c)

  stuck_seen : (node : Node) → Contains now.parked node → LeadsToWide program program Wide state.held node
  stuck_seen node c =
      let r = of_mapped seen state.parked node c in
      let k = s.stuck r.from r.among in
      let b = is_both r.from (Contains-append_right (unended state) state.parked r.from r.among) in
      subst (LeadsToWide program program Wide state.held) r.is
      (record { leaf = k.leaf; is_leaf = k.is_leaf; leads = leads_seen r.from k.leaf b k.leads; wide = k.wide })

  bounds_seen : (number : ℕ) (node : Node) → node_of then_given number ≡ Some node → IfSome node.bound (IsBoundIn program state.held node.box)
  bounds_seen number node e =
      let b = behind program reduced kept own_given then_given number node mirrored_given e in
      let m = b.2.mirrors in
      subst (λ x. IfSome x (IsBoundIn program state.held node.box)) (sym b.2.bound)
      (bound_there program reduced post kept pair b.0.box b.0.choices node.box node.choices m state.held b.0.bound (s.bounds number b.0 b.1))

  right_entry : (entry : Entry) (node : Node) → Contains state.log entry → node_of then_given entry.node ≡ Some node → IsRightEntry program state.held node (entry_seen kept entry)
  right_entry entry node c e =
      let b = behind program reduced kept own_given then_given entry.node node mirrored_given e in
      let r = s.entries entry b.0 c b.1 in
      let m = b.2.mirrors in
      record {
        kept = subst (λ x. NoMore x entry.bound) (sym b.2.bound) r.kept;
        holds = bound_there program reduced post kept pair b.0.box b.0.choices node.box node.choices m state.held entry.bound r.holds;
      }

  entries_seen : (entry : Entry) (node : Node) → Contains (log_seen kept state.log) entry → node_of then_given entry.node ≡ Some node → IsRightEntry program state.held node entry
  entries_seen entry node c e =
      let r = of_mapped (entry_seen kept) state.log entry c in
      subst (IsRightEntry program state.held node) r.is (right_entry r.from node r.among (ap (λ (t : Entry). node_of then_given t.node) r.is ∙ e))

  complete_seen : (node : Node) → IsLeftOpen program start (log_seen kept state.log) node → matters state.held node.bound ≡ true → HasNumber (unended now) node.number
  complete_seen node l m =
      let b = behind program reduced kept own_given then_given node.number node mirrored_given l.given in
      let h = s.complete b.0
      (record { given = ap (node_of own_given) (sym b.2.number) ∙ b.1; not_taken = subst (HasNoEntry state.log) b.2.number (entry_before node.number l.not_taken) })
      (ap (matters state.held) (sym b.2.bound) ∙ m) in
      record {
        node = seen h.node;
        among = subst (λ t. Contains t (seen h.node)) (sym unended_now) (mapped seen (unended state) h.node h.among);
        is = same_number program start kept state.log h.node ∙ (h.is ∙ sym b.2.number);
      }

  pub searched_seen : IsSearch program program stay Wide start now
  searched_seen = record {
    back = stays program;
    attained = s.attained;
    cover = cover_seen;
    logged = followed_seen program reduced post kept given start state.log s.logged;
    given = given_seen;
    unlogged = λ node c.
        let r = among_unended node c in
        subst (HasNoEntry (log_seen kept state.log)) (sym (same_number program start kept state.log r.from) ∙ ap (λ (n : Node). n.number) r.is) (no_entry_seen r.from.number (s.unlogged r.from r.among));
    apart = λ number. subst (λ l. sum_by (hits number) l ≤ 1) (sym unended_now) (omega (arith, s.apart number, same_hits_seen program start kept state.log number (unended state)));
    parked = same_parked_entries kept state.log ∙ (s.parked ∙ sym (same_entries program start kept state.log state.parked));
    stuck = stuck_seen;
    bounds = bounds_seen;
    entries = entries_seen;
    complete = complete_seen;
  }

  pub as_given_seen : IsAsGiven reduced start state → IsAsGiven program start now
  as_given_seen g = record {
    bounds = λ node other c e.
        let r = of_mapped seen state.open_ node c in
        let is : r.from.number ≡ node.number = sym (same_number program start kept state.log r.from) ∙ ap (λ (n : Node). n.number) r.is in
        let b = behind program reduced kept own_given then_given r.from.number other mirrored_given (ap (node_of then_given) is ∙ e) in
        sym (ap (λ (n : Node). n.bound) r.is) ∙ (same_bound program start kept state.log r.from ∙ (g.bounds r.from b.0 r.among b.1 ∙ sym b.2.bound));
  }
