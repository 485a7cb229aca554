-- What a search over a reduced program answers is an answer of the search seen.
use Rattle.std.proofs.Common.{◌≡◌, inl, inr, ℕ, false, List, ◌∷◌, map, Option, Contains, sym, ap, ◌∙◌, subst}
use Rattle.std.proofs.lemmas.List.{map-append, length-map}
use Rattle.std.proofs.lemmas.List.Elements.{Contains-append_right}
use Rattle.std.proofs.lemmas.Option.{same_Some}
use Rattle.cip_rational.specs.Rational.{ℚ}
use Rattle.cip_problem.specs.Program.{Program}
use Rattle.cip_problem.specs.Log.{Node, node_of, matters}
use Rattle.cip_problem.proofs.Log.Entering.{contains_here}
use Rattle.cip_search.specs.Leaf.{Leaf}
use Rattle.cip_search.specs.Searched.{nodes_given, NoMore}
use Rattle.cip_search.specs.WideLeaf.{Shown, IsWideLeaf}
use Rattle.cip_search.specs.SearchState.{State, WayBack, unended, all_nodes, IsSearch, HasGivenBoxes}
use Rattle.cip_search.specs.Endings.{OneMatters, NoneMatters, IsBoundOfOne, IsLeastBound}
use Rattle.cip_search.specs.SearchEnds.{Ended, Optimal, Infeasible, Unbounded, NodeLimit, Gap, Wide, NoMemory, Answer}
use Rattle.cip_search.specs.EndLaws.{IsFirstLeastNode, IsShownNode, ComesTo, IsAnswerOf}
use Rattle.cip_search.proofs.Members.{mapped, of_mapped}
use Rattle.cip_search.specs.SeenLogs.{entry_seen, log_seen, node_seen, state_seen}
use Rattle.cip_search.specs.SeenStatements.{IsReducedTo, IsSeen, SearchesAreSeen}
use Rattle.cip_search.proofs.SeenNodes.{boxed, same_bound}
use Rattle.cip_search.proofs.SeenSearch.{IsBoth, is_both, leads_seen, all_now, among_all, searched_seen, as_given_seen}

module _ (program reduced : Program) (post : List ℚ → List ℚ) (kept : ℕ → ℕ) (given : IsReducedTo program reduced post kept) (way : WayBack) (start : Option ℚ) (state : State) (s : IsSearch program reduced way IsWideLeaf start state) where
  abbrev seen : Node → Node
  seen = node_seen program start kept state.log

  abbrev now : State
  now = state_seen program start kept state

  bound_is : (node : Node) → (seen node).bound ≡ node.bound
  bound_is node = same_bound program start kept state.log node

  all_are : all_nodes now ≡ map seen (all_nodes state)
  all_are = all_now program reduced post kept given way IsWideLeaf start state s

  both : (node : Node) → Contains (all_nodes state) node → IsBoth program reduced post kept given way IsWideLeaf start state s node
  both = is_both program reduced post kept given way IsWideLeaf start state s

  -- ---- boxes

  boxes_seen : HasGivenBoxes program start now
  boxes_seen = record {
    boxes = λ node other c e.
        let r = among_all program reduced post kept given way IsWideLeaf start state s node c in
        let b = both r.from r.among in
        let is : node ≡ boxed r.from b.other = sym r.is ∙ b.is in
        let same : b.other ≡ other = same_Some b.other other (sym b.found ∙ (sym (ap (λ (n : Node). node_of (nodes_given program start (log_seen kept state.log)) n.number) is) ∙ e)) in
        ap (λ (n : Node). n.box) is ∙ ap (λ (n : Node). n.box) same;
  }

  -- ---- bounds

  none_matters : (nodes : List Node) → NoneMatters state.held nodes → NoneMatters state.held (map seen nodes)
  none_matters nodes h node c =
      let r = of_mapped seen nodes node c in
      subst (λ (n : Node). matters state.held n.bound ≡ false) r.is (ap (matters state.held) (bound_is r.from) ∙ h r.from r.among)

  one_matters : (nodes : List Node) → OneMatters state.held nodes → OneMatters state.held (map seen nodes)
  one_matters nodes h = record {
    node = seen h.node;
    among = mapped seen nodes h.node h.among;
    matter = ap (matters state.held) (bound_is h.node) ∙ h.matter;
  }

  bound_of_one : (nodes : List Node) (bound : Option ℚ) → IsBoundOfOne nodes bound → IsBoundOfOne (map seen nodes) bound
  bound_of_one nodes bound h = record {
    node = seen h.node;
    among = mapped seen nodes h.node h.among;
    is_bound = h.is_bound ∙ sym (bound_is h.node);
  }

  least_seen : (nodes : List Node) (bound : Option ℚ) → IsLeastBound state.held nodes bound → IsLeastBound state.held (map seen nodes) bound
  least_seen nodes bound h = record {
    one = elim h.one [
      | inl c ↦ inl c
      | inr b ↦ inr (bound_of_one nodes bound b)
    ];
    cost = h.cost;
    each = λ node c.
        let r = of_mapped seen nodes node c in
        subst (λ (n : Node). NoMore bound n.bound) r.is (subst (NoMore bound) (sym (bound_is r.from)) (h.each r.from r.among));
  }

  -- ---- the leaf that is shown

  first_seen : (node : Node) → IsFirstLeastNode state.parked node → IsFirstLeastNode now.parked (seen node)
  first_seen node h = record {
    before = map seen h.before;
    after = map seen h.after;
    placed = ap (map seen) h.placed ∙ map-append seen h.before (node ∷ h.after);
    least = λ other c.
        let r = of_mapped seen state.parked other c in
        subst (λ (n : Node). NoMore (seen node).bound n.bound) r.is
        (subst (λ b. NoMore b (seen r.from).bound) (sym (bound_is node)) (subst (NoMore node.bound) (sym (bound_is r.from)) (h.least r.from r.among)));
    first = λ other c n.
        let r = of_mapped seen h.before other c in
        h.first r.from r.among
        (subst (λ b. NoMore b node.bound) (bound_is r.from)
        (subst (NoMore (seen r.from).bound) (bound_is node) (subst (λ (m : Node). NoMore m.bound (seen node).bound) (sym r.is) n)));
  }

  shown_seen : (leaf : Leaf) (shown : Shown) → IsShownNode program reduced state.held state.parked leaf shown → IsShownNode program program state.held now.parked leaf shown
  shown_seen leaf shown h =
      let first = h.chosen in
      let among : Contains state.parked h.node = subst (λ t. Contains t h.node) (sym first.placed) (Contains-append_right first.before (h.node ∷ first.after) h.node (contains_here h.node first.after)) in
      record {
        node = seen h.node;
        chosen = first_seen h.node first;
        leads = leads_seen program reduced post kept given way IsWideLeaf start state s h.node leaf (both h.node (Contains-append_right (unended state) state.parked h.node among)) h.leads;
        is_leaf = h.is_leaf;
        wide = h.wide;
      }

  -- ---- answers

  comes_seen : (nodes : ℕ) (ended : Ended) → ComesTo program reduced nodes state ended → ComesTo program program nodes now ended
  comes_seen nodes Optimal h = (none_matters state.open_ h.0, none_matters state.parked h.1, h.2)
  comes_seen nodes Infeasible h = (all_are ∙ ap (map seen) h.0, h.1)
  comes_seen nodes (Unbounded ray) h = h
  comes_seen nodes NodeLimit h = (length-map state.log (entry_seen kept) ∙ h.0, one_matters state.open_ h.1)
  comes_seen nodes Gap h = h
  comes_seen nodes (Wide leaf shown) h = (none_matters state.open_ h.0, one_matters state.parked h.1, shown_seen leaf shown h.2)
  comes_seen nodes NoMemory h = h

  answer_seen : (nodes : ℕ) (asked : Option ℚ) (answer : Answer) → IsAnswerOf program reduced nodes asked state answer → IsAnswerOf program program nodes asked now answer
  answer_seen nodes asked answer h = record {
    idle = ap (map seen) h.idle;
    held = h.held;
    point = h.point;
    comes = comes_seen nodes answer.ended h.comes;
    least = λ n. subst (λ l. IsLeastBound state.held l answer.bound) (sym all_are) (least_seen (all_nodes state) answer.bound (h.least n));
    no_bound = h.no_bound;
    gap = h.gap;
  }

  pub seen_law : IsSeen program reduced kept start state
  seen_law = record {
    searched = searched_seen program reduced post kept given way IsWideLeaf start state s;
    as_given = as_given_seen program reduced post kept given way IsWideLeaf start state s;
    boxes = boxes_seen;
    answers = answer_seen;
  }

pub searches_are_seen : SearchesAreSeen
searches_are_seen program reduced post kept way start state given s = seen_law program reduced post kept given way start state s
