-- The leaf that is shown, and the entries of parked nodes.
use Rattle.std.proofs.Common.{◌≡◌, Bool, true, false, List, [], ◌∷◌, ◌++◌, map, Option, refl, sym, ap, ◌∙◌, subst, cond}
use Rattle.std.specs.List.{Contains}
use Rattle.std.proofs.lemmas.List.Elements.{Contains-append_right}
use Rattle.cip_rational.specs.Rational.{ℚ}
use Rattle.cip_problem.specs.Program.{Program}
use Rattle.cip_problem.specs.Log.{Parked, Entry, Node}
use Rattle.cip_problem.proofs.Log.Entering.{contains_here}
use Rattle.cip_search.specs.Leaf.{Leaf}
use Rattle.cip_search.specs.Searched.{NoMore}
use Rattle.cip_search.specs.WideLeaf.{Shown, IsWideLeaf}
use Rattle.cip_search.specs.SearchState.{State, stay, unended, all_nodes, IsSearch, parked_entry, is_parked_end, parked_entries}
use Rattle.cip_search.proofs.Logs.{parked_from, given_leads}
use Rattle.cip_search.proofs.Members.{ComesFrom, of_mapped, is_kept}
use Rattle.cip_search.specs.SearchEnds.{IsShownLeaf}
use Rattle.cip_search.specs.EndLaws.{IsShownNode}

-- ---- an entry of the filtered log stands in the log, with what is before it

record Stands (log : List Entry) (front : List Entry) (entry : Entry) : Type 0 where
  pub before : List Entry
  pub after : List Entry
  pub placed : log ≡ before ++ entry ∷ after
  pub fronts : parked_entries before ≡ front

skip_entry : (e : Entry) (log front : List Entry) (entry : Entry) → is_parked_end e.end ≡ false → Stands log front entry → Stands (e ∷ log) front entry
skip_entry e log front entry p s = record {
  before = e ∷ s.before;
  after = s.after;
  placed = ap (λ t. e ∷ t) s.placed;
  fronts = rw p s.fronts;
}

keep_entry : (e : Entry) (log front : List Entry) (entry : Entry) → is_parked_end e.end ≡ true → Stands log front entry → Stands (e ∷ log) (e ∷ front) entry
keep_entry e log front entry p s = record {
  before = e ∷ s.before;
  after = s.after;
  placed = ap (λ t. e ∷ t) s.placed;
  fronts = rw p (ap (λ t. e ∷ t) s.fronts);
}

stands_by : (e : Entry) (log front rest : List Entry) (entry : Entry) (test : Bool) → is_parked_end e.end ≡ test → cond test (e ∷ parked_entries log) (parked_entries log) ≡ front ++ entry ∷ rest → ((front : List Entry) → parked_entries log ≡ front ++ entry ∷ rest → Stands log front entry) → Stands (e ∷ log) front entry
stands_by e log front rest entry false p h f = skip_entry e log front entry p (f front h)
stands_by e log [] rest entry true p h f =
    let same : e ≡ entry = cc in
    record { before = []; after = log; placed = ap (λ t. t ∷ log) same; fronts = refl }
stands_by e log (x ∷ front) rest entry true p h f =
    let same : e ≡ x = cc in
    let tail : parked_entries log ≡ front ++ entry ∷ rest = cc in
    subst (λ t. Stands (e ∷ log) (t ∷ front) entry) same (keep_entry e log front entry p (f front tail))

nothing_there : (front rest : List Entry) (entry : Entry) → ¬ ([] ≡ front ++ entry ∷ rest)
nothing_there [] rest entry h = cc
nothing_there (x ∷ front) rest entry h = cc

stands : (log front rest : List Entry) (entry : Entry) → parked_entries log ≡ front ++ entry ∷ rest → Stands log front entry
stands [] front rest entry h = absurd (nothing_there front rest entry h)
stands (e ∷ log) front rest entry h =
    stands_by e log front rest entry (is_parked_end e.end) refl h (λ front k. stands log front rest entry k)

map_parts : (before after : List Node) (node : Node) → map parked_entry (before ++ node ∷ after) ≡ map parked_entry before ++ parked_entry node ∷ map parked_entry after
map_parts [] after node = refl
map_parts (n ∷ before) after node = ap (λ t. parked_entry n ∷ t) (map_parts before after node)

-- ---- the leaf

module _ (program : Program) (start : Option ℚ) (state : State) (s : IsSearch program program stay IsWideLeaf start state) where
  from_parked : (entry : Entry) → Contains state.log entry → entry.end ≡ Parked → ComesFrom parked_entry state.parked entry
  from_parked = parked_from program program stay IsWideLeaf start state s

  pub shown_leaf : (leaf : Leaf) (shown : Shown) → IsShownNode program program state.held state.parked leaf shown → IsShownLeaf program start state.log state.held leaf shown
  shown_leaf leaf shown h =
      let there : parked_entries state.log ≡ map parked_entry h.chosen.before ++ parked_entry h.node ∷ map parked_entry h.chosen.after = s.parked ∙ (ap (map parked_entry) h.chosen.placed ∙ map_parts h.chosen.before h.chosen.after h.node) in
      let at = stands state.log (map parked_entry h.chosen.before) (map parked_entry h.chosen.after) (parked_entry h.node) there in
      let among : Contains state.parked h.node = subst (λ t. Contains t h.node) (sym h.chosen.placed) (Contains-append_right h.chosen.before (h.node ∷ h.chosen.after) h.node (contains_here h.node h.chosen.after)) in
      let every : Contains (all_nodes state) h.node = Contains-append_right (unended state) state.parked h.node among in
      let given = s.given h.node every in
      record {
        entry = parked_entry h.node;
        node = given.given;
        chosen = record {
          before = at.before;
          after = at.after;
          placed = at.placed;
          parked = refl;
          least = λ other c p. (let f = from_parked other c p in subst (NoMore h.node.bound) (ap (λ (t : Entry). t.bound) f.is) (h.chosen.least f.from f.among));
          first = λ other c p n. (
              let k = subst (λ t. Contains t other) at.fronts (is_kept (λ (t : Entry). is_parked_end t.end) at.before other c (ap is_parked_end p)) in
              let f = of_mapped parked_entry h.chosen.before other k in
              h.chosen.first f.from f.among (subst (λ b. NoMore b h.node.bound) (ap (λ (t : Entry). t.bound) (sym f.is)) n));
        };
        given = given.found;
        leads = given_leads program start state.log state.held h.node leaf given h.leads;
        is_leaf = h.is_leaf;
        wide = h.wide;
      }
