-- The nodes of a search over a reduced program, seen in the program.
use Rattle.std.proofs.Common.{◌≡◌, ℕ, ◌==◌, Bool, true, false, cond, List, [], ◌∷◌, map, sum_by, Option, None, Some, refl, sym, ap, ◌∙◌, arith}
use Rattle.std.proofs.lemmas.List.Sums.{sum_by-cons}
use Rattle.cip_rational.specs.Rational.{ℚ}
use Rattle.cip_problem.specs.Program.{Program}
use Rattle.cip_problem.specs.Log.{End, Split, Closed, Parked, Entry, Node, node_of}
use Rattle.cip_search.specs.Searched.{nodes_given}
use Rattle.cip_search.specs.SearchState.{parked_entry, is_parked_end, parked_entries}
use Rattle.cip_search.proofs.Members.{hits}
use Rattle.cip_search.specs.SeenLogs.{end_seen, entry_seen, log_seen, with_box_of, node_seen}

-- ---- the log seen

-- the nodes taken are the same
pub same_taken : (kept : ℕ → ℕ) (log : List Entry) → map (λ (entry : Entry). entry.node) (log_seen kept log) ≡ map (λ (entry : Entry). entry.node) log
same_taken kept [] = refl
same_taken kept (e ∷ log) = ap (λ t. e.node ∷ t) (same_taken kept log)

parked_seen : (kept : ℕ → ℕ) (end : End) → is_parked_end (end_seen kept end) ≡ is_parked_end end
parked_seen kept (Split column at low high) = refl
parked_seen kept Closed = refl
parked_seen kept Parked = refl

-- an entry that isn't a split is the same
same_parked : (kept : ℕ → ℕ) (end : End) → is_parked_end end ≡ true → end_seen kept end ≡ end
same_parked kept (Split column at low high) e = absurd (let f : false ≡ true = e in cc)
same_parked kept Closed e = refl
same_parked kept Parked e = refl

-- the entries of parked nodes are the same
pub same_parked_entries : (kept : ℕ → ℕ) (log : List Entry) → parked_entries (log_seen kept log) ≡ parked_entries log
same_parked_entries kept [] = refl
same_parked_entries kept (e ∷ log) = by_end (is_parked_end e.end) refl (same_parked_entries kept log)
  where
    by_end : (t : Bool) → is_parked_end e.end ≡ t → parked_entries (log_seen kept log) ≡ parked_entries log → parked_entries (log_seen kept (e ∷ log)) ≡ parked_entries (e ∷ log)
    by_end true k h =
        let seen : is_parked_end (end_seen kept e.end) ≡ true = parked_seen kept e.end ∙ k in
        let same : entry_seen kept e ≡ e = ap (λ (end : End). record e { end = end }) (same_parked kept e.end k) in
        ap (λ t. cond t (entry_seen kept e ∷ parked_entries (log_seen kept log)) (parked_entries (log_seen kept log))) seen
        ∙ (ap (λ t. t ∷ parked_entries (log_seen kept log)) same
        ∙ (ap (λ t. e ∷ t) h ∙ sym (ap (λ t. cond t (e ∷ parked_entries log) (parked_entries log)) k)))
    by_end false k h =
        let seen : is_parked_end (end_seen kept e.end) ≡ false = parked_seen kept e.end ∙ k in
        ap (λ t. cond t (entry_seen kept e ∷ parked_entries (log_seen kept log)) (parked_entries (log_seen kept log))) seen
        ∙ (h ∙ sym (ap (λ t. cond t (e ∷ parked_entries log) (parked_entries log)) k))

-- ---- nodes

abbrev pub boxed : Node → Node → Node
boxed node given = record node { box = given.box; choices = given.choices }

module _ (program : Program) (start : Option ℚ) (kept : ℕ → ℕ) (log : List Entry) where
  abbrev seen : Node → Node
  seen = node_seen program start kept log

  same_number_of : (found : Option Node) (node : Node) → (with_box_of found node).number ≡ node.number
  same_number_of None node = refl
  same_number_of (Some given) node = refl

  same_bound_of : (found : Option Node) (node : Node) → (with_box_of found node).bound ≡ node.bound
  same_bound_of None node = refl
  same_bound_of (Some given) node = refl

  -- a node keeps its number and its bound
  pub same_number : (node : Node) → (seen node).number ≡ node.number
  same_number node = same_number_of (node_of (nodes_given program start (log_seen kept log)) node.number) node

  pub same_bound : (node : Node) → (seen node).bound ≡ node.bound
  same_bound node = same_bound_of (node_of (nodes_given program start (log_seen kept log)) node.number) node

  pub same_entry : (node : Node) → parked_entry (seen node) ≡ parked_entry node
  same_entry node = entry_of (seen node) (same_number node) (same_bound node)
    where
      entry_of : (other : Node) → other.number ≡ node.number → other.bound ≡ node.bound → parked_entry other ≡ parked_entry node
      entry_of other e f = ap (λ n. record { node = n; bound = other.bound; end = Parked }) e ∙ ap (λ b. record { node = node.number; bound = b; end = Parked }) f

  pub same_entries : (nodes : List Node) → map parked_entry (map seen nodes) ≡ map parked_entry nodes
  same_entries [] = refl
  same_entries (n ∷ ns) = ap (λ t. t ∷ map parked_entry (map seen ns)) (same_entry n) ∙ ap (λ t. parked_entry n ∷ t) (same_entries ns)

  -- as many have a number
  pub same_hits_seen : (number : ℕ) (nodes : List Node) → sum_by (hits number) (map seen nodes) ≡ sum_by (hits number) nodes
  same_hits_seen number [] = refl
  same_hits_seen number (n ∷ ns) =
      let f : ℕ → ℕ = λ m. cond (m == number) 1 0 in
      let first : hits number (seen n) ≡ hits number n = ap f (same_number n) in
      omega (arith, sum_by-cons (hits number) (seen n) (map seen ns), sum_by-cons (hits number) n ns, first, same_hits_seen number ns)
