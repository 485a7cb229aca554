-- A log with one more entry.
use Rattle.std.proofs.Common.{◌≡◌, ◌⊎◌, inl, inr, ℕ, List, [], ◌∷◌, ◌++◌, map, Option, None, Some, Contains, refl, sym, ap, ◌∙◌, subst}
use Rattle.std.proofs.lemmas.List.{map-append}
use Rattle.std.proofs.lemmas.List.Elements.{Contains-append_right, Contains-append_left}
use Rattle.std.proofs.lemmas.Bool.Decides.{eqb_tells}
use Rattle.std.proofs.lemmas.Option.{none-some, same_Some}
use Rattle.cip_problem.specs.Log.{Entry, Node, node_of}
use Rattle.cip_problem.proofs.Log.Entering.{node_of_here, node_of_later, contains_here, contains_later}

-- ---- lists

-- an option is none, or some value
pub none_or_some : {X : Type 0} (o : Option X) → (o ≡ None) ⊎ ((x : X) × (o ≡ Some x))
none_or_some None = inl refl
none_or_some (Some x) = inr (x, refl)

-- ---- the node of a number

-- the node of a number is among the nodes, and has that number
pub node_of_among : (nodes : List Node) (number : ℕ) (node : Node) → node_of nodes number ≡ Some node → Contains nodes node × (node.number ≡ number)
node_of_among [] number node h = absurd (none-some node h)
node_of_among (n ∷ ns) number node h = elim (eqb_tells n.number number) [
  | inl k ↦
      let e : n ≡ node = same_Some n node (sym (node_of_here n ns number k.1) ∙ h) in
      (subst (Contains (n ∷ ns)) e (contains_here n ns), sym (ap (λ t. t.number) e) ∙ k.1)
  | inr k ↦
      let later = node_of_among ns number node (sym (node_of_later n ns number k.1) ∙ h) in
      (contains_later n node ns later.0, later.1)
]

-- ---- one more entry

pub taken_before : (log : List Entry) (entry : Entry) (number : ℕ) → Contains (map (λ e. e.node) log) number → Contains (map (λ e. e.node) (log ++ entry ∷ [])) number
taken_before log entry number h = subst (λ t. Contains t number) (sym (map-append (λ e. e.node) log (entry ∷ []))) (Contains-append_left (map (λ e. e.node) log) (entry.node ∷ []) number h)

pub taken_last : (log : List Entry) (entry : Entry) → Contains (map (λ e. e.node) (log ++ entry ∷ [])) entry.node
taken_last log entry = subst (λ t. Contains t entry.node) (sym (map-append (λ e. e.node) log (entry ∷ []))) (Contains-append_right (map (λ e. e.node) log) (entry.node ∷ []) entry.node (contains_here entry.node []))
