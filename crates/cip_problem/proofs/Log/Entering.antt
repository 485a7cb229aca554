-- Logs with one more entry, and the nodes of their numbers.
use Rattle.std.proofs.Common.{◌≡◌, ◌≢◌, ◌⊎◌, inl, inr, ℕ, zero, suc, ◌==◌, Bool, true, false, cond, List, [], ◌∷◌, ◌++◌, map, Option, None, Some, Contains, refl, sym, subst, arith, ap, ◌∙◌}
use Rattle.std.proofs.lemmas.List.{map-append}
use Rattle.std.proofs.lemmas.List.Elements.{Contains-append_right, Contains-push_cases}
use Rattle.std.proofs.lemmas.Bool.Decides.{eqb_tells}
use Rattle.std.proofs.lemmas.Option.{none-some, same_Some}
use Rattle.cip_problem.specs.Log.{Entry, Node, node_of, nodes_of, given_after, IsRightEnd, AllFollow}

pub contains_cons : {X : Type 0} (x y : X) (xs : List X) → Contains (x ∷ xs) y → (x ≡ y) ⊎ Contains xs y
contains_cons x y xs (zero, l, e) = inl e
contains_cons x y xs (suc k, l, e) = inr (k, omega (arith, l), e)

pub contains_later : {X : Type 0} (x y : X) (xs : List X) → Contains xs y → Contains (x ∷ xs) y
contains_later x y xs h = Contains-append_right (x ∷ []) xs y h

pub contains_here : {X : Type 0} (x : X) (xs : List X) → Contains (x ∷ xs) x
contains_here x xs = (0, omega arith, refl)

-- ---- the node of a number

pub kept_case : (first : Node) (nodes more : List Node) (number : ℕ) (node : Node) (same : Bool) → cond same (Some first) (node_of nodes number) ≡ Some node → (node_of nodes number ≡ Some node → node_of (nodes ++ more) number ≡ Some node) → cond same (Some first) (node_of (nodes ++ more) number) ≡ Some node
kept_case first nodes more number node true h k = h
kept_case first nodes more number node false h k = k h

-- a node that was given stays that of its number
pub node_of_kept : (nodes more : List Node) (number : ℕ) (node : Node) → node_of nodes number ≡ Some node → node_of (nodes ++ more) number ≡ Some node
node_of_kept [] more number node h = absurd (none-some node h)
node_of_kept (n ∷ ns) more number node h = kept_case n ns more number node (n.number == number) h (node_of_kept ns more number node)

pub new_case : (first : Node) (nodes more : List Node) (number : ℕ) (same : Bool) → cond same (Some first) (node_of nodes number) ≡ None → (node_of nodes number ≡ None → node_of (nodes ++ more) number ≡ node_of more number) → cond same (Some first) (node_of (nodes ++ more) number) ≡ node_of more number
new_case first nodes more number true h k = absurd (none-some first (sym h))
new_case first nodes more number false h k = k h

-- a number without a node has that of the nodes added
pub node_of_new : (nodes more : List Node) (number : ℕ) → node_of nodes number ≡ None → node_of (nodes ++ more) number ≡ node_of more number
node_of_new [] more number h = refl
node_of_new (n ∷ ns) more number h = new_case n ns more number (n.number == number) h (node_of_new ns more number)

pub found_here : (first : Node) (rest : Option Node) (number : ℕ) → first.number ≡ number → cond (first.number == number) (Some first) rest ≡ Some first
found_here first rest number e = elim (eqb_tells first.number number) [
  | inl k ↦ rw (k.0) refl
  | inr k ↦ absurd (k.1 e)
]

pub found_later : (first : Node) (rest : Option Node) (number : ℕ) → first.number ≢ number → cond (first.number == number) (Some first) rest ≡ rest
found_later first rest number e = elim (eqb_tells first.number number) [
  | inl k ↦ absurd (e k.1)
  | inr k ↦ rw (k.0) refl
]

pub node_of_here : (first : Node) (nodes : List Node) (number : ℕ) → first.number ≡ number → node_of (first ∷ nodes) number ≡ Some first
node_of_here first nodes number e = found_here first (node_of nodes number) number e

pub node_of_later : (first : Node) (nodes : List Node) (number : ℕ) → first.number ≢ number → node_of (first ∷ nodes) number ≡ node_of nodes number
node_of_later first nodes number e = found_later first (node_of nodes number) number e

-- the node of a number has that number
pub node_of_number : (nodes : List Node) (number : ℕ) (node : Node) → node_of nodes number ≡ Some node → node.number ≡ number
node_of_number [] number node h = absurd (none-some node h)
node_of_number (n ∷ ns) number node h = elim (eqb_tells n.number number) [
  | inl k ↦ sym (ap (λ (t : Node). t.number) (same_Some n node (sym (node_of_here n ns number k.1) ∙ h))) ∙ k.1
  | inr k ↦ node_of_number ns number node (sym (node_of_later n ns number k.1) ∙ h)
]

-- ---- one more entry

pub given_more : (given : List Node) (log : List Entry) (entry : Entry) → given_after given (log ++ entry ∷ []) ≡ given_after given log ++ nodes_of (given_after given log) entry
given_more given [] entry = refl
given_more given (x ∷ log) entry = given_more (given ++ nodes_of given x) log entry

-- an entry can follow a log whose nodes are taken, if its node was given and is none of them
pub follow_more : (integral : List Bool) (given : List Node) (taken : List ℕ) (log : List Entry) (entry : Entry) (node : Node) → AllFollow integral given taken log → node_of (given_after given log) entry.node ≡ Some node → ¬ Contains taken entry.node → ¬ Contains (map (λ e. e.node) log) entry.node → IsRightEnd integral (given_after given log) node entry.end → AllFollow integral given taken (log ++ entry ∷ [])
follow_more integral given taken [] entry node h g t m r = (record { node = node; given_before = g; once = t; right = r }, tt)
follow_more integral given taken (x ∷ log) entry node h g t m r = (
  h.0,
  follow_more integral (given ++ nodes_of given x) (x.node ∷ taken) log entry node h.1 g
      (λ k. elim (contains_cons x.node entry.node taken k) [
        | inl e ↦ absurd (m (subst (Contains (x.node ∷ map (λ e. e.node) log)) e (contains_here x.node (map (λ e. e.node) log))))
        | inr l ↦ absurd (t l)
      ])
      (λ k. m (contains_later x.node entry.node (map (λ e. e.node) log) k))
      r,
)

-- the numbers taken, with one more entry
pub taken_more : (log : List Entry) (entry : Entry) (number : ℕ) → Contains (map (λ e. e.node) (log ++ entry ∷ [])) number → Contains (map (λ e. e.node) log) number ⊎ (entry.node ≡ number)
taken_more log entry number h = Contains-push_cases (map (λ e. e.node) log) entry.node number (subst (λ t. Contains t number) (map-append (λ e. e.node) log (entry ∷ [])) h)

-- what was given before is given after
pub given_kept : (given : List Node) (log : List Entry) (number : ℕ) (node : Node) → node_of given number ≡ Some node → node_of (given_after given log) number ≡ Some node
given_kept given [] number node h = h
given_kept given (x ∷ log) number node h = given_kept (given ++ nodes_of given x) log number node (node_of_kept given (nodes_of given x) number node h)

-- each node taken was given
pub taken_given : (integral : List Bool) (given : List Node) (taken : List ℕ) (log : List Entry) (number : ℕ) → AllFollow integral given taken log → Contains (map (λ e. e.node) log) number → (node : Node) × (node_of (given_after given log) number ≡ Some node)
taken_given integral given taken [] number h k = absurd (omega (arith, k.1))
taken_given integral given taken (x ∷ log) number h k = elim (contains_cons x.node number (map (λ e. e.node) log) k) [
  | inl e ↦ (
    h.0.node,
    given_kept (given ++ nodes_of given x) log number h.0.node (node_of_kept given (nodes_of given x) number h.0.node (subst (λ t. node_of given t ≡ Some h.0.node) e h.0.given_before)),
  )
  | inr l ↦ taken_given integral (given ++ nodes_of given x) (x.node ∷ taken) log number h.1 l
]
