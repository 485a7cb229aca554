-- A log over nodes is one over nodes of the same numbers, boxes and choices, whatever their bounds are.
use Rattle.std.proofs.Common.{◌≡◌, inl, inr, ℕ, Bool, List, [], ◌∷◌, ◌++◌, Option, None, Some, refl, sym, ◌∙◌, subst}
use Rattle.std.specs.List.{AllZip}
use Rattle.std.proofs.lemmas.Bool.Decides.{eqb_tells}
use Rattle.std.proofs.lemmas.Option.{none-some, same_Some}
use Rattle.cip_rational.specs.Rational.{ℚ}
use Rattle.cip_problem.specs.Program.{Program}
use Rattle.cip_problem.specs.Log.{End, Split, Closed, Parked, Entry, Node, root, node_of, halves, nodes_of, IsRightEnd, AllFollow, IsLog}
use Rattle.cip_problem.proofs.Log.SameHalves.{low_box, high_box, low_choices, high_choices, can_split_same}
use Rattle.cip_problem.proofs.Log.Entering.{node_of_here, node_of_later}
use Rattle.cip_search.specs.Searched.{first_node}
use Rattle.cip_search.proofs.OneMore.{none_or_some}

-- two nodes have the same number, box and choices
record IsAlike (node other : Node) : Type 0 where
  number : node.number ≡ other.number
  box : node.box ≡ other.box
  choices : node.choices ≡ other.choices

abbrev AreAlike : List Node → List Node → Type 0
AreAlike nodes others = AllZip IsAlike nodes others

alike_more : (nodes others more mores : List Node) → AreAlike nodes others → AreAlike more mores → AreAlike (nodes ++ more) (others ++ mores)
alike_more [] [] more mores h k = k
alike_more [] (o ∷ os) more mores h k = absurd h
alike_more (n ∷ ns) [] more mores h k = absurd h
alike_more (n ∷ ns) (o ∷ os) more mores h k = (h.0, alike_more ns os more mores h.1 k)

-- the node of a number in the other list
record HasAlike (others : List Node) (number : ℕ) (node : Node) : Type 0 where
  other : Node
  is : node_of others number ≡ Some other
  box : node.box ≡ other.box
  choices : node.choices ≡ other.choices

alike_of : (nodes others : List Node) (number : ℕ) (node : Node) → AreAlike nodes others → node_of nodes number ≡ Some node → HasAlike others number node
alike_of [] others number node h e = absurd (none-some node e)
alike_of (n ∷ ns) [] number node h e = absurd h
alike_of (n ∷ ns) (o ∷ os) number node h e = elim (eqb_tells n.number number) [
  | inl k ↦
      let same : n ≡ node = same_Some n node (sym (node_of_here n ns number k.1) ∙ e) in
      record { other = o; is = node_of_here o os number (sym h.0.number ∙ k.1); box = subst (λ t. t.box ≡ o.box) same h.0.box; choices = subst (λ t. t.choices ≡ o.choices) same h.0.choices }
  | inr k ↦
      let rest = alike_of ns os number node h.1 (sym (node_of_later n ns number k.1) ∙ e) in
      record { other = rest.other; is = node_of_later o os number (λ q. k.1 (h.0.number ∙ q)) ∙ rest.is; box = rest.box; choices = rest.choices }
]

alike_none : (nodes others : List Node) (number : ℕ) → AreAlike nodes others → node_of nodes number ≡ None → node_of others number ≡ None
alike_none [] [] number h e = refl
alike_none [] (o ∷ os) number h e = absurd h
alike_none (n ∷ ns) [] number h e = absurd h
alike_none (n ∷ ns) (o ∷ os) number h e = elim (eqb_tells n.number number) [
  | inl k ↦ absurd (none-some n (sym e ∙ node_of_here n ns number k.1))
  | inr k ↦ node_of_later o os number (λ q. k.1 (h.0.number ∙ q)) ∙ alike_none ns os number h.1 (sym (node_of_later n ns number k.1) ∙ e)
]

halves_alike : (node other : Node) (bound : Option ℚ) (end : End) → node.box ≡ other.box → node.choices ≡ other.choices → AreAlike (halves (Some node) bound end) (halves (Some other) bound end)
halves_alike node other bound Closed e f = tt
halves_alike node other bound Parked e f = tt
halves_alike node other bound (Split column at low high) e f = (
  record { number = refl; box = low_box node other column at e f; choices = low_choices node other column at f },
  (record { number = refl; box = high_box node other column at e f; choices = high_choices node other column at f }, tt),
)

nodes_alike : (nodes others : List Node) (entry : Entry) → AreAlike nodes others → AreAlike (nodes_of nodes entry) (nodes_of others entry)
nodes_alike nodes others entry h = elim (none_or_some (node_of nodes entry.node)) [
  | inl none ↦ rw (none, alike_none nodes others entry.node h none) tt
  | inr (node, is) ↦
      let found = alike_of nodes others entry.node node h is in
      rw (is, found.is) (halves_alike node found.other entry.bound entry.end found.box found.choices)
]

right_alike : (integral : List Bool) (nodes others : List Node) (node other : Node) (end : End) → AreAlike nodes others → node.box ≡ other.box → node.choices ≡ other.choices → IsRightEnd integral nodes node end → IsRightEnd integral others other end
right_alike integral nodes others node other Closed h e f r = tt
right_alike integral nodes others node other Parked h e f r = tt
right_alike integral nodes others node other (Split column at low high) h e f r = (
  can_split_same integral node other column at e f r.0,
  alike_none nodes others low h r.1,
  alike_none nodes others high h r.2,
  r.3,
)

follow_alike : (integral : List Bool) (nodes others : List Node) (taken : List ℕ) (log : List Entry) → AreAlike nodes others → AllFollow integral nodes taken log → AllFollow integral others taken log
follow_alike integral nodes others taken [] h f = tt
follow_alike integral nodes others taken (entry ∷ log) h f =
    let found = alike_of nodes others entry.node f.0.node h f.0.given_before in (
      record { node = found.other; given_before = found.is; once = f.0.once; right = right_alike integral nodes others f.0.node found.other entry.end h found.box found.choices f.0.right },
      follow_alike integral (nodes ++ nodes_of nodes entry) (others ++ nodes_of others entry) (entry.node ∷ taken) log (alike_more nodes others (nodes_of nodes entry) (nodes_of others entry) h (nodes_alike nodes others entry h)) f.1,
    )

-- a log from the root with any bound is one of the program, and the other way round
pub is_log : (program : Program) (bound : Option ℚ) (log : List Entry) → AllFollow program.integral (first_node program bound ∷ []) [] log → IsLog program log
is_log program bound log f = follow_alike program.integral (first_node program bound ∷ []) (root program ∷ []) [] log (record { number = refl; box = refl; choices = refl }, tt) f

pub is_log_from : (program : Program) (bound : Option ℚ) (log : List Entry) → IsLog program log → AllFollow program.integral (first_node program bound ∷ []) [] log
is_log_from program bound log f = follow_alike program.integral (root program ∷ []) (first_node program bound ∷ []) [] log (record { number = refl; box = refl; choices = refl }, tt) f
