-- No bound of a search is below that of its root.
use Rattle.std.proofs.Common.{◌≡◌, inl, inr, ℕ, Bool, List, [], ◌∷◌, ◌++◌, Option, None, Some, IfSome, Contains, sym, ap, subst}
use Rattle.std.proofs.lemmas.List.Elements.{Contains-append_cases}
use Rattle.cip_rational.specs.Rational.{ℚ, ◌≤ℚ◌}
use Rattle.cip_problem.specs.Program.{Program}
use Rattle.cip_problem.specs.Points.{IsLowerBound}
use Rattle.cip_problem.specs.Log.{End, Split, Closed, Parked, Entry, Node, node_of, low_node, high_node, halves, nodes_of, given_after, AllFollow}
use Rattle.cip_problem.proofs.Log.Entering.{given_kept, node_of_kept, contains_here, contains_cons, contains_later}
use Rattle.cip_problem.proofs.Covers.{none_of_nothing, the_only}
use Rattle.cip_search.specs.Searched.{NoMore, IsOneOf, first_node, nodes_given}
use Rattle.cip_search.proofs.Alike.{is_log_from}
use Rattle.cip_search.proofs.Bounds.{no_more_same}
use Rattle.cip_search.proofs.OneMore.{node_of_among}
use Rattle.cip_search.specs.SearchEnds.{Ended, Optimal, Infeasible, Unbounded, NodeLimit, Gap, Wide, NoMemory, Answer, Held, cost_of_held, IsHeldPoint, IsSettled, EndHolds, IsAnswer}
use Rattle.cip_search.specs.SearchAnswers.{TellsBound}
use Rattle.cip_search.proofs.Roots.{no_more}

-- ---- nodes and entries

record AreAbove (start : Option ℚ) (nodes : List Node) (log : List Entry) : Type 0 where
  nodes_above : (node : Node) → Contains nodes node → NoMore start node.bound
  entries_above : (entry : Entry) → Contains log entry → NoMore start entry.bound

halves_above : (start : Option ℚ) (found : Option Node) (bound : Option ℚ) (end : End) (node : Node) → NoMore start bound → Contains (halves found bound end) node → NoMore start node.bound
halves_above start None bound end node b c = absurd (none_of_nothing node c)
halves_above start (Some n) bound Closed node b c = absurd (none_of_nothing node c)
halves_above start (Some n) bound Parked node b c = absurd (none_of_nothing node c)
halves_above start (Some n) bound (Split column at low high) node b c =
    let first : Node = record (low_node n column at) { number = low; bound = bound } in
    let second : Node = record (high_node n column at) { number = high; bound = bound } in
    elim (contains_cons first node (second ∷ []) c) [
      | inl e ↦ subst (λ (t : Node). NoMore start t.bound) e b
      | inr k ↦ subst (λ (t : Node). NoMore start t.bound) (the_only second node k) b
    ]

all_above : (start : Option ℚ) (integral : List Bool) (given : List Node) (taken : List ℕ) (log : List Entry) → AllFollow integral given taken log → ((entry : Entry) (node : Node) → Contains log entry → node_of (given_after given log) entry.node ≡ Some node → NoMore node.bound entry.bound) → ((node : Node) → Contains given node → NoMore start node.bound) → AreAbove start (given_after given log) log
all_above start integral given taken [] f t g = record { nodes_above = g; entries_above = λ entry c. absurd (none_of_nothing entry c) }
all_above start integral given taken (x ∷ log) f t g =
    let found = given_kept (given ++ nodes_of given x) log x.node f.0.node (node_of_kept given (nodes_of given x) x.node f.0.node f.0.given_before) in
    let own : NoMore f.0.node.bound x.bound = t x f.0.node (contains_here x log) found in
    let b : NoMore start x.bound = no_more start f.0.node.bound x.bound (g f.0.node (node_of_among given x.node f.0.node f.0.given_before).0) own in
    let rest = all_above start integral (given ++ nodes_of given x) (x.node ∷ taken) log f.1 (λ entry node c. t entry node (contains_later x entry log c)) (λ node c. elim (Contains-append_cases given (nodes_of given x) node c) [
      | inl k ↦ g node k
      | inr k ↦ halves_above start (node_of given x.node) x.bound x.end node b k
    ]) in
    record {
      nodes_above = rest.nodes_above;
      entries_above = λ entry c. elim (contains_cons x entry log c) [
        | inl e ↦ subst (λ (y : Entry). NoMore start y.bound) e b
        | inr k ↦ rest.entries_above entry k
      ];
    }

-- ---- the cost held

cost_above : (program : Program) (start : Option ℚ) (held : Held) → IfSome start (IsLowerBound program) → IsHeldPoint program held → NoMore start (Some held.cost)
cost_above program None held l p = tt
cost_above program (Some s) held l p = subst (λ c. s ≤ℚ c) (sym p.cost) (l held.point p.feasible)

held_above : (program : Program) (start : Option ℚ) (held : Option Held) (cost : ℚ) → IfSome start (IsLowerBound program) → IfSome held (IsHeldPoint program) → cost_of_held held ≡ Some cost → NoMore start (Some cost)
held_above program start None cost l p e = absurd (cc)
held_above program start (Some held) cost l p e = subst (λ c. NoMore start c) e (cost_above program start held l p)

-- ---- the answer

end_settled : (program : Program) (start : Option ℚ) (nodes : ℕ) (asked : Option ℚ) (log : List Entry) (answer : Answer) (ended : Ended) → TellsBound ended → EndHolds program start nodes asked log answer ended → IsSettled program start nodes asked log answer
end_settled program start nodes asked log answer Optimal t h = h
end_settled program start nodes asked log answer Infeasible t h = h
end_settled program start nodes asked log answer (Unbounded ray) t h = absurd t
end_settled program start nodes asked log answer NodeLimit t h = h
end_settled program start nodes asked log answer Gap t h = h
end_settled program start nodes asked log answer (Wide leaf shown) t h = h
end_settled program start nodes asked log answer NoMemory t h = h

module _ (program : Program) (start : Option ℚ) (nodes : ℕ) (asked : Option ℚ) (log : List Entry) (answer : Answer) (lower : IfSome start (IsLowerBound program)) (a : IsAnswer program start nodes asked log answer) (s : IsSettled program start nodes asked log answer) where
  above : AreAbove start (nodes_given program start log) log
  above = all_above start program.integral (first_node program start ∷ []) [] log (is_log_from program start log a.logged)
      (λ entry node c e. (s.entries entry node c e).kept)
      (λ node c. no_more_same start node.bound (ap (λ (n : Node). n.bound) (the_only (first_node program start) node c)))

  one_above : (bound : Option ℚ) → IsOneOf program start log (cost_of_held answer.held) bound → NoMore start bound
  one_above bound (inl c) = subst (NoMore start) (sym c.is_bound) (held_above program start answer.held c.cost lower a.point c.is_held)
  one_above bound (inr (inl c)) =
      subst (NoMore start) (sym c.is_bound) (above.nodes_above c.node (node_of_among (nodes_given program start log) c.node.number c.node c.left.given).0)
  one_above bound (inr (inr c)) = subst (NoMore start) (sym c.is_bound) (above.entries_above c.entry c.among)

-- the bound that is answered isn't below that of the root
pub answer_above : (program : Program) (start : Option ℚ) (nodes : ℕ) (asked : Option ℚ) (log : List Entry) (answer : Answer) → IfSome start (IsLowerBound program) → IsAnswer program start nodes asked log answer → TellsBound answer.ended → NoMore start answer.bound
answer_above program start nodes asked log answer lower a t =
    let s = end_settled program start nodes asked log answer answer.ended t a.end_ in
    one_above program start nodes asked log answer lower a s answer.bound (s.least (λ e. absurd (subst TellsBound e t))).one
