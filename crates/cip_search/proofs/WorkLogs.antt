-- What is told of the work on nodes, as the log of a search grows by an entry.
use Rattle.std.proofs.Common.{◌≡◌, inl, inr, ℕ, List, [], ◌∷◌, ◌++◌, Option, Some, Contains, refl, sym, ap, ◌∙◌, subst}
use Rattle.std.proofs.lemmas.List.Elements.{Contains-append_left, Contains-push_cases}
use Rattle.std.proofs.lemmas.Option.{same_Some}
use Rattle.cip_rational.specs.Rational.{ℚ}
use Rattle.cip_problem.specs.Program.{Program}
use Rattle.cip_problem.specs.Log.{Entry, Node, node_of, nodes_of, AllFollow}
use Rattle.cip_problem.proofs.Log.Entering.{taken_given, given_more, node_of_kept}
use Rattle.cip_problem.proofs.Covers.{none_of_nothing}
use Rattle.cip_search.specs.Searched.{first_node, nodes_given}
use Rattle.cip_search.specs.Relaxation.{IsRelaxedBound}
use Rattle.cip_search.proofs.Members.{mapped}
use Rattle.cip_search.specs.SearchAnswers.{IsSplitEnd, AreRelaxed, AreOfEntries}

-- ---- marks

pub unmarked_more : (log : List Entry) (numbers : List ℕ) (entry : Entry) → AreOfEntries log numbers → AreOfEntries (log ++ entry ∷ []) numbers
unmarked_more [] [] entry h = tt
unmarked_more [] (n ∷ ns) entry h = absurd h
unmarked_more (e ∷ log) [] entry h = tt
unmarked_more (e ∷ log) (n ∷ ns) entry (inl h) = inl (h.0, unmarked_more log ns entry h.1)
unmarked_more (e ∷ log) (n ∷ ns) entry (inr h) = inr (unmarked_more log (n ∷ ns) entry h)

pub none_marked : (log : List Entry) → AreOfEntries log []
none_marked [] = tt
none_marked (e ∷ log) = tt

pub marked_more : (log : List Entry) (numbers : List ℕ) (entry : Entry) → AreOfEntries log numbers → AreOfEntries (log ++ entry ∷ []) (numbers ++ entry.node ∷ [])
marked_more [] [] entry h = inl (refl, tt)
marked_more [] (n ∷ ns) entry h = absurd h
marked_more (e ∷ log) [] entry h = inr (marked_more log [] entry (none_marked log))
marked_more (e ∷ log) (n ∷ ns) entry (inl h) = inl (h.0, marked_more log ns entry h.1)
marked_more (e ∷ log) (n ∷ ns) entry (inr h) = inr (marked_more log (n ∷ ns) entry h)

-- ---- bounds

pub none_relaxed : (program : Program) (start : Option ℚ) (marked : List ℕ) → AreRelaxed program start [] marked
none_relaxed program start marked entry node c s n e = absurd (none_of_nothing entry c)

pub later_given : (program : Program) (start : Option ℚ) (log : List Entry) (entry : Entry) (number : ℕ) (node : Node) → node_of (nodes_given program start log) number ≡ Some node → node_of (nodes_given program start (log ++ entry ∷ [])) number ≡ Some node
later_given program start log entry number node h =
    subst (λ nodes. node_of nodes number ≡ Some node) (sym (given_more (first_node program start ∷ []) log entry))
    (node_of_kept (nodes_given program start log) (nodes_of (nodes_given program start log) entry) number node h)

-- an entry of a node that was given; where the node was split without a mark, its bound is good in the box given
module _ (program : Program) (start : Option ℚ) (log : List Entry) (marked marks : List ℕ) (entry : Entry) (given : Node) (followed : AllFollow program.integral (first_node program start ∷ []) [] log) (found : node_of (nodes_given program start log) entry.node ≡ Some given) where
  old_entry : AreRelaxed program start log marked → (other : Entry) (node : Node) → Contains log other → IsSplitEnd other.end → ¬ Contains (marked ++ marks) other.node → node_of (nodes_given program start (log ++ entry ∷ [])) other.node ≡ Some node → IsRelaxedBound program [] node.box other.bound
  old_entry h other node c s n e =
      let there = taken_given program.integral (first_node program start ∷ []) [] log other.node followed (mapped (λ t. t.node) log other c) in
      let same : there.0 ≡ node = same_Some there.0 node (sym (later_given program start log entry other.node there.0 there.1) ∙ e) in
      h other node c s (λ m. n (Contains-append_left marked marks other.node m)) (there.1 ∙ ap (λ x. Some x) same)

  new_entry : (IsSplitEnd entry.end → ¬ Contains (marked ++ marks) entry.node → IsRelaxedBound program [] given.box entry.bound) → (node : Node) → IsSplitEnd entry.end → ¬ Contains (marked ++ marks) entry.node → node_of (nodes_given program start (log ++ entry ∷ [])) entry.node ≡ Some node → IsRelaxedBound program [] node.box entry.bound
  new_entry r node s n e =
      let same : given ≡ node = same_Some given node (sym (later_given program start log entry entry.node given found) ∙ e) in
      subst (λ (x : Node). IsRelaxedBound program [] x.box entry.bound) same (r s n)

  pub relaxed_more : AreRelaxed program start log marked → (IsSplitEnd entry.end → ¬ Contains (marked ++ marks) entry.node → IsRelaxedBound program [] given.box entry.bound) → AreRelaxed program start (log ++ entry ∷ []) (marked ++ marks)
  relaxed_more h r other node c = elim (Contains-push_cases log entry other c) [
    | inl k ↦ old_entry h other node k
    | inr k ↦ subst (λ (t : Entry). IsSplitEnd t.end → ¬ Contains (marked ++ marks) t.node → node_of (nodes_given program start (log ++ entry ∷ [])) t.node ≡ Some node → IsRelaxedBound program [] node.box t.bound) k (new_entry r node)
  ]
