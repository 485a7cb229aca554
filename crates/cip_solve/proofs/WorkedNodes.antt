-- What the end of a node says of the log, and of the worst parked leaf.
use Rattle.std.proofs.Common.{◌≡◌, inl, inr, ℕ, ◌+◌, List, [], ◌∷◌, ◌++◌, length, Option, None, Some, IfSome, Contains, false, sym, ap, ◌∙◌, subst, arith, length-append}
use Rattle.std.proofs.lemmas.List.{append-nil, map-append}
use Rattle.std.proofs.lemmas.List.Elements.{Contains-push, Contains-push_cases}
use Rattle.cip_rational.specs.Rational.{ℚ}
use Rattle.cip_problem.specs.Program.{Sides, Program}
use Rattle.cip_problem.specs.WellFormed.{columns}
use Rattle.cip_problem.specs.Box.{IsInBox}
use Rattle.cip_problem.specs.Log.{End, Split, Closed, Parked, Entry, Node}
use Rattle.cip_problem.proofs.Log.Entering.{contains_here}
use Rattle.cip_search.specs.SearchState.{WayBack, IsGiven, IsWideBack}
use Rattle.cip_search.specs.Relaxation.{IsRelaxedBound}
use Rattle.cip_search.proofs.Relaxed.{wider}
use Rattle.cip_search.specs.SearchAnswers.{IsSplitEnd, AreRelaxed, AreOfEntries}
use Rattle.cip_search.proofs.WorkLogs.{unmarked_more, marked_more, later_given, relaxed_more}
use Rattle.cip_tree.specs.Nodes.{TakenNode, shown}
use Rattle.cip_solve.specs.NodeRows.{usable_rows}
use Rattle.cip_solve.specs.Relaxing.{IsMark}
use Rattle.cip_solve.specs.Mark.{Mark}
use Rattle.cip_solve.specs.CoreStates.{CoreState, reduced_of, held_of, IsTakenUp}
use Rattle.cip_solve.specs.Steps.{LeavesEntry}
use Rattle.cip_solve.specs.Bounding.{IsMarkOf, IsAsGood}
use Rattle.cip_search.specs.Leaf.{Leaf}
use Rattle.cip_solve.specs.NodeEnd.{NodeEnd}
use Rattle.cip_solve.specs.NodeEnd.TheVariants as by
use Rattle.cip_search.specs.WideLeaf.{Shown}
use Rattle.cip_solve.specs.Logs.{numbers_of, marks_by}
use Rattle.cip_solve.specs.NodesWorked.{IsWorkedEnd, HasWorked}
use Rattle.cip_solve.specs.Solved.{own_rows, IsMet, AreMet}
use Rattle.cip_solve.specs.Searching.{IsTold}
use Rattle.cip_solve.specs.Stops.{IsWorseOf}
use Rattle.cip_endings.specs.Worst.{leaf_of, IsWorst}
use Rattle.cip_endings.specs.declared.worst.Worst.{Worst}

-- ---- the entry

-- a node left an entry, with a bound that is as good as that of its linear program where it was split
pub record HasEntry (mid new : CoreState) (ended : Node) (mark : Option Mark) : Type 0 where
  pub end : End
  pub entry : LeavesEntry mid.tree new.tree ended end
  pub good : IsSplitEnd end → IsAsGood new ended.box ended.bound mark

pub entry_of_end : (mid new : CoreState) (ended : Node) (mark : Option Mark) (end : NodeEnd) → IsWorkedEnd mid new ended mark end → HasEntry mid new ended mark
entry_of_end mid new ended mark by.Pruned h = record { end = Closed; entry = h.entry; good = λ s. absurd s }
entry_of_end mid new ended mark by.Empty h = record { end = Closed; entry = h.entry; good = λ s. absurd s }
entry_of_end mid new ended mark by.Solved h = record { end = Closed; entry = h.entry; good = λ s. absurd s }
entry_of_end mid new ended mark (by.Split low high) h = record { end = Split h.column h.at low high; entry = h.entry; good = λ s. h.good }
entry_of_end mid new ended mark (by.Parked leaf on bound shown) h = record { end = Parked; entry = h.entry; good = λ s. absurd s }
entry_of_end mid new ended mark (by.Ray point ray) h = record { end = Parked; entry = h.entry; good = λ s. absurd s }

pub one_longer : (mid new : CoreState) (ended : Node) (end : End) → LeavesEntry mid.tree new.tree ended end → length new.tree.log ≡ length mid.tree.log + 1
one_longer mid new ended end e =
    let entry : Entry = record { node = ended.number; bound = ended.bound; end = end } in
    omega (arith, ap length e.logged, length-append mid.tree.log (entry ∷ []))

-- ---- what is told

-- the log gave the node that was taken up
pub given_taken : (core : CoreState) (node : TakenNode) → IsTakenUp core node → IsGiven (reduced_of core) core.tree.root.bound core.tree.log (held_of core) (shown core.tree node)
given_taken core node up = up.nodes.kept.searched.given (shown core.tree node) (contains_here (shown core.tree node) (core.tree.open_ ++ core.tree.parked))

-- the numbers of the marks, with that of a node that may have one
numbers_more : (marks more : List (ℕ × Mark)) → numbers_of (marks ++ more) ≡ numbers_of marks ++ numbers_of more
numbers_more marks more = map-append (λ (mark : ℕ × Mark). mark.0) marks more

good_relaxed : (mid new : CoreState) (inner outer : List Sides) (bound : Option ℚ) (mark : Option Mark) (marked : List ℕ) (number : ℕ) → reduced_of new ≡ reduced_of mid → ((point : List ℚ) → IsInBox inner point → IsInBox outer point) → IsAsGood new inner bound mark → ¬ Contains (marked ++ numbers_of (marks_by number mark)) number → IsRelaxedBound (reduced_of mid) [] outer bound
good_relaxed mid new inner outer bound None marked number p f h n =
    wider (reduced_of mid) (usable_rows inner new.pool.rows) inner outer bound f (subst (λ q. IsRelaxedBound q (usable_rows inner new.pool.rows) inner bound) p h)
good_relaxed mid new inner outer bound (Some mark) marked number p f h n = absurd (n (Contains-push marked number))

marks_more : (log : List Entry) (marked : List ℕ) (entry : Entry) (mark : Option Mark) → AreOfEntries log marked → AreOfEntries (log ++ entry ∷ []) (marked ++ numbers_of (marks_by entry.node mark))
marks_more log marked entry None h = subst (AreOfEntries (log ++ entry ∷ [])) (sym (append-nil marked)) (unmarked_more log marked entry h)
marks_more log marked entry (Some mark) h = marked_more log marked entry h

-- what a mark met stays, as the log grows
met_later : (program : Program) (start : Option ℚ) (log : List Entry) (entry : Entry) (number : ℕ) (mark : Mark) → IsMet program start log number mark → IsMet program start (log ++ entry ∷ []) number mark
met_later program start log entry number mark h = record {
  node = h.node;
  given = later_given program start log entry number h.node h.given;
  room = h.room;
  wide = h.wide;
  is_mark = h.is_mark;
}

met_more : (program : Program) (start : Option ℚ) (log : List Entry) (entry : Entry) (marks : List (ℕ × Mark)) (mark : Option Mark) → AreMet program start log marks → IfSome mark (IsMet program start log entry.node) → AreMet program start (log ++ entry ∷ []) (marks ++ marks_by entry.node mark)
met_more program start log entry marks None h m marked c =
    met_later program start log entry marked.0 marked.1 (h marked (subst (λ l. Contains l marked) (append-nil marks) c))
met_more program start log entry marks (Some mark) h m marked c =
    met_later program start log entry marked.0 marked.1 (elim (Contains-push_cases marks (entry.node, mark) marked c) [
      | inl k ↦ h marked k
      | inr e ↦ subst (λ (t : ℕ × Mark). IsMet program start log t.0 t.1) e m
    ])

-- a mark of the node's own box over the program's rows alone is one of the box that the log gave
met_here : (mid new : CoreState) (node : TakenNode) (ended : Node) (mark : Option Mark) (g : IsGiven (reduced_of mid) mid.tree.root.bound mid.tree.log (held_of mid) (shown mid.tree node)) → reduced_of new ≡ reduced_of mid → new.pool.rows ≡ [] → ended.box ≡ g.given.box → IfSome mark (IsMarkOf new ended.box) → IfSome mark (IsMet (reduced_of mid) mid.tree.root.bound mid.tree.log node.number)
met_here mid new node ended None g p bare b m = tt
met_here mid new node ended (Some mark) g p bare b m = record {
  node = g.given;
  given = g.found;
  room = columns (reduced_of mid);
  wide = omega arith;
  is_mark =
      subst (λ (q : Program). IsMark q (own_rows q) g.given.box (columns q) mark) p
      (subst (λ rows. IsMark (reduced_of new) (record { own = (reduced_of new).rows; pool = rows; cutoff = None }) g.given.box (columns (reduced_of new)) mark) bare
      (subst (λ box. IsMarkOf new box mark) b m));
}

-- once the node has ended
module _ (mid new : CoreState) (node : TakenNode) (mark : Option Mark) (end : NodeEnd) (marks : List (ℕ × Mark)) (up : IsTakenUp mid node) (h : HasWorked mid new node mark end) where
  abbrev more : List (ℕ × Mark)
  more = marks_by node.number mark

  logged_more : (e : HasEntry mid new h.ended mark) → new.tree.log ≡ mid.tree.log ++ record { node = node.number; bound = h.ended.bound; end = e.end } ∷ []
  logged_more e =
      subst (λ n. new.tree.log ≡ mid.tree.log ++ record { node = n; bound = h.ended.bound; end = e.end } ∷ []) h.narrower.number e.entry.logged

  pub told_more : IsTold (reduced_of mid) mid.tree.root.bound mid.tree.log marks → IsTold (reduced_of mid) mid.tree.root.bound new.tree.log (marks ++ more)
  told_more t =
      let program = reduced_of mid in
      let start = mid.tree.root.bound in
      let e = entry_of_end mid new h.ended mark end h.end_ in
      let entry : Entry = record { node = node.number; bound = h.ended.bound; end = e.end } in
      let g = given_taken mid node up in
      let numbers = sym (numbers_more marks more) in
      subst (λ log. IsTold program start log (marks ++ more)) (sym (logged_more e)) (record {
        work = subst (AreRelaxed program start (mid.tree.log ++ entry ∷ [])) numbers
            (relaxed_more program start mid.tree.log (numbers_of marks) (numbers_of more) entry g.given up.nodes.kept.searched.logged g.found t.work
            (λ s n. good_relaxed mid new h.ended.box g.given.box h.ended.bound mark (numbers_of marks) node.number h.later.reduced (λ point w. g.holds point (h.narrower.inside point w)) (e.good s) n));
        are_of = subst (AreOfEntries (mid.tree.log ++ entry ∷ [])) numbers (marks_more mid.tree.log (numbers_of marks) entry mark t.are_of);
      })

  pub met_taken : new.pool.rows ≡ [] → new.touched ≡ false → AreMet (reduced_of mid) mid.tree.root.bound mid.tree.log marks → AreMet (reduced_of mid) mid.tree.root.bound new.tree.log (marks ++ more)
  met_taken bare u t =
      let program = reduced_of mid in
      let start = mid.tree.root.bound in
      let e = entry_of_end mid new h.ended mark end h.end_ in
      let entry : Entry = record { node = node.number; bound = h.ended.bound; end = e.end } in
      let g = given_taken mid node up in
      let box = h.same u ∙ (up.nodes.boxes (h.later.untouched u)).boxes (shown mid.tree node) g.given (contains_here (shown mid.tree node) (mid.tree.open_ ++ mid.tree.parked)) g.found in
      subst (λ log. AreMet program start log (marks ++ more)) (sym (logged_more e))
      (met_more program start mid.tree.log entry marks mark t (met_here mid new node h.ended mark g h.later.reduced bare box h.met))

-- ---- the worst leaf

module _ (program reduced : Program) (way : WayBack) where
  same_wide : (node : Node) (leaf other : Leaf) (shown by_ : Shown) → other ≡ leaf → by_ ≡ shown → IsWideBack program reduced way node leaf shown → IsWideBack program reduced way node other by_
  same_wide node leaf other shown by_ e g p =
      subst (λ t. IsWideBack program reduced way node t by_) (sym e) (subst (IsWideBack program reduced way node leaf) (sym g) p)

  pub worst_more : (parked now : List Node) (ended : Node) (leaf : Leaf) (bound : Option ℚ) (shown : Shown) (worst next : Option Worst) → now ≡ parked ++ ended ∷ [] → ended.bound ≡ bound → IsWideBack program reduced way ended leaf shown → IsWorst program reduced way parked worst → IsWorseOf worst leaf bound shown next → IsWorst program reduced way now next
  worst_more parked now ended leaf bound shown worst next e b a w k =
      subst (λ l. IsWorst program reduced way l next) (sym e)
      (k.worse program reduced way parked ended w (b ∙ sym k.bound_is) (same_wide ended leaf (leaf_of k.parked) shown _ k.leaf_is k.shown_is a))
