-- The log seen: bounds as good as those of linear programs, marks, and its last entry.
use Rattle.std.proofs.Common.{◌≡◌, inl, inr, ℕ, List, [], ◌∷◌, Option, Some, Contains, sym, ap, ◌∙◌, subst, arith}
use Rattle.std.specs.List.{AllByRecursion}
use Rattle.std.proofs.lemmas.List.{append-nil, map-append, length-map}
use Rattle.cip_rational.specs.Rational.{ℚ, ◌+ℚ◌, ◌-ℚ◌, ◌≤ℚ◌}
use Rattle.cip_rational.specs.Sums.{dot}
use Rattle.cip_rational.proofs.Linear.{linear_le, linear_same}
use Rattle.cip_problem.specs.Program.{Sides, Choice, Program}
use Rattle.cip_problem.specs.Activity.{value_at}
use Rattle.cip_problem.specs.Points.{IsSatisfied}
use Rattle.cip_problem.specs.Log.{End, Split, Closed, Parked, Entry, Node, node_of, AllFollow}
use Rattle.cip_problem.proofs.Points.AtPlaces.{in_box_at, IsInBox-long}
use Rattle.cip_problem.specs.LinearProgram.{IsPoint}
use Rattle.cip_problem.specs.Reduced.{IsRelaxed}
use Rattle.cip_search.specs.Searched.{first_node, nodes_given, NoMore}
use Rattle.cip_search.specs.Pairs.{IsPair}
use Rattle.cip_search.specs.Relaxation.{relaxation, IsRelaxedBound}
use Rattle.cip_search.specs.SearchAnswers.{IsParkedLast, IsSplitEnd, AreRelaxed, AreOfEntries}
use Rattle.cip_search.proofs.Members.{of_mapped}
use Rattle.cip_search.specs.SeenLogs.{end_seen, entry_seen, log_seen}
use Rattle.cip_search.specs.SeenStatements.{IsReducedTo, IsLogSeen, LogsAreSeen}
use Rattle.cip_search.proofs.SeenColumns.{in_box}
use Rattle.cip_search.proofs.Following.{behind, followed_seen, given_mirrored}
use Rattle.cip_search.proofs.Mirrors.{Mirrors}
use Rattle.cip_search.proofs.NearPoints.{comes_back}

-- ---- linear programs

-- a cost that is no more, less a constant and with another one
less_constant : (a b least x y : ℚ) → a +ℚ y ≡ b +ℚ x → least ≤ℚ y → (a +ℚ least) -ℚ b ≤ℚ x
less_constant a b least x y e h = linear_le (a ∷ b ∷ least ∷ x ∷ y ∷ []) (λ s w. omega (arith, s.le_out, s.same_out))

same_again : (b c : ℚ) → b +ℚ (c -ℚ b) ≡ c
same_again b c = linear_same (b ∷ c ∷ []) (λ s w. omega (arith, s.same_out))

module _ (program reduced : Program) (post : List ℚ → List ℚ) (kept : ℕ → ℕ) (pair : IsPair program reduced post kept) (box : List Sides) (choices : List Choice) (other : List Sides) (others : List Choice) (mirror : Mirrors program reduced kept box choices other others) where
  relaxed_point : (point : List ℚ) → IsPoint (relaxation reduced [] box) point → IsRelaxed reduced point
  relaxed_point point h =
      let l = mirror.long in
      record {
        within = in_box reduced.bounds point (IsInBox-long box point h.within ∙ l) (λ column i. (mirror.agree column i).within (value_at point column) (in_box_at box point column h.within));
        rows = subst (AllByRecursion (λ row. IsSatisfied row point)) (append-nil reduced.rows) h.rows;
      }

  point_there : (point : List ℚ) → IsPoint (relaxation reduced [] box) point → IsPoint (relaxation program [] other) (post point)
  point_there point h =
      let r = relaxed_point point h in
      record {
        within = comes_back program reduced post kept pair box choices other others mirror point r h.within;
        rows = subst (AllByRecursion (λ row. IsSatisfied row (post point))) (sym (append-nil program.rows)) (pair.relaxed point r).rows;
      }

  pub relaxed_there : (bound : Option ℚ) → IsRelaxedBound reduced [] box bound → IsRelaxedBound program [] other bound
  relaxed_there bound h = record {
    feasible = record { point = post h.feasible.point; is_point = point_there h.feasible.point h.feasible.is_point };
    reached = λ least c.
        subst (λ t. NoMore (Some t) bound) (same_again reduced.constant (program.constant +ℚ least))
        (h.reached ((program.constant +ℚ least) -ℚ reduced.constant) (λ point k.
        less_constant program.constant reduced.constant least (dot reduced.costs point) (dot program.costs (post point))
        (pair.cost point (relaxed_point point k)) (c (post point) (point_there point k))));
  }

-- ---- marks, and the last entry

pub entries_seen : (kept : ℕ → ℕ) (log : List Entry) (numbers : List ℕ) → AreOfEntries log numbers → AreOfEntries (log_seen kept log) numbers
entries_seen kept [] [] h = tt
entries_seen kept [] (n ∷ ns) h = absurd h
entries_seen kept (e ∷ log) [] h = tt
entries_seen kept (e ∷ log) (n ∷ ns) (inl h) = inl (h.0, entries_seen kept log ns h.1)
entries_seen kept (e ∷ log) (n ∷ ns) (inr h) = inr (entries_seen kept log (n ∷ ns) h)

pub last_seen : (kept : ℕ → ℕ) (log : List Entry) → IsParkedLast log → IsParkedLast (log_seen kept log)
last_seen kept log h = record {
  before = log_seen kept h.before;
  entry = entry_seen kept h.entry;
  placed = ap (log_seen kept) h.placed ∙ map-append (entry_seen kept) h.before (h.entry ∷ []);
  parked = ap (end_seen kept) h.parked;
}

was_split : (kept : ℕ → ℕ) (end : End) → IsSplitEnd (end_seen kept end) → IsSplitEnd end
was_split kept (Split column at low high) h = tt
was_split kept Closed h = h
was_split kept Parked h = h

-- ---- the log

module _ (program reduced : Program) (post : List ℚ → List ℚ) (kept : ℕ → ℕ) (given : IsReducedTo program reduced post kept) (start : Option ℚ) (log : List Entry) (followed : AllFollow reduced.integral (first_node reduced start ∷ []) [] log) where
  relaxed_at : (marked : List ℕ) → AreRelaxed reduced start log marked → (entry : Entry) (node : Node) → Contains log entry → IsSplitEnd entry.end → ¬ Contains marked entry.node → node_of (nodes_given program start (log_seen kept log)) entry.node ≡ Some node → IsRelaxedBound program [] node.box entry.bound
  relaxed_at marked h entry node c s n e =
      let b = behind program reduced kept (nodes_given reduced start log) (nodes_given program start (log_seen kept log)) entry.node node (given_mirrored program reduced post kept given start log followed) e in
      let m = b.2.mirrors in
      relaxed_there program reduced post kept given.pair b.0.box b.0.choices node.box node.choices m entry.bound (h entry b.0 c s n b.1)

  relaxed_seen : (marked : List ℕ) → AreRelaxed reduced start log marked → AreRelaxed program start (log_seen kept log) marked
  relaxed_seen marked h entry node c s n e =
      let r = of_mapped (entry_seen kept) log entry c in
      let back : entry ≡ entry_seen kept r.from = sym r.is in
      subst (λ (t : Entry). IsRelaxedBound program [] node.box t.bound) r.is
      (relaxed_at marked h r.from node r.among (was_split kept r.from.end (subst (λ (t : Entry). IsSplitEnd t.end) back s))
      (subst (λ (t : Entry). ¬ Contains marked t.node) back n)
      (ap (λ (t : Entry). node_of (nodes_given program start (log_seen kept log)) t.node) r.is ∙ e))

  pub log_seen_law : IsLogSeen program reduced kept start log
  log_seen_law = record {
    followed = followed_seen program reduced post kept given start log followed;
    relaxed = relaxed_seen;
    entries = entries_seen kept log;
    last = last_seen kept log;
    long = length-map log (entry_seen kept);
  }

pub logs_are_seen : LogsAreSeen
logs_are_seen program reduced post kept start log given followed = log_seen_law program reduced post kept given start log followed
