-- What a search begins with.
use Rattle.std.proofs.Common.{◌≡◌, inl, inr, ℕ, Bool, true, true≢false, List, [], ◌∷◌, Option, None, Some, IfSome, refl, sym, ◌∙◌, subst, arith}
use Rattle.cip_rational.specs.Rational.{ℚ}
use Rattle.cip_rational.proofs.Rational.Order.{≤ℚ_trans}
use Rattle.cip_problem.specs.Program.{Program}
use Rattle.cip_problem.specs.Points.{IsLowerBound}
use Rattle.cip_problem.specs.WellFormed.{IsWellFormed, columns}
use Rattle.cip_problem.specs.Log.{Entry, Node, node_of}
use Rattle.cip_problem.specs.Improving.{IsBoundIn}
use Rattle.cip_problem.proofs.Reductions.{reduction_itself}
use Rattle.cip_problem.proofs.Log.Entering.{contains_here}
use Rattle.cip_problem.proofs.Covers.{none_of_nothing, the_only}
use Rattle.cip_search.specs.Searched.{NoMore, first_node, nodes_given}
use Rattle.cip_search.specs.WideLeaf.{IsWideLeaf}
use Rattle.cip_incumbent.specs.HeldPoint.{Holding, nothing_held}
use Rattle.cip_search.specs.NarrowedPrograms.{IsInfeasible}
use Rattle.cip_solve.specs.StepsBack.{StepsTaken}
use Rattle.cip_solve.specs.Presolved.{Presolved}
use Rattle.cip_solve.specs.PresolvedPrograms.{IsPresolved}
use Rattle.cip_search.specs.SearchState.{State, WayBack, stay, IsWayBack, IsSearch, IsAsGiven}
use Rattle.cip_search.specs.Endings.{IsLeastBound}
use Rattle.cip_search.proofs.Kept as searching
use Rattle.cip_search.proofs.AsGiven as giving
use Rattle.cip_search.proofs.AtOnce.{ends_at_once}
use Rattle.cip_search.proofs.Bounds.{no_more_itself}
use Rattle.cip_search.proofs.Logs as logs
use Rattle.cip_search.specs.SearchEnds as ends
use Rattle.cip_search.specs.SearchAnswers.{IsSearchAnswer}
use Rattle.cip_search.proofs.Logs.{true_entries}
use Rattle.cip_search.proofs.WorkLogs.{none_relaxed, none_marked}
use Rattle.cip_tree.specs.Nodes.{Nodes}
use Rattle.cip_solve.specs.Beginning.{IsRootBound, HasNotBegun}
use Rattle.cip_solve.specs.CoreStates.{CoreState, reduced_of, way_of, IsSound}
use Rattle.cip_solve.specs.KeptNodes.{cost_held, IsKept}
use Rattle.cip_solve.specs.Mark.{Mark}
use Rattle.cip_solve.specs.Reducing.{IsOfReduced}
use Rattle.cip_solve.specs.Solved.{AreMet, IsSolved, IsSolvedBy}
use Rattle.cip_solve.specs.Searching.{IsStillAt, IsAtRoot, IsTold, IsWritten, CanBeSeen}
use Rattle.cip_solve.proofs.AnswerLaws.{WasLeastOf, refused_itself}

-- ---- the root's bound

-- a bound of the reduced program is one of the program as read
bound_lower : (program reduced : Program) (kept : ℕ → ℕ) (bound : Option ℚ) → CanBeSeen program reduced kept → IfSome bound (IsBoundIn reduced None reduced.bounds) → IfSome bound (IsLowerBound program)
bound_lower program reduced kept None c h = tt
bound_lower program reduced kept (Some b) c h = λ point f.
    let n = c.pair.none_lost point f in
    ≤ℚ_trans (h n.other (record { feasible = n.feasible; cheaper = tt }) n.feasible.within) n.no_dearer

root_holds : (program reduced : Program) (way : WayBack) (tree : Nodes) → tree.log ≡ [] → IsKept program reduced way tree None [] → IfSome tree.root.bound (IsBoundIn reduced None reduced.bounds)
root_holds program reduced way tree e k =
    let first = first_node reduced tree.root.bound in
    let P : List Entry → Type 0 = λ l. node_of (nodes_given reduced tree.root.bound l) 0 ≡ Some first in
    k.searched.bounds 0 first (subst P (sym e) refl)

start_lower : (program reduced : Program) (way : WayBack) (kept : ℕ → ℕ) (tree : Nodes) (holding : Holding) (columns : ℕ) → CanBeSeen program reduced kept → holding ≡ nothing_held columns → tree.log ≡ [] → IsKept program reduced way tree (cost_held holding) [] → IfSome tree.root.bound (IsLowerBound program)
start_lower program reduced way kept tree holding columns c h e k =
    bound_lower program reduced kept tree.root.bound c
    (root_holds program reduced way tree e (subst (λ t. IsKept program reduced way tree (cost_held t) []) h k))

-- ---- the search

module _ (program reduced : Program) (steps : StepsTaken) (core : CoreState) (b : HasNotBegun program reduced steps core) (s : IsSound core) (formed : IsWellFormed core.program) (left : IsWellFormed (reduced_of core)) where
  still_begun : IsStillAt core None
  still_begun = record {
    kept = b.kept.kept;
    matter = b.kept.matter;
    start_is = refl;
    is_held = s.is_held;
    is_worst = b.new.parked;
    counted = omega (arith, b.new.ids);
    begun = λ e f. absurd (let g : core.tree.root ∷ [] ≡ [] = sym b.new.open_ ∙ f in cc);
  }

  -- the root's bound holds
  lower_begun : IfSome core.tree.root.bound (IsLowerBound core.program)
  lower_begun =
      start_lower core.program (reduced_of core) (way_of core) _ core.tree core.incumbent (columns program)
      (record { post = _; pair = s.back.pair; formed = formed; left = left }) b.nothing b.new.log b.kept.kept

  pub at_root : IsAtRoot core
  at_root = record {
    standing = record { still = still_begun; boxes = b.kept.boxes };
    empty = b.new.log;
    plain = b.untouched;
    root = subst (λ (p : Program). IsRootBound p core.tree.root.bound) (sym b.program_is) b.root;
    lower = lower_begun;
  }

pub of_reduced : (program : Program) (presolved : Presolved) (core : CoreState) → HasNotBegun program presolved.reduced presolved.steps core → IsPresolved program presolved → IsWellFormed core.program → IsWellFormed (reduced_of core) → IsOfReduced core presolved
of_reduced program presolved core b back formed left = record {
  back = subst (λ (p : Program). IsPresolved p presolved) (sym b.program_is) back;
  reduced_is = b.reduced_is;
  steps_are = b.steps_are;
  formed = formed;
  left = left;
}

pub none_met : (program : Program) (start : Option ℚ) (log : List Entry) → AreMet program start log []
none_met program start log marked c = absurd (none_of_nothing marked c)

told_begun : (reduced : Program) (start : Option ℚ) (log : List Entry) → log ≡ [] → IsTold reduced start log []
told_begun reduced start log e = subst (λ l. IsTold reduced start l []) (sym e) (record {
  work = none_relaxed reduced start [];
  are_of = none_marked [];
})

pub written_begun : (core : CoreState) → core.tree.log ≡ [] → IsWritten core []
written_begun core e = record {
  told = told_begun (reduced_of core) core.tree.root.bound core.tree.log e;
  met = λ u. none_met (reduced_of core) core.tree.root.bound core.tree.log;
}

-- ---- memory was refused before a node was taken

module _ (program : Program) (start : Option ℚ) (holds : IfSome start (IsBoundIn program None program.bounds)) where
  abbrev first : Node
  first = first_node program start

  abbrev state : State
  state = record { held = None; work = []; open_ = first ∷ []; parked = []; log = [] }

  way : IsWayBack program program stay
  way = record { reduction = reduction_itself program; leaves = λ point h. refl; choices = λ on point h. h }

  searched : IsSearch program program stay IsWideLeaf start state
  searched = searching.begun program program stay IsWideLeaf start None way tt holds

  given : IsAsGiven program start state
  given = giving.begun program start None

  least : IsLeastBound None (first ∷ []) start
  least = record {
    one = inr (record { node = first; among = contains_here first []; is_bound = refl });
    cost = λ cost e. absurd (cc);
    each = λ node c. subst (λ (n : Node). NoMore start n.bound) (the_only first node c) (no_more_itself start);
  }

  was_least : WasLeastOf program start [] None start
  was_least = record {
    before = None;
    no_dearer = tt;
    least = logs.least program program stay IsWideLeaf start state start searched given refl least;
    entries = true_entries program IsWideLeaf start state searched;
  }

  pub nothing_searched : (nodes : ℕ) (asked : Option ℚ) → IsSearchAnswer program start nodes asked [] [] (record { ended = ends.NoMemory; held = None; bound = start })
  nothing_searched nodes asked = record {
    right = refused_itself program start nodes asked state searched None start refl tt was_least;
    within = omega arith;
    bound = λ t. no_more_itself start;
    searched = λ e. inl refl;
    long = λ ray e. absurd (cc);
    ray = λ ray e. absurd (cc);
    work = none_relaxed program start [];
    marks = tt;
  }

-- and there is no ray
pub no_ray : (ray : List ℚ) → ends.NoMemory ≡ ends.Unbounded ray → ⊥
no_ray ray e = cc

-- nor by whatever would have worked on nodes
pub unsearched_by : (program : Program) (nodes : ℕ) (asked : Option ℚ) (presolve alone : Bool) (log : List Entry) (marks : List (ℕ × Mark)) (answer : ends.Answer) → log ≡ [] → marks ≡ [] → IsSolved program nodes asked [] [] answer → IsSolvedBy program nodes asked presolve alone log marks answer
unsearched_by program nodes asked presolve alone log marks answer l m s =
    subst (λ entries. IsSolvedBy program nodes asked presolve alone entries marks answer) (sym l)
    (subst (λ of_them. IsSolvedBy program nodes asked presolve alone [] of_them answer) (sym m) (record {
      start = s.start;
      root = s.root;
      right = s.right;
      shown = s.shown;
      taken = λ e. s.taken refl;
      met = λ e a. s.met refl refl;
    }))

-- ---- presolve showed that no point is feasible

pub infeasible_at_once : (program : Program) (start : Option ℚ) (nodes : ℕ) (asked : Option ℚ) (alone : Bool) → IsRootBound program start → IsInfeasible program → IsSolvedBy program nodes asked true alone [] [] (record { ended = ends.Infeasible; held = None; bound = None })
infeasible_at_once program start nodes asked alone root none = record {
  start = start;
  root = root;
  right = ends_at_once program start nodes asked none;
  shown = λ ray e. absurd (cc);
  taken = λ e. absurd (true≢false e);
  met = λ e. absurd (true≢false e);
}

-- so the program was to be presolved
pub infeasible_by : (program : Program) (nodes : ℕ) (asked : Option ℚ) (presolve alone : Bool) (log : List Entry) (marks : List (ℕ × Mark)) (answer : ends.Answer) → presolve ≡ true → log ≡ [] → marks ≡ [] → IsSolvedBy program nodes asked true alone [] [] answer → IsSolvedBy program nodes asked presolve alone log marks answer
infeasible_by program nodes asked presolve alone log marks answer p l m s =
    subst (λ test. IsSolvedBy program nodes asked test alone log marks answer) (sym p)
    (subst (λ entries. IsSolvedBy program nodes asked true alone entries marks answer) (sym l)
    (subst (λ of_them. IsSolvedBy program nodes asked true alone [] of_them answer) (sym m) s))
