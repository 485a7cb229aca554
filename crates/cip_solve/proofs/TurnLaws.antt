-- A search from one node to the next.
use Rattle.std.proofs.Common.{◌≡◌, ◌≢◌, ℕ, ◌+◌, ◌≤◌, Bool, true, false, not, is_some, true≢false, List, [], ◌∷◌, ◌++◌, length, take, Option, None, Some, MatchOption, refl, sym, ap, ◌∙◌, subst, arith}
use Rattle.std.proofs.lemmas.List.{take-append-le}
use Rattle.cip_rational.specs.Rational.{ℚ}
use Rattle.cip_rational.proofs.Rational.Order.{≤ℚ_refl}
use Rattle.cip_problem.specs.Program.{Program}
use Rattle.cip_solve.specs.StepsBack.{StepsTaken, way_back}
use Rattle.cip_problem.specs.Log.{End, Split, Closed, Parked, Entry, Node}
use Rattle.cip_problem.specs.Improving.{IsNoDearer}
use Rattle.cip_solve.specs.LeafAnswers.{shown_as}
use Rattle.cip_incumbent.specs.HeldPoint.{Holding}
use Rattle.cip_search.specs.SearchState.{WayBack}
use Rattle.cip_search.specs.Endings.{IsLeastBound}
use Rattle.cip_tree.specs.Moves as tree
use Rattle.cip_tree.specs.Nodes.{Nodes, TakenNode, shown}
use Rattle.cip_solve.specs.Mark.{Mark}
use Rattle.cip_solve.specs.CoreStates.{CoreState, reduced_of, way_of, held_of, IsKeptIn, IsTakenUp}
use Rattle.cip_solve.specs.KeptNodes.{cost_held, state_of, IsHolding}
use Rattle.cip_solve.specs.Later.{IsLater}
use Rattle.cip_solve.specs.Steps.{LeavesEntry, IsBack}
use Rattle.cip_tree.specs.Moves.{TakesFirst}
use Rattle.cip_solve.specs.NodeEnds.{IsEndless as EndsEndless}
use Rattle.cip_solve.specs.NodeEnd.{NodeEnd}
use Rattle.cip_solve.specs.NodeEnd.TheVariants as by
use Rattle.cip_endings.specs.LeastBounds.{least_of, bound_held, flat}
use Rattle.cip_solve.specs.FirstStops.{IsLongerLog}
use Rattle.cip_solve.specs.Logs.{marks_by}
use Rattle.cip_solve.specs.NodesWorked.{IsWorkedEnd, HasWorked}
use Rattle.cip_solve.specs.Solved.{AreMet}
use Rattle.cip_solve.specs.Searching.{IsStill, IsStillAt, IsStanding, IsSameSearch, IsTold, IsWritten, StopsEndless, StopsRefused}
use Rattle.cip_solve.specs.Stops.{StopsAs, StopsAt, IsKeptAs}
use Rattle.cip_solve.specs.Stopping.{WasLeast}
use Rattle.cip_endings.specs.Worst.{IsWorst, worst_bound}
use Rattle.cip_endings.specs.declared.worst.Worst.{Worst}
use Rattle.cip_solve.specs.declared.turns.Stop.{Stop}
use Rattle.cip_solve.specs.declared.turns.Stop.TheVariants.{Still}
use Rattle.cip_solve.proofs.OpenBounds.{waiting_least, not_empty}
use Rattle.cip_solve.proofs.WorkedNodes.{entry_of_end, one_longer, told_more, met_taken, worst_more}

-- ---- memory was refused

was_least : (program reduced : Program) (way : WayBack) (old : Nodes) (before after : Holding) (worst : Option Worst) (waiting : Option (Option ℚ)) (bound : Option ℚ) (log : List Entry) → IsStill program reduced way old.root.bound old before worst → MatchOption waiting (old.open_ ≡ []) (λ b. tree.IsLeastBound b old.open_) → waiting ≢ None → bound ≡ flat (least_of (bound_held (cost_held before)) (least_of waiting (worst_bound worst))) → log ≡ old.log → IsNoDearer (cost_held after) (cost_held before) → WasLeast program reduced way old.root.bound log (cost_held after) bound
was_least program reduced way old before after worst waiting bound log k m n e l d = record {
  before = state_of old (cost_held before) [];
  searched = k.kept.searched;
  as_given = k.kept.as_given;
  idle = refl;
  logged = sym l;
  no_dearer = d;
  least = subst (IsLeastBound (cost_held before) (old.open_ ++ old.parked)) (sym e) (waiting_least program reduced way old (cost_held before) worst waiting m n k.is_worst);
}

-- one waits
pub some_there : (waiting : Option (Option ℚ)) (none : Bool) → is_some waiting ≡ not none → none ≡ false → waiting ≢ None
some_there None none e f n = absurd (true≢false (sym (e ∙ ap not f)))
some_there (Some bound) none e f n = cc

-- none waits
pub none_there : (waiting : Option (Option ℚ)) (none : Bool) (Empty : Type 0) (Least : Option ℚ → Type 0) → is_some waiting ≡ not none → none ≡ true → MatchOption waiting Empty Least → Empty
none_there None none Empty Least e f m = m
none_there (Some bound) none Empty Least e f m = absurd (true≢false (e ∙ ap not f))

no_dearer_itself : (held : Option ℚ) → IsNoDearer held held
no_dearer_itself None = tt
no_dearer_itself (Some cost) = ≤ℚ_refl cost

-- before a node was taken up
pub refused_before : (program reduced : Program) (way : WayBack) (old : Nodes) (holding : Holding) (worst : Option Worst) (waiting : Option (Option ℚ)) (bound : Option ℚ) → IsStill program reduced way old.root.bound old holding worst → MatchOption waiting (old.open_ ≡ []) (λ b. tree.IsLeastBound b old.open_) → waiting ≢ None → bound ≡ flat (least_of (bound_held (cost_held holding)) (least_of waiting (worst_bound worst))) → StopsRefused program reduced way old.root.bound old holding bound
refused_before program reduced way old holding worst waiting bound k m n e = record {
  searched = k.kept.searched;
  start_is = refl;
  was_least = was_least program reduced way old holding holding worst waiting bound old.log k m n e refl (no_dearer_itself (cost_held holding));
}

-- ---- a node was taken up, and ended

-- from before the node was taken up to its end
module _ (old mid new : CoreState) (node : TakenNode) (worst : Option Worst) (taken : mid ≡ record old { tree = mid.tree }) (first : TakesFirst old.tree mid.tree node) (k : IsStillAt old worst) (later : IsLater mid new) (is_held : IsHolding new.program new.incumbent) where
  same_program : new.program ≡ old.program
  same_program = later.program ∙ ap (λ (c : CoreState). c.program) taken

  same_reduced : reduced_of new ≡ reduced_of old
  same_reduced = later.reduced ∙ ap (λ (c : CoreState). c.reduced) taken

  same_steps : new.steps ≡ old.steps
  same_steps = later.steps ∙ ap (λ (c : CoreState). c.steps) taken

  same_root : new.tree.root ≡ old.tree.root
  same_root = later.root ∙ ap (λ (t : Nodes). t.root) first.rest

  pub same_search : IsSameSearch old new
  same_search = record { program = same_program; reduced = same_reduced; steps = same_steps; root = same_root }

  -- so what holds of them holds still
  same_ways : (P : Program → Program → WayBack → Option ℚ → Type 0) → P old.program (reduced_of old) (way_of old) old.tree.root.bound → P new.program (reduced_of new) (way_of new) new.tree.root.bound
  same_ways P t =
      subst (λ (p : Program). P p (reduced_of new) (way_of new) new.tree.root.bound) (sym same_program)
      (subst (λ (r : Program). P old.program r (way_of new) new.tree.root.bound) (sym same_reduced)
      (subst (λ (s : StepsTaken). P old.program (reduced_of old) (way_back s) new.tree.root.bound) (sym same_steps)
      (subst (λ (n : Node). P old.program (reduced_of old) (way_of old) n.bound) (sym same_root) t)))

  pub same_log : mid.tree.log ≡ old.tree.log
  same_log = ap (λ (t : Nodes). t.log) first.rest

  same_parked : mid.tree.parked ≡ old.tree.parked
  same_parked = ap (λ (t : Nodes). t.parked) first.rest

  was_worst : IsWorst new.program (reduced_of new) (way_of new) mid.tree.parked worst
  was_worst = same_ways (λ p r w b. IsWorst p r w mid.tree.parked worst) (subst (λ l. IsWorst old.program (reduced_of old) (way_of old) l worst) (sym same_parked) k.is_worst)

  pub cheaper_still : IsNoDearer (held_of new) (cost_held old.incumbent)
  cheaper_still = subst (λ (i : Holding). IsNoDearer (held_of new) (cost_held i)) (ap (λ (c : CoreState). c.incumbent) taken) later.no_dearer

  -- nothing was touched before
  untouched_before : new.touched ≡ false → old.touched ≡ false
  untouched_before u = sym (ap (λ (c : CoreState). c.touched) taken) ∙ later.untouched u

  -- nothing was logged
  same_told : {X : Type 0} (P : Program → Option ℚ → List Entry → X → Type 0) (x : X) → new.tree.log ≡ mid.tree.log → P (reduced_of old) old.tree.root.bound old.tree.log x → P (reduced_of new) new.tree.root.bound new.tree.log x
  same_told P x l t =
      subst (λ (p : Program). P p new.tree.root.bound new.tree.log x) (sym same_reduced)
      (subst (λ (n : Node). P (reduced_of old) n.bound new.tree.log x) (sym same_root)
      (subst (λ log. P (reduced_of old) old.tree.root.bound log x) (sym (l ∙ same_log)) t))

  pub written_still : (marks : List (ℕ × Mark)) → new.tree.log ≡ mid.tree.log → IsWritten old marks → IsWritten new marks
  written_still marks l t = record {
    told = same_told IsTold marks l t.told;
    met = λ u. same_told AreMet marks l (t.met (untouched_before u));
  }

  pub no_longer : new.tree.log ≡ mid.tree.log → length new.tree.log ≤ length old.tree.log + 1
  no_longer l = omega (arith, ap length (l ∙ same_log))

  -- one entry was logged
  pub longer_by : (ended : Node) (mark : Option Mark) (end : NodeEnd) → IsWorkedEnd mid new ended mark end → length new.tree.log ≤ length old.tree.log + 1
  longer_by ended mark end h =
      let e = entry_of_end mid new ended mark end h in
      omega (arith, one_longer mid new ended e.end e.entry, ap length same_log)

  pub longer_log : (ended : Node) (mark : Option Mark) (end : NodeEnd) → IsWorkedEnd mid new ended mark end → IsLongerLog old.tree.log new.tree.log
  longer_log ended mark end h =
      let e = entry_of_end mid new ended mark end h in
      let last : Entry = record { node = ended.number; bound = ended.bound; end = e.end } in
      λ n s. ap (take n) (e.entry.logged ∙ ap (λ l. l ++ last ∷ []) same_log) ∙ take-append-le n old.tree.log (last ∷ []) s

  -- memory was refused
  pub refused_turn : (number : ℕ) (given bound : Option ℚ) (waiting : Option (Option ℚ)) → IsBack mid new number given → MatchOption waiting (old.tree.open_ ≡ []) (λ b. tree.IsLeastBound b old.tree.open_) → waiting ≢ None → bound ≡ flat (least_of (bound_held (cost_held old.incumbent)) (least_of waiting (worst_bound worst))) → StopsRefused new.program (reduced_of new) (way_of new) new.tree.root.bound new.tree new.incumbent bound
  refused_turn number given bound waiting b m n e = record {
    searched = b.kept.kept.searched;
    start_is = refl;
    was_least = same_ways (λ p r w s. WasLeast p r w s new.tree.log (held_of new) bound)
        (was_least old.program (reduced_of old) (way_of old) old.tree old.incumbent new.incumbent worst waiting bound new.tree.log k m n e (b.log ∙ same_log) cheaper_still);
  }

  -- it ended
  module _ (ended : Node) (few : new.tree.ids ≤ mid.tree.ids + 2) where
    still_after : (next : Option Worst) (end : End) → LeavesEntry mid.tree new.tree ended end → IsKeptIn new [] → IsWorst new.program (reduced_of new) (way_of new) new.tree.parked next → IsStanding new next × (length new.tree.log ≡ length old.tree.log + 1)
    still_after next end e s w =
        let longer : length new.tree.log ≡ length old.tree.log + 1 = one_longer mid new ended end e ∙ ap (λ l. length l + 1) same_log in (
          record {
            still = record {
              kept = s.kept;
              matter = s.matter;
              start_is = refl;
              is_held = is_held;
              is_worst = w;
              counted = omega (arith, longer, few, ap (λ (t : Nodes). t.ids) first.rest, k.counted);
              begun = λ f. absurd (not_empty mid.tree.log (record { node = ended.number; bound = ended.bound; end = end }) (sym e.logged ∙ f));
            };
            boxes = s.boxes;
          },
          longer,
        )

    -- a node that wasn't put aside
    quiet_after : (next : Option Worst) (end : End) → LeavesEntry mid.tree new.tree ended end → new.tree.parked ≡ mid.tree.parked → next ≡ worst → IsKeptIn new [] → IsStanding new next × (length new.tree.log ≡ length old.tree.log + 1)
    quiet_after next end e p n s =
        still_after next end e s (subst (λ l. IsWorst new.program (reduced_of new) (way_of new) l next) (sym p) (subst (IsWorst new.program (reduced_of new) (way_of new) mid.tree.parked) (sym n) was_worst))

    abbrev Turned : ℕ → Option ℚ → Option Worst → Option Stop → Type 0
    Turned nodes asked next stop =
        MatchOption stop (IsStanding new next × (length new.tree.log ≡ length old.tree.log + 1)) (StopsAt new nodes asked next)

    endless_after : (point ray : List ℚ) → EndsEndless mid new ended point ray → StopsEndless new.program (reduced_of new) new.tree.root.bound new.tree.log point ray
    endless_after point ray e = record {
      logged = e.logged;
      last = record { before = mid.tree.log; entry = record { node = ended.number; bound = ended.bound; end = Parked }; placed = e.entry.logged; parked = refl };
      falls = record { feasible = e.feasible; shown = e.shown_ray };
    }

    pub turned_by : (nodes : ℕ) (asked : Option ℚ) (mark : Option Mark) (next : Option Worst) (stop : Option Stop) (end : NodeEnd) → IsKeptAs worst next end stop → IsWorkedEnd mid new ended mark end → Turned nodes asked next stop
    turned_by nodes asked mark next stop by.Pruned a h = subst (Turned nodes asked next) (sym a.1) (quiet_after next Closed h.entry h.entry.parked a.0 h.kept)
    turned_by nodes asked mark next stop by.Empty a h = subst (Turned nodes asked next) (sym a.1) (quiet_after next Closed h.entry h.entry.parked a.0 h.kept)
    turned_by nodes asked mark next stop by.Solved a h = subst (Turned nodes asked next) (sym a.1) (quiet_after next Closed h.entry h.entry.parked a.0 h.kept)
    turned_by nodes asked mark next stop (by.Split low high) a h = subst (Turned nodes asked next) (sym a.1) (quiet_after next (Split h.column h.at low high) h.entry h.entry.parked a.0 h.kept)
    turned_by nodes asked mark next stop (by.Parked leaf on bound shown) a h =
        subst (Turned nodes asked next) (sym a.1)
        (still_after next Parked h.entry h.kept (worst_more new.program (reduced_of new) (way_of new) mid.tree.parked new.tree.parked ended (record { values = leaf.items; on = on.items }) bound (shown_as shown) worst next h.entry.parked h.bound_is h.wide was_worst a.0))
    turned_by nodes asked mark next stop (by.Ray point ray) a h = subst (Turned nodes asked next) (sym a) (endless_after point.items ray.items h)

  -- the marks are written
  pub written_turn : (mark : Option Mark) (end : NodeEnd) (marks : List (ℕ × Mark)) → IsTakenUp mid node → HasWorked mid new node mark end → (new.touched ≡ false → new.pool.rows ≡ []) → IsWritten old marks → IsWritten new (marks ++ marks_by node.number mark)
  written_turn mark end marks up h bare t = record {
    told = lead IsTold (marks ++ marks_by node.number mark) (told_more mid new node mark end marks up h (back IsTold marks t.told));
    met = λ u. lead AreMet (marks ++ marks_by node.number mark) (met_taken mid new node mark end marks up h (bare u) u (back AreMet marks (t.met (untouched_before u))));
  }
    where
      back : {X : Type 0} (P : Program → Option ℚ → List Entry → X → Type 0) (x : X) → P (reduced_of old) old.tree.root.bound old.tree.log x → P (reduced_of mid) mid.tree.root.bound mid.tree.log x
      back P x t =
          subst (λ (c : CoreState). P (reduced_of c) mid.tree.root.bound mid.tree.log x) (sym taken)
          (subst (λ (n : Nodes). P (reduced_of old) n.root.bound n.log x) (sym first.rest) t)

      lead : {X : Type 0} (P : Program → Option ℚ → List Entry → X → Type 0) (x : X) → P (reduced_of mid) mid.tree.root.bound new.tree.log x → P (reduced_of new) new.tree.root.bound new.tree.log x
      lead P x t =
          subst (λ (p : Program). P p new.tree.root.bound new.tree.log x) (sym later.reduced)
          (subst (λ (n : Node). P (reduced_of mid) n.bound new.tree.log x) (sym later.root) t)

-- no node is open
pub nothing_open : (program reduced : Program) (way : WayBack) (start : Option ℚ) (nodes : ℕ) (asked : Option ℚ) (old : Nodes) (holding : Holding) (worst : Option Worst) → old.open_ ≡ [] → IsStill program reduced way start old holding worst → StopsAs program reduced way start nodes asked old holding worst Still
nothing_open program reduced way start nodes asked old holding worst o k = record { still = k; spent = λ n. absurd (n o) }

-- no node was there
pub longer_itself : (log : List Entry) → length log ≤ length log + 1
longer_itself log = omega arith
