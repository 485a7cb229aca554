-- A side of a node in work is tightened.
use Rattle.std.proofs.Common.{◌≡◌, inl, inr, ℕ, ◌≤◌, unsigned_abs, Bool, true, false, List, [], ◌∷◌, Option, None, Some, IfSome, Result, Ok, Err, refl, sym, ap, ◌∙◌, subst, arith, true≢false}
use Rattle.std.specs.Prelude.{slice_set, IfOk, MatchResult}
use Rattle.std.proofs.lemmas.List.{set-get_or}
use Rattle.cip_rational.specs.Rational.{ℚ, floor, ceil}
use Rattle.cip_rational.proofs.Rational.Extremes.{minimum_either, maximum_either}
use Rattle.cip_problem.specs.Program.{Sides, Plain, Program}
use Rattle.cip_problem.specs.Box.{sides_at, IsInBox}
use Rattle.cip_problem.specs.Activity.{value_at}
use Rattle.cip_problem.specs.Choices.{greater, lesser, met}
use Rattle.cip_problem.specs.Log.{Node}
use Rattle.cip_problem.proofs.Choices.Meeting.{between_met, set_in_box}
use Rattle.cip_problem.proofs.Points.AtPlaces.{in_box_at}
use Rattle.cip_problem.specs.Improving.{HoldsInBox}
use Rattle.cip_problem.proofs.Log.Entering.{contains_here, contains_cons, contains_later}
use Rattle.cip_lin.specs.declared.sides.Side.{Side}
use Rattle.cip_domain.specs.Changes.{Region, Change, side_change, tightened}
use Rattle.cip_domain.specs.Domain.{tightening}
use Rattle.cip_domain.specs.declared.stores.Tightened.{Tightened}
use Rattle.cip_domain.specs.declared.stores.Tightened.TheVariants.{Yes, Same, Empty}
use Rattle.cip_search.specs.WideLeaf.{IsWideLeaf}
use Rattle.cip_search.proofs.Bounds.{no_more_itself}
use Rattle.cip_search.proofs.Kept as searching
use Rattle.cip_search.proofs.AsGiven as giving
use Rattle.cip_node_rules.specs.OpenColumns.{is_whole_at}
use Rattle.cip_node_rules.specs.SplitRules.{AreNear}
use Rattle.cip_tree.specs.declared.notes.Note.{Note}
use Rattle.cip_tree.specs.Nodes.{TakenNode, Nodes, node_in, region_of, shown, IsTaken}
use Rattle.cip_tree.specs.Tightening.{region_after, IsNoted, IsTightened}
use Rattle.cip_tree.proofs.Within.{in_wider, within_changes}
use Rattle.cip_core.specs.CoreStates.{CoreState, reduced_of, way_of, held_of, IsSound, IsAtWork}
use Rattle.cip_core.specs.KeptNodes.{state_of, farthest, IsNearBox, IsKept, AllMatter}
use Rattle.cip_core.specs.Later.{IsNarrower, IsLaterAt}
use Rattle.cip_core.specs.SidesTold.{IsSideTold, IsSideTaken, touched_by}
use Rattle.cip_core.proofs.CoreSteps.{with_tree}
use Rattle.cip_core.proofs.HeldAfter.{itself}
use Rattle.cip_core.proofs.KeptSteps.{near_set, near_apart}
use Rattle.cip_core.proofs.Relations.{later_at_itself}

-- ---- near sides

-- what holds of each of two sides holds of the greater and of the lesser
greater_has : (P : ℚ → Type 0) (a b : Option ℚ) → IfSome a P → IfSome b P → IfSome (greater a b) P
greater_has P None b h k = k
greater_has P (Some a) None h k = h
greater_has P (Some a) (Some b) h k = elim (maximum_either a b) [ inl e ↦ subst P (sym e) h | inr e ↦ subst P (sym e) k ]

lesser_has : (P : ℚ → Type 0) (a b : Option ℚ) → IfSome a P → IfSome b P → IfSome (lesser a b) P
lesser_has P None b h k = k
lesser_has P (Some a) None h k = h
lesser_has P (Some a) (Some b) h k = elim (minimum_either a b) [ inl e ↦ subst P (sym e) h | inr e ↦ subst P (sym e) k ]

met_near : (far : ℕ) (sides more : Sides) → AreNear far sides → AreNear far more → AreNear far (met sides more)
met_near far sides more h k = record {
  low = greater_has (λ side. unsigned_abs (ceil side) ≤ far) sides.low more.low h.low k.low;
  high = lesser_has (λ side. unsigned_abs (floor side) ≤ far) sides.high more.high h.high k.high;
}

-- a near box whose column is met with near sides is near
near_met : (program : Program) (ids : ℕ) (box : List Sides) (column : ℕ) (sides : Sides) (whole : Bool) → is_whole_at program.integral column ≡ whole → IsNearBox program ids box → (is_whole_at program.integral column ≡ true → AreNear (farthest ids) sides) → IsNearBox program ids (slice_set box column (met (sides_at box column) sides))
near_met program ids box column sides true e h k =
    near_set program ids box column (met (sides_at box column) sides) h (met_near (farthest ids) (sides_at box column) sides (h column e) (k e))
near_met program ids box column sides false e h k = near_apart program ids box column (met (sides_at box column) sides) e h

-- ---- the node after a side more

-- a core with another tree, of which a side was tightened
abbrev pub touched_with : CoreState → Nodes → CoreState
touched_with core tree = record core { tree = tree; touched = true }

module _ (core : CoreState) (node has : TakenNode) (column : ℕ) (side : Side) (value : ℚ) (tree : Nodes) (w : IsAtWork core node) (told : IsSideTold core node column side value) (n : let note : Note = record { col = column; side = side; value = value } in IsNoted core.tree tree node has note) where
  abbrev change : Change
  change = side_change column side value

  abbrev was : Region
  was = region_of core.tree node

  abbrev box : List Sides
  box = (tightened was change).box

  abbrev now : CoreState
  now = touched_with core tree

  abbrev narrow : Node
  narrow = record (shown core.tree node) { box = box }

  shown_is : shown tree has ≡ narrow
  shown_is =
      ap (λ r. node_in r has.number has.bound) n.region
      ∙ ap (λ (t : TakenNode). node_in (tightened was change) t.number t.bound) n.node
      ∙ ap (λ c. (let m : Node = record { number = node.number; box = box; choices = c; bound = node.bound } in m)) (set-get_or was.choices column Plain)

  inside : (point : List ℚ) → IsInBox box point → IsInBox was.box point
  inside point h = in_wider box was.box point (within_changes was (change ∷ [])) h

  -- improving points stay
  keeps : HoldsInBox (reduced_of core) (held_of core) was.box (IsInBox box)
  keeps point i h =
      set_in_box was.box column (met (sides_at was.box column) change.sides) point h
      (between_met (sides_at was.box column) change.sides (value_at point column) (in_box_at was.box point column h) (told.follows point i h))

  near_now : IsNearBox (reduced_of core) core.tree.ids box
  near_now =
      near_met (reduced_of core) core.tree.ids was.box column change.sides (is_whole_at (reduced_of core).integral column) refl
      (w.up.nodes.kept.near (shown core.tree node) (contains_here (shown core.tree node) core.tree.open_)) told.near

  abbrev there : Nodes
  there = record core.tree { work = tightened core.tree.work change }

  kept_now : IsKept core.program (reduced_of core) (way_of core) there (held_of core) (narrow ∷ [])
  kept_now =
      let k = w.up.nodes.kept in
      let state = state_of core.tree (held_of core) (shown core.tree node ∷ []) in
      record {
        searched = searching.tightened core.program (reduced_of core) (way_of core) IsWideLeaf core.tree.root.bound state (shown core.tree node) [] box refl inside keeps k.searched;
        as_given = giving.worked (reduced_of core) core.tree.root.bound state (narrow ∷ []) k.as_given;
        root = k.root;
        integral = k.integral;
        near = λ other c. elim (contains_cons narrow other core.tree.open_ c) [
          | inl e ↦ subst (λ (m : Node). IsNearBox (reduced_of core) core.tree.ids m.box) e near_now
          | inr j ↦ k.near other (contains_later (shown core.tree node) other core.tree.open_ j)
        ];
      }

  taken_now : IsTaken tree has
  taken_now =
      subst (λ (t : Nodes). IsTaken t has) (sym n.tree)
      (subst (IsTaken there) (sym n.node) (record { base = w.up.taken.base; found = w.up.taken.found; same = w.up.taken.same }))

  pub later_tightened : IsLaterAt core node now has
  later_tightened = record {
    later = record {
      program = refl;
      reduced = refl;
      steps = refl;
      root = ap (λ (t : Nodes). t.root) n.tree;
      integral = ap (λ (t : Nodes). t.integral) n.tree;
      ids = omega (arith, ap (λ (t : Nodes). t.ids) n.tree);
      no_dearer = itself (held_of core);
      untouched = λ u. absurd (true≢false u);
    };
    at_work = record {
      up = record {
        nodes = record {
          kept =
              subst (λ m. IsKept core.program (reduced_of core) (way_of core) tree (held_of core) (m ∷ [])) (sym shown_is)
              (subst (λ t. IsKept core.program (reduced_of core) (way_of core) t (held_of core) (narrow ∷ [])) (sym n.tree) kept_now);
          matter = subst (λ (t : Nodes). AllMatter (held_of core) t.open_) (sym n.tree) w.up.nodes.matter;
          boxes = λ u. absurd (true≢false u);
        };
        taken = taken_now;
      };
      region = n.work;
    };
    narrower = subst (IsNarrower now (shown core.tree node)) (sym shown_is) (record {
      number = refl;
      choices = refl;
      inside = inside;
      keeps = keeps;
      bound = no_more_itself node.bound;
      whole = inl refl;
    });
    log = ap (λ (t : Nodes). t.log) n.tree;
    parked = ap (λ (t : Nodes). t.parked) n.tree;
    ids = ap (λ (t : Nodes). t.ids) n.tree;
    same = λ u. absurd (true≢false u);
  }

-- ---- and where nothing has changed

module _ (core : CoreState) (node has : TakenNode) (tree : Nodes) (e : tree ≡ core.tree) (f : has ≡ node) where
  pub later_unchanged : IsAtWork core node → IsLaterAt core node (with_tree core tree) has
  later_unchanged w =
      subst (λ t. IsLaterAt core node (with_tree core t) has) (sym e)
      (subst (IsLaterAt core node core) (sym f) (later_at_itself core node w))

-- ---- by what it came to

module _ (core : CoreState) (node has : TakenNode) (col : ℕ) (side : Side) (value : ℚ) (tree : Nodes) (touched : Bool) where
  abbrev note : Note
  note = record { col = col; side = side; value = value }

  abbrev pub told_core : CoreState
  told_core = record core { tree = tree; touched = touched }

  core_unchanged : tree ≡ core.tree → touched ≡ core.touched → told_core ≡ core
  core_unchanged t b = λ i. record core { tree = t i; touched = b i }

  later_here : tree ≡ core.tree → has ≡ node → touched ≡ core.touched → IsAtWork core node → IsLaterAt core node told_core has
  later_here t n b w =
      subst (λ (k : CoreState). IsLaterAt core node k has) (sym (core_unchanged t b)) (subst (IsLaterAt core node core) (sym n) (later_at_itself core node w))

  taken_here : (answer : Tightened) → answer ≡ tightening (sides_at core.tree.work.box col) side value → tree ≡ core.tree → has ≡ node → touched ≡ core.touched → region_after answer (region_of core.tree node) (side_change col side value) ≡ region_of core.tree node → IsSideTaken core told_core node has col side value answer
  taken_here answer o t n b r = record {
    outcome = o;
    region = ap (λ (k : Nodes). region_of k has) t ∙ ap (region_of core.tree) n ∙ sym r;
    node = n ∙ ap (λ (k : TakenNode). record node { notes = k.notes }) (sym n);
    core = ap (λ (k : Nodes). record core { tree = k; touched = touched }) (t ∙ ap (λ (k : Nodes). record core.tree { work = k.work }) (sym t));
    same = λ _. (core_unchanged t b, n);
  }

  taken_noted : Yes ≡ tightening (sides_at core.tree.work.box col) side value → IsNoted core.tree tree node has note → IsSideTaken core told_core node has col side value Yes
  taken_noted o t = record {
    outcome = o;
    region = t.region;
    node = t.node ∙ ap (λ (k : TakenNode). record node { notes = k.notes }) (sym t.node);
    core = ap (λ (k : Nodes). record core { tree = k; touched = touched }) (t.tree ∙ ap (λ (k : Nodes). record core.tree { work = k.work }) (sym t.tree));
    same = λ n. absurd (n refl);
  }

  pub later_told : {E : Type 0} (told : Result Tightened E) → touched ≡ touched_by told core.touched → IsAtWork core node → IsSideTold core node col side value → MatchResult told (λ answer. IsTightened answer core.tree tree node has note) (λ _. (tree ≡ core.tree) × (has ≡ node)) → IsLaterAt core node told_core has
  later_told (Ok Yes) b w s t = subst (λ (u : Bool). IsLaterAt core node (record core { tree = tree; touched = u }) has) (sym b) (later_tightened core node has col side value tree w s t)
  later_told (Ok Same) b w s t = later_here t.0 t.1 b w
  later_told (Ok Empty) b w s t = later_here t.0 t.1 b w
  later_told (Err error) b w s t = later_here t.0 t.1 b w

  pub taken_told : {E : Type 0} (told : Result Tightened E) → touched ≡ touched_by told core.touched → IfOk told (λ answer. answer ≡ tightening (sides_at core.tree.work.box col) side value) → MatchResult told (λ answer. IsTightened answer core.tree tree node has note) (λ _. (tree ≡ core.tree) × (has ≡ node)) → MatchResult told (IsSideTaken core told_core node has col side value) (λ _. (told_core ≡ core) × (has ≡ node))
  taken_told (Ok Yes) b o t = taken_noted o t
  taken_told (Ok Same) b o t = taken_here Same o t.0 t.1 b refl
  taken_told (Ok Empty) b o t = taken_here Empty o t.0 t.1 b refl
  taken_told (Err error) b o t = (core_unchanged t.0 b, t.1)

  was_untouched : {E : Type 0} (told : Result Tightened E) (before : Bool) → touched_by told before ≡ false → before ≡ false
  was_untouched (Ok Yes) before e = absurd (true≢false e)
  was_untouched (Ok Same) before e = e
  was_untouched (Ok Empty) before e = e
  was_untouched (Err error) before e = e

  pub sound_told : {E : Type 0} (told : Result Tightened E) → touched ≡ touched_by told core.touched → IsSound core → IsSound told_core
  sound_told told b s = record {
    is_held = s.is_held;
    valid = s.valid;
    same = s.same;
    bare = λ e. s.bare (was_untouched told core.touched (sym b ∙ e));
    back = s.back;
  }
