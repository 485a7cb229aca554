-- What closed blocks, and trees without points, say of mixtures and points.
use Rattle.std.proofs.Common.{◌≡◌, ◌⊎◌, inl, inr, ℕ, zero, suc, ◌+◌, ◌<◌, ◌≤◌, Bool, true, false, cond, ◌||◌, List, [], ◌∷◌, length, Option, None, Some, Result, Ok, Err, IfOk, refl, sym, ◌∙◌, subst, arith, true≢false}
use Rattle.std.specs.List.{AllByRecursion}
use Rattle.std.proofs.lemmas.Option.{same_Some}
use Rattle.std.proofs.lemmas.List.Elements.{All-from_recursion}
use Rattle.cip_rational.specs.Rational.{ℚ, ◌≤ℚ◌}
use Rattle.cip_rational.specs.Sums.{dot}
use Rattle.cip_rational.proofs.Rational.Order.{≤ℚ_trans, le_of_test}
use Rattle.cip_problem.specs.Program.{Row}
use Rattle.cip_problem.specs.Activity.{value_at, StandsBelow}
use Rattle.cip_problem.specs.Log.{Node}
use Rattle.cip_problem.specs.WellFormed.{columns, IsWellFormed}
use Rattle.cip_pricing.specs.Decomposition.{Conditions, conditions_of, picked, IsBlockPoint}
use Rattle.cip_pricing.specs.LeastCosts.{ArePrices}
use Rattle.cip_pricing.specs.TreeBounds.{IsNodePoint, IsTreeBound}
use Rattle.cip_pricing.proofs.Picked.{own_rows, length_picked}
use Rattle.cip_pricing.proofs.Shown.{no_block_point}
use Rattle.cip_pricing.proofs.Trees.{node_point}
use Rattle.cip_cert.specs.declared.pricing.BoundTree.{BoundTree}
use Rattle.cip_cert.specs.declared.pricing.Priced.{Priced}
use Rattle.cip_lagrange.specs.Decompositions.{owners_in}
use Rattle.cip_lagrange.proofs.Placing.{renumbered_rows}
use Rattle.cip_lagrange.specs.declared.answers.TreeBound.{TreeBound}
use Rattle.cip_lagrange.specs.declared.answers.TreeBound.TheVariants.{Finite, NoPoint}
use Rattle.cip_lagrange.specs.declared.answers.TreeFault.{TreeFault}
use Rattle.cip_lagrange.specs.TreeOutcomes.{tree_outcome}
use Rattle.cip_lagrange.specs.TreeMeaning.{own_rows as rows_alone, TreeFollows, number_of}
use Rattle.cip_lagrange.proofs.FollowedTrees.{tree_follows, tree_bounds}
use Rattle.cip_lagrange.proofs.RowsAlone.{fits_alone}
use Rattle.cip_master.proofs.OnePointMore.{picked_few}
use Rattle.cip_master.specs.MasterTasks.{Task, IsTask}
use Rattle.cip_price.specs.Asks.{Asked}
use Rattle.cip_price.specs.BlockAsks.{costs_in, tree_in, tree_asked, block_node, bound_if_ok, shown_by, shown_in, closes}
use Rattle.cip_price.specs.PriceRounds.{AreAsks, first_open, is_empty_bound, shows_none}
use Rattle.cip_price.specs.PriceAnswers.{EmptiesBox}

-- ---- trees

-- what is shown is at most a value
abbrev Reaches : TreeBound → ℚ → Type 0
Reaches (Finite bound) value = bound ≤ℚ value
Reaches NoPoint value = ⊥

reached : (rows : List Row) (integral : List Bool) (costs : List ℚ) (node : Node) (bound : TreeBound) (point : List ℚ)
    → IsTreeBound rows integral costs node (number_of bound) → IsNodePoint rows integral node point
    → Reaches bound (dot costs point)
reached rows integral costs node (Finite bound) point h p = h point p
reached rows integral costs node NoPoint point h p = h point p

ok_bound : (o : Result TreeBound TreeFault) (bound : TreeBound) (P : TreeBound → Type 0) → bound_if_ok o ≡ Some bound
    → IfOk o P → P bound
ok_bound (Ok b) bound P e h = subst P (same_Some b bound e) h
ok_bound (Err fault) bound P e h = absurd (none_some e)
  where
    none_some : ¬ (None ≡ Some bound)
    none_some f = cc

module _ (task : Task) (well : IsWellFormed task.program) (ok : IsTask task) where
  wide : length task.box ≡ length task.kept.column_owners.items
  wide = ok.box_ ∙ sym ok.made.decomposed.each_column

  few : (block : ℕ) → length (picked (Some block) task.kept.column_owners.items task.box) ≤ columns task.program
  few block =
      let each : length task.kept.column_owners.items ≡ columns task.program = ok.made.decomposed.each_column in
      omega (arith, each, picked_few (Some block) task.kept.column_owners.items task.box)

  -- what a tree that is accepted shows of a block's points
  tree_reaches : (costs : List ℚ) (block : ℕ) (tree : BoundTree) (bound : TreeBound) (point : List ℚ)
      → length costs ≡ length (picked (Some block) task.kept.column_owners.items task.box)
      → shown_by task costs block (Some tree) ≡ Some bound
      → IsBlockPoint task.program (owners_in task.kept) task.box block point
      → Reaches bound (dot costs point)
  tree_reaches costs block tree bound point long e p =
      let asked : Conditions = conditions_of task.program (owners_in task.kept) block in
      let node : Node = block_node task block in
      let n : ℕ = length node.box in
      let stand : AllByRecursion (λ (row : Row). StandsBelow n row.terms) asked.rows =
      renumbered_rows task.kept.column_owners.items block task.box
      (picked (Some block) task.kept.row_owners.items task.program.rows) wide
      (own_rows task.kept.column_owners.items block task.kept.row_owners.items task.program.rows
      ok.made.decomposed.own_rows) in
      let follows : IfOk (tree_outcome (tree_asked task costs block) 1 tree node)
      (TreeFollows (rows_alone asked.rows) asked.integral costs node) =
      tree_follows (rows_alone asked.rows) asked.integral costs (columns task.program) 1 tree node
      (fits_alone asked.rows n (All-from_recursion (λ (row : Row). StandsBelow n row.terms) asked.rows stand))
      (few block) long
      (length_picked (Some block) task.kept.column_owners.items task.program.integral task.box
      (well.integral ∙ sym ok.box_)) in
      let found : TreeFollows (rows_alone asked.rows) asked.integral costs node bound =
      ok_bound (tree_outcome (tree_asked task costs block) 1 tree node) bound
      (TreeFollows (rows_alone asked.rows) asked.integral costs node) e follows in
      reached asked.rows asked.integral costs node bound point
      (tree_bounds asked.rows asked.integral costs node bound found)
      (node_point task.program (owners_in task.kept) task.box block node point refl refl p)

  -- so it is with what is shown of an answer
  shown_reaches : (costs : List ℚ) (block : ℕ) (tree : Option BoundTree) (bound : TreeBound) (point : List ℚ)
      → length costs ≡ length (picked (Some block) task.kept.column_owners.items task.box)
      → shown_by task costs block tree ≡ Some bound
      → IsBlockPoint task.program (owners_in task.kept) task.box block point
      → Reaches bound (dot costs point)
  shown_reaches costs block None bound point long e p = absurd (none_some e)
    where
      none_some : ¬ (None ≡ Some bound)
      none_some f = cc
  shown_reaches costs block (Some tree) bound point long e p = tree_reaches costs block tree bound point long e p

  -- ---- closed blocks

  closes_says : (price value : ℚ) (shown : Option TreeBound) → closes price shown ≡ true
      → ((bound : TreeBound) → shown ≡ Some bound → Reaches bound value) → price ≤ℚ value
  closes_says price value None e f = absurd (true≢false (sym e))
  closes_says price value (Some NoPoint) e f = absurd (f NoPoint refl)
  closes_says price value (Some (Finite bound)) e f = ≤ℚ_trans (le_of_test e) (f (Finite bound) refl)

  closed_first : (t : Bool) (rest : Option ℕ) (block : ℕ) → cond t rest (Some block) ≡ None
      → (t ≡ true) × (rest ≡ None)
  closed_first true rest block e = (refl, e)
  closed_first false rest block e = absurd (some_none e)
    where
      some_none : ¬ (Some block ≡ None)
      some_none f = cc

  module _ (rests : List ℚ) (long : length rests ≡ columns task.program) where
    costs_long : (block : ℕ) → length (costs_in task rests block)
        ≡ length (picked (Some block) task.kept.column_owners.items task.box)
    costs_long block =
        length_picked (Some block) task.kept.column_owners.items rests task.box (long ∙ sym ok.box_)

    module _ (prices : List ℚ) where
      -- what a block's answer shows closes it
      abbrev IsClosed : ℕ → Option Priced → Type 0
      IsClosed block answer =
          closes (value_at prices block) (shown_by task (costs_in task rests block) block (tree_in answer)) ≡ true

      closed_at : (first k : ℕ) (asks : List Asked) → AreAsks task rests first asks
          → first_open task prices asks ≡ None → k < length asks → (answer : Option Priced) × IsClosed (first + k) answer
      closed_at first k [] h e l = absurd (omega (arith, l))
      closed_at first zero (a ∷ rest) h e l =
          let own : (closes (value_at prices a.block) (shown_in task a) ≡ true) × (first_open task prices rest ≡ None) =
          closed_first (closes (value_at prices a.block) (shown_in task a)) (first_open task prices rest) a.block e in
          let closed : IsClosed first a.answer =
          subst (λ (x : Asked). closes (value_at prices x.block) (shown_in task x) ≡ true) h.0 own.0 in
          let none : first ≡ first + 0 = omega arith in
          (a.answer, subst (λ n. IsClosed n a.answer) none closed)
      closed_at first (suc k) (a ∷ rest) h e l =
          let own : (closes (value_at prices a.block) (shown_in task a) ≡ true) × (first_open task prices rest ≡ None) =
          closed_first (closes (value_at prices a.block) (shown_in task a)) (first_open task prices rest) a.block e in
          let next : suc first + k ≡ first + suc k = omega arith in
          let later = closed_at (suc first) k rest h.1 own.1 (omega (arith, l)) in
          (later.0, subst (λ n. IsClosed n later.0) next later.1)

      -- where nothing is open, the prices are prices of all points
      pub all_priced : (asks : List Asked) → AreAsks task rests 0 asks
          → length asks ≡ length task.kept.subproblems.items → first_open task prices asks ≡ None
          → ArePrices task.program (owners_in task.kept) task.box None rests prices
      all_priced asks h n e block point l among =
          let at = closed_at 0 block asks h e (omega (arith, n, l)) in
          let none : 0 + block ≡ block = omega arith in
          let closed : IsClosed block at.0 = subst (λ k. IsClosed k at.0) none at.1 in
          closes_says (value_at prices block) (dot (costs_in task rests block) point)
          (shown_by task (costs_in task rests block) block (tree_in at.0)) closed
          (λ bound f. shown_reaches (costs_in task rests block) block (tree_in at.0) bound point (costs_long block) f
          among.is_point)

    -- ---- blocks without points

    none_says : (shown : Option TreeBound) → is_empty_bound shown ≡ true → shown ≡ Some NoPoint
    none_says None e = absurd (true≢false (sym e))
    none_says (Some NoPoint) e = refl
    none_says (Some (Finite bound)) e = absurd (true≢false (sym e))

    none_first : (s t : Bool) → (s || t) ≡ true → (s ≡ true) ⊎ (t ≡ true)
    none_first true t e = inl refl
    none_first false t e = inr e

    -- the block of an ask is one
    pub shown_empty : (first : ℕ) (asks : List Asked) → AreAsks task rests first asks
        → shows_none task asks ≡ true → EmptiesBox task
    shown_empty first [] h e = absurd (true≢false (sym e))
    shown_empty first (a ∷ rest) h e =
        elim (none_first (is_empty_bound (shown_in task a)) (shows_none task rest) e) [
          | inl f ↦ λ point feasible.
              no_block_point task.program (owners_in task.kept) task.box first point ok.made.decomposed
              (λ part p. shown_reaches (costs_in task rests first) first (tree_in a.answer) NoPoint part (costs_long first)
              (none_says (shown_by task (costs_in task rests first) first (tree_in a.answer))
              (subst (λ (x : Asked). is_empty_bound (shown_in task x) ≡ true) h.0 f)) p)
              feasible
          | inr f ↦ shown_empty (suc first) rest h.1 f
        ]
