-- What the Lagrangian bound says of the points of a program.
use Rattle.std.proofs.Common.{◌≡◌, ◌⊎◌, inl, inr, ℕ, ◌+◌, ◌<◌, ◌≤◌, Bool, List, [], ◌∷◌, length, map, None, Some, IfOk, refl, sym, ap, ap₂, ◌∙◌, subst, arith, slice_get, zero-add}
use Rattle.std.specs.Prelude.{slice_index_or, is_none}
use Rattle.std.specs.List.{AllByRecursion}
use Rattle.std.proofs.lemmas.Option.{slice_get_cases, slice_get_within}
use Rattle.std.proofs.lemmas.List.{length-map, get_or_past}
use Rattle.std.proofs.lemmas.List.Elements.{recursion_from_All}
use Rattle.std.proofs.lemmas.Bool.{cases_lt}
use Rattle.cip_rational.specs.Rational.{ℚ, ◌+ℚ◌, zeroℚ, ◌≤ℚ◌}
use Rattle.cip_rational.specs.Sums.{dot}
use Rattle.cip_rational.proofs.Linear.{linear_le}
use Rattle.cip_problem.specs.Program.{Term, Sides, Row, Program, no_row}
use Rattle.cip_problem.specs.Activity.{value_at}
use Rattle.cip_problem.specs.Box.{sides_at, no_sides}
use Rattle.cip_problem.specs.BoxBound.{least_costs}
use Rattle.cip_problem.specs.Points.{cost_of}
use Rattle.cip_problem.specs.WellFormed.{columns, IsWellFormed}
use Rattle.cip_problem.specs.BlockParts.{BlockPart, Blocks, rows_where, is_block}
use Rattle.cip_problem.specs.BlockMeaning.{part_at}
use Rattle.cip_pricing.specs.Decomposition.{picked, master_rows, conditions_of, IsBlockPoint}
use Rattle.cip_pricing.specs.Mixtures.{total}
use Rattle.cip_pricing.specs.LeastCosts.{side_total, AreRests, sum_below, price_total, ArePrices}
use Rattle.cip_pricing.specs.TreeBounds.{IsNodePoint}
use Rattle.cip_pricing.proofs.Trees.{node_point}
use Rattle.cip_pricing.proofs.Shown.{lagrange_shows, feasible_shown, no_block_point}
use Rattle.cip_pricing.proofs.Multiplied.{sum_total}
use Rattle.cip_cert.specs.declared.pricing.BoundTree.{BoundTree}
use Rattle.cip_lagrange.specs.Numbers.{found}
use Rattle.cip_lagrange.specs.declared.parts.Subproblem.{Subproblem}
use Rattle.cip_lagrange.specs.declared.parts.Decomposed.{Decomposed}
use Rattle.cip_lagrange.specs.Decompositions.{owners_in, IsSubproblem, IsDecompositionOf}
use Rattle.cip_lagrange.proofs.Found.{found_block, found_free}
use Rattle.cip_lagrange.proofs.Numbered.{found_all, numbers_below}
use Rattle.cip_lagrange.proofs.Whole.{part_by}
use Rattle.cip_lagrange.specs.declared.answers.TreeBound.{TreeBound}
use Rattle.cip_lagrange.specs.declared.answers.TreeBound.TheVariants.{Finite, NoPoint}
use Rattle.cip_lagrange.specs.LagrangeOutcomes.{Reduced, part_node, multipliers_used, free_added, blocks_added, start_of, rests_added, lagrange_outcome}
use Rattle.cip_lagrange.specs.LagrangeMeaning.{LagrangeFollows}
use Rattle.cip_lagrange.specs.Scratches.{IsReady, AreReady}
use Rattle.cip_lagrange.proofs.FollowedTrees.{tree_bounds}
use Rattle.cip_lagrange.proofs.Multiplied.{ok_chain, ok_weaker, row_of, AreUsed, multipliers_mean, IsLeast, free_mean}
use Rattle.cip_lagrange.proofs.BlocksAdded.{IsShown, HasPrices, AreAdded, FitsPart, blocks_mean}

module _ (program : Program) (kept : Decomposed) (box : List Sides) (rests : List ℚ)
    (made : IsDecompositionOf program kept) (wide : length box ≡ columns program)
    (long : length rests ≡ columns program) where
  -- ---- blocks

  numbers_of : (block : ℕ) → block < length kept.subproblems.items
      → (part_at kept.blocks block).columns ≡ rows_where (is_block block) 0 kept.column_owners.items
  numbers_of block l =
      ap (λ (b : Blocks). (part_at b block).columns) made.numbers
      ∙ ap (λ (p : BlockPart). p.columns)
      (part_by (length kept.subproblems.items) kept.row_owners.items kept.column_owners.items block l)

  found_at : {X : Type 0} (block : ℕ) (xs : List X) → block < length kept.subproblems.items
      → found xs (part_at kept.blocks block).columns ≡ picked (Some block) kept.column_owners.items xs
  found_at block xs l = ap (found xs) (numbers_of block l) ∙ found_block block kept.column_owners.items xs

  -- a point of a block is one of the node that its tree begins with
  block_node : (block : ℕ) (part : Subproblem) (point : List ℚ) → slice_get kept.subproblems.items block ≡ Some part
      → IsBlockPoint program (owners_in kept) box block point
      → IsNodePoint part.rows.items part.whole.items (part_node part (found box (part_at kept.blocks block).columns))
      point
  block_node block part point e h =
      let s : IsSubproblem program (owners_in kept) block part = made.subproblems block part e in
      let node = part_node part (found box (part_at kept.blocks block).columns) in
      let l : block < length kept.subproblems.items = slice_get_within kept.subproblems.items block part e in
      subst (λ (rows : List Row). IsNodePoint rows part.whole.items node point) (sym s.rows)
      (subst (λ (whole : List Bool). IsNodePoint (conditions_of program (owners_in kept) block).rows whole node point)
      (sym s.whole)
      (node_point program (owners_in kept) box block node point (found_at block box l) s.choices h))

  price_holds : (room block : ℕ) (part : Subproblem) (price : ℚ) (point : List ℚ)
      → slice_get kept.subproblems.items block ≡ Some part
      → IsShown room kept.blocks rests box block part (Finite price)
      → IsBlockPoint program (owners_in kept) box block point
      → price ≤ℚ dot (picked (Some block) kept.column_owners.items rests) point
  price_holds room block part price point e shown h =
      let l : block < length kept.subproblems.items = slice_get_within kept.subproblems.items block part e in
      subst (λ (costs : List ℚ). price ≤ℚ dot costs point) (found_at block rests l)
      (tree_bounds part.rows.items part.whole.items (found rests (part_at kept.blocks block).columns)
      (part_node part (found box (part_at kept.blocks block).columns)) (Finite price) shown point
      (block_node block part point e h))

  none_holds : (room block : ℕ) (part : Subproblem) (point : List ℚ)
      → slice_get kept.subproblems.items block ≡ Some part
      → IsShown room kept.blocks rests box block part NoPoint
      → ¬ IsBlockPoint program (owners_in kept) box block point
  none_holds room block part point e shown h =
      tree_bounds part.rows.items part.whole.items (found rests (part_at kept.blocks block).columns)
      (part_node part (found box (part_at kept.blocks block).columns)) NoPoint shown point
      (block_node block part point e h)

  prices_hold : (room : ℕ) (before after : ℚ)
      (p : HasPrices room kept.blocks rests box 0 kept.subproblems.items before after)
      → ArePrices program (owners_in kept) box None rests p.prices
  prices_hold room before after p block point l h =
      part_of (slice_get_cases kept.subproblems.items block).1
    where
      part_of : ((x : Subproblem) × (block < length kept.subproblems.items)
          × (slice_get kept.subproblems.items block ≡ Some x) × (slice_index_or kept.subproblems.items block x ≡ x))
          ⊎ ((length kept.subproblems.items ≤ block) × (slice_get kept.subproblems.items block ≡ None))
          → value_at p.prices block ≤ℚ dot (picked (Some block) kept.column_owners.items rests) point
      part_of (inr e) = absurd (omega (arith, l, e.0))
      part_of (inl e) =
          price_holds room block e.0 (value_at p.prices block) point e.2
          (subst (λ n. IsShown room kept.blocks rests box n e.0 (Finite (value_at p.prices block))) (zero-add block)
          (p.each block e.0 e.2))
          h.is_point

  -- ---- the lists of a block fit together

  length_found : {X : Type 0} (xs : List X) (d : X) (room block : ℕ) (part : Subproblem)
      → IsReady (length xs) room (part_at kept.blocks block).columns part
      → length (found xs (part_at kept.blocks block).columns) ≡ length part.whole.items
  length_found xs d room block part r =
      ap length (found_all xs d (part_at kept.blocks block).columns
      (recursion_from_All (λ number. number < length xs) (part_at kept.blocks block).columns r.within))
      ∙ length-map (part_at kept.blocks block).columns (λ n. slice_index_or xs n d) ∙ sym r.long

  fits_part : (room block : ℕ) (part : Subproblem)
      → IsReady (columns program) room (part_at kept.blocks block).columns part
      → FitsPart room kept.blocks rests box block part
  fits_part room block part r = record {
    can = r.can;
    box_ = length_found box no_sides room block part
        (subst (λ n. IsReady n room (part_at kept.blocks block).columns part) (sym wide) r);
    costs = length_found rests zeroℚ room block part
        (subst (λ n. IsReady n room (part_at kept.blocks block).columns part) (sym long) r);
  }

  -- ---- columns of no block

  free_numbers : kept.blocks.free_columns ≡ rows_where is_none 0 kept.column_owners.items
  free_numbers = ap (λ (b : Blocks). b.free_columns) made.numbers

  free_at : {X : Type 0} (xs : List X) (d : X) → length xs ≡ columns program
      → map (λ n. slice_index_or xs n d) kept.blocks.free_columns ≡ picked None kept.column_owners.items xs
  free_at xs d e =
      let each : length kept.column_owners.items ≡ columns program = made.decomposed.each_column in
      ap (map (λ n. slice_index_or xs n d)) free_numbers
      ∙ sym (found_all xs d (rows_where is_none 0 kept.column_owners.items)
      (numbers_below is_none kept.column_owners.items (length xs) (omega (arith, e, each))))
      ∙ found_free kept.column_owners.items xs

  -- ---- the bound

  added_up : (constant sides free prices cost before after : ℚ) → constant +ℚ ((sides +ℚ free) +ℚ prices) ≤ℚ cost
      → before ≡ (constant +ℚ sides) +ℚ free → after ≡ before +ℚ prices → after ≤ℚ cost
  added_up constant sides free prices cost before after h e f =
      linear_le (constant ∷ sides ∷ free ∷ prices ∷ cost ∷ before ∷ after ∷ [])
      (λ s w. omega (arith, s.le_out, s.same_out))

  pub bound_follows : (room : ℕ) (ys : List ℚ) (sides free before : ℚ) (end : TreeBound)
      → AreRests (length kept.column_owners.items) program.costs ys (master_rows program (owners_in kept)) rests
      → side_total ys (master_rows program (owners_in kept)) ≡ Some sides
      → least_costs (picked None kept.column_owners.items rests) (picked None kept.column_owners.items box) ≡ Some free
      → before ≡ (program.constant +ℚ sides) +ℚ free
      → AreAdded room kept.blocks rests box 0 kept.subproblems.items (Finite before) end
      → LagrangeFollows program box end
  bound_follows room ys sides free before NoPoint r e f b none = λ point feasible within.
      no_block_point program (owners_in kept) box none.block point made.decomposed
      (λ p h. none_holds room none.block none.part p none.at
      (subst (λ n. IsShown room kept.blocks rests box n none.part NoPoint) (zero-add none.block) none.shown) h)
      feasible within
  bound_follows room ys sides free before (Finite after) r e f b p = λ point feasible within.
      let each : length kept.column_owners.items ≡ columns program = made.decomposed.each_column in
      let many : sum_below (length kept.subproblems.items) (value_at p.prices) ≡ total p.prices =
      ap (λ n. sum_below n (value_at p.prices)) (sym p.long) ∙ sum_total p.prices in
      let shows = lagrange_shows program (owners_in kept) box ys rests p.prices sides free r e (wide ∙ sym each) f
      (prices_hold room before after p) in
      let low : program.constant +ℚ ((sides +ℚ free) +ℚ total p.prices) ≤ℚ cost_of program point =
      subst (λ t. program.constant +ℚ ((sides +ℚ free) +ℚ t) ≤ℚ cost_of program point) many
      (feasible_shown program (owners_in kept) box ys p.prices point
      ((sides +ℚ free) +ℚ price_total (owners_in kept) p.prices) made.decomposed
      (wide ∙ sym each) shows feasible within)
      in
      added_up program.constant sides free (total p.prices) (cost_of program point) before after low b p.sum

-- ---- master rows

rows_at : (program : Program) (kept : Decomposed) → IsDecompositionOf program kept
    → map (row_of program.rows) kept.blocks.master_rows ≡ master_rows program (owners_in kept)
rows_at program kept made =
    let each : length kept.row_owners.items ≡ length program.rows = made.each_row in
    ap (λ (b : Blocks). map (row_of program.rows) b.master_rows) made.numbers
    ∙ sym (found_all program.rows no_row (rows_where is_none 0 kept.row_owners.items)
    (numbers_below is_none kept.row_owners.items (length program.rows) (omega (arith, each))))
    ∙ found_free kept.row_owners.items program.rows

-- the row of each number stands on columns of the program
pub rows_stand : (program : Program) (n : ℕ) → IsWellFormed program → n ≡ columns program → (number : ℕ)
    → AllByRecursion (λ (t : Term). t.column < n) (row_of program.rows number).terms
rows_stand program n well e number =
    subst (λ m. AllByRecursion (λ (t : Term). t.column < m) (row_of program.rows number).terms) (sym e)
    (cases (cases_lt number (length program.rows)))
  where
    cases : (number < length program.rows) ⊎ (length program.rows ≤ number)
        → AllByRecursion (λ (t : Term). t.column < columns program) (row_of program.rows number).terms
    cases (inl h) =
        recursion_from_All (λ (t : Term). t.column < columns program) (row_of program.rows number).terms
        (well.rows number no_row h)
    cases (inr h) =
        subst (λ (row : Row). AllByRecursion (λ (t : Term). t.column < columns program) row.terms)
        (sym (get_or_past program.rows number no_row h)) tt

-- ---- the whole

-- behind the multipliers
behind : (room : ℕ) (program : Program) (kept : Decomposed) (box : List Sides) (ys : List ℚ) (trees : List BoundTree)
    (reduced : Reduced) → IsWellFormed program → IsDecompositionOf program kept
    → AreReady (columns program) room kept → length box ≡ columns program
    → length trees ≡ length kept.subproblems.items
    → AreUsed ys (master_rows program (owners_in kept)) (record { total = program.constant; rests = program.costs })
    reduced
    → IfOk (rests_added room kept box trees reduced) (LagrangeFollows program box)
behind room program kept box ys trees reduced well made ready wide m used =
    let long : length reduced.rests ≡ columns program = used.long in
    let each : length kept.column_owners.items ≡ columns program = made.decomposed.each_column in
    ok_chain (IsLeast (least_costs (map (value_at reduced.rests) kept.blocks.free_columns)
    (map (sides_at box) kept.blocks.free_columns)) reduced.total) (LagrangeFollows program box)
    (free_added reduced.rests box kept.blocks.free_columns reduced.total)
    (λ sum. blocks_added room kept.blocks reduced.rests box 0 kept.subproblems.items trees (Finite sum))
    (free_mean reduced.rests box kept.blocks.free_columns reduced.total)
    (λ sum least.
    ok_weaker (AreAdded room kept.blocks reduced.rests box 0 kept.subproblems.items (Finite sum))
    (LagrangeFollows program box)
    (blocks_added room kept.blocks reduced.rests box 0 kept.subproblems.items trees (Finite sum))
    (λ end added.
    bound_follows program kept box reduced.rests made wide long room ys used.sides least.value sum end
    (record { long = long ∙ sym each; form = used.form })
    used.side_sum
    (sym (ap₂ least_costs (free_at program kept box reduced.rests made wide long reduced.rests zeroℚ long)
    (free_at program kept box reduced.rests made wide long box no_sides wide)) ∙ least.is)
    (least.total ∙ ap (λ t. t +ℚ least.value) used.total)
    added)
    (blocks_mean room kept.blocks reduced.rests box 0 kept.subproblems.items trees (Finite sum) m
    (λ block part e.
    fits_part program kept box reduced.rests made wide long room (0 + block) part
    (subst (λ n. IsReady (columns program) room (part_at kept.blocks n).columns part) (sym (zero-add block))
    (ready.each block part e)))))

pub lagrange_mean : (room : ℕ) (program : Program) (kept : Decomposed) (box : List Sides) (ys : List ℚ)
    (trees : List BoundTree) → IsWellFormed program → IsDecompositionOf program kept
    → AreReady (columns program) room kept → length box ≡ columns program
    → length ys ≡ length kept.blocks.master_rows → length trees ≡ length kept.subproblems.items
    → IfOk (lagrange_outcome room program kept box ys trees) (LagrangeFollows program box)
lagrange_mean room program kept box ys trees well made ready wide l m =
    let start : Reduced = start_of program in
    ok_chain (AreUsed ys (map (row_of program.rows) kept.blocks.master_rows) start) (LagrangeFollows program box)
    (multipliers_used program.rows kept.blocks.master_rows ys start)
    (rests_added room kept box trees)
    (multipliers_mean program.rows kept.blocks.master_rows ys start l
    (rows_stand program (length program.costs) well refl))
    (λ reduced used. behind room program kept box ys trees reduced well made ready wide m
    (subst (λ (rows : List Row). AreUsed ys rows start reduced) (rows_at program kept made) used))
