-- A decomposition of a program is ready for the bounds of its blocks, and what they work in stays fit for them.
use Rattle.std.proofs.Common.{◌≡◌, ◌⊎◌, inl, inr, ℕ, ◌+◌, ◌<◌, ◌≤◌, ◌==◌, Bool, true, false, List, [], ◌∷◌, ◌++◌, length, map, take, get_or, None, Some, refl, sym, ap, ◌∙◌, subst, arith, slice_get}
use Rattle.std.specs.Prelude.{slice_index_or, slice_set, is_none, All}
use Rattle.std.specs.List.{AllByRecursion}
use Rattle.std.proofs.lemmas.Bool.{eqb-true, eqb-false}
use Rattle.std.proofs.lemmas.Option.{same_Some, slice_get_within}
use Rattle.std.proofs.lemmas.List.{length-map, length-set, length_push, take_more_set}
use Rattle.std.proofs.lemmas.List.Elements.{recursion_from_All, All-from_recursion}
use Rattle.cip_rational.specs.Rational.{ℚ, zeroℚ}
use Rattle.cip_problem.specs.Program.{Sides, Row, Choice, Program}
use Rattle.cip_problem.specs.Box.{sides_at, no_sides}
use Rattle.cip_problem.specs.Activity.{StandsBelow}
use Rattle.cip_problem.specs.WellFormed.{columns, IsWellFormed}
use Rattle.cip_problem.specs.BlockParts.{BlockPart, Blocks, rows_where, is_block}
use Rattle.cip_problem.specs.BlockMeaning.{part_at}
use Rattle.cip_pricing.specs.Decomposition.{picked, renumbered}
use Rattle.cip_pricing.proofs.Picked.{own_rows, length_picked}
use Rattle.cip_lagrange.specs.Numbers.{found}
use Rattle.cip_lagrange.specs.declared.parts.Subproblem.{Subproblem}
use Rattle.cip_lagrange.specs.declared.parts.Decomposed.{Decomposed}
use Rattle.cip_lagrange.specs.Decompositions.{owners_in, IsSubproblem, IsDecompositionOf}
use Rattle.cip_lagrange.proofs.AtPlaces.{get-set_same, get-set_other, get_push}
use Rattle.cip_lagrange.proofs.Found.{found_block, found_in, found_sides}
use Rattle.cip_lagrange.proofs.Numbered.{found_all, numbers_below, few_numbers}
use Rattle.cip_lagrange.proofs.Placing.{renumbered_rows}
use Rattle.cip_lagrange.proofs.Whole.{part_by, count_by}
use Rattle.cip_cert.specs.declared.pricing.BoundTree.{BoundTree}
use Rattle.cip_lagrange.specs.TreeOutcomes.{node_in, tree_outcome}
use Rattle.cip_lagrange.specs.LagrangeOutcomes.{asked_of, block_outcome}
use Rattle.cip_lagrange.specs.declared.scratches.BlockScratch.{BlockScratch}
use Rattle.cip_lagrange.specs.Scratches.{FitsBlock, AreFitting, IsReady, AreReady}

-- ---- blocks are ready

module _ (program : Program) (kept : Decomposed) (well : IsWellFormed program)
    (made : IsDecompositionOf program kept) where
  own_numbers : (block : ℕ) → block < length kept.subproblems.items
      → (part_at kept.blocks block).columns ≡ rows_where (is_block block) 0 kept.column_owners.items
  own_numbers block l =
      ap (λ (b : Blocks). (part_at b block).columns) made.numbers
      ∙ ap (λ (p : BlockPart). p.columns)
      (part_by (length kept.subproblems.items) kept.row_owners.items kept.column_owners.items block l)

  block_ready : (room block : ℕ) (part : Subproblem) → columns program ≤ room
      → slice_get kept.subproblems.items block ≡ Some part → block < length kept.subproblems.items
      → IsReady (columns program) room (rows_where (is_block block) 0 kept.column_owners.items) part
  block_ready room block part h e l =
      let s : IsSubproblem program (owners_in kept) block part = made.subproblems block part e in
      let each : length kept.column_owners.items ≡ columns program = made.decomposed.each_column in
      let numbers : List ℕ = rows_where (is_block block) 0 kept.column_owners.items in
      let below : AllByRecursion (λ n. n < columns program) numbers =
      numbers_below (is_block block) kept.column_owners.items (columns program) (omega (arith, each)) in
      let flags : AllByRecursion (λ n. n < length program.integral) numbers =
      subst (λ m. AllByRecursion (λ n. n < m) numbers) (sym well.integral) below in
      let long : length part.whole.items ≡ length numbers =
      ap length (s.whole ∙ sym (found_block block kept.column_owners.items program.integral)
      ∙ found_all program.integral false numbers flags)
      ∙ length-map numbers (λ n. slice_index_or program.integral n false) in
      let few : length numbers ≤ length kept.column_owners.items =
      few_numbers (is_block block) 0 kept.column_owners.items in
      record {
        within = All-from_recursion (λ n. n < columns program) numbers below;
        long = long;
        few = omega (arith, few, each, well.few_columns);
        can = record {
          rows =
              subst (λ (rows : List Row). All (λ row. StandsBelow (length part.whole.items) row.terms) rows)
              (sym s.rows)
              (subst (λ n. All (λ row. StandsBelow n row.terms)
              (map (renumbered (Some block) kept.column_owners.items)
              (picked (Some block) kept.row_owners.items program.rows)))
              (sym (ap length s.whole))
              (All-from_recursion (λ (row : Row). StandsBelow
              (length (picked (Some block) kept.column_owners.items program.integral)) row.terms)
              (map (renumbered (Some block) kept.column_owners.items)
              (picked (Some block) kept.row_owners.items program.rows))
              (renumbered_rows kept.column_owners.items block program.integral
              (picked (Some block) kept.row_owners.items program.rows) (well.integral ∙ sym each)
              (own_rows kept.column_owners.items block kept.row_owners.items program.rows made.decomposed.own_rows))));
          few = omega (arith, long, few, each, h);
        };
      }

  pub are_ready : (room : ℕ) → columns program ≤ room → AreReady (columns program) room kept
  are_ready room h = record {
    blocks =
        ap (λ (b : Blocks). length b.blocks) made.numbers
        ∙ count_by (length kept.subproblems.items) kept.row_owners.items kept.column_owners.items;
    few = made.few;
    each = λ block part e.
        let l : block < length kept.subproblems.items = slice_get_within kept.subproblems.items block part e in
        subst (λ (numbers : List ℕ). IsReady (columns program) room numbers part) (sym (own_numbers block l))
        (block_ready room block part h e l);
  }

  -- a block has as many sides as flags
  pub block_sides : (block : ℕ) (part : Subproblem) → slice_get kept.subproblems.items block ≡ Some part
      → length part.bounds ≡ length part.whole.items
  block_sides block part e =
      let s : IsSubproblem program (owners_in kept) block part = made.subproblems block part e in
      ap length s.bounds
      ∙ length_picked (Some block) kept.column_owners.items program.bounds program.integral
      (well.bounds ∙ sym well.integral)
      ∙ sym (ap length s.whole)

-- ---- what blocks work in

-- one block's part is written
pub fitting_set : (parts : List Subproblem) (works : List BlockScratch) (at : ℕ) (part : Subproblem)
    (work : BlockScratch) → AreFitting parts works → slice_get parts at ≡ Some part → FitsBlock part work
    → AreFitting parts (slice_set works at work)
fitting_set parts works at part work a e f = record {
  long = length-set works at work ∙ a.long;
  each = λ block other new g h. cases block other new g h (at == block) refl;
}
  where
    cases : (block : ℕ) (other : Subproblem) (new : BlockScratch) → slice_get parts block ≡ Some other
        → slice_get (slice_set works at work) block ≡ Some new → (t : Bool) → (at == block) ≡ t → FitsBlock other new
    cases block other new g h true q =
        let same : at ≡ block = eqb-true at block q in
        let inside : at < length works =
        (let l = slice_get_within parts at part e in omega (arith, l, a.long)) in
        let own : other ≡ part = same_Some other part (sym g ∙ ap (slice_get parts) (sym same) ∙ e) in
        let written : work ≡ new =
        same_Some work new (sym (get-set_same works at work inside) ∙ ap (slice_get (slice_set works at work)) same
        ∙ h) in
        subst (λ (w : BlockScratch). FitsBlock other w) written
        (subst (λ (p : Subproblem). FitsBlock p work) (sym own) f)
    cases block other new g h false q =
        a.each block other new g (sym (get-set_other works at block work (eqb-false at block q)) ∙ h)

-- what stands in the first so many places fits
pub record AreFittingTo (n : ℕ) (parts : List Subproblem) (works : List BlockScratch) : Type 0 where
  pub long : length works ≡ n
  pub each : (block : ℕ) (part : Subproblem) (work : BlockScratch) → slice_get parts block ≡ Some part
      → slice_get works block ≡ Some work → FitsBlock part work

pub fitting_more : (n : ℕ) (parts : List Subproblem) (works : List BlockScratch) (part : Subproblem)
    (work : BlockScratch) → AreFittingTo n parts works → slice_get parts n ≡ Some part → FitsBlock part work
    → AreFittingTo (n + 1) parts (works ++ work ∷ [])
fitting_more n parts works part work a e f = record {
  long = length_push works work ∙ ap (λ m. m + 1) a.long;
  each = λ block other new g h. cases block other new g (get_push works work new block n a.long h);
}
  where
    cases : (block : ℕ) (other : Subproblem) (new : BlockScratch) → slice_get parts block ≡ Some other
        → (slice_get works block ≡ Some new) ⊎ ((block ≡ n) × (work ≡ new)) → FitsBlock other new
    cases block other new g (inl h) = a.each block other new g h
    cases block other new g (inr h) =
        let own : other ≡ part = same_Some other part (sym g ∙ ap (slice_get parts) h.0 ∙ e) in
        subst (λ (w : BlockScratch). FitsBlock other w) h.1 (subst (λ (p : Subproblem). FitsBlock p work) (sym own) f)

-- ---- what is set

pub set_step : (costs rests : List ℚ) (numbers : List ℕ) (i : ℕ) (x : ℚ) → length costs ≡ length numbers
    → i < length numbers → get_or numbers i 0 < length rests → x ≡ get_or rests (get_or numbers i 0) x
    → take i costs ≡ found rests (take i numbers)
    → take (i + 1) (slice_set costs i x) ≡ found rests (take (i + 1) numbers)
set_step costs rests numbers i x e l m f h =
    take_more_set costs i x (omega (arith, e, l)) ∙ ap (λ ys. ys ++ x ∷ []) h ∙ sym (found_in rests numbers i x l m f)

pub box_step : (own box : List Sides) (numbers : List ℕ) (i : ℕ) (x : Sides) → length own ≡ length numbers
    → i < length numbers → get_or numbers i 0 < length box → x ≡ sides_at box (get_or numbers i 0)
    → take i own ≡ found box (take i numbers)
    → take (i + 1) (slice_set own i x) ≡ found box (take (i + 1) numbers)
box_step own box numbers i x e l m f h =
    take_more_set own i x (omega (arith, e, l)) ∙ ap (λ ys. ys ++ x ∷ []) h ∙ sym (found_sides box numbers i x l m f)

-- as many are found as there are numbers
pub found_long : {X : Type 0} (xs : List X) (d : X) (numbers : List ℕ) → All (λ number. number < length xs) numbers
    → length (found xs numbers) ≡ length numbers
found_long xs d numbers h =
    ap length (found_all xs d numbers (recursion_from_All (λ number. number < length xs) numbers h))
    ∙ length-map numbers (λ n. slice_index_or xs n d)

-- a block's part that was filled fits
pub filled_fits : (count room : ℕ) (part : Subproblem) (rests : List ℚ) (box : List Sides) (numbers : List ℕ)
    (before after : BlockScratch) → length rests ≡ count → length box ≡ count → IsReady count room numbers part
    → FitsBlock part before → after.costs.items ≡ found rests numbers → after.region.bounds ≡ found box numbers
    → after.region.choices ≡ before.region.choices → FitsBlock part after
filled_fits count room part rests box numbers before after e f r b c d h = record {
  costs =
      ap length c ∙ found_long rests zeroℚ numbers (subst (λ n. All (λ number. number < n) numbers) (sym e) r.within)
      ∙ sym r.long;
  bounds =
      ap length d ∙ found_long box no_sides numbers (subst (λ n. All (λ number. number < n) numbers) (sym f) r.within)
      ∙ sym r.long;
  choices = h ∙ b.choices;
}

-- the check of a block's tree over what was filled
pub filled_outcome : (room : ℕ) (numbers : List ℕ) (part : Subproblem) (rests : List ℚ) (box : List Sides)
    (tree : BoundTree) (work : BlockScratch) → work.costs.items ≡ found rests numbers
    → work.region.bounds ≡ found box numbers → work.region.choices ≡ part.choices
    → tree_outcome (asked_of part room work.costs.items) 1 tree (node_in work.region)
    ≡ block_outcome room numbers part rests box tree
filled_outcome room numbers part rests box tree work e f g =
    ap (λ (cs : List ℚ). tree_outcome (asked_of part room cs) 1 tree (node_in work.region)) e
    ∙ ap (λ (b : List Sides). tree_outcome (asked_of part room (found rests numbers)) 1 tree
    (record { number = 0; box = b; choices = work.region.choices; bound = None })) f
    ∙ ap (λ (cs : List Choice). tree_outcome (asked_of part room (found rests numbers)) 1 tree
    (record { number = 0; box = found box numbers; choices = cs; bound = None })) g

-- ---- numbers in range

pub masters_inside : (program : Program) (kept : Decomposed) → IsDecompositionOf program kept
    → All (λ number. number < length program.rows) kept.blocks.master_rows
masters_inside program kept made =
    let each : length kept.row_owners.items ≡ length program.rows = made.each_row in
    subst (λ (b : Blocks). All (λ number. number < length program.rows) b.master_rows) (sym made.numbers)
    (All-from_recursion (λ number. number < length program.rows) (rows_where is_none 0 kept.row_owners.items)
    (numbers_below is_none kept.row_owners.items (length program.rows) (omega (arith, each))))

pub free_inside : (program : Program) (kept : Decomposed) (n : ℕ) → IsDecompositionOf program kept
    → n ≡ columns program → All (λ number. number < n) kept.blocks.free_columns
free_inside program kept n made e =
    let each : length kept.column_owners.items ≡ columns program = made.decomposed.each_column in
    subst (λ (b : Blocks). All (λ number. number < n) b.free_columns) (sym made.numbers)
    (All-from_recursion (λ number. number < n) (rows_where is_none 0 kept.column_owners.items)
    (numbers_below is_none kept.column_owners.items n (omega (arith, each, e))))
