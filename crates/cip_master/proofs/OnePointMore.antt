-- One more point in the master program.
use Rattle.std.proofs.Common.{◌≡◌, ℕ, zero, suc, ◌+◌, ◌<◌, ◌≤◌, ◌^◌, Bool, true, false, cond, List, [], ◌∷◌, ◌++◌, length, map, take, get_or, None, Some, Result, Ok, IfOk, refl, sym, ap, ap₂, ◌∙◌, subst, arith}
use Rattle.std.specs.Prelude.{slice_index_or, slice_set, All}
use Rattle.std.specs.List.{AllZip, filter, Contains}
use Rattle.std.proofs.lemmas.List.{map_push, append_assoc, length-append, length-map, length-set, length-take-le, length_push, take_more}
use Rattle.std.proofs.lemmas.List.Elements.{recursion_from_All, All-from_recursion, All-set}
use Rattle.std.proofs.lemmas.Slice.Zip.{AllZip-long}
use Rattle.cip_rational.specs.Rational.{ℚ, oneℚ}
use Rattle.cip_rational.specs.Sums.{dot}
use Rattle.cip_frac.specs.declared.operations.Wide.{Wide}
use Rattle.cip_problem.specs.Program.{Term, Sides, Row, Program, no_row}
use Rattle.cip_problem.specs.Activity.{activity, StandsBelow}
use Rattle.cip_problem.specs.WellFormed.{columns, IsWellFormed}
use Rattle.cip_problem.specs.BlockMeaning.{part_at}
use Rattle.cip_pricing.specs.Decomposition.{Owner, same_owner, picked, master_rows}
use Rattle.cip_pricing.specs.Mixtures.{Held}
use Rattle.cip_pricing.specs.MasterForms.{master_form, weight_sides}
use Rattle.cip_pricing.proofs.Picked.{length_picked}
use Rattle.cip_pricing.specs.MasterPrograms.{IsMasterRow, AreSumRows}
use Rattle.cip_pricing.proofs.Spread.{spread}
use Rattle.cip_columns.specs.PoolPoints.{PoolPoint, held_of}
use Rattle.cip_columns.specs.ColumnPools.{most_points}
use Rattle.cip_lagrange.specs.Numbers.{found}
use Rattle.cip_lagrange.specs.declared.parts.Decomposed.{Decomposed}
use Rattle.cip_lagrange.specs.Decompositions.{owners_in, IsDecompositionOf}
use Rattle.cip_master.specs.BlockSums.{coefficient_in}
use Rattle.cip_master.specs.WeightTerms.{with_weight, weighted}
use Rattle.cip_master.specs.KeptMasters.{is_held_in, held_in, IsMasterOf, HasSeen, PutsPoint, TakesPoint, IsTakenFault, IsPoolFault}
use Rattle.cip_master.specs.declared.masters.MasterProgram.{MasterProgram}
use Rattle.cip_master.specs.declared.masters.MasterFault.{MasterFault}
use Rattle.cip_master.specs.declared.masters.MasterFault.TheVariants.{Wide as TooWide, NoMemory}
use Rattle.cip_master.proofs.Coefficients.{coefficient_value}
use Rattle.cip_master.proofs.Numbers.{row_of, rows_at, rows_stand, block_found}
use Rattle.cip_master.proofs.Weighed.{form_more, weight_stands, stands_more, AreWeighed, masters_weighed, sums_weighed}

-- what is where one more point has been put
pub record ArePut (program : Program) (kept : Decomposed) (held : PoolPoint) (cost : ℚ)
    (before after : MasterProgram) : Type 0 where
  pub masters : weighted (coefficient_in kept held) (length before.bounds) program.rows 0 kept.blocks.master_rows
      before.masters.items ≡ Ok after.masters.items
  pub sums : after.sums.items ≡ slice_set before.sums.items held.block
      (with_weight (length before.bounds) oneℚ (slice_index_or before.sums.items held.block no_row))
  pub bounds : after.bounds ≡ before.bounds ++ weight_sides ∷ []
  pub costs : after.costs.items ≡ before.costs.items ++ cost ∷ []
  pub ids : after.ids.items ≡ before.ids.items ++ held.id ∷ []
  pub cost_is : cost ≡ dot (found program.costs (part_at kept.blocks held.block).columns) held.point

module _ (program : Program) (kept : Decomposed) (held : PoolPoint) (cost : ℚ) (before after : MasterProgram)
    (well : IsWellFormed program) (made : IsDecompositionOf program kept)
    (block : held.block < length kept.subproblems.items) (put : ArePut program kept held cost before after)
    (box : List Sides) (points : List PoolPoint) (wide : length box ≡ length kept.column_owners.items)
    (m : IsMasterOf program kept box points before) where
  each : length kept.column_owners.items ≡ columns program
  each = made.decomposed.each_column

  column_is : length before.bounds ≡ length (picked None kept.column_owners.items box) + length (map held_of points)
  column_is =
      ap length m.bounds
      ∙ length-append (picked None kept.column_owners.items box)
      (map (λ (h : Held). weight_sides) (map held_of points))
      ∙ ap (λ n. length (picked None kept.column_owners.items box) + n)
      (length-map (map held_of points) (λ (h : Held). weight_sides))

  next_is : length after.bounds ≡ length before.bounds + 1
  next_is = ap length put.bounds ∙ length_push before.bounds weight_sides

  helds_are : map held_of (points ++ held ∷ []) ≡ map held_of points ++ held_of held ∷ []
  helds_are = map_push held_of points held

  form_at : (form : List ℚ) → length form ≡ length kept.column_owners.items
      → length (picked None kept.column_owners.items form) + length (map held_of points) ≡ length before.bounds
  form_at form e =
      ap (λ n. n + length (map held_of points))
      (length_picked None kept.column_owners.items form box (e ∙ sym wide)) ∙ sym column_is

  values_at : (number : ℕ) → IfOk (coefficient_in kept held (row_of program.rows number).terms)
      (λ q. q ≡ activity (row_of program.rows number).terms
      (spread (Some held.block) kept.column_owners.items held.point))
  values_at number =
      coefficient_value kept.column_owners.items kept.places.items held.block held.point
      (row_of program.rows number).terms made.places
      (recursion_from_All (λ (t : Term). t.column < length kept.column_owners.items) (row_of program.rows number).terms
      (rows_stand program (length kept.column_owners.items) well each number))

  weighed_rows : AreWeighed (length kept.column_owners.items) kept.column_owners.items
      (map held_of points ++ held_of held ∷ []) (length before.bounds) program.rows kept.blocks.master_rows
      after.masters.items
  weighed_rows =
      subst (λ (r : Result (List Row) Wide). IfOk r (AreWeighed (length kept.column_owners.items)
      kept.column_owners.items (map held_of points ++ held_of held ∷ []) (length before.bounds) program.rows
      kept.blocks.master_rows)) put.masters
      (masters_weighed (length kept.column_owners.items) kept.column_owners.items (map held_of points) (held_of held)
      (length before.bounds) program.rows (coefficient_in kept held) values_at form_at kept.blocks.master_rows
      before.masters.items
      (subst (λ (rows : List Row). AllZip (IsMasterRow (length kept.column_owners.items) kept.column_owners.items
      (map held_of points)) rows before.masters.items) (sym (rows_at program kept made)) m.masters)
      (recursion_from_All (λ (row : Row). StandsBelow (length before.bounds) row.terms) before.masters.items
      m.master_terms))

  stands_next : (rows : List Row) → All (λ (row : Row). StandsBelow (length before.bounds) row.terms) rows
      → All (λ (row : Row). StandsBelow (length before.bounds + 1) row.terms) rows
  stands_next rows h = λ k d l. stands_more (length before.bounds) (slice_index_or rows k d).terms (h k d l)

  cost_is : cost ≡ dot (picked (Some held.block) kept.column_owners.items program.costs) held.point
  cost_is =
      put.cost_is
      ∙ ap (λ cs. dot cs held.point) (block_found program kept made held.block program.costs block)

  pub put_master : IsMasterOf program kept box (points ++ held ∷ []) after
  put_master = record {
    masters =
        subst (λ (hs : List Held). AllZip (IsMasterRow (length kept.column_owners.items) kept.column_owners.items hs)
        (master_rows program (owners_in kept)) after.masters.items) (sym helds_are)
        (subst (λ (rows : List Row). AllZip (IsMasterRow (length kept.column_owners.items) kept.column_owners.items
        (map held_of points ++ held_of held ∷ [])) rows after.masters.items) (rows_at program kept made)
        weighed_rows.zip);
    count =
        ap (λ (rows : List Row). length rows) put.sums
        ∙ length-set before.sums.items held.block
        (with_weight (length before.bounds) oneℚ (slice_index_or before.sums.items held.block no_row))
        ∙ m.count;
    sums =
        subst (λ (hs : List Held). AreSumRows (length (picked None kept.column_owners.items box)) 0 hs after.sums.items)
        (sym helds_are)
        (subst (λ (rows : List Row). AreSumRows (length (picked None kept.column_owners.items box)) 0
        (map held_of points ++ held_of held ∷ []) rows) (sym put.sums)
        (sums_weighed (length (picked None kept.column_owners.items box)) 0 held.block (length before.bounds)
        (map held_of points) (held_of held) before.sums.items (omega arith) (omega (arith, block, m.count))
        (sym column_is) m.sums));
    bounds =
        put.bounds ∙ ap (λ (ss : List Sides). ss ++ weight_sides ∷ []) m.bounds
        ∙ append_assoc (picked None kept.column_owners.items box)
        (map (λ (h : Held). weight_sides) (map held_of points)) (weight_sides ∷ [])
        ∙ ap (λ (ss : List Sides). picked None kept.column_owners.items box ++ ss)
        (sym (ap (map (λ (h : Held). weight_sides)) helds_are
        ∙ map_push (λ (h : Held). weight_sides) (map held_of points) (held_of held)));
    costs =
        put.costs
        ∙ ap₂ (λ cs c. cs ++ c ∷ []) m.costs cost_is
        ∙ sym (ap (master_form kept.column_owners.items program.costs) helds_are
        ∙ form_more kept.column_owners.items program.costs (map held_of points) (held_of held));
    ids =
        put.ids ∙ ap (λ ns. ns ++ held.id ∷ []) m.ids ∙ sym (map_push (λ (h : PoolPoint). h.id) points held);
    master_terms =
        subst (λ n. All (λ (row : Row). StandsBelow n row.terms) after.masters.items) (sym next_is)
        (All-from_recursion (λ (row : Row). StandsBelow (length before.bounds + 1) row.terms) after.masters.items
        weighed_rows.stands);
    sum_terms =
        subst (λ n. All (λ (row : Row). StandsBelow n row.terms) after.sums.items) (sym next_is)
        (subst (All (λ (row : Row). StandsBelow (length before.bounds + 1) row.terms)) (sym put.sums)
        (All-set (λ (row : Row). StandsBelow (length before.bounds + 1) row.terms) before.sums.items held.block
        (with_weight (length before.bounds) oneℚ (slice_index_or before.sums.items held.block no_row))
        (weight_stands (length before.bounds) oneℚ (slice_index_or before.sums.items held.block no_row)
        (m.sum_terms held.block no_row (omega (arith, block, m.count))))
        (stands_next before.sums.items m.sum_terms)));
  }

pub puts_point : (program : Program) (kept : Decomposed) (held : PoolPoint) (cost : ℚ) (before after : MasterProgram)
    → IsWellFormed program → IsDecompositionOf program kept → held.block < length kept.subproblems.items
    → ArePut program kept held cost before after → PutsPoint program kept held before after
puts_point program kept held cost before after well made block put = λ box points wide m.
    put_master program kept held cost before after well made block put box points wide m

-- ---- sizes

pub masters_long : (program : Program) (kept : Decomposed) (box : List Sides) (points : List PoolPoint)
    (master : MasterProgram) → IsDecompositionOf program kept → IsMasterOf program kept box points master
    → length master.masters.items ≡ length kept.blocks.master_rows
masters_long program kept box points master made m =
    AllZip-long (IsMasterRow (length kept.column_owners.items) kept.column_owners.items (map held_of points))
    (master_rows program (owners_in kept)) master.masters.items m.masters
    ∙ ap length (sym (rows_at program kept made))
    ∙ length-map kept.blocks.master_rows (row_of program.rows)

picked_step : {X : Type 0} (t : Bool) (x : X) (xs : List X) (n : ℕ) → length xs ≤ n
    → length (cond t (x ∷ xs) xs) ≤ suc n
picked_step true x xs n h = omega (arith, h)
picked_step false x xs n h = omega (arith, h)

pub picked_few : {X : Type 0} (who : Owner) (owners : List Owner) (xs : List X)
    → length (picked who owners xs) ≤ length owners
picked_few who [] xs = omega arith
picked_few who (o ∷ os) [] = omega arith
picked_few who (o ∷ os) (x ∷ xs) =
    picked_step (same_owner o who) x (picked who os xs) (length os) (picked_few who os xs)

filter_few : (p : PoolPoint → Bool) (points : List PoolPoint) → length (filter p points) ≤ length points
filter_few p [] = omega arith
filter_few p (h ∷ hs) = picked_step (p h) h (filter p hs) (length hs) (filter_few p hs)

-- there are as many columns at most as there may be in a program and points in a pool
pub most_columns_kept : (program : Program) (kept : Decomposed) (box : List Sides) (points : List PoolPoint)
    (master : MasterProgram) → IsWellFormed program → IsDecompositionOf program kept
    → length points ≤ most_points → HasSeen program kept box points master → length master.bounds ≤ 131072
most_columns_kept program kept box points master well made few h =
    let owners : List Owner = kept.column_owners.items in
    let held : List PoolPoint = held_in owners box (take master.seen points) in
    let long : length master.bounds ≡ length (picked None owners box) + length (map held_of held) =
    ap length h.is_master.bounds
    ∙ length-append (picked None owners box) (map (λ (g : Held). weight_sides) (map held_of held))
    ∙ ap (λ n. length (picked None owners box) + n) (length-map (map held_of held) (λ (g : Held). weight_sides)) in
    let each : length owners ≡ columns program = made.decomposed.each_column in
    let free : length (picked None owners box) ≤ length owners = picked_few None owners box in
    let points_few : length held ≤ length (take master.seen points) =
    filter_few (is_held_in owners box) (take master.seen points) in
    let taken : length (take master.seen points) ≡ master.seen = length-take-le master.seen points h.seen in
    let mapped : length (map held_of held) ≡ length held = length-map held held_of in
    let columns_few = well.few_columns in
    omega (arith, long, each, free, points_few, taken, mapped, columns_few, few, h.seen)

-- ---- the loop over the points of a pool

pub seen_more : (program : Program) (kept : Decomposed) (box : List Sides) (points : List PoolPoint) (at : ℕ)
    (held : PoolPoint) (before taken after : MasterProgram) → at < length points → held ≡ get_or points at held
    → before.seen ≡ at → HasSeen program kept box points before → TakesPoint program kept box held before taken
    → after ≡ record taken { seen = at + 1 }
    → HasSeen program kept box points after
seen_more program kept box points at held before taken after l e s h t a =
    subst (HasSeen program kept box points) (sym a) (record {
      seen = omega (arith, l);
      is_master =
          kept_master taken
          (subst (λ (ps : List PoolPoint). IsMasterOf program kept box (held_in kept.column_owners.items box ps) taken)
          (sym (take_more points at held l ∙ ap (λ (g : PoolPoint). take at points ++ g ∷ []) (sym e)))
          (t (take at points)
          (subst (λ n. IsMasterOf program kept box (held_in kept.column_owners.items box (take n points)) before) s
          h.is_master)));
    })
  where
    kept_master : (m : MasterProgram)
        → IsMasterOf program kept box (held_in kept.column_owners.items box (take (at + 1) points)) m
        → IsMasterOf program kept box (held_in kept.column_owners.items box (take (at + 1) points))
        (record m { seen = at + 1 })
    kept_master m i = record {
      masters = i.masters;
      count = i.count;
      sums = i.sums;
      bounds = i.bounds;
      costs = i.costs;
      ids = i.ids;
      master_terms = i.master_terms;
      sum_terms = i.sum_terms;
    }

-- a point of the list that passes a test stands in what is filtered
pub filter_has : (p : PoolPoint → Bool) (points : List PoolPoint) (at : ℕ) (held : PoolPoint) → at < length points
    → held ≡ get_or points at held → p held ≡ true → Contains (filter p points) held
filter_has p [] at held l e t = absurd (omega (arith, l))
filter_has p (g ∷ gs) zero held l e t =
    subst (λ (x : PoolPoint). Contains (cond (p x) (x ∷ filter p gs) (filter p gs)) held) e
    (subst (λ b. Contains (cond b (held ∷ filter p gs) (filter p gs)) held) (sym t) (0, omega arith, refl))
filter_has p (g ∷ gs) (suc at) held l e t = more (p g) (filter_has p gs at held (omega (arith, l)) e t)
  where
    more : (b : Bool) → Contains (filter p gs) held → Contains (cond b (g ∷ filter p gs) (filter p gs)) held
    more true (k, h, q) = (suc k, omega (arith, h), q)
    more false c = c

pub few_columns : (program : Program) (kept : Decomposed) (box : List Sides) (points : List PoolPoint)
    (master : MasterProgram) → IsWellFormed program → IsDecompositionOf program kept
    → length points ≤ most_points → HasSeen program kept box points master → length master.bounds < 2 ^ 32
few_columns program kept box points master well made few h =
    let most : length master.bounds ≤ 131072 = most_columns_kept program kept box points master well made few h in
    omega (arith, most)

-- why a point of a pool isn't taken is why the pool's aren't
pub taken_fault : (program : Program) (kept : Decomposed) (box : List Sides) (points : List PoolPoint) (at : ℕ)
    (held : PoolPoint) (fault : MasterFault) → at < length points → held ≡ get_or points at held
    → IsTakenFault program kept box held fault → IsPoolFault program kept box points fault
taken_fault program kept box points at held TooWide l e f =
    (held, filter_has (is_held_in kept.column_owners.items box) points at held l e f.0, f.1)
taken_fault program kept box points at held NoMemory l e f = tt

-- at the end of the points all are seen
pub all_seen : (seen at count all : ℕ) → seen ≡ at → count ≤ at → seen ≤ all → count ≡ all → seen ≡ all
all_seen seen at count all is past most same = omega (arith, is, past, most, same)
