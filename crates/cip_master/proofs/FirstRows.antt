-- The master program without points.
use Rattle.std.proofs.Common.{◌≡◌, ℕ, zero, suc, ◌<◌, Bool, true, false, cond, List, [], ◌∷◌, ◌++◌, length, map, replicate, None, Some, refl, sym, ap, ap₂, ◌∙◌, subst, slice_get}
use Rattle.std.specs.Prelude.{slice_index, slice_index_or, All}
use Rattle.std.specs.List.{AllZip, AllByRecursion}
use Rattle.std.proofs.lemmas.Option.{slice_get-get_or}
use Rattle.std.proofs.lemmas.List.{append-nil, length-replicate}
use Rattle.std.proofs.lemmas.List.Elements.{recursion_from_All, All-from_recursion, All-append, All-nil, All-cons}
use Rattle.cip_rational.specs.Rational.{ℚ, ◌+ℚ◌, ◌*ℚ◌, zeroℚ, oneℚ}
use Rattle.cip_rational.specs.Sums.{dot}
use Rattle.cip_rational.proofs.Rational.Ring.{+ℚ-zero, zero-*ℚ, one-*ℚ}
use Rattle.cip_problem.specs.Program.{Term, Sides, Row, Program}
use Rattle.cip_problem.specs.Activity.{activity, StandsBelow}
use Rattle.cip_problem.specs.WellFormed.{columns, IsWellFormed}
use Rattle.cip_problem.specs.Aggregate.{Part, table, combined}
use Rattle.cip_problem.proofs.Aggregates.{length-table, parts_form}
use Rattle.cip_pricing.specs.Decomposition.{Owner, same_owner, picked}
use Rattle.cip_pricing.proofs.Picked.{same_owner-true}
use Rattle.cip_pricing.specs.MasterPrograms.{IsMasterRow, AreSumRows}
use Rattle.cip_pricing.proofs.Spread.{spread, dot-spread}
use Rattle.cip_lagrange.specs.Places.{ArePlaces}
use Rattle.cip_lagrange.specs.Numbers.{found}
use Rattle.cip_lagrange.specs.declared.parts.Decomposed.{Decomposed}
use Rattle.cip_lagrange.specs.Decompositions.{IsDecompositionOf}
use Rattle.cip_lagrange.proofs.Placing.{place_inside}
use Rattle.cip_master.specs.BlockSums.{free_term, free_terms, free_row}
use Rattle.cip_master.specs.FirstRows.{sum_row}
use Rattle.cip_master.specs.KeptMasters.{IsMasterOf}
use Rattle.cip_master.specs.declared.masters.MasterProgram.{MasterProgram}
use Rattle.cip_master.proofs.Coefficients.{free_value}
use Rattle.cip_master.proofs.Numbers.{row_of, rows_at, rows_stand, free_found}

-- ---- a master row on the columns of no block

-- a row as a sum of parts, and its list of coefficients
abbrev row_parts_of : Row → List Part
row_parts_of row = record { factor = oneℚ; terms = row.terms; side = zeroℚ } ∷ []

abbrev row_form : ℕ → Row → List ℚ
row_form n row = table n (combined (row_parts_of row))

form_is : (n : ℕ) (row : Row) (point : List ℚ) → StandsBelow n row.terms
    → dot (row_form n row) point ≡ activity row.terms point
form_is n row point h =
    parts_form n (row_parts_of row) point (h, tt)
    ∙ +ℚ-zero (oneℚ *ℚ activity row.terms point) ∙ one-*ℚ (activity row.terms point)

free_is_master : (n : ℕ) (owners : List Owner) (places : List ℕ) (row : Row) → n ≡ length owners
    → ArePlaces owners places → StandsBelow n row.terms
    → IsMasterRow n owners [] row (free_row owners places row)
free_is_master n owners places row e p h = record {
  form = row_form n row;
  long = length-table n (combined (row_parts_of row));
  is_form = λ point. form_is n row point h;
  low = refl;
  high = refl;
  sums = λ point.
      free_value owners places row.terms point p
      (recursion_from_All (λ (t : Term). t.column < length owners) row.terms
      (subst (λ m. StandsBelow m row.terms) e h))
      ∙ sym (form_is n row (spread None owners point) h)
      ∙ sym (dot-spread None owners (row_form n row) point)
      ∙ ap (λ f. dot f point) (sym (append-nil (picked None owners (row_form n row))));
}

-- its terms name columns of no block
put_inside : (t : Bool) (m k : ℕ) (term : Term) → (t ≡ true → k < m)
    → All (λ (u : Term). u.column < m) (cond t (record term { column = k } ∷ []) [])
put_inside true m k term f =
    All-cons (λ (u : Term). u.column < m) (record term { column = k }) [] (f refl) (All-nil (λ (u : Term). u.column
    < m))
put_inside false m k term f = All-nil (λ (u : Term). u.column < m)

free_inside_terms : (owners : List Owner) (places : List ℕ) (box : List Sides) (ts : List Term)
    → ArePlaces owners places → length box ≡ length owners
    → AllByRecursion (λ (t : Term). t.column < length owners) ts
    → StandsBelow (length (picked None owners box)) (free_terms owners places ts)
free_inside_terms owners places box [] p l h = All-nil (λ (u : Term). u.column < length (picked None owners box))
free_inside_terms owners places box (t ∷ ts) p l h =
    let m : ℕ = length (picked None owners box) in
    let owner : Owner = slice_index_or owners t.column None in
    All-append (λ (u : Term). u.column < m) (free_term owner (slice_index places t.column) t)
    (free_terms owners places ts)
    (put_inside (same_owner owner None) m (slice_index places t.column) t
    (λ e.
    let who : slice_get owners t.column ≡ Some None =
    slice_get-get_or owners t.column None h.0 ∙ ap (λ (o : Owner). Some o) (same_owner-true owner None e) in
    subst (λ k. k < m) (sym (p.at t.column None who)) (place_inside None owners box t.column who l)))
    (free_inside_terms owners places box ts p l h.1)

-- ---- all of them

module _ (owners : List Owner) (places : List ℕ) (box : List Sides) (rows : List Row) (p : ArePlaces owners places)
    (l : length box ≡ length owners)
    (stands : (number : ℕ) → All (λ (t : Term). t.column < length owners) (row_of rows number).terms) where
  first_masters : (numbers : List ℕ)
      → AllZip (IsMasterRow (length owners) owners []) (map (row_of rows) numbers)
      (map (λ number. free_row owners places (row_of rows number)) numbers)
  first_masters [] = tt
  first_masters (k ∷ ks) =
      (free_is_master (length owners) owners places (row_of rows k) refl p (stands k), first_masters ks)

  first_stands : (numbers : List ℕ)
      → AllByRecursion (λ (row : Row). StandsBelow (length (picked None owners box)) row.terms)
      (map (λ number. free_row owners places (row_of rows number)) numbers)
  first_stands [] = tt
  first_stands (k ∷ ks) = (
    free_inside_terms owners places box (row_of rows k).terms p l
        (recursion_from_All (λ (t : Term). t.column < length owners) (row_of rows k).terms (stands k)),
    first_stands ks,
  )

-- ---- rows of sums

zeros_nothing : (n : ℕ) (values : List ℚ) → dot (replicate n zeroℚ ++ []) values ≡ zeroℚ
zeros_nothing zero values = refl
zeros_nothing (suc n) [] = refl
zeros_nothing (suc n) (v ∷ vs) = ap₂ (λ a b. a +ℚ b) (zero-*ℚ v) (zeros_nothing n vs) ∙ +ℚ-zero zeroℚ

first_sums : (free first count : ℕ) → AreSumRows free first [] (replicate count sum_row)
first_sums free first zero = tt
first_sums free first (suc count) = (
  record { low = refl; high = refl; sums = λ point. sym (zeros_nothing free point) },
  first_sums free (suc first) count,
)

sums_stand : (n count : ℕ) → AllByRecursion (λ (row : Row). StandsBelow n row.terms) (replicate count sum_row)
sums_stand n zero = tt
sums_stand n (suc count) = (All-nil (λ (u : Term). u.column < n), sums_stand n count)

-- ---- the whole

pub first_master : (program : Program) (kept : Decomposed) (box : List Sides) (master : MasterProgram)
    → IsWellFormed program → IsDecompositionOf program kept → length box ≡ columns program
    → master.masters.items
    ≡ map (λ number. free_row kept.column_owners.items kept.places.items (row_of program.rows number))
    kept.blocks.master_rows
    → master.sums.items ≡ replicate (length kept.subproblems.items) sum_row
    → master.bounds ≡ found box kept.blocks.free_columns
    → master.costs.items ≡ found program.costs kept.blocks.free_columns
    → master.ids.items ≡ []
    → IsMasterOf program kept box [] master
first_master program kept box master well made wide m s b c i = record {
  masters =
      subst (λ (rows : List Row). AllZip (IsMasterRow (length kept.column_owners.items) kept.column_owners.items
      []) rows master.masters.items)
      (rows_at program kept made)
      (subst (λ (rows : List Row). AllZip (IsMasterRow (length kept.column_owners.items) kept.column_owners.items [])
      (map (row_of program.rows) kept.blocks.master_rows) rows) (sym m)
      (first_masters kept.column_owners.items kept.places.items box program.rows made.places l stands
      kept.blocks.master_rows));
  count = ap (λ (rows : List Row). length rows) s ∙ length-replicate (length kept.subproblems.items) sum_row;
  sums =
      subst (λ (rows : List Row). AreSumRows (length (picked None kept.column_owners.items box)) 0 [] rows) (sym s)
      (first_sums (length (picked None kept.column_owners.items box)) 0 (length kept.subproblems.items));
  bounds = box_is ∙ sym (append-nil (picked None kept.column_owners.items box));
  costs = c ∙ free_found program kept made program.costs ∙ sym (append-nil (picked None kept.column_owners.items
      program.costs));
  ids = i;
  master_terms =
      subst (λ n. All (λ (row : Row). StandsBelow n row.terms) master.masters.items) (sym (ap length box_is))
      (subst (All (λ (row : Row). StandsBelow (length (picked None kept.column_owners.items box)) row.terms)) (sym m)
      (All-from_recursion (λ (row : Row). StandsBelow (length (picked None kept.column_owners.items box)) row.terms)
      (map (λ number. free_row kept.column_owners.items kept.places.items (row_of program.rows number))
      kept.blocks.master_rows)
      (first_stands kept.column_owners.items kept.places.items box program.rows made.places l stands
      kept.blocks.master_rows)));
  sum_terms =
      subst (λ n. All (λ (row : Row). StandsBelow n row.terms) master.sums.items) (sym (ap length box_is))
      (subst (All (λ (row : Row). StandsBelow (length (picked None kept.column_owners.items box)) row.terms)) (sym s)
      (All-from_recursion (λ (row : Row). StandsBelow (length (picked None kept.column_owners.items box)) row.terms)
      (replicate (length kept.subproblems.items) sum_row)
      (sums_stand (length (picked None kept.column_owners.items box)) (length kept.subproblems.items))));
}
  where
    each : length kept.column_owners.items ≡ columns program
    each = made.decomposed.each_column

    l : length box ≡ length kept.column_owners.items
    l = wide ∙ sym each

    stands : (number : ℕ) → All (λ (t : Term). t.column < length kept.column_owners.items)
        (row_of program.rows number).terms
    stands = rows_stand program (length kept.column_owners.items) well each

    box_is : master.bounds ≡ picked None kept.column_owners.items box
    box_is = b ∙ free_found program kept made box
