-- The numbers that a decomposition keeps.
use Rattle.std.proofs.Common.{◌≡◌, ◌⊎◌, inl, inr, ℕ, ◌<◌, ◌≤◌, List, [], length, map, get_or, None, Some, sym, ap, ◌∙◌, subst, arith}
use Rattle.std.specs.Prelude.{slice_index_or, is_none, All}
use Rattle.std.proofs.lemmas.Bool.{cases_lt}
use Rattle.std.proofs.lemmas.List.{get_or_past, get_or_read}
use Rattle.std.proofs.lemmas.List.Elements.{All-from_recursion}
use Rattle.cip_problem.specs.Program.{Term, Row, Program, no_row}
use Rattle.cip_problem.specs.WellFormed.{columns, IsWellFormed}
use Rattle.cip_problem.specs.BlockParts.{BlockPart, Blocks, rows_where, is_block}
use Rattle.cip_problem.specs.BlockMeaning.{part_at}
use Rattle.cip_pricing.specs.Decomposition.{picked, master_rows}
use Rattle.cip_lagrange.specs.Numbers.{found}
use Rattle.cip_lagrange.specs.declared.parts.Decomposed.{Decomposed}
use Rattle.cip_lagrange.specs.Decompositions.{owners_in, IsDecompositionOf}
use Rattle.cip_lagrange.proofs.Found.{found_block, found_free}
use Rattle.cip_lagrange.proofs.Numbered.{found_all, numbers_below}
use Rattle.cip_lagrange.proofs.Whole.{part_by, count_by}

-- a row, by its number
abbrev pub row_of : List Row → ℕ → Row
row_of rows number = slice_index_or rows number no_row

module _ (program : Program) (kept : Decomposed) (made : IsDecompositionOf program kept) where
  pub masters_inside : All (λ number. number < length program.rows) kept.blocks.master_rows
  masters_inside =
      let each : length kept.row_owners.items ≡ length program.rows = made.each_row in
      subst (λ (b : Blocks). All (λ number. number < length program.rows) b.master_rows) (sym made.numbers)
      (All-from_recursion (λ number. number < length program.rows) (rows_where is_none 0 kept.row_owners.items)
      (numbers_below is_none kept.row_owners.items (length program.rows) (omega (arith, each))))

  pub free_inside : (n : ℕ) → n ≡ columns program → All (λ number. number < n) kept.blocks.free_columns
  free_inside n e =
      let each : length kept.column_owners.items ≡ columns program = made.decomposed.each_column in
      subst (λ (b : Blocks). All (λ number. number < n) b.free_columns) (sym made.numbers)
      (All-from_recursion (λ number. number < n) (rows_where is_none 0 kept.column_owners.items)
      (numbers_below is_none kept.column_owners.items n (omega (arith, each, e))))

  -- there are as many blocks as are kept
  pub count_is : length kept.blocks.blocks ≡ length kept.subproblems.items
  count_is =
      ap (λ (b : Blocks). length b.blocks) made.numbers
      ∙ count_by (length kept.subproblems.items) kept.row_owners.items kept.column_owners.items

  -- the numbers of the master rows are those of rows
  pub rows_inside : (numbers : List ℕ) (rows : List Row) → numbers ≡ kept.blocks.master_rows → rows ≡ program.rows
      → All (λ number. number < length rows) numbers
  rows_inside numbers rows e f =
      subst (All (λ number. number < length rows)) (sym e)
      (subst (λ (rs : List Row). All (λ number. number < length rs) kept.blocks.master_rows) (sym f) masters_inside)

  pub free_found : {X : Type 0} (xs : List X)
      → found xs kept.blocks.free_columns ≡ picked None kept.column_owners.items xs
  free_found xs =
      ap (λ (b : Blocks). found xs b.free_columns) made.numbers ∙ found_free kept.column_owners.items xs

  -- the numbers of a block's columns
  own_numbers : (block : ℕ) → block < length kept.subproblems.items
      → (part_at kept.blocks block).columns ≡ rows_where (is_block block) 0 kept.column_owners.items
  own_numbers block l =
      ap (λ (b : Blocks). (part_at b block).columns) made.numbers
      ∙ ap (λ (p : BlockPart). p.columns)
      (part_by (length kept.subproblems.items) kept.row_owners.items kept.column_owners.items block l)

  pub block_inside : (block n : ℕ) → block < length kept.subproblems.items → n ≡ columns program
      → All (λ number. number < n) (part_at kept.blocks block).columns
  block_inside block n l e =
      let each : length kept.column_owners.items ≡ columns program = made.decomposed.each_column in
      subst (All (λ number. number < n)) (sym (own_numbers block l))
      (All-from_recursion (λ number. number < n) (rows_where (is_block block) 0 kept.column_owners.items)
      (numbers_below (is_block block) kept.column_owners.items n (omega (arith, each, e))))

  pub block_found : {X : Type 0} (block : ℕ) (xs : List X) → block < length kept.subproblems.items
      → found xs (part_at kept.blocks block).columns ≡ picked (Some block) kept.column_owners.items xs
  block_found block xs l = ap (found xs) (own_numbers block l) ∙ found_block block kept.column_owners.items xs

  -- the master rows
  pub rows_at : map (row_of program.rows) kept.blocks.master_rows ≡ master_rows program (owners_in kept)
  rows_at =
      let each : length kept.row_owners.items ≡ length program.rows = made.each_row in
      ap (λ (b : Blocks). map (row_of program.rows) b.master_rows) made.numbers
      ∙ sym (found_all program.rows no_row (rows_where is_none 0 kept.row_owners.items)
      (numbers_below is_none kept.row_owners.items (length program.rows) (omega (arith, each))))
      ∙ found_free kept.row_owners.items program.rows

-- each row stands on columns of the program, and so does no row at all
pub rows_stand : (program : Program) (n : ℕ) → IsWellFormed program → n ≡ columns program → (number : ℕ)
    → All (λ (t : Term). t.column < n) (row_of program.rows number).terms
rows_stand program n well e number =
    subst (λ m. All (λ (t : Term). t.column < m) (row_of program.rows number).terms) (sym e)
    (cases (cases_lt number (length program.rows)))
  where
    none : All (λ (t : Term). t.column < columns program) []
    none = All-from_recursion (λ (t : Term). t.column < columns program) [] tt

    cases : (number < length program.rows) ⊎ (length program.rows ≤ number)
        → All (λ (t : Term). t.column < columns program) (row_of program.rows number).terms
    cases (inl h) = well.rows number no_row h
    cases (inr h) =
        subst (λ (row : Row). All (λ (t : Term). t.column < columns program) row.terms)
        (sym (get_or_past program.rows number no_row h)) none

-- the row that stands at a number, read
pub row_read : (program : Program) (n : ℕ) (rows : List Row) (row : Row) (number : ℕ) → IsWellFormed program
    → n ≡ columns program → rows ≡ program.rows → number < length rows → row ≡ get_or rows number row
    → (row ≡ row_of program.rows number) × All (λ (t : Term). t.column < n) row.terms
row_read program n rows row number well e f l r =
    let same : row ≡ row_of program.rows number =
    get_or_read rows number row l r no_row ∙ ap (λ (rs : List Row). row_of rs number) f in (
      same,
      subst (λ (q : Row). All (λ (t : Term). t.column < n) q.terms) (sym same)
          (rows_stand program n well e number),
    )
