-- Each column and each row has the block that it has in the program's blocks, and so the program falls into them.
use Rattle.std.proofs.Common.{◌≡◌, ◌⊎◌, inl, inr, ℕ, zero, suc, ◌<◌, ◌≤◌, ◌==◌, true, false, ◌||◌, List, [], ◌∷◌, length, None, Some, sym, ap, ◌∙◌, arith, true≢false, slice_get}
use Rattle.std.specs.Prelude.{◌↔◌}
use Rattle.std.specs.List.{AllByRecursion, list_any}
use Rattle.std.proofs.lemmas.Bool.{eq-eqb, cases_lt, or_right}
use Rattle.std.proofs.lemmas.Option.{none-some, same_Some, get_or_from_slice_get}
use Rattle.std.proofs.lemmas.List.{length-replicate, get_or_past}
use Rattle.cip_problem.specs.Program.{Term, Row, Program, no_row}
use Rattle.cip_problem.specs.Activity.{StandsBelow}
use Rattle.cip_problem.specs.WellFormed.{columns, IsWellFormed}
use Rattle.cip_problem.specs.BlockParts.{Blocks, has_number, stands_on}
use Rattle.cip_problem.specs.BlockMeaning.{part_at, row_at, HasEntry, AreBlocks}
use Rattle.cip_pricing.specs.Decomposition.{Owner, IsOwner, IsOwnRow, IsDecomposed}
use Rattle.cip_lagrange.specs.Owners.{owned_below}
use Rattle.cip_lagrange.proofs.AtPlaces.{all_at, all_at_place, zip_at}
use Rattle.cip_lagrange.proofs.Marking.{nobody, length-owned, owned_is, owned_back}

-- ---- entries of rows

-- a row has an entry of the column of each of its terms
stands_there : (terms : List Term) (j : ℕ) (t : Term) → slice_get terms j ≡ Some t
    → list_any (λ (u : Term). u.column == t.column) terms ≡ true
stands_there [] j t e = absurd (none-some t e)
stands_there (u ∷ us) zero t e =
    let same : u ≡ t = same_Some u t e in
    ap (λ x. x || list_any (λ (u : Term). u.column == t.column) us)
    (eq-eqb u.column t.column (ap (λ (v : Term). v.column) same))
stands_there (u ∷ us) (suc j) t e =
    or_right (u.column == t.column) (list_any (λ (u : Term). u.column == t.column) us) (stands_there us j t e)

-- the owners that blocks give
abbrev pub columns_by : Blocks → ℕ → List ℕ
columns_by blocks block = (part_at blocks block).columns

abbrev pub rows_by : Blocks → ℕ → List ℕ
rows_by blocks block = (part_at blocks block).rows

abbrev pub column_owners_by : Program → Blocks → List Owner
column_owners_by program blocks = owned_below (columns_by blocks) (length blocks.blocks) (nobody (columns program))

abbrev pub row_owners_by : Program → Blocks → List Owner
row_owners_by program blocks = owned_below (rows_by blocks) (length blocks.blocks) (nobody (length program.rows))

module _ (program : Program) (blocks : Blocks) (well : IsWellFormed program) (apart : AreBlocks program blocks) where
  -- ---- columns

  stands_within : (column row : ℕ) → stands_on column (row_at program row) ≡ true → row < length program.rows
  stands_within column row e = cases (cases_lt row (length program.rows))
    where
      cases : (row < length program.rows) ⊎ (length program.rows ≤ row) → row < length program.rows
      cases (inl h) = h
      cases (inr h) =
          absurd (true≢false (sym e ∙ ap (λ (r : Row). stands_on column r) (get_or_past program.rows row no_row h)))

  -- a column is of one block
  one_column : (b c column : ℕ) → c < length blocks.blocks → column < columns program
      → has_number (columns_by blocks b) column ≡ true → has_number (columns_by blocks c) column ≡ true → c ≡ b
  one_column b c column h l e f =
      let w : HasEntry program (part_at blocks c) column = (apart.columns_of c column h l).0 f in
      let long : length program.row_names ≡ length program.rows = well.row_names in
      let inside : w.row < length program.rows = stands_within column w.row w.entry in
      cases w (apart.entries b column w.row e (omega (arith, inside, long)) w.entry)
    where
      cases : (w : HasEntry program (part_at blocks c) column)
          → has_number (part_at blocks b).rows w.row ≡ true ⊎ has_number blocks.master_rows w.row ≡ true → c ≡ b
      cases w (inl g) = apart.one_block w.row c b w.is_row g
      cases w (inr g) = absurd (true≢false (sym g ∙ apart.no_master w.row c w.is_row))

  column_is : (b column : ℕ) → b < length blocks.blocks → column < columns program
      → has_number (columns_by blocks b) column ≡ true
      → slice_get (column_owners_by program blocks) column ≡ Some (Some b)
  column_is b column h l e =
      let long : length (nobody (columns program)) ≡ columns program = length-replicate (columns program) None in
      owned_is (columns_by blocks) (length blocks.blocks) (nobody (columns program)) column b
      (omega (arith, l, long)) h e
      (λ c k g. one_column b c column k l e g)

  pub column_owner : (b column : ℕ) → b < length blocks.blocks → column < columns program
      → (has_number (part_at blocks b).columns column ≡ true)
      ↔ (slice_get (column_owners_by program blocks) column ≡ Some (Some b))
  column_owner b column h l = (
    column_is b column h l,
    λ e. (owned_back (columns_by blocks) (length blocks.blocks) (columns program) column b e).1,
  )

  -- ---- rows

  row_is : (b row : ℕ) → b < length blocks.blocks → row < length program.rows
      → has_number (rows_by blocks b) row ≡ true → slice_get (row_owners_by program blocks) row ≡ Some (Some b)
  row_is b row h l e =
      let long : length (nobody (length program.rows)) ≡ length program.rows =
      length-replicate (length program.rows) None in
      owned_is (rows_by blocks) (length blocks.blocks) (nobody (length program.rows)) row b (omega (arith, l, long)) h e
      (λ c k g. apart.one_block row c b g e)

  pub row_owner : (b row : ℕ) → b < length blocks.blocks → row < length program.rows
      → (has_number (part_at blocks b).rows row ≡ true)
      ↔ (slice_get (row_owners_by program blocks) row ≡ Some (Some b))
  row_owner b row h l = (
    row_is b row h l,
    λ e. (owned_back (rows_by blocks) (length blocks.blocks) (length program.rows) row b e).1,
  )

  -- ---- the program falls into the blocks

  pub few_owners : (f : ℕ → List ℕ) (m : ℕ)
      → AllByRecursion (IsOwner (length blocks.blocks)) (owned_below f (length blocks.blocks) (nobody m))
  few_owners f m =
      all_at (IsOwner (length blocks.blocks)) (owned_below f (length blocks.blocks) (nobody m)) own
    where
      own : (k : ℕ) (o : Owner) → slice_get (owned_below f (length blocks.blocks) (nobody m)) k ≡ Some o
          → IsOwner (length blocks.blocks) o
      own k None e = tt
      own k (Some b) e = (owned_back f (length blocks.blocks) m k b e).0

  -- a row of a block stands on columns of the block
  own_row : (k : ℕ) (o : Owner) (row : Row) → slice_get (row_owners_by program blocks) k ≡ Some o
      → slice_get program.rows k ≡ Some row → IsOwnRow (column_owners_by program blocks) o row
  own_row k None row e f = tt
  own_row k (Some b) row e f =
      all_at (λ (t : Term). slice_get (column_owners_by program blocks) t.column ≡ Some (Some b)) row.terms on
    where
      back : (b < length blocks.blocks) × (has_number (rows_by blocks b) k ≡ true)
      back = owned_back (rows_by blocks) (length blocks.blocks) (length program.rows) k b e

      stands : StandsBelow (columns program) row.terms
      stands = all_at_place (λ (r : Row). StandsBelow (columns program) r.terms) program.rows k row well.rows f

      at : row_at program k ≡ row
      at = get_or_from_slice_get program.rows k row no_row f

      on : (j : ℕ) (t : Term) → slice_get row.terms j ≡ Some t
          → slice_get (column_owners_by program blocks) t.column ≡ Some (Some b)
      on j t g =
          let below : t.column < columns program =
          all_at_place (λ (t : Term). t.column < columns program) row.terms j t stands g in
          let entry : stands_on t.column (row_at program k) ≡ true =
          ap (λ (r : Row). stands_on t.column r) at ∙ stands_there row.terms j t g in
          column_is b t.column back.0 below
          ((apart.columns_of b t.column back.0 below).1 (record { row = k; is_row = back.1; entry = entry }))

  pub falls : IsDecomposed program (record {
    count = length blocks.blocks;
    columns = column_owners_by program blocks;
    rows = row_owners_by program blocks;
  })
  falls = record {
    each_column =
        length-owned (columns_by blocks) (length blocks.blocks) (nobody (columns program))
        ∙ length-replicate (columns program) None;
    column_owners = few_owners (columns_by blocks) (columns program);
    own_rows =
        zip_at (IsOwnRow (column_owners_by program blocks)) (row_owners_by program blocks) program.rows
        (length-owned (rows_by blocks) (length blocks.blocks) (nobody (length program.rows))
        ∙ length-replicate (length program.rows) None)
        own_row;
  }
