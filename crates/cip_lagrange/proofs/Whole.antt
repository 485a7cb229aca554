-- What is kept of a program and its blocks is a decomposition of it.
use Rattle.std.proofs.Common.{◌≡◌, ◌⊎◌, inl, inr, ℕ, zero, suc, ◌+◌, ◌<◌, true, List, [], ◌∷◌, ◌++◌, length, map, None, Some, IfSome, refl, sym, ap, ◌∙◌, subst, arith, slice_get}
use Rattle.std.specs.Prelude.{◌↔◌, slice_index_or, All}
use Rattle.std.proofs.lemmas.List.Elements.{All-from_recursion}
use Rattle.std.proofs.lemmas.Option.{slice_get_within}
use Rattle.std.proofs.lemmas.List.{length_push, length-replicate}
use Rattle.cip_problem.specs.Program.{Program}
use Rattle.cip_problem.specs.WellFormed.{columns, IsWellFormed}
use Rattle.cip_problem.specs.BlockParts.{BlockPart, Blocks, has_number, blocks_by, parts_of, rows_where, is_block, numbers_from}
use Rattle.cip_problem.specs.BlockMeaning.{no_part, part_at, AreBlocks}
use Rattle.cip_pricing.specs.Decomposition.{Owner, Decomposition, picked, IsDecomposed}
use Rattle.cip_pricing.proofs.Picked.{own_rows}
use Rattle.cip_lagrange.specs.declared.parts.Subproblem.{Subproblem}
use Rattle.cip_lagrange.specs.declared.parts.Decomposed.{Decomposed}
use Rattle.cip_lagrange.specs.Owners.{owned_below}
use Rattle.cip_lagrange.specs.Places.{ArePlaces, placed_row}
use Rattle.cip_lagrange.specs.Built.{IsBuilt, AreBuilt}
use Rattle.cip_lagrange.specs.Decompositions.{IsSubproblem, IsDecompositionOf, HasOwnersOf}
use Rattle.cip_lagrange.proofs.AtPlaces.{get_push}
use Rattle.cip_lagrange.proofs.Found.{found_block}
use Rattle.cip_lagrange.proofs.Marking.{nobody, length-owned}
use Rattle.cip_lagrange.proofs.Owned.{rows_by, column_owners_by, row_owners_by, column_owner, row_owner, few_owners, falls}
use Rattle.cip_lagrange.proofs.Placing.{placed_rows}

-- ---- the parts of blocks by owners

part_there : (f g : ℕ → List ℕ) (first n k : ℕ) → k < n
    → slice_index_or (parts_of (map f (numbers_from first n)) (map g (numbers_from first n))) k no_part
    ≡ record { rows = f (first + k); columns = g (first + k) }
part_there f g first zero k l = absurd (omega (arith, l))
part_there f g first (suc n) zero l =
    let e : first ≡ first + 0 = omega arith in
    ap (λ (m : ℕ). let p : BlockPart = record { rows = f m; columns = g m } in p) e
part_there f g first (suc n) (suc k) l =
    let e : first + 1 + k ≡ first + suc k = omega arith in
    part_there f g (first + 1) n k (omega (arith, l))
    ∙ ap (λ (m : ℕ). let p : BlockPart = record { rows = f m; columns = g m } in p) e

-- the rows and columns of a block, by whose each row and each column is
pub part_by : (n : ℕ) (rows columns : List Owner) (k : ℕ) → k < n
    → part_at (blocks_by n rows columns) k
    ≡ record { rows = rows_where (is_block k) 0 rows; columns = rows_where (is_block k) 0 columns }
part_by n rows columns k l =
    let none : 0 + k ≡ k = omega arith in
    part_there (λ b. rows_where (is_block b) 0 rows) (λ b. rows_where (is_block b) 0 columns) 0 n k l
    ∙ ap (λ (m : ℕ). let p : BlockPart =
    record { rows = rows_where (is_block m) 0 rows; columns = rows_where (is_block m) 0 columns } in p) none

long_parts : (f g : ℕ → List ℕ) (first n : ℕ)
    → length (parts_of (map f (numbers_from first n)) (map g (numbers_from first n))) ≡ n
long_parts f g first zero = refl
long_parts f g first (suc n) = ap suc (long_parts f g (first + 1) n)

pub count_by : (n : ℕ) (rows columns : List Owner) → length (blocks_by n rows columns).blocks ≡ n
count_by n rows columns =
    long_parts (λ b. rows_where (is_block b) 0 rows) (λ b. rows_where (is_block b) 0 columns) 0 n

-- ---- what is kept of a block

-- it is what the block asks of its points
pub kept_part : (program : Program) (owners : Decomposition) (places : List ℕ) (block : ℕ) (kept : Subproblem)
    → IsDecomposed program owners → ArePlaces owners.columns places
    → IsBuilt program places
    (record {
      rows = rows_where (is_block block) 0 owners.rows;
      columns = rows_where
          (is_block block) 0 owners.columns;
    })
    kept
    → IsSubproblem program owners block kept
kept_part program owners places block kept d a b = record {
  rows =
      b.rows ∙ ap (map (placed_row places)) (found_block block owners.rows program.rows)
      ∙ placed_rows places owners.columns block (picked (Some block) owners.rows program.rows) a
      (own_rows owners.columns block owners.rows program.rows d.own_rows);
  whole = b.whole ∙ found_block block owners.columns program.integral;
  choices = b.choices ∙ found_block block owners.columns program.choices;
  bounds = b.bounds ∙ found_block block owners.columns program.bounds;
}

pub kept_parts : (program : Program) (rows columns : List Owner) (n : ℕ) (places : List ℕ) (kept : List Subproblem)
    → IsDecomposed program (record { count = n; columns = columns; rows = rows }) → ArePlaces columns places
    → AreBuilt program places (blocks_by n rows columns) kept
    → (block : ℕ) (part : Subproblem) → slice_get kept block ≡ Some part
    → IsSubproblem program (record { count = n; columns = columns; rows = rows }) block part
kept_parts program rows columns n places kept d a b block part e =
    let inside : block < length kept = slice_get_within kept block part e in
    let many : length (blocks_by n rows columns).blocks ≡ n = count_by n rows columns in
    kept_part program (record { count = n; columns = columns; rows = rows }) places block part d a
    (subst (λ (p : BlockPart). IsBuilt program places p part)
    (part_by n rows columns block (omega (arith, inside, many, b.long))) (b.each block part e))

-- ---- all blocks, one after another

-- what is kept of the first so many blocks
pub record AreBuiltTo (program : Program) (places : List ℕ) (blocks : Blocks) (n : ℕ)
    (kept : List Subproblem) : Type 0 where
  pub long : length kept ≡ n
  pub each : (block : ℕ) (part : Subproblem) → slice_get kept block ≡ Some part
      → IsBuilt program places (part_at blocks block) part

pub built_more : (program : Program) (places : List ℕ) (blocks : Blocks) (n : ℕ) (kept : List Subproblem)
    (part : Subproblem) → AreBuiltTo program places blocks n kept
    → IsBuilt program places (part_at blocks n) part
    → AreBuiltTo program places blocks (n + 1) (kept ++ part ∷ [])
built_more program places blocks n kept part a b = record {
  long = length_push kept part ∙ ap (λ m. m + 1) a.long;
  each = λ block other e. cases block other (get_push kept part other block n a.long e);
}
  where
    cases : (block : ℕ) (other : Subproblem) → (slice_get kept block ≡ Some other) ⊎ ((block ≡ n) × (part ≡ other))
        → IsBuilt program places (part_at blocks block) other
    cases block other (inl h) = a.each block other h
    cases block other (inr h) =
        subst (λ (p : Subproblem). IsBuilt program places (part_at blocks block) p) h.1
        (subst (λ (m : ℕ). IsBuilt program places (part_at blocks m) part) (sym h.0) b)

-- ---- the whole

module _ (program : Program) (blocks : Blocks) (well : IsWellFormed program) (apart : AreBlocks program blocks) where
  pub owners_below : (f : ℕ → List ℕ) (m n : ℕ) (owners : List Owner)
      → owners ≡ owned_below f (length blocks.blocks) (nobody m) → n ≡ length blocks.blocks
      → All (λ owner. IfSome owner (λ block. block < n)) owners
  owners_below f m n owners e l =
      subst (λ k. All (λ owner. IfSome owner (λ block. block < k)) owners) (sym l)
      (subst (All (λ owner. IfSome owner (λ block. block < length blocks.blocks))) (sym e)
      (All-from_recursion (λ owner. IfSome owner (λ block. block < length blocks.blocks))
      (owned_below f (length blocks.blocks) (nobody m)) (few_owners program blocks well apart f m)))

  pub owners_long : (f : ℕ → List ℕ) (m : ℕ) (owners : List Owner)
      → owners ≡ owned_below f (length blocks.blocks) (nobody m) → length owners ≡ m
  owners_long f m owners e =
      ap length e ∙ length-owned f (length blocks.blocks) (nobody m) ∙ length-replicate m None

  pub is_decomposition : (d : Decomposed) → d.column_owners.items ≡ column_owners_by program blocks
      → d.row_owners.items ≡ row_owners_by program blocks
      → d.blocks ≡ blocks_by (length blocks.blocks) d.row_owners.items d.column_owners.items
      → ArePlaces d.column_owners.items d.places.items
      → AreBuilt program d.places.items d.blocks d.subproblems.items → IsDecompositionOf program d
  is_decomposition d ec er k p b =
      let count : length d.subproblems.items ≡ length blocks.blocks =
      b.long ∙ ap (λ (x : Blocks). length x.blocks) k
      ∙ count_by (length blocks.blocks) d.row_owners.items d.column_owners.items in
      let numbers : d.blocks ≡ blocks_by (length d.subproblems.items) d.row_owners.items d.column_owners.items =
      k ∙ ap (λ n. blocks_by n d.row_owners.items d.column_owners.items) (sym count) in
      let decomposed : IsDecomposed program (record {
        count = length d.subproblems.items;
        columns = d.column_owners.items;
        rows = d.row_owners.items;
      }) =
      subst (λ (n : ℕ). IsDecomposed program
      (record { count = n; columns = d.column_owners.items; rows = d.row_owners.items }))
      (sym count)
      (subst (λ (cs : List Owner). IsDecomposed program
      (record { count = length blocks.blocks; columns = cs; rows = d.row_owners.items }))
      (sym ec)
      (subst (λ (rs : List Owner). IsDecomposed program
      (record { count = length blocks.blocks; columns = column_owners_by program blocks; rows = rs }))
      (sym er) (falls program blocks well apart))) in
      record {
        decomposed = decomposed;
        few = omega (arith, count, apart.few);
        each_row = owners_long (rows_by blocks) (length program.rows) d.row_owners.items er;
        numbers = numbers;
        places = p;
        subproblems =
            kept_parts program d.row_owners.items d.column_owners.items (length d.subproblems.items) d.places.items
            d.subproblems.items decomposed p
            (subst (λ (x : Blocks). AreBuilt program d.places.items x d.subproblems.items) numbers b);
      }

  pub has_owners : (d : Decomposed) → d.column_owners.items ≡ column_owners_by program blocks
      → d.row_owners.items ≡ row_owners_by program blocks
      → d.blocks ≡ blocks_by (length blocks.blocks) d.row_owners.items d.column_owners.items
      → AreBuilt program d.places.items d.blocks d.subproblems.items → HasOwnersOf program blocks d
  has_owners d ec er k b = record {
    count =
        b.long ∙ ap (λ (x : Blocks). length x.blocks) k
        ∙ count_by (length blocks.blocks) d.row_owners.items d.column_owners.items;
    columns = λ block column h l.
        subst (λ (cs : List Owner). (has_number (part_at blocks block).columns column ≡ true)
        ↔ (slice_get cs column ≡ Some (Some block))) (sym ec)
        (column_owner program blocks well apart block column h l);
    rows = λ block row h l.
        subst (λ (rs : List Owner). (has_number (part_at blocks block).rows row ≡ true)
        ↔ (slice_get rs row ≡ Some (Some block))) (sym er)
        (row_owner program blocks well apart block row h l);
  }
