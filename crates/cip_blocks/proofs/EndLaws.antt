-- The end of a text of blocks: the tests behind the last line, and the blocks.
use Rattle.std.proofs.Common.{◌≡◌, ℕ, zero, suc, ◌+◌, ◌<◌, ◌==◌, Bool, true, false, cond, not, ◌&&◌, ◌||◌, List, [], ◌∷◌, length, map, Option, None, Some, refl, sym, ap, subst, ◌∙◌, arith, add-zero}
use Rattle.std.specs.Prelude.{slice_index_or, nat_lt, is_none, is_some, All, IfSome}
use Rattle.std.specs.List.{filter, list_all, list_any}
use Rattle.std.proofs.lemmas.Bool.{ltb-true, eqb-true, eq-eqb}
use Rattle.cip_problem.specs.Program.{Sides, Row, Program}
use Rattle.cip_problem.specs.Box.{sides_at}
use Rattle.cip_problem.specs.WellFormed.{IsWellFormed, columns}
use Rattle.cip_text_rules.specs.MpsRules.{Rule, rule, least}
use Rattle.cip_text_rules.proofs.Quiet.{kept}
use Rattle.cip_problem.specs.BlockParts.{numbers_from, is_block, rows_where, stands_on, has_entry, is_column_of, blocks_with, is_linking, is_bounded, is_open, block_part, blocks_of, grouped, parts_of, blocks_by}
use Rattle.cip_text_rules.specs.BlockRules.{lacks_zero, lacks_count, lacks_number}
use Rattle.cip_text_rules.specs.BlockWords as text
use Rattle.cip_text_rules.specs.BlockSteps as steps
use Rattle.cip_text_rules.specs.BlockOwners.{Owners, owners_of, OwnersTell, OwnersAreRight}
use Rattle.cip_blocks.specs.declared.word_places.RowPlace.{RowPlace}
use Rattle.cip_blocks.specs.declared.word_places.RowPlace.TheVariants.{Unnamed, Named}
use Rattle.cip_blocks.specs.WordPlaces.{row_shown, block_of, is_below}
use Rattle.cip_blocks.specs.OpenColumns.{has_open_owned}
use Rattle.cip_blocks.specs.declared.block_words.BlockWords.{BlockWords}
use Rattle.cip_blocks.specs.declared.ending.Ending.{Ending}
use Rattle.cip_blocks.specs.BlockWordsRead.{program_of, state_of}
use Rattle.cip_blocks.specs.Endings.{IsEnding, place_fault}
use Rattle.cip_rational.proofs.InRange.{both_left, both_right}

-- ---- rows

-- the blocks of the rows
pub blocks_are : (rows : List RowPlace) → map block_of rows ≡ map steps.block_at (map row_shown rows)
blocks_are [] = refl
blocks_are (row ∷ rows) = ap (λ b. b ∷ map block_of rows) (one row) ∙ ap (λ bs. steps.block_at (row_shown row) ∷ bs) (blocks_are rows)
  where
    named : (block : Option ℕ) → block ≡ steps.block_at (steps.place_of block)
    named None = refl
    named (Some b) = refl

    one : (row : RowPlace) → block_of row ≡ steps.block_at (row_shown row)
    one Unnamed = refl
    one (Named block) = named block

-- they are among so many
pub rows_below : (n : ℕ) (rows : List RowPlace) → list_all (λ row. is_below n (block_of row)) rows ≡ true → All (λ block. IfSome block (λ b. b < n)) (map block_of rows)
rows_below n [] h = λ k d l. absurd (omega (arith, l))
rows_below n (row ∷ rows) h = λ k d l. at k d l (λ j m. rows_below n rows (both_right (is_below n (block_of row)) (list_all (λ r. is_below n (block_of r)) rows) h) j d m)
  where
    one : (block : Option ℕ) → is_below n block ≡ true → IfSome block (λ b. b < n)
    one None e = tt
    one (Some b) e = ltb-true b n e

    at : (k : ℕ) (d : Option ℕ) → k < length (map block_of (row ∷ rows)) → ((j : ℕ) → j < length (map block_of rows) → IfSome (slice_index_or (map block_of rows) j d) (λ b. b < n)) → IfSome (slice_index_or (map block_of (row ∷ rows)) k d) (λ b. b < n)
    at zero d l rest = one (block_of row) (both_left (is_below n (block_of row)) (list_all (λ r. is_below n (block_of r)) rows) h)
    at (suc k) d l rest = rest k (omega (arith, l))

-- ---- columns

tail_below : (n : ℕ) (b : Option ℕ) (bs : List (Option ℕ)) → All (λ block. IfSome block (λ c. c < n)) (b ∷ bs) → All (λ block. IfSome block (λ c. c < n)) bs
tail_below n b bs h = λ k d l. h (suc k) d (omega (arith, l))

-- a block with an entry of a column is among so many
entry_below : (n block column : ℕ) (bs : List (Option ℕ)) (rows : List Row) → All (λ b. IfSome b (λ c. c < n)) bs → has_entry block column bs rows ≡ true → block < n
entry_below n block column [] rows h e = absurd (cc)
entry_below n block column (b ∷ bs) [] h e = absurd (cc)
entry_below n block column (b ∷ bs) (row ∷ rows) h e = go (is_block block b) (stands_on column row) refl e (entry_below n block column bs rows (tail_below n b bs h))
  where
    this : (o : Option ℕ) → IfSome o (λ c. c < n) → is_block block o ≡ true → block < n
    this None l p = absurd (cc)
    this (Some c) l p = let q : c ≡ block = eqb-true c block p in subst (λ (m : ℕ). m < n) q l

    go : (a s : Bool) → is_block block b ≡ a → ((a && s) || has_entry block column bs rows) ≡ true → (has_entry block column bs rows ≡ true → block < n) → block < n
    go true s p q rest = this b (h 0 b (omega arith)) p
    go false s p q rest = rest q

block_self : (b : ℕ) → is_block b (Some b) ≡ true
block_self b = go (b == b) refl
  where
    go : (t : Bool) → (b == b) ≡ t → (b == b) ≡ true
    go true e = e
    go false e = eq-eqb b b refl

-- the blocks of columns are among so many, where no column links blocks
pub columns_below : (program : Program) (n : ℕ) (bs : List (Option ℕ)) → OwnersTell program n bs → All (λ b. IfSome b (λ c. c < n)) bs → (owners_of program bs).links ≡ false → length (owners_of program bs).blocks ≡ columns program → All (λ b. IfSome b (λ c. c < n)) (owners_of program bs).blocks
columns_below program n bs tell below none size = λ k d l. at k d l (slice_index_or (owners_of program bs).blocks k None) refl (same_at (owners_of program bs).blocks k d l)
  where
    same_at : (os : List (Option ℕ)) (k : ℕ) (d : Option ℕ) → k < length os → slice_index_or os k d ≡ slice_index_or os k None
    same_at [] k d l = absurd (omega (arith, l))
    same_at (o ∷ os) zero d l = refl
    same_at (o ∷ os) (suc k) d l = same_at os k d (omega (arith, l))

    at : (k : ℕ) (d : Option ℕ) → k < length (owners_of program bs).blocks → (o : Option ℕ) → slice_index_or (owners_of program bs).blocks k None ≡ o → slice_index_or (owners_of program bs).blocks k d ≡ slice_index_or (owners_of program bs).blocks k None → IfSome (slice_index_or (owners_of program bs).blocks k d) (λ c. c < n)
    at k d l None p e = subst (λ (o : Option ℕ). IfSome o (λ c. c < n)) (sym (e ∙ p)) tt
    at k d l (Some b) p e =
        let told = tell.owner b k (omega (arith, l, size)) none in
        let entry : is_column_of program bs b k ≡ true = told ∙ ap (is_block b) p ∙ block_self b in
        subst (λ (o : Option ℕ). IfSome o (λ c. c < n)) (sym (e ∙ p)) (entry_below n b k bs program.rows below entry)

-- ---- tests behind the last line

-- and none
pub none_due : (place : text.WordPlace) (rest : List Rule) → None ≡ place_fault place → least (rule 1 (lacks_zero place) ∷ rule 2 (lacks_count place) ∷ rule 3 (lacks_number place) ∷ rest) ≡ least rest
none_due text.KeywordDue rest e = refl
none_due text.ZeroDue rest e = absurd (cc)
none_due text.CountDue rest e = absurd (cc)
none_due text.BlockDue rest e = absurd (cc)
none_due (text.NamesOf block) rest e = refl

any_open : (f : ℕ → Bool) (first : ℕ) (bounds : List Sides) (os : List (Option ℕ)) → length bounds ≡ length os → ((k : ℕ) → k < length os → f (first + k) ≡ (is_some (slice_index_or os k None) && not (is_bounded (sides_at bounds k)))) → list_any f (numbers_from first (length os)) ≡ has_open_owned bounds os
any_open f first [] [] l h = refl
any_open f first [] (o ∷ os) l h = absurd (omega (arith, l))
any_open f first (b ∷ bounds) [] l h = absurd (omega (arith, l))
any_open f first (b ∷ bounds) (o ∷ os) l h =
    ap (λ t. t || list_any f (numbers_from (first + 1) (length os))) (ap f (sym (add-zero first)) ∙ h 0 (omega arith))
    ∙ ap (λ t. (is_some o && not (is_bounded b)) || t) (any_open f (first + 1) bounds os (omega (arith, l)) (λ k m. ap f (count first k) ∙ h (suc k) (omega (arith, m))))
  where
    count : (a k : ℕ) → a + 1 + k ≡ a + suc k
    count a k = omega arith

-- a column of a block lacks a bound
pub opens : (program : Program) (n : ℕ) (bs : List (Option ℕ)) → OwnersTell program n bs → length program.bounds ≡ columns program → length (owners_of program bs).blocks ≡ columns program → list_any (is_open program n bs) (numbers_from 0 (columns program)) ≡ has_open_owned program.bounds (owners_of program bs).blocks
opens program n bs tell bounds size =
    ap (λ m. list_any (is_open program n bs) (numbers_from 0 m)) (sym size)
    ∙ any_open (is_open program n bs) 0 program.bounds (owners_of program bs).blocks (bounds ∙ sym size)
    (λ k l. ap (is_open program n bs) (none k) ∙ ap (λ t. t && not (is_bounded (sides_at program.bounds k))) (tell.owned k (omega (arith, l, size))))
  where
    none : (k : ℕ) → 0 + k ≡ k
    none k = omega arith

-- ---- the blocks

filter_where : (p : ℕ → Bool) (test : Option ℕ → Bool) (first : ℕ) (os : List (Option ℕ)) → ((k : ℕ) → k < length os → p (first + k) ≡ test (slice_index_or os k None)) → filter p (numbers_from first (length os)) ≡ rows_where test first os
filter_where p test first [] h = refl
filter_where p test first (o ∷ os) h =
    ap (λ t. cond t (first ∷ filter p (numbers_from (first + 1) (length os))) (filter p (numbers_from (first + 1) (length os)))) (ap p (sym (add-zero first)) ∙ h 0 (omega arith))
    ∙ ap (λ xs. cond (test o) (first ∷ xs) xs) (filter_where p test (first + 1) os (λ k l. ap p (count first k) ∙ h (suc k) (omega (arith, l))))
  where
    count : (a k : ℕ) → a + 1 + k ≡ a + suc k
    count a k = omega arith

parts_map : (f g : ℕ → List ℕ) (ns : List ℕ) → map (λ b. record { rows = f b; columns = g b }) ns ≡ parts_of (map f ns) (map g ns)
parts_map f g [] = refl
parts_map f g (n ∷ ns) = ap (λ ps. record { rows = f n; columns = g n } ∷ ps) (parts_map f g ns)

same_map : {X Y : Type 0} (f g : X → Y) (xs : List X) → ((x : X) → f x ≡ g x) → map f xs ≡ map g xs
same_map f g [] h = refl
same_map f g (x ∷ xs) h = ap (λ y. y ∷ map f xs) (h x) ∙ ap (λ ys. g x ∷ ys) (same_map f g xs h)

-- the blocks by the blocks of rows and of columns
pub blocks_made : (program : Program) (n : ℕ) (bs : List (Option ℕ)) → OwnersTell program n bs → (owners_of program bs).links ≡ false → length (owners_of program bs).blocks ≡ columns program → blocks_by n bs (owners_of program bs).blocks ≡ blocks_of program n bs
blocks_made program n bs tell none size = λ i. record { blocks = sym parts i; master_rows = rows_where is_none 0 bs; free_columns = sym free i }
  where
    os : List (Option ℕ)
    os = (owners_of program bs).blocks

    zero_more : (k : ℕ) → 0 + k ≡ k
    zero_more k = omega arith

    owned : (b : ℕ) → filter (is_column_of program bs b) (numbers_from 0 (columns program)) ≡ rows_where (is_block b) 0 os
    owned b =
        ap (λ m. filter (is_column_of program bs b) (numbers_from 0 m)) (sym size)
        ∙ filter_where (is_column_of program bs b) (is_block b) 0 os (λ k l. ap (is_column_of program bs b) (zero_more k) ∙ tell.owner b k (omega (arith, l, size)) none)

    parts : map (block_part program bs) (numbers_from 0 n) ≡ parts_of (grouped n bs) (grouped n os)
    parts =
        same_map (block_part program bs) (λ b. record { rows = rows_where (is_block b) 0 bs; columns = rows_where (is_block b) 0 os }) (numbers_from 0 n) (λ b. ap (λ cs. record { rows = rows_where (is_block b) 0 bs; columns = cs }) (owned b))
        ∙ parts_map (λ b. rows_where (is_block b) 0 bs) (λ b. rows_where (is_block b) 0 os) (numbers_from 0 n)

    not_some : (o : Option ℕ) → not (is_some o) ≡ is_none o
    not_some None = refl
    not_some (Some b) = refl

    free : filter (λ column. not (nat_lt 0 (length (blocks_with program n bs column)))) (numbers_from 0 (columns program)) ≡ rows_where is_none 0 os
    free =
        ap (λ m. filter (λ column. not (nat_lt 0 (length (blocks_with program n bs column)))) (numbers_from 0 m)) (sym size)
        ∙ filter_where (λ column. not (nat_lt 0 (length (blocks_with program n bs column)))) is_none 0 os
        (λ k l. ap (λ c. not (nat_lt 0 (length (blocks_with program n bs c)))) (zero_more k) ∙ ap not (tell.owned k (omega (arith, l, size))) ∙ not_some (slice_index_or os k None))

-- ---- words that are kept

-- the blocks of the rows are among so many
pub kept_below : (words : BlockWords) → All (λ b. IfSome b (λ c. c < steps.count_of (state_of words))) (steps.blocks_at (state_of words))
kept_below words = subst (λ (bs : List (Option ℕ)). All (λ b. IfSome b (λ c. c < steps.count_of (state_of words))) bs) (blocks_are words.rows.items) (rows_below (steps.count_of (state_of words)) words.rows.items words.below)

-- what the owners tell
pub told : OwnersAreRight → (words : BlockWords) → IsWellFormed (program_of words) → OwnersTell (program_of words) (steps.count_of (state_of words)) (steps.blocks_at (state_of words))
told law words formed = law (program_of words) (steps.count_of (state_of words)) (steps.blocks_at (state_of words)) formed.rows (kept_below words)

sized : (program : Program) (state : steps.BlockState) (ending : Ending) → IsEnding program state ending → length (owners_of program (steps.blocks_at state)).blocks ≡ columns program
sized program state ending e = ap (λ (o : Owners). length o.blocks) (sym e.owned) ∙ sym ending.owners.blocks.ok.0 ∙ e.sized

-- the tests behind the last line, where no number is due
pub end_is : (program : Program) (state : steps.BlockState) (ending : Ending) → OwnersTell program (steps.count_of state) (steps.blocks_at state) → IsEnding program state ending → None ≡ place_fault state.place
    → least (steps.block_end_tests program state) ≡ cond ending.owners.links (Some 6) (cond (has_open_owned program.bounds ending.owners.blocks.items) (Some 7) (cond (is_none state.count || list_any not state.begun) (Some 8) None))
end_is program state ending tell e place =
    none_due state.place (rule 6 (list_any (is_linking program n bs) (numbers_from 0 (columns program))) ∷ rule 7 (list_any (is_open program n bs) (numbers_from 0 (columns program))) ∷ rule 8 (is_none state.count || list_any not state.begun) ∷ []) place
    ∙ ap (λ b. cond b (Some 6) (cond (list_any (is_open program n bs) (numbers_from 0 (columns program))) (Some 7) last)) (tell.links ∙ ap (λ (o : Owners). o.links) (sym e.owned))
    ∙ ap (λ b. cond ending.owners.links (Some 6) (cond b (Some 7) last)) (opens program n bs tell e.formed.bounds (sized program state ending e) ∙ ap (λ (o : Owners). has_open_owned program.bounds o.blocks) (sym e.owned))
  where
    n : ℕ
    n = steps.count_of state

    bs : List (Option ℕ)
    bs = steps.blocks_at state

    last : Option ℕ
    last = cond (is_none state.count || list_any not state.begun) (Some 8) None

-- where there is no fault behind the last line, no column links blocks
pub links_none : (program : Program) (state : steps.BlockState) → OwnersTell program (steps.count_of state) (steps.blocks_at state) → least (steps.block_end_tests program state) ≡ None → (owners_of program (steps.blocks_at state)).links ≡ false
links_none program state tell e = let t = kept (steps.block_end_tests program state) e in sym tell.links ∙ t.1.1.1.0

-- the blocks of the columns are among so many, then
pub kept_columns : OwnersAreRight → (words : BlockWords) (ending : Ending) → IsEnding (program_of words) (state_of words) ending → least (steps.block_end_tests (program_of words) (state_of words)) ≡ None → All (λ b. IfSome b (λ c. c < steps.count_of (state_of words))) ending.owners.blocks.items
kept_columns law words ending e none =
    let tell = told law words e.formed in
    subst (λ (o : Owners). All (λ b. IfSome b (λ c. c < steps.count_of (state_of words))) o.blocks) (sym e.owned)
    (columns_below (program_of words) (steps.count_of (state_of words)) (steps.blocks_at (state_of words)) tell (kept_below words) (links_none (program_of words) (state_of words) tell none) (sized (program_of words) (state_of words) ending e))

-- and these are the blocks
pub kept_blocks : OwnersAreRight → (words : BlockWords) (ending : Ending) → IsEnding (program_of words) (state_of words) ending → least (steps.block_end_tests (program_of words) (state_of words)) ≡ None → blocks_by (steps.count_of (state_of words)) ending.row_blocks.items ending.owners.blocks.items ≡ blocks_of (program_of words) (steps.count_of (state_of words)) (steps.blocks_at (state_of words))
kept_blocks law words ending e none =
    let tell = told law words e.formed in
    let program = program_of words in
    let n = steps.count_of (state_of words) in
    let bs = steps.blocks_at (state_of words) in
    ap (λ rs. blocks_by n rs ending.owners.blocks.items) e.rows
    ∙ ap (λ (o : Owners). blocks_by n bs o.blocks) e.owned
    ∙ blocks_made program n bs tell (links_none program (state_of words) tell none) (sized program (state_of words) ending e)
