-- The blocks of a text: rows and columns, and the names that the text has.
use Rattle.std.proofs.Common.{◌≡◌, ◌⊎◌, inl, inr, ℕ, ◌<◌, ◌≤◌, Bool, true, false, cond, not, ◌&&◌, ◌||◌, List, [], ◌∷◌, ◌++◌, length, Option, None, Some, refl, sym, ap, subst, ◌∙◌, get_or, arith}
use Rattle.std.specs.Prelude.{⊤, ◌↔◌, nat_lt, nat_le, is_none, is_some, unwrap_or}
use Rattle.std.specs.List.{AllByRecursion, list_any}
use Rattle.std.specs.Str.{bytes_eq}
use Rattle.std.proofs.lemmas.Bool.{eq-eqb, eqb-true, ltb-true, leb-true, not_from_false, or_from, and_from}
use Rattle.std.proofs.lemmas.List.{length-map}
use Rattle.std.proofs.lemmas.List.Folds.{list_any-append}
use lib.Chars.{codes}
use Rattle.cip_problem.specs.Program.{Program}
use Rattle.cip_problem.specs.Box.{sides_at}
use Rattle.cip_problem.specs.WellFormed.{columns}
use Rattle.cip_text_rules.specs.MpsWords.{is_in, meaning_in}
use Rattle.cip_text_rules.proofs.Quiet.{kept, left_false, right_false}
use Rattle.cip_text_rules.proofs.MpsNames.{bytes_flip}
use Rattle.cip_text_rules.specs.LineTexts.{items_in, HasResult}
use Rattle.cip_text_rules.specs.LineStatements.{AreQuiet, known_of, IsDescribed}
use Rattle.cip_text_rules.proofs.LineOutcomes.{described, holds_after}
use Rattle.cip_text_rules.specs.BlockWords.{Keyword, Presolved, BlockCount, Block, Master, WordPlace, KeywordDue, ZeroDue, CountDue, BlockDue, NamesOf, WordSaying, Opens, OutOfPlace, Zero, Count, Number, RowName, word_said, meaning_said, number_word, from_zero, keywords}
use Rattle.cip_problem.specs.BlockParts.{most_blocks, Blocks, numbers_from, has_number, is_block, stands_on, is_column_of, blocks_with, is_linking, is_bounded, is_open, block_part, blocks_of}
use Rattle.cip_problem.specs.BlockMeaning.{no_part, part_at, row_at, HasEntry, IsOfBlock, AreBlocks}
use Rattle.cip_text_rules.specs.NamedRows.{NamedRow, is_named, block_named, row_blocks}
use Rattle.cip_text_rules.specs.BlockRules.{BlockFacts, no_blocks, block_rules, block_fault, block_facts_with, blocks_with_saying, block_end_rules, block_count, is_no_block, block_reading}
use Rattle.cip_text_rules.specs.BlockStatements.{AreNamedOnce, named_by, AreOfNames}
use Rattle.cip_text_rules.proofs.BlockNumbers.{within, within_below, below_within, passes_at, passes_below, passes_item, passes_map, row_in, chosen, none_of, part_of, numbers_length, not_empty, empty_has, one_number, EntryAt, entry_found, entry_there}
use Rattle.cip_rational.proofs.InRange.{both_left, both_right}

-- ---- tests

pub not_false : (b : Bool) → not b ≡ false → b ≡ true
not_false true e = refl
not_false false e = absurd (cc)

pub not_true : (b : Bool) → not b ≡ true → b ≡ false
not_true false e = refl
not_true true e = absurd (cc)

pub block_is : (b : ℕ) (o : Option ℕ) → is_block b o ≡ true → o ≡ Some b
block_is b None e = absurd (cc)
block_is b (Some c) e = ap Some (eqb-true c b e)

pub is_this : (b : ℕ) (o : Option ℕ) → o ≡ Some b → is_block b o ≡ true
is_this b None e = absurd (cc)
is_this b (Some c) e = let q : c ≡ b = cc in eq-eqb c b q

none_is : (o : Option ℕ) → is_none o ≡ true → o ≡ None
none_is None e = refl
none_is (Some k) e = absurd (cc)

-- ---- parts

part_rows : (program : Program) (n : ℕ) (named : List NamedRow) (b k : ℕ) → has_number (part_at (blocks_of program n (row_blocks program named)) b).rows k ≡ (within n b && passes_at (is_block b) (row_blocks program named) k)
part_rows program n named b k = ap (λ part. has_number part.rows k) (part_of (block_part program (row_blocks program named)) no_part n b) ∙ go (within n b)
  where
    go : (t : Bool) → has_number (cond t (block_part program (row_blocks program named) b) no_part).rows k ≡ (t && passes_at (is_block b) (row_blocks program named) k)
    go true = row_in (is_block b) (row_blocks program named) k
    go false = refl

part_columns : (program : Program) (n : ℕ) (named : List NamedRow) (b j : ℕ) → has_number (part_at (blocks_of program n (row_blocks program named)) b).columns j ≡ (within n b && (within (columns program) j && is_column_of program (row_blocks program named) b j))
part_columns program n named b j = ap (λ part. has_number part.columns j) (part_of (block_part program (row_blocks program named)) no_part n b) ∙ go (within n b)
  where
    go : (t : Bool) → has_number (cond t (block_part program (row_blocks program named) b) no_part).columns j ≡ (t && (within (columns program) j && is_column_of program (row_blocks program named) b j))
    go true = chosen (is_column_of program (row_blocks program named) b) (columns program) j
    go false = refl

master_rows : (program : Program) (n : ℕ) (named : List NamedRow) (k : ℕ) → has_number (blocks_of program n (row_blocks program named)).master_rows k ≡ passes_at is_none (row_blocks program named) k
master_rows program n named k = row_in is_none (row_blocks program named) k

-- a column of a block is among the blocks with it
among : (program : Program) (n : ℕ) (named : List NamedRow) (b j : ℕ) → within n b ≡ true → is_column_of program (row_blocks program named) b j ≡ true → has_number (blocks_with program n (row_blocks program named) j) b ≡ true
among program n named b j h e = chosen (λ block. is_column_of program (row_blocks program named) block j) n b ∙ and_from (within n b) (is_column_of program (row_blocks program named) b j) h e

-- ---- rows

-- each row that was named for a block was named for one of so many
abbrev pub AllBelow : ℕ → List NamedRow → Type 0
AllBelow n [] = ⊤
AllBelow n (row ∷ others) = ((b : ℕ) → row.block ≡ Some b → within n b ≡ true) × AllBelow n others

named_below : (n : ℕ) (named : List NamedRow) (name : List ℕ) (b : ℕ) → AllBelow n named → block_named named name ≡ Some b → within n b ≡ true
named_below n [] name b h e = absurd (cc)
named_below n (row ∷ others) name b h e = go (bytes_eq name row.name) e (named_below n others name b h.1)
  where
    go : (t : Bool) → cond t row.block (block_named others name) ≡ Some b → (block_named others name ≡ Some b → within n b ≡ true) → within n b ≡ true
    go true d rest = h.0 b d
    go false d rest = rest d

-- the block of a row of the program
abbrev row_block : Program → List NamedRow → ℕ → Option ℕ
row_block program named k = block_named named (get_or program.row_names k [])

row_passes : (test : Option ℕ → Bool) (program : Program) (named : List NamedRow) (k : ℕ) → k < length program.row_names → passes_at test (row_blocks program named) k ≡ test (row_block program named k)
row_passes test program named k h = passes_map (block_named named) test program.row_names k ∙ passes_item (λ name. test (block_named named name)) program.row_names k [] h

row_exists : (test : Option ℕ → Bool) (program : Program) (named : List NamedRow) (k : ℕ) → passes_at test (row_blocks program named) k ≡ true → k < length program.row_names
row_exists test program named k e = subst (λ (n : ℕ). k < n) (length-map program.row_names (block_named named)) (passes_below test (row_blocks program named) k e)

-- ---- the blocks of a program

-- the blocks of a program, where no column links two blocks or lacks a bound in one
pub record Sorted (program : Program) (n : ℕ) (named : List NamedRow) : Type 0 where
  pub below : AllBelow n named
  pub some : 0 < n
  pub few : n ≤ most_blocks
  pub apart : list_any (is_linking program n (row_blocks program named)) (numbers_from 0 (columns program)) ≡ false
  pub closed : list_any (is_open program n (row_blocks program named)) (numbers_from 0 (columns program)) ≡ false

placed : (program : Program) (n : ℕ) (named : List NamedRow) → Sorted program n named → (k : ℕ) → k < length program.row_names → has_number (blocks_of program n (row_blocks program named)).master_rows k ≡ true ⊎ IsOfBlock (blocks_of program n (row_blocks program named)) k
placed program n named s k h = go (row_block program named k) refl
  where
    go : (o : Option ℕ) → row_block program named k ≡ o → has_number (blocks_of program n (row_blocks program named)).master_rows k ≡ true ⊎ IsOfBlock (blocks_of program n (row_blocks program named)) k
    go None e = inl (master_rows program n named k ∙ row_passes is_none program named k h ∙ ap is_none e)
    go (Some b) e =
        let w : within n b ≡ true = named_below n named (get_or program.row_names k []) b s.below e in
        inr (record {
          block = b;
          is_block = subst (λ (m : ℕ). b < m) (sym (numbers_length (block_part program (row_blocks program named)) 0 n)) (within_below n b w);
          is_row =
              part_rows program n named b k
              ∙ and_from (within n b) (passes_at (is_block b) (row_blocks program named) k) w
              (row_passes (is_block b) program named k h ∙ is_this b (row_block program named k) e);
        })

-- a row of a block was named for it
row_named : (program : Program) (n : ℕ) (named : List NamedRow) (b k : ℕ) → has_number (part_at (blocks_of program n (row_blocks program named)) b).rows k ≡ true → (k < length program.row_names) × (row_block program named k ≡ Some b)
row_named program n named b k e =
    let p : passes_at (is_block b) (row_blocks program named) k ≡ true = both_right (within n b) _ (sym (part_rows program n named b k) ∙ e) in
    let h : k < length program.row_names = row_exists (is_block b) program named k p in
    (h, block_is b (row_block program named k) (sym (row_passes (is_block b) program named k h) ∙ p))

one_block : (program : Program) (n : ℕ) (named : List NamedRow) (k b c : ℕ) → has_number (part_at (blocks_of program n (row_blocks program named)) b).rows k ≡ true → has_number (part_at (blocks_of program n (row_blocks program named)) c).rows k ≡ true → b ≡ c
one_block program n named k b c e d =
    let p : Some b ≡ Some c = sym (row_named program n named b k e).1 ∙ (row_named program n named c k d).1 in
    cc

no_master : (program : Program) (n : ℕ) (named : List NamedRow) (k b : ℕ) → has_number (part_at (blocks_of program n (row_blocks program named)) b).rows k ≡ true → has_number (blocks_of program n (row_blocks program named)).master_rows k ≡ false
no_master program n named k b e =
    let r = row_named program n named b k e in
    master_rows program n named k ∙ row_passes is_none program named k r.0 ∙ ap is_none r.1

has_entry_of : (program : Program) (n : ℕ) (named : List NamedRow) (b j : ℕ) → has_number (part_at (blocks_of program n (row_blocks program named)) b).columns j ≡ true → HasEntry program (part_at (blocks_of program n (row_blocks program named)) b) j
has_entry_of program n named b j e =
    let all : (within n b && (within (columns program) j && is_column_of program (row_blocks program named) b j)) ≡ true = sym (part_columns program n named b j) ∙ e in
    let w : within n b ≡ true = both_left (within n b) _ all in
    let c : is_column_of program (row_blocks program named) b j ≡ true = both_right (within (columns program) j) _ (both_right (within n b) _ all) in
    let f : EntryAt b j (row_blocks program named) program.rows = entry_found b j (row_blocks program named) program.rows c in
    record {
      row = f.row;
      is_row = part_rows program n named b f.row ∙ and_from (within n b) _ w f.of_block;
      entry = f.entry;
    }

entry_column : (program : Program) (n : ℕ) (named : List NamedRow) (b j : ℕ) → b < length (blocks_of program n (row_blocks program named)).blocks → j < columns program → HasEntry program (part_at (blocks_of program n (row_blocks program named)) b) j → has_number (part_at (blocks_of program n (row_blocks program named)) b).columns j ≡ true
entry_column program n named b j hb hj h =
    let p : passes_at (is_block b) (row_blocks program named) h.row ≡ true = both_right (within n b) _ (sym (part_rows program n named b h.row) ∙ h.is_row) in
    let w : within n b ≡ true = both_left (within n b) _ (sym (part_rows program n named b h.row) ∙ h.is_row) in
    part_columns program n named b j
    ∙ and_from (within n b) _ w
    (and_from (within (columns program) j) _ (below_within (columns program) j hj) (entry_there b j (row_blocks program named) program.rows h.row p h.entry))

entries : (program : Program) (n : ℕ) (named : List NamedRow) → Sorted program n named → (b j k : ℕ) → has_number (part_at (blocks_of program n (row_blocks program named)) b).columns j ≡ true → k < length program.row_names → stands_on j (row_at program k) ≡ true → has_number (part_at (blocks_of program n (row_blocks program named)) b).rows k ≡ true ⊎ has_number (blocks_of program n (row_blocks program named)).master_rows k ≡ true
entries program n named s b j k e h t = go (row_block program named k) refl
  where
    all : (within n b && (within (columns program) j && is_column_of program (row_blocks program named) b j)) ≡ true
    all = sym (part_columns program n named b j) ∙ e

    wb : within n b ≡ true
    wb = both_left (within n b) _ all

    wj : within (columns program) j ≡ true
    wj = both_left (within (columns program) j) _ (both_right (within n b) _ all)

    cb : is_column_of program (row_blocks program named) b j ≡ true
    cb = both_right (within (columns program) j) _ (both_right (within n b) _ all)

    go : (o : Option ℕ) → row_block program named k ≡ o → has_number (part_at (blocks_of program n (row_blocks program named)) b).rows k ≡ true ⊎ has_number (blocks_of program n (row_blocks program named)).master_rows k ≡ true
    go None d = inr (master_rows program n named k ∙ row_passes is_none program named k h ∙ ap is_none d)
    go (Some c) d =
        let wc : within n c ≡ true = named_below n named (get_or program.row_names k []) c s.below d in
        let p : passes_at (is_block c) (row_blocks program named) k ≡ true = row_passes (is_block c) program named k h ∙ is_this c (row_block program named k) d in
        let cc_ : is_column_of program (row_blocks program named) c j ≡ true = entry_there c j (row_blocks program named) program.rows k p t in
        let one : nat_lt 1 (length (blocks_with program n (row_blocks program named) j)) ≡ false = none_of (is_linking program n (row_blocks program named)) (columns program) j s.apart wj in
        let same : c ≡ b = one_number (blocks_with program n (row_blocks program named) j) c b one (among program n named c j wc cc_) (among program n named b j wb cb) in
        inl (part_rows program n named b k ∙ and_from (within n b) _ wb (row_passes (is_block b) program named k h ∙ is_this b (row_block program named k) (d ∙ ap Some same)))

bounded : (program : Program) (n : ℕ) (named : List NamedRow) → Sorted program n named → (b j : ℕ) → has_number (part_at (blocks_of program n (row_blocks program named)) b).columns j ≡ true → is_bounded (sides_at program.bounds j) ≡ true
bounded program n named s b j e =
    let all : (within n b && (within (columns program) j && is_column_of program (row_blocks program named) b j)) ≡ true = sym (part_columns program n named b j) ∙ e in
    let wb : within n b ≡ true = both_left (within n b) _ all in
    let wj : within (columns program) j ≡ true = both_left (within (columns program) j) _ (both_right (within n b) _ all) in
    let cb : is_column_of program (row_blocks program named) b j ≡ true = both_right (within (columns program) j) _ (both_right (within n b) _ all) in
    let some : nat_lt 0 (length (blocks_with program n (row_blocks program named) j)) ≡ true = not_empty (blocks_with program n (row_blocks program named) j) b (among program n named b j wb cb) in
    not_false _ (second (nat_lt 0 (length (blocks_with program n (row_blocks program named) j))) _ some (none_of (is_open program n (row_blocks program named)) (columns program) j s.closed wj))
  where
    second : (x y : Bool) → x ≡ true → (x && y) ≡ false → y ≡ false
    second true y e d = d
    second false y e d = absurd (cc)

-- ---- columns of no block

free_is : (program : Program) (n : ℕ) (named : List NamedRow) (j : ℕ) → has_number (blocks_of program n (row_blocks program named)).free_columns j ≡ (within (columns program) j && not (nat_lt 0 (length (blocks_with program n (row_blocks program named) j))))
free_is program n named j = chosen (λ column. not (nat_lt 0 (length (blocks_with program n (row_blocks program named) column)))) (columns program) j

no_column : (program : Program) (n : ℕ) (named : List NamedRow) (j : ℕ) → has_number (blocks_of program n (row_blocks program named)).free_columns j ≡ true → (b : ℕ) → has_number (part_at (blocks_of program n (row_blocks program named)) b).columns j ≡ false
no_column program n named j e b = go (has_number (part_at (blocks_of program n (row_blocks program named)) b).columns j) refl
  where
    empty : nat_lt 0 (length (blocks_with program n (row_blocks program named) j)) ≡ false
    empty = not_true _ (both_right (within (columns program) j) _ (sym (free_is program n named j) ∙ e))

    go : (t : Bool) → has_number (part_at (blocks_of program n (row_blocks program named)) b).columns j ≡ t → has_number (part_at (blocks_of program n (row_blocks program named)) b).columns j ≡ false
    go false d = d
    go true d =
        let all : (within n b && (within (columns program) j && is_column_of program (row_blocks program named) b j)) ≡ true = sym (part_columns program n named b j) ∙ d in
        let there : has_number (blocks_with program n (row_blocks program named) j) b ≡ true = among program n named b j (both_left (within n b) _ all) (both_right (within (columns program) j) _ (both_right (within n b) _ all)) in
        let gone : has_number (blocks_with program n (row_blocks program named) j) b ≡ false = empty_has (blocks_with program n (row_blocks program named) j) b empty in
        absurd (cc)

first_of : (xs : List ℕ) → nat_lt 0 (length xs) ≡ true → (k : ℕ) × (has_number xs k ≡ true)
first_of [] e = let h : 0 < length {A = ℕ} [] = ltb-true 0 (length {A = ℕ} []) e in absurd (omega (arith, h))
first_of (x ∷ xs) e = (x, ap (λ t. t || has_number xs x) (eq-eqb x x refl))

is_free : (program : Program) (n : ℕ) (named : List NamedRow) (j : ℕ) → j < columns program → ((b : ℕ) → has_number (part_at (blocks_of program n (row_blocks program named)) b).columns j ≡ false) → has_number (blocks_of program n (row_blocks program named)).free_columns j ≡ true
is_free program n named j h none = free_is program n named j ∙ and_from (within (columns program) j) _ wj (not_from_false _ (go (nat_lt 0 (length (blocks_with program n (row_blocks program named) j))) refl))
  where
    wj : within (columns program) j ≡ true
    wj = below_within (columns program) j h

    go : (t : Bool) → nat_lt 0 (length (blocks_with program n (row_blocks program named) j)) ≡ t → nat_lt 0 (length (blocks_with program n (row_blocks program named) j)) ≡ false
    go false e = e
    go true e =
        let f = first_of (blocks_with program n (row_blocks program named) j) e in
        let all : (within n f.0 && is_column_of program (row_blocks program named) f.0 j) ≡ true = sym (chosen (λ block. is_column_of program (row_blocks program named) block j) n f.0) ∙ f.1 in
        let there : has_number (part_at (blocks_of program n (row_blocks program named)) f.0).columns j ≡ true = part_columns program n named f.0 j ∙ and_from (within n f.0) _ (both_left (within n f.0) _ all) (and_from (within (columns program) j) _ wj (both_right (within n f.0) _ all)) in
        let gone = none f.0 in
        absurd (cc)

are_blocks : (program : Program) (n : ℕ) (named : List NamedRow) → Sorted program n named → AreBlocks program (blocks_of program n (row_blocks program named))
are_blocks program n named s = record {
  some = subst (λ (m : ℕ). 0 < m) (sym (numbers_length (block_part program (row_blocks program named)) 0 n)) s.some;
  few = subst (λ (m : ℕ). m ≤ most_blocks) (sym (numbers_length (block_part program (row_blocks program named)) 0 n)) s.few;
  placed = placed program n named s;
  one_block = one_block program n named;
  no_master = no_master program n named;
  columns_of = λ b j hb hj. (has_entry_of program n named b j, entry_column program n named b j hb hj);
  entries = entries program n named s;
  bounded = λ b j e. (both_left (is_some (sides_at program.bounds j).low) _ (bounded program n named s b j e), both_right (is_some (sides_at program.bounds j).low) _ (bounded program n named s b j e));
  free = λ j h. (no_column program n named j, is_free program n named j h);
}

-- ---- what holds behind words without fault

-- a place has no block but one of so many, and the number of blocks is due only where it wasn't said
abbrev pub PlaceFits : Option ℕ → WordPlace → Type 0
PlaceFits count CountDue = count ≡ None
PlaceFits count (NamesOf block) = (b : ℕ) → block ≡ Some b → within (unwrap_or count 0) b ≡ true
PlaceFits count other = ⊤

-- the names are those of rows of the program, and none stands twice
pub record Fits (program : Program) (facts : BlockFacts) : Type 0 where
  pub place : PlaceFits facts.count facts.place
  pub below : AllBelow (block_count facts) facts.named
  pub counted : (n : ℕ) → facts.count ≡ Some n → (0 < n) × (n ≤ most_blocks)
  pub once : AreNamedOnce facts.named
  pub known : AllByRecursion (λ row. is_in program.row_names row.name ≡ true) facts.named

pub fits_first : (program : Program) → Fits program no_blocks
fits_first program = record { place = tt; below = tt; counted = λ n e. absurd (cc); once = tt; known = tt }

pub all_push : {X : Type 0} (P : X → Type 0) (xs : List X) (x : X) → AllByRecursion P xs → P x → AllByRecursion P (xs ++ x ∷ [])
all_push P [] x h e = (e, tt)
all_push P (y ∷ ys) x h e = (h.0, all_push P ys x h.1 e)

below_push : (n : ℕ) (named : List NamedRow) (row : NamedRow) → AllBelow n named → ((b : ℕ) → row.block ≡ Some b → within n b ≡ true) → AllBelow n (named ++ row ∷ [])
below_push n [] row h e = (e, tt)
below_push n (r ∷ rs) row h e = (h.0, below_push n rs row h.1 e)

below_more : (n : ℕ) (named : List NamedRow) → AllBelow 0 named → AllBelow n named
below_more n [] h = tt
below_more n (row ∷ others) h = ((λ b e. let w = h.0 b e in absurd (cc)), below_more n others h.1)

once_push : (named : List NamedRow) (row : NamedRow) → AreNamedOnce named → is_named named row.name ≡ false → AreNamedOnce (named ++ row ∷ [])
once_push [] row h e = (refl, tt)
once_push (r ∷ rs) row h e = (
  list_any-append (λ x. bytes_eq r.name x.name) rs (row ∷ [])
      ∙ or_from (is_named rs r.name) (bytes_eq r.name row.name || false) h.0
      (or_from (bytes_eq r.name row.name) false (bytes_flip r.name row.name ∙ left_false (bytes_eq row.name r.name) _ e) refl),
  once_push rs row h.1 (right_false (bytes_eq row.name r.name) _ e),
)

-- ---- one word more

-- what is known, by its parts
abbrev facts_at : WordPlace → Option ℕ → List ℕ → List NamedRow → BlockFacts
facts_at place count begun named = record { place = place; count = count; begun = begun; named = named }

-- no rule of a word is broken
abbrev pub NoneBroken : Program → BlockFacts → WordSaying → Type 0
NoneBroken program facts now = AllByRecursion (λ r. r.broken ≡ false) (block_rules program facts now)

opens_fits : (program : Program) (place : WordPlace) (count : Option ℕ) (begun : List ℕ) (named : List NamedRow) (keyword : Keyword) → NoneBroken program (facts_at place count begun named) (Opens keyword) → Fits program (facts_at place count begun named) → Fits program (blocks_with_saying (facts_at place count begun named) (Opens keyword))
opens_fits program place count begun named Presolved t f = record { place = tt; below = f.below; counted = f.counted; once = f.once; known = f.known }
opens_fits program place count begun named BlockCount t f = record { place = no_count count t.0; below = f.below; counted = f.counted; once = f.once; known = f.known }
  where
    no_count : (o : Option ℕ) → is_some o ≡ false → o ≡ None
    no_count None e = refl
    no_count (Some k) e = absurd (cc)
opens_fits program place count begun named Block t f = record { place = tt; below = f.below; counted = f.counted; once = f.once; known = f.known }
opens_fits program place count begun named Master t f = record { place = λ b e. absurd (cc); below = f.below; counted = f.counted; once = f.once; known = f.known }

zero_fits : (program : Program) (count : Option ℕ) (begun : List ℕ) (named : List NamedRow) (t : Bool) → NoneBroken program (facts_at ZeroDue count begun named) (cond t Zero OutOfPlace) → Fits program (facts_at ZeroDue count begun named) → Fits program (blocks_with_saying (facts_at ZeroDue count begun named) (cond t Zero OutOfPlace))
zero_fits program count begun named true t f = record { place = tt; below = f.below; counted = f.counted; once = f.once; known = f.known }
zero_fits program count begun named false t f = absurd (let e = t.0 in cc)

in_range : (n : ℕ) → (nat_lt 0 n && nat_le n most_blocks) ≡ true → (0 < n) × (n ≤ most_blocks)
in_range n e = (ltb-true 0 n (both_left (nat_lt 0 n) (nat_le n most_blocks) e), leb-true n most_blocks (both_right (nat_lt 0 n) (nat_le n most_blocks) e))

count_fits : (program : Program) (count : Option ℕ) (begun : List ℕ) (named : List NamedRow) (number : Option ℕ) → NoneBroken program (facts_at CountDue count begun named) (Count number) → Fits program (facts_at CountDue count begun named) → Fits program (blocks_with_saying (facts_at CountDue count begun named) (Count number))
count_fits program count begun named None t f = absurd (let e = t.1.0 in cc)
count_fits program count begun named (Some n) t f = record {
  place = tt;
  below = below_more n named (subst (λ (o : Option ℕ). AllBelow (unwrap_or o 0) named) f.place f.below);
  counted = λ m e. let same : n ≡ m = cc in subst (λ (k : ℕ). (0 < k) × (k ≤ most_blocks)) same (in_range n (not_false _ t.1.0));
  once = f.once;
  known = f.known;
}

block_fits : (program : Program) (count : Option ℕ) (begun : List ℕ) (named : List NamedRow) (number : Option ℕ) → NoneBroken program (facts_at BlockDue count begun named) (Number number) → Fits program (facts_at BlockDue count begun named) → Fits program (blocks_with_saying (facts_at BlockDue count begun named) (Number number))
block_fits program count begun named number t f = record { place = place_fits (from_zero number) t.1.1.0; below = f.below; counted = f.counted; once = f.once; known = f.known }
  where
    place_fits : (o : Option ℕ) → is_no_block (unwrap_or count 0) begun o ≡ false → (b : ℕ) → o ≡ Some b → within (unwrap_or count 0) b ≡ true
    place_fits None e b d = absurd (cc)
    place_fits (Some k) e b d =
        let same : k ≡ b = cc in
        let h : k < unwrap_or count 0 = ltb-true k (unwrap_or count 0) (not_false _ (left_false (not (nat_lt k (unwrap_or count 0))) _ e)) in
        subst (λ (m : ℕ). within (unwrap_or count 0) m ≡ true) same (below_within (unwrap_or count 0) k h)

name_fits : (program : Program) (block count : Option ℕ) (begun : List ℕ) (named : List NamedRow) (word : List ℕ) → NoneBroken program (facts_at (NamesOf block) count begun named) (RowName block word) → Fits program (facts_at (NamesOf block) count begun named) → Fits program (blocks_with_saying (facts_at (NamesOf block) count begun named) (RowName block word))
name_fits program block count begun named word t f = record {
  place = f.place;
  below = below_push (unwrap_or count 0) named (record { name = word; block = block }) f.below f.place;
  counted = f.counted;
  once = once_push named (record { name = word; block = block }) f.once t.1.1.1.1.0;
  known = all_push (λ row. is_in program.row_names row.name ≡ true) named (record { name = word; block = block }) f.known (not_false _ t.1.1.1.0);
}

word_fits : (program : Program) (keyword : Option Keyword) (place : WordPlace) (count : Option ℕ) (begun : List ℕ) (named : List NamedRow) (word : List ℕ) → NoneBroken program (facts_at place count begun named) (meaning_said keyword place word) → Fits program (facts_at place count begun named) → Fits program (blocks_with_saying (facts_at place count begun named) (meaning_said keyword place word))
word_fits program (Some keyword) KeywordDue count begun named word t f = opens_fits program KeywordDue count begun named keyword t f
word_fits program (Some keyword) (NamesOf block) count begun named word t f = opens_fits program (NamesOf block) count begun named keyword t f
word_fits program (Some keyword) ZeroDue count begun named word t f = absurd (let e = t.0 in cc)
word_fits program (Some keyword) CountDue count begun named word t f = absurd (let e = t.0 in cc)
word_fits program (Some keyword) BlockDue count begun named word t f = absurd (let e = t.0 in cc)
word_fits program None KeywordDue count begun named word t f = absurd (let e = t.0 in cc)
word_fits program None ZeroDue count begun named word t f = zero_fits program count begun named (bytes_eq word (codes "0")) t f
word_fits program None CountDue count begun named word t f = count_fits program count begun named (number_word word) t f
word_fits program None BlockDue count begun named word t f = block_fits program count begun named (number_word word) t f
word_fits program None (NamesOf block) count begun named word t f = name_fits program block count begun named word t f

pub fits_next : (program : Program) (facts : BlockFacts) (word : List ℕ) → block_fault program facts word ≡ None → Fits program facts → Fits program (block_facts_with facts word)
fits_next program facts word e f =
    word_fits program (meaning_in keywords word) facts.place facts.count facts.begun facts.named word
    (kept (block_rules program facts (word_said facts.place word)) e) f

-- ---- the laws

pub fits_text : (program : Program) (text : List ℕ) → AreQuiet (block_reading program) no_blocks (items_in (block_reading program) text) → Fits program (known_of (block_reading program) text)
fits_text program text q = holds_after (block_reading program) (Fits program) (fits_next program) (items_in (block_reading program) text) no_blocks (fits_first program) q

count_is : (o : Option ℕ) → is_none o ≡ false → ((n : ℕ) → o ≡ Some n → (0 < n) × (n ≤ most_blocks)) → (0 < unwrap_or o 0) × (unwrap_or o 0 ≤ most_blocks)
count_is None e h = absurd (cc)
count_is (Some n) e h = h n refl

sorted_text : (program : Program) (text : List ℕ) (blocks : Blocks) → IsDescribed (block_reading program) text blocks → Sorted program (block_count (known_of (block_reading program) text)) (named_by program text)
sorted_text program text blocks d =
    let k = kept (block_end_rules program (known_of (block_reading program) text)) d.no_fault in
    let f = fits_text program text d.quiet in
    let c = count_is (known_of (block_reading program) text).count (left_false (is_none (known_of (block_reading program) text).count) _ k.1.1.1.1.1.0) f.counted in
    record { below = f.below; some = c.0; few = c.1; apart = k.1.1.1.0; closed = k.1.1.1.1.0 }

pub blocks_are_apart : (program : Program) (text : List ℕ) (blocks : Blocks) → HasResult (block_reading program) text blocks → AreBlocks program blocks
blocks_are_apart program text blocks h =
    let d = described (block_reading program) text blocks h in
    subst (AreBlocks program) d.is_value (are_blocks program (block_count (known_of (block_reading program) text)) (named_by program text) (sorted_text program text blocks d))

-- the rows of blocks are those named for them
record RowsAre (program : Program) (named : List NamedRow) (blocks : Blocks) : Type 0 where
  of_block : (k b : ℕ) → k < length program.row_names → b < length blocks.blocks → (has_number (part_at blocks b).rows k ≡ true) ↔ (row_block program named k ≡ Some b)
  of_master : (k : ℕ) → k < length program.row_names → (has_number blocks.master_rows k ≡ true) ↔ (row_block program named k ≡ None)

rows_are : (program : Program) (n : ℕ) (named : List NamedRow) → RowsAre program named (blocks_of program n (row_blocks program named))
rows_are program n named = record {
  of_block = λ k b h hb. (
    λ e. (row_named program n named b k e).1,
    λ e.
        part_rows program n named b k
        ∙ and_from (within n b) _ (below_within n b (subst (λ (m : ℕ). b < m) (numbers_length (block_part program (row_blocks program named)) 0 n) hb))
        (row_passes (is_block b) program named k h ∙ is_this b (row_block program named k) e),
  );
  of_master = λ k h. (
    λ e. none_is (row_block program named k) (sym (row_passes is_none program named k h) ∙ sym (master_rows program n named k) ∙ e),
    λ e. master_rows program n named k ∙ row_passes is_none program named k h ∙ ap is_none e,
  );
}

pub blocks_are_of_names : (program : Program) (text : List ℕ) (blocks : Blocks) → HasResult (block_reading program) text blocks → AreOfNames program text blocks
blocks_are_of_names program text blocks h = go (described (block_reading program) text blocks h)
  where
    go : IsDescribed (block_reading program) text blocks → AreOfNames program text blocks
    go d =
        let f = fits_text program text d.quiet in
        let r : RowsAre program (named_by program text) blocks = subst (RowsAre program (named_by program text)) d.is_value (rows_are program (block_count (known_of (block_reading program) text)) (named_by program text)) in
        record { once = f.once; known = f.known; of_block = r.of_block; of_master = r.of_master }
