-- Words of texts of blocks, and what is kept of them.
use Rattle.std.proofs.Common.{◌≡◌, ℕ, zero, suc, ◌+◌, ◌-◌, ◌*◌, ◌<◌, Bool, true, false, cond, ◌&&◌, List, [], ◌∷◌, length, map, take, Option, None, Some, refl, sym, ap, subst, ◌∙◌, get_or, set, arith, min}
use Rattle.std.specs.Prelude.{fold, replicate, slice_index_or, nat_lt, is_none}
use Rattle.std.specs.List.{list_all}
use Rattle.std.proofs.lemmas.Bool.{ltb-true}
use Rattle.cip_problem.specs.Program.{Program}
use Rattle.cip_rational.specs.Numeral.{digits_value}
use Rattle.cip_text.proofs.DigitLists.{after_more}
use Rattle.cip_text_rules.specs.MpsWords.{number_in}
use Rattle.cip_text_rules.specs.MpsRules.{least}
use Rattle.cip_text_rules.specs.LineStream.{Going, Failed, progress_at, item_read}
use Rattle.cip_text_rules.proofs.LineBytes.{failed_items}
use Rattle.cip_text.specs.PieceStands.{progress_after}
use Rattle.cip_text_rules.specs.BlockWords.{RowName, word_said}
use Rattle.cip_text_rules.specs.BlockSteps as steps
use Rattle.cip_text_rules.specs.BlockSteps.{BlockState, block_tests, state_with, block_steps}
use Rattle.cip_blocks.specs.declared.word_places.RowPlace.{RowPlace}
use Rattle.cip_blocks.specs.declared.word_places.RowPlace.TheVariants.{Unnamed}
use Rattle.cip_blocks.specs.WordPlaces.{row_shown, block_of, is_below}
use Rattle.cip_blocks.specs.BlockWordsRead.{IsTaken}

-- ---- numbers

more_small : (v n d value : ℕ) → value ≡ min v 4097 → n ≡ min (value * 10 + d) 4097 → n ≡ min (v * 10 + d) 4097
more_small v n d value e f = omega (arith, e, f)

-- a digit more
pub digit_more : (ds : List ℕ) (i value n : ℕ) → i < length ds → value ≡ min (digits_value (take i ds)) 4097 → n ≡ min (value * 10 + (get_or ds i 0 - 48)) 4097 → n ≡ min (digits_value (take (i + 1) ds)) 4097
digit_more ds i value n l e f = more_small (digits_value (take i ds)) n (get_or ds i 0 - 48) value e f ∙ ap (λ m. min m 4097) (sym (after_more 0 ds i l))

-- ---- rows

-- no row was named yet
pub none_named : (n : ℕ) → map row_shown (replicate n Unnamed) ≡ replicate n steps.Unnamed
none_named zero = refl
none_named (suc n) = ap (λ rows. steps.Unnamed ∷ rows) (none_named n)

pub all_unnamed : (count n : ℕ) → list_all (λ row. is_below count (block_of row)) (replicate n Unnamed) ≡ true
all_unnamed count zero = refl
all_unnamed count (suc n) = all_unnamed count n

pub shown_set : (rows : List RowPlace) (k : ℕ) (row : RowPlace) → map row_shown (set rows k row) ≡ set (map row_shown rows) k (row_shown row)
shown_set [] k row = refl
shown_set (r ∷ rows) zero row = refl
shown_set (r ∷ rows) (suc k) row = ap (λ rs. row_shown r ∷ rs) (shown_set rows k row)

pub all_set : {X : Type 0} (p : X → Bool) (xs : List X) (k : ℕ) (x : X) → list_all p xs ≡ true → p x ≡ true → list_all p (set xs k x) ≡ true
all_set p [] k x h e = refl
all_set p (y ∷ xs) zero x h e = go (p x) (p y) e h
  where
    go : (a b : Bool) → a ≡ true → (b && list_all p xs) ≡ true → (a && list_all p xs) ≡ true
    go true true e h = h
    go true false e h = absurd (cc)
    go false b e h = absurd (cc)
all_set p (y ∷ xs) (suc k) x h e = go (p y) h (λ rest. all_set p xs k x rest e)
  where
    go : (b : Bool) → (b && list_all p xs) ≡ true → (list_all p xs ≡ true → list_all p (set xs k x) ≡ true) → (b && list_all p (set xs k x)) ≡ true
    go true h rest = rest h
    go false h rest = absurd (cc)

-- the place of a row
pub row_at : (rows : List RowPlace) (k : ℕ) (row : RowPlace) → k < length rows → row ≡ get_or rows k row → slice_index_or (map row_shown rows) k steps.Unnamed ≡ row_shown row
row_at [] k row l e = absurd (omega (arith, l))
row_at (r ∷ rows) zero row l e = ap row_shown (sym e)
row_at (r ∷ rows) (suc k) row l e = row_at rows k row (omega (arith, l)) e

-- where there is no block, no row is of one
pub below_none : (n : ℕ) (rows : List RowPlace) → list_all (λ row. is_below 0 (block_of row)) rows ≡ true → list_all (λ row. is_below n (block_of row)) rows ≡ true
below_none n [] h = refl
below_none n (row ∷ rows) h = go (block_of row) h (below_none n rows)
  where
    go : (block : Option ℕ) → (is_below 0 block && list_all (λ r. is_below 0 (block_of r)) rows) ≡ true → (list_all (λ r. is_below 0 (block_of r)) rows ≡ true → list_all (λ r. is_below n (block_of r)) rows ≡ true) → (is_below n block && list_all (λ r. is_below n (block_of r)) rows) ≡ true
    go None h rest = rest h
    go (Some block) h rest = no (nat_lt block 0) refl h
      where
        no : (b : Bool) → nat_lt block 0 ≡ b → (b && list_all (λ r. is_below 0 (block_of r)) rows) ≡ true → (nat_lt block n && list_all (λ r. is_below n (block_of r)) rows) ≡ true
        no true e h = let l : block < 0 = ltb-true block 0 e in absurd (omega (arith, l))
        no false e h = absurd (cc)

-- ---- names

-- a name without fault has none of a name's tests
pub name_kind : (program : Program) (state : BlockState) (block : Option ℕ) (name : List ℕ) (number : ℕ) → least (block_tests program state (RowName block name)) ≡ least (steps.name_tests program state name) → number_in program.row_names name ≡ Some number → steps.is_placed (slice_index_or state.rows number steps.Unnamed) ≡ false → None ≡ least (block_tests program state (RowName block name))
name_kind program state block name number t e f =
    sym (t
    ∙ ap (λ o. cond (is_none o) (Some 4) (cond (steps.is_placed (steps.row_place state.rows o)) (Some 5) None)) e
    ∙ ap (λ b. cond b (Some 5) None) f)

-- ---- words

-- a word that was taken is an item that was read
pub item_taken : (program : Program) (old new : BlockState) (word : List ℕ) (kind : Option ℕ) (number : ℕ) → IsTaken program old new (word_said old.place word) kind → item_read (block_steps program) (Going old) number word ≡ progress_after number kind new
item_taken program old new word None number h =
    ap (λ k. progress_at k number (state_with program old (word_said old.place word))) (sym h.is_kind) ∙ ap Going (sym (h.taken refl))
item_taken program old new word (Some kind) number h =
    ap (λ k. progress_at k number (state_with program old (word_said old.place word))) (sym h.is_kind)

-- the words behind one without fault
pub words_behind : (program : Program) (old new : BlockState) (words rest : List (List ℕ)) (word : List ℕ) (number : ℕ) → words ≡ word ∷ rest → IsTaken program old new (word_said old.place word) None
    → fold (λ p w. item_read (block_steps program) p number w) (Going old) words ≡ fold (λ p w. item_read (block_steps program) p number w) (Going new) rest
words_behind program old new words rest word number e h =
    ap (fold (λ p w. item_read (block_steps program) p number w) (Going old)) e
    ∙ ap (λ p. fold (λ q w. item_read (block_steps program) q number w) p rest) (item_taken program old new word None number h)

-- the words behind one that has a fault
pub words_failed : (program : Program) (old new : BlockState) (words rest : List (List ℕ)) (word : List ℕ) (number kind : ℕ) → words ≡ word ∷ rest → IsTaken program old new (word_said old.place word) (Some kind)
    → fold (λ p w. item_read (block_steps program) p number w) (Going old) words ≡ Failed number kind
words_failed program old new words rest word number kind e h =
    ap (fold (λ p w. item_read (block_steps program) p number w) (Going old)) e
    ∙ ap (λ p. fold (λ q w. item_read (block_steps program) q number w) p rest) (item_taken program old new word (Some kind) number h)
    ∙ failed_items (block_steps program) number kind number rest

-- a word of the same program
pub same_program : (p q : Program) (old new : BlockState) (word : List ℕ) (kind other : Option ℕ) → p ≡ q → kind ≡ other → IsTaken p old new (word_said old.place word) kind → IsTaken q old new (word_said old.place word) other
same_program p q old new word kind other e f h = subst (λ (r : Program). IsTaken r old new (word_said old.place word) other) e (subst (λ (k : Option ℕ). IsTaken p old new (word_said old.place word) k) f h)
