-- What a state keeps behind words without fault.
use Rattle.std.proofs.Common.{◌≡◌, ℕ, zero, suc, ◌<◌, Bool, true, false, cond, List, [], ◌∷◌, length, Option, None, Some, refl, subst, ◌∙◌, arith, lit≤}
use Rattle.std.specs.Prelude.{is_some, unwrap_or, nat_lt, nat_le, All, IfSome, slice_index_or}
use Rattle.std.specs.List.{AllByRecursion}
use Rattle.std.specs.Str.{bytes_eq}
use Rattle.std.proofs.lemmas.List.{length-set, length-replicate}
use Rattle.std.proofs.lemmas.List.Elements.{All-set, All-weaker, All-replicate}
use Rattle.std.proofs.lemmas.Bool.{leb-true}
use lib.Chars.{codes}
use Rattle.cip_problem.specs.Program.{Program}
use Rattle.cip_text_rules.specs.MpsWords.{number_in, meaning_in}
use Rattle.cip_text_rules.specs.MpsRules.{least}
use Rattle.cip_text_rules.proofs.Quiet.{kept}
use Rattle.cip_text_rules.specs.BlockWords.{Keyword, Presolved, BlockCount, Block, Master, WordPlace, KeywordDue, ZeroDue, CountDue, BlockDue, NamesOf, WordSaying, Opens, OutOfPlace, Zero, Count, Number, RowName, keywords, meaning_said, word_said, number_word, from_zero}
use Rattle.cip_problem.specs.BlockParts.{most_blocks}
use Rattle.cip_text_rules.specs.BlockSteps.{RowPlace, Unnamed, place_of, block_at, BlockState, no_state, is_taken, block_tests, begin_block, put_row, state_with}
use Rattle.cip_text_rules.specs.BlockStepStatements.{IsSoundBlockState}
use Rattle.cip_text_rules.proofs.BlockLaws.{not_false}
use Rattle.cip_rational.proofs.InRange.{both_right}

-- the block of a row is among so many
abbrev IsBelow : ℕ → RowPlace → Type 0
IsBelow n place = IfSome (block_at place) (λ b. b < n)

pub sound_first : (program : Program) → IsSoundBlockState program (no_state program)
sound_first program = record {
  rows = length-replicate (length program.row_names) Unnamed;
  begun = refl;
  few = lit≤ tt;
  place = tt;
  below = All-replicate (IsBelow 0) (length program.row_names) Unnamed tt;
}

-- ---- one word more

-- a state, by its parts
abbrev state_at : WordPlace → Option ℕ → List Bool → List RowPlace → BlockState
state_at place count begun rows = record { place = place; count = count; begun = begun; rows = rows }

-- no test of a word is failed
abbrev NoneFails : Program → BlockState → WordSaying → Type 0
NoneFails program state now = AllByRecursion (λ r. r.broken ≡ false) (block_tests program state now)

opens_sound : (program : Program) (place : WordPlace) (count : Option ℕ) (begun : List Bool) (rows : List RowPlace) (keyword : Keyword) → NoneFails program (state_at place count begun rows) (Opens keyword) → IsSoundBlockState program (state_at place count begun rows) → IsSoundBlockState program (state_with program (state_at place count begun rows) (Opens keyword))
opens_sound program place count begun rows Presolved t s = record { rows = s.rows; begun = s.begun; few = s.few; place = tt; below = s.below }
opens_sound program place count begun rows BlockCount t s = record { rows = s.rows; begun = s.begun; few = s.few; place = no_count count t.0; below = s.below }
  where
    no_count : (o : Option ℕ) → is_some o ≡ false → o ≡ None
    no_count None e = refl
    no_count (Some k) e = absurd (cc)
opens_sound program place count begun rows Block t s = record { rows = s.rows; begun = s.begun; few = s.few; place = tt; below = s.below }
opens_sound program place count begun rows Master t s = record { rows = s.rows; begun = s.begun; few = s.few; place = tt; below = s.below }

zero_sound : (program : Program) (count : Option ℕ) (begun : List Bool) (rows : List RowPlace) (b : Bool) → NoneFails program (state_at ZeroDue count begun rows) (cond b Zero OutOfPlace) → IsSoundBlockState program (state_at ZeroDue count begun rows) → IsSoundBlockState program (state_with program (state_at ZeroDue count begun rows) (cond b Zero OutOfPlace))
zero_sound program count begun rows true t s = record { rows = s.rows; begun = s.begun; few = s.few; place = tt; below = s.below }
zero_sound program count begun rows false t s = absurd (let e = t.0 in cc)

-- no block is among none
more_below : (n : ℕ) (place : RowPlace) → IsBelow 0 place → IsBelow n place
more_below n place h = go (block_at place) h
  where
    go : (o : Option ℕ) → IfSome o (λ b. b < 0) → IfSome o (λ b. b < n)
    go None k = tt
    go (Some b) k = absurd (omega (arith, k))

count_sound : (program : Program) (count : Option ℕ) (begun : List Bool) (rows : List RowPlace) (number : Option ℕ) → NoneFails program (state_at CountDue count begun rows) (Count number) → IsSoundBlockState program (state_at CountDue count begun rows) → IsSoundBlockState program (state_with program (state_at CountDue count begun rows) (Count number))
count_sound program count begun rows None t s = absurd (let e = t.1.0 in cc)
count_sound program count begun rows (Some n) t s = record {
  rows = s.rows;
  begun = length-replicate n false;
  few = leb-true n most_blocks (both_right (nat_lt 0 n) (nat_le n most_blocks) (not_false _ t.1.0));
  place = tt;
  below = All-weaker (IsBelow 0) (IsBelow n) (more_below n) rows (subst (λ (o : Option ℕ). All (IsBelow (unwrap_or o 0)) rows) s.place s.below);
}

begun_length : (begun : List Bool) (o : Option ℕ) → length (begin_block begun o) ≡ length begun
begun_length begun None = refl
begun_length begun (Some k) = length-set begun k true

-- past the marks there is no block
marked_below : (begun : List Bool) (k : ℕ) → slice_index_or begun k true ≡ false → k < length begun
marked_below [] zero e = absurd (cc)
marked_below [] (suc k) e = absurd (cc)
marked_below (b ∷ bs) zero e = omega arith
marked_below (b ∷ bs) (suc k) e = let h : k < length bs = marked_below bs k e in omega (arith, h)

block_sound : (program : Program) (count : Option ℕ) (begun : List Bool) (rows : List RowPlace) (number : Option ℕ) → NoneFails program (state_at BlockDue count begun rows) (Number number) → IsSoundBlockState program (state_at BlockDue count begun rows) → IsSoundBlockState program (state_with program (state_at BlockDue count begun rows) (Number number))
block_sound program count begun rows number t s = record {
  rows = s.rows;
  begun = begun_length begun (from_zero number) ∙ s.begun;
  few = s.few;
  place = among (from_zero number) t.1.1.0;
  below = s.below;
}
  where
    among : (o : Option ℕ) → is_taken begun o ≡ false → IfSome o (λ b. b < unwrap_or count 0)
    among None e = absurd (cc)
    among (Some k) e = subst (λ (n : ℕ). k < n) s.begun (marked_below begun k e)

rows_length : (rows : List RowPlace) (o : Option ℕ) (place : RowPlace) → length (put_row rows o place) ≡ length rows
rows_length rows None place = refl
rows_length rows (Some k) place = length-set rows k place

put_below : (n : ℕ) (rows : List RowPlace) (o : Option ℕ) (block : Option ℕ) → IfSome block (λ b. b < n) → All (IsBelow n) rows → All (IsBelow n) (put_row rows o (place_of block))
put_below n rows None block h s = s
put_below n rows (Some k) block h s = All-set (IsBelow n) rows k (place_of block) (go block h) s
  where
    go : (o : Option ℕ) → IfSome o (λ b. b < n) → IsBelow n (place_of o)
    go None h = tt
    go (Some b) h = h

name_sound : (program : Program) (block count : Option ℕ) (begun : List Bool) (rows : List RowPlace) (word : List ℕ) → IsSoundBlockState program (state_at (NamesOf block) count begun rows) → IsSoundBlockState program (state_with program (state_at (NamesOf block) count begun rows) (RowName block word))
name_sound program block count begun rows word s = record {
  rows = rows_length rows (number_in program.row_names word) (place_of block) ∙ s.rows;
  begun = s.begun;
  few = s.few;
  place = s.place;
  below = put_below (unwrap_or count 0) rows (number_in program.row_names word) block s.place s.below;
}

word_sound : (program : Program) (keyword : Option Keyword) (place : WordPlace) (count : Option ℕ) (begun : List Bool) (rows : List RowPlace) (word : List ℕ) → NoneFails program (state_at place count begun rows) (meaning_said keyword place word) → IsSoundBlockState program (state_at place count begun rows) → IsSoundBlockState program (state_with program (state_at place count begun rows) (meaning_said keyword place word))
word_sound program (Some keyword) KeywordDue count begun rows word t s = opens_sound program KeywordDue count begun rows keyword t s
word_sound program (Some keyword) (NamesOf block) count begun rows word t s = opens_sound program (NamesOf block) count begun rows keyword t s
word_sound program (Some keyword) ZeroDue count begun rows word t s = absurd (let e = t.0 in cc)
word_sound program (Some keyword) CountDue count begun rows word t s = absurd (let e = t.0 in cc)
word_sound program (Some keyword) BlockDue count begun rows word t s = absurd (let e = t.0 in cc)
word_sound program None KeywordDue count begun rows word t s = absurd (let e = t.0 in cc)
word_sound program None ZeroDue count begun rows word t s = zero_sound program count begun rows (bytes_eq word (codes "0")) t s
word_sound program None CountDue count begun rows word t s = count_sound program count begun rows (number_word word) t s
word_sound program None BlockDue count begun rows word t s = block_sound program count begun rows (number_word word) t s
word_sound program None (NamesOf block) count begun rows word t s = name_sound program block count begun rows word s

pub sound_later : (program : Program) (state : BlockState) (word : List ℕ) → IsSoundBlockState program state → least (block_tests program state (word_said state.place word)) ≡ None → IsSoundBlockState program (state_with program state (word_said state.place word))
sound_later program state word s e =
    word_sound program (meaning_in keywords word) state.place state.count state.begun state.rows word
    (kept (block_tests program state (word_said state.place word)) e) s
