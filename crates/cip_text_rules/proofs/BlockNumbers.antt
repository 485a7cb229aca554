-- Lists of numbers, and which numbers stand in them.
use Rattle.std.proofs.Common.{◌≡◌, ℕ, zero, suc, ◌+◌, ◌<◌, ◌==◌, Bool, true, false, cond, ◌&&◌, ◌||◌, List, [], ◌∷◌, length, map, Option, refl, sym, ap, ◌∙◌, arith, get_or}
use Rattle.std.specs.Prelude.{nat_lt}
use Rattle.std.specs.List.{filter, list_any}
use Rattle.std.proofs.lemmas.Bool.{eq-eqb, eqb-true, false_from_ne_true, lt-ltb, or_from, or_left, and_from, or_right}
use Rattle.cip_problem.specs.Program.{Row, no_row}
use Rattle.cip_text_rules.proofs.Quiet.{left_false, right_false}
use Rattle.cip_problem.specs.BlockParts.{numbers_from, has_number, rows_where, is_block, stands_on, has_entry}
use Rattle.cip_rational.proofs.InRange.{both_left, both_right}

-- ---- one of so many

-- a number is below a count
abbrev pub within : (count k : ℕ) → Bool
within zero k = false
within (suc n) zero = true
within (suc n) (suc k) = within n k

pub within_below : (n k : ℕ) → within n k ≡ true → k < n
within_below zero k e = absurd (cc)
within_below (suc n) zero e = omega arith
within_below (suc n) (suc k) e = let h : k < n = within_below n k e in omega (arith, h)

pub below_within : (n k : ℕ) → k < n → within n k ≡ true
below_within zero k h = absurd (omega (arith, h))
below_within (suc n) zero h = refl
below_within (suc n) (suc k) h = below_within n k (omega (arith, h))

-- an item passes a test
abbrev pub passes_at : {X : Type 0} → (X → Bool) → List X → ℕ → Bool
passes_at test [] k = false
passes_at test (x ∷ xs) zero = test x
passes_at test (x ∷ xs) (suc k) = passes_at test xs k

pub passes_below : {X : Type 0} (test : X → Bool) (xs : List X) (k : ℕ) → passes_at test xs k ≡ true → k < length xs
passes_below test [] k e = absurd (cc)
passes_below test (x ∷ xs) zero e = omega arith
passes_below test (x ∷ xs) (suc k) e = let h : k < length xs = passes_below test xs k e in omega (arith, h)

pub passes_item : {X : Type 0} (test : X → Bool) (xs : List X) (k : ℕ) (d : X) → k < length xs → passes_at test xs k ≡ test (get_or xs k d)
passes_item test [] k d h = absurd (omega (arith, h))
passes_item test (x ∷ xs) zero d h = refl
passes_item test (x ∷ xs) (suc k) d h = passes_item test xs k d (omega (arith, h))

pub passes_map : {A X : Type 0} (f : A → X) (test : X → Bool) (xs : List A) (k : ℕ) → passes_at test (map f xs) k ≡ passes_at (λ x. test (f x)) xs k
passes_map f test [] k = refl
passes_map f test (x ∷ xs) zero = refl
passes_map f test (x ∷ xs) (suc k) = passes_map f test xs k

-- ---- tests

other_number : (a k : ℕ) → a < k → (a == k) ≡ false
other_number a k h = false_from_ne_true (a == k) (λ e. let q : a ≡ k = eqb-true a k e in omega (arith, h, q))

higher_number : (a k : ℕ) → k < a → (a == k) ≡ false
higher_number a k h = false_from_ne_true (a == k) (λ e. let q : a ≡ k = eqb-true a k e in omega (arith, h, q))

or_behind : (a b : Bool) → a ≡ false → (a || b) ≡ b
or_behind false b e = refl
or_behind true b e = absurd (cc)

-- ---- rows

rows_less : (test : Option ℕ → Bool) (a : ℕ) (bs : List (Option ℕ)) (k : ℕ) → k < a → has_number (rows_where test a bs) k ≡ false
rows_less test a [] k h = refl
rows_less test a (b ∷ bs) k h = go (test b) (rows_less test (a + 1) bs k (omega (arith, h)))
  where
    go : (t : Bool) → has_number (rows_where test (a + 1) bs) k ≡ false → has_number (cond t (a ∷ rows_where test (a + 1) bs) (rows_where test (a + 1) bs)) k ≡ false
    go true e = or_from (a == k) _ (higher_number a k h) e
    go false e = e

pub rows_at : (test : Option ℕ → Bool) (a : ℕ) (bs : List (Option ℕ)) (k : ℕ) → has_number (rows_where test a bs) (a + k) ≡ passes_at test bs k
rows_at test a [] k = refl
rows_at test a (b ∷ bs) zero = go (test b) (rows_less test (a + 1) bs (a + 0) (omega arith))
  where
    go : (t : Bool) → has_number (rows_where test (a + 1) bs) (a + 0) ≡ false → has_number (cond t (a ∷ rows_where test (a + 1) bs) (rows_where test (a + 1) bs)) (a + 0) ≡ t
    go true e = or_left (a == a + 0) _ (eq-eqb a (a + 0) (omega arith))
    go false e = e
rows_at test a (b ∷ bs) (suc k) = go (test b) (ap (has_number (rows_where test (a + 1) bs)) (add_suc a k) ∙ rows_at test (a + 1) bs k)
  where
    add_suc : (m n : ℕ) → m + suc n ≡ (m + 1) + n
    add_suc m n = omega arith

    go : (t : Bool) → has_number (rows_where test (a + 1) bs) (a + suc k) ≡ passes_at test bs k → has_number (cond t (a ∷ rows_where test (a + 1) bs) (rows_where test (a + 1) bs)) (a + suc k) ≡ passes_at test bs k
    go true e = or_behind (a == a + suc k) _ (other_number a (a + suc k) (omega arith)) ∙ e
    go false e = e

zero_add : (n : ℕ) → n ≡ 0 + n
zero_add n = omega arith

pub row_in : (test : Option ℕ → Bool) (bs : List (Option ℕ)) (k : ℕ) → has_number (rows_where test 0 bs) k ≡ passes_at test bs k
row_in test bs k = ap (has_number (rows_where test 0 bs)) (zero_add k) ∙ rows_at test 0 bs k

-- ---- numbers that pass a test

chosen_less : (p : ℕ → Bool) (a n k : ℕ) → k < a → has_number (filter p (numbers_from a n)) k ≡ false
chosen_less p a zero k h = refl
chosen_less p a (suc n) k h = go (p a) (chosen_less p (a + 1) n k (omega (arith, h)))
  where
    go : (t : Bool) → has_number (filter p (numbers_from (a + 1) n)) k ≡ false → has_number (cond t (a ∷ filter p (numbers_from (a + 1) n)) (filter p (numbers_from (a + 1) n))) k ≡ false
    go true e = or_from (a == k) _ (higher_number a k h) e
    go false e = e

chosen_at : (p : ℕ → Bool) (a n k : ℕ) → has_number (filter p (numbers_from a n)) (a + k) ≡ (within n k && p (a + k))
chosen_at p a zero k = refl
chosen_at p a (suc n) zero = go (p a) refl (chosen_less p (a + 1) n (a + 0) (omega arith))
  where
    same : a + 0 ≡ a
    same = omega arith

    go : (t : Bool) → p a ≡ t → has_number (filter p (numbers_from (a + 1) n)) (a + 0) ≡ false → has_number (cond t (a ∷ filter p (numbers_from (a + 1) n)) (filter p (numbers_from (a + 1) n))) (a + 0) ≡ p (a + 0)
    go true q e = or_left (a == a + 0) _ (eq-eqb a (a + 0) (sym same)) ∙ sym (ap p same ∙ q)
    go false q e = e ∙ sym (ap p same ∙ q)
chosen_at p a (suc n) (suc k) = go (p a) (ap (has_number (filter p (numbers_from (a + 1) n))) (add_suc a k) ∙ chosen_at p (a + 1) n k ∙ ap (λ x. within n k && p x) (sym (add_suc a k)))
  where
    add_suc : (m n : ℕ) → m + suc n ≡ (m + 1) + n
    add_suc m n = omega arith

    go : (t : Bool) → has_number (filter p (numbers_from (a + 1) n)) (a + suc k) ≡ (within n k && p (a + suc k)) → has_number (cond t (a ∷ filter p (numbers_from (a + 1) n)) (filter p (numbers_from (a + 1) n))) (a + suc k) ≡ (within n k && p (a + suc k))
    go true e = or_behind (a == a + suc k) _ (other_number a (a + suc k) (omega arith)) ∙ e
    go false e = e

pub chosen : (p : ℕ → Bool) (n k : ℕ) → has_number (filter p (numbers_from 0 n)) k ≡ (within n k && p k)
chosen p n k = ap (has_number (filter p (numbers_from 0 n))) (zero_add k) ∙ chosen_at p 0 n k ∙ ap (λ x. within n k && p x) (sym (zero_add k))

none_at : (p : ℕ → Bool) (a n k : ℕ) → list_any p (numbers_from a n) ≡ false → within n k ≡ true → p (a + k) ≡ false
none_at p a zero k e h = absurd (cc)
none_at p a (suc n) zero e h = ap p same ∙ left_false (p a) _ e
  where
    same : a + 0 ≡ a
    same = omega arith
none_at p a (suc n) (suc k) e h = ap p (add_suc a k) ∙ none_at p (a + 1) n k (right_false (p a) _ e) h
  where
    add_suc : (m n : ℕ) → m + suc n ≡ (m + 1) + n
    add_suc m n = omega arith

pub none_of : (p : ℕ → Bool) (n k : ℕ) → list_any p (numbers_from 0 n) ≡ false → within n k ≡ true → p k ≡ false
none_of p n k e h = ap p (zero_add k) ∙ none_at p 0 n k e h

-- ---- a list with an item for each number

parts_at : {X : Type 0} (f : ℕ → X) (d : X) (a n k : ℕ) → get_or (map f (numbers_from a n)) k d ≡ cond (within n k) (f (a + k)) d
parts_at f d a zero k = refl
parts_at f d a (suc n) zero = ap f same
  where
    same : a ≡ a + 0
    same = omega arith
parts_at f d a (suc n) (suc k) = parts_at f d (a + 1) n k ∙ ap (λ x. cond (within n k) (f x) d) (add_suc a k)
  where
    add_suc : (m n : ℕ) → (m + 1) + n ≡ m + suc n
    add_suc m n = omega arith

pub part_of : {X : Type 0} (f : ℕ → X) (d : X) (n k : ℕ) → get_or (map f (numbers_from 0 n)) k d ≡ cond (within n k) (f k) d
part_of f d n k = parts_at f d 0 n k ∙ ap (λ x. cond (within n k) (f x) d) (sym (zero_add k))

pub numbers_length : {X : Type 0} (f : ℕ → X) (a n : ℕ) → length (map f (numbers_from a n)) ≡ n
numbers_length f a zero = refl
numbers_length f a (suc n) = ap suc (numbers_length f (a + 1) n)

-- ---- lists with at most one number

pub not_empty : (xs : List ℕ) (k : ℕ) → has_number xs k ≡ true → nat_lt 0 (length xs) ≡ true
not_empty [] k e = absurd (cc)
not_empty (x ∷ xs) k e = lt-ltb 0 (length (x ∷ xs)) (omega arith)

pub empty_has : (xs : List ℕ) (k : ℕ) → nat_lt 0 (length xs) ≡ false → has_number xs k ≡ false
empty_has [] k e = refl
empty_has (x ∷ xs) k e = let p : nat_lt 0 (length (x ∷ xs)) ≡ true = lt-ltb 0 (length (x ∷ xs)) (omega arith) in absurd (cc)

or_not : (a : Bool) → (a || false) ≡ true → a ≡ true
or_not true e = refl
or_not false e = absurd (cc)

pub one_number : (xs : List ℕ) (b c : ℕ) → nat_lt 1 (length xs) ≡ false → has_number xs b ≡ true → has_number xs c ≡ true → b ≡ c
one_number [] b c e h k = absurd (cc)
one_number (x ∷ []) b c e h k = sym (eqb-true x b (or_not (x == b) h)) ∙ eqb-true x c (or_not (x == c) k)
one_number (x ∷ y ∷ xs) b c e h k = let p : nat_lt 1 (length (x ∷ y ∷ xs)) ≡ true = lt-ltb 1 (length (x ∷ y ∷ xs)) (omega arith) in absurd (cc)

-- ---- entries

-- a row of the block that has an entry of the column
pub record EntryAt (block column : ℕ) (bs : List (Option ℕ)) (rows : List Row) : Type 0 where
  pub row : ℕ
  pub of_block : passes_at (is_block block) bs row ≡ true
  pub entry : stands_on column (get_or rows row no_row) ≡ true

pub entry_found : (block column : ℕ) (bs : List (Option ℕ)) (rows : List Row) → has_entry block column bs rows ≡ true → EntryAt block column bs rows
entry_found block column [] rows e = absurd (cc)
entry_found block column (b ∷ bs) [] e = absurd (cc)
entry_found block column (b ∷ bs) (row ∷ rows) e = go (is_block block b && stands_on column row) refl e (entry_found block column bs rows)
  where
    go : (t : Bool) → (is_block block b && stands_on column row) ≡ t → (t || has_entry block column bs rows) ≡ true → (has_entry block column bs rows ≡ true → EntryAt block column bs rows) → EntryAt block column (b ∷ bs) (row ∷ rows)
    go true p e h = record { row = 0; of_block = both_left (is_block block b) (stands_on column row) p; entry = both_right (is_block block b) (stands_on column row) p }
    go false p e h = let r = h e in record { row = suc r.row; of_block = r.of_block; entry = r.entry }

pub entry_there : (block column : ℕ) (bs : List (Option ℕ)) (rows : List Row) (k : ℕ) → passes_at (is_block block) bs k ≡ true → stands_on column (get_or rows k no_row) ≡ true → has_entry block column bs rows ≡ true
entry_there block column [] rows k h e = absurd (cc)
entry_there block column (b ∷ bs) [] k h e = absurd (nothing k e)
  where
    nothing : (n : ℕ) → stands_on column (get_or [] n no_row) ≡ true → ⊥
    nothing zero e = cc
    nothing (suc n) e = cc
entry_there block column (b ∷ bs) (row ∷ rows) zero h e = or_left (is_block block b && stands_on column row) _ (and_from (is_block block b) (stands_on column row) h e)
entry_there block column (b ∷ bs) (row ∷ rows) (suc k) h e = or_right (is_block block b && stands_on column row) _ (entry_there block column bs rows k h e)
