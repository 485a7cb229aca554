-- Rows whose numbers stand in groups.
use Rattle.std.proofs.Common.{◌≡◌, ◌≢◌, ℕ, zero, suc, ◌+◌, ◌*◌, ◌/◌, ◌%◌, ◌<◌, ◌≤◌, ◌==◌, Bool, true, false, List, [], ◌∷◌, ◌++◌, length, take, Some, refl, sym, ap, subst, ◌∙◌, arith}
use Rattle.std.specs.Prelude.{nat_lt, slice_index_or, slice_set}
use Rattle.std.proofs.lemmas.List.{get_or-set_same, get_or-set_other, length-append}
use Rattle.std.proofs.Math.ListN.{length-set}
use Rattle.std.proofs.lemmas.Bool.{and_from, and_parts, lt-ltb, ltb-true, ltb-false, ne_eqb, eqb-true, eqb-false}
use Rattle.cip_rational.specs.Rational.{ℚ}
use Rattle.cip_text_rules.specs.MpsWords.{RowKind}
use Rattle.cip_text_rules.specs.MpsState.{Held, RowRead, no_row}
use Rattle.cip_text_rules.specs.MpsSteps.{changed, new_row, with_held}
use Rattle.cip_text_rules.specs.MpsSoundState.{held_below}
use Rattle.cip_mps.specs.Entries.{Entry, numbers_of}
use Rattle.cip_mps.specs.Tables.{numbers_at, with_numbers, rows_of, IsSoundTable}
use Rattle.cip_mps.proofs.Places.{at_length, at_same, at_index, at_change, at_other, at_push, at_take}
use Rattle.cip_mps.proofs.Numbers.{numbers_own, numbers_other}
use Rattle.cip_model.proofs.GroupLaws.{length_front}

-- ---- reads

-- a number of a row is that of a head, and it has a group
pub within : (heads : List RowRead) (groups : List (List Entry)) (rows : List RowRead) (number : ℕ) → rows_of heads groups ≡ rows → number < length rows → number < length heads
within heads groups rows number v l =
    let same : length rows ≡ length heads = sym (ap length v) ∙ at_length (λ number. with_numbers (numbers_at groups number)) heads in
    omega (arith, same, l)

pub has_group : (heads : List RowRead) (groups : List (List Entry)) (rows : List RowRead) (number : ℕ) → rows_of heads groups ≡ rows → number < length rows → length heads ≤ 64 * length groups → number / 64 < length groups
has_group heads groups rows number v l enough = let m : number < length heads = within heads groups rows number v l in omega (arith, m, enough)

-- an item that was read has any default
pub read_at : {X : Type 0} (xs : List X) (k : ℕ) (x d : X) → k < length xs → x ≡ slice_index_or xs k x → x ≡ slice_index_or xs k d
read_at [] k x d l e = absurd (omega (arith, l))
read_at (y ∷ ys) zero x d l e = e
read_at (y ∷ ys) (suc k) x d l e = read_at ys k x d (omega (arith, l)) e

-- a row, by its head
pub row_is : (heads : List RowRead) (groups : List (List Entry)) (rows : List RowRead) (number : ℕ) (head : RowRead) → rows_of heads groups ≡ rows → number < length rows → head ≡ slice_index_or heads number head
    → slice_index_or rows number no_row ≡ with_numbers (numbers_at groups number) head
row_is heads groups rows number head v l e =
    let m : number < length heads = within heads groups rows number v l in
    sym (ap (λ rs. slice_index_or rs number no_row) v) ∙ at_index (λ number. with_numbers (numbers_at groups number)) heads number no_row no_row m
    ∙ ap (with_numbers (numbers_at groups number)) (sym (read_at heads number head no_row m e))

-- its numbers, by its group
pub held_is : (heads : List RowRead) (groups : List (List Entry)) (rows : List RowRead) (number : ℕ) (group : List Entry) → rows_of heads groups ≡ rows → number < length rows → length heads ≤ 64 * length groups
    → group ≡ slice_index_or groups (number / 64) group → (slice_index_or rows number no_row).held ≡ numbers_of (number % 64) group
held_is heads groups rows number group v l enough e =
    let m : number < length heads = within heads groups rows number v l in
    ap (λ r. r.held) (sym (ap (λ rs. slice_index_or rs number no_row) v) ∙ at_index (λ number. with_numbers (numbers_at groups number)) heads number no_row no_row m)
    ∙ ap (numbers_of (number % 64)) (sym (read_at groups (number / 64) group [] (has_group heads groups rows number v l enough) e))

pub rows_length : (heads : List RowRead) (groups : List (List Entry)) (rows : List RowRead) → rows_of heads groups ≡ rows → length rows ≡ length heads
rows_length heads groups rows v = sym (ap length v) ∙ at_length (λ number. with_numbers (numbers_at groups number)) heads

-- its numbers
pub numbers_are : (heads : List RowRead) (groups : List (List Entry)) (rows : List RowRead) (number : ℕ) → rows_of heads groups ≡ rows → number < length rows → (slice_index_or rows number no_row).held ≡ numbers_at groups number
numbers_are heads groups rows number v l =
    ap (λ (r : RowRead). r.held) (sym (ap (λ rs. slice_index_or rs number no_row) v) ∙ at_index (λ number. with_numbers (numbers_at groups number)) heads number no_row no_row (within heads groups rows number v l))

-- ---- a group more

pub same_rows : (heads : List RowRead) (groups others : List (List Entry)) → ((row : ℕ) → numbers_at others row ≡ numbers_at groups row) → rows_of heads others ≡ rows_of heads groups
same_rows heads groups others h =
    at_same (λ number. with_numbers (numbers_at others number)) (λ number. with_numbers (numbers_at groups number)) heads (λ k x _. ap (λ held. with_numbers held x) (h k))

-- ---- rows at the end

pub nothing_below : (held : List Held) → held_below 0 held ≡ true → held ≡ []
nothing_below [] e = refl
nothing_below (h ∷ hs) e = absurd (let l : h.column < 0 = ltb-true h.column 0 (and_parts (nat_lt h.column 0) (held_below 0 hs) e).0 in omega (arith, l))

past_end : (xs : List ℕ) (k : ℕ) → length xs ≤ k → slice_index_or xs k 0 ≡ 0
past_end [] k l = refl
past_end (x ∷ xs) zero l = absurd (omega (arith, l))
past_end (x ∷ xs) (suc k) l = past_end xs k (omega (arith, l))

-- a row that isn't there has no numbers
pub none_past : (held_to : List ℕ) (heads : List RowRead) (groups : List (List Entry)) (row : ℕ) → IsSoundTable held_to heads groups → length heads ≤ row → numbers_at groups row ≡ []
none_past held_to heads groups row s l =
    let m : length held_to ≤ row = omega (arith, l, s.as_many) in
    nothing_below (numbers_at groups row) (subst (λ (n : ℕ). held_below n (numbers_at groups row) ≡ true) (past_end held_to row m) (s.below row))

pub rows_pushed : (held_to : List ℕ) (heads : List RowRead) (groups others : List (List Entry)) (kind : RowKind) → IsSoundTable held_to heads groups → ((row : ℕ) → numbers_at others row ≡ numbers_at groups row)
    → rows_of (heads ++ new_row kind ∷ []) others ≡ rows_of heads groups ++ new_row kind ∷ []
rows_pushed held_to heads groups others kind s h =
    let none : numbers_at groups (length heads) ≡ [] = none_past held_to heads groups (length heads) s (omega arith) in
    same_rows (heads ++ new_row kind ∷ []) groups others h ∙ at_push (λ number. with_numbers (numbers_at groups number)) heads (new_row kind)
    ∙ ap (λ held. rows_of heads groups ++ with_numbers held (new_row kind) ∷ []) none

zero_pushed : (xs : List ℕ) (k : ℕ) → slice_index_or (xs ++ 0 ∷ []) k 0 ≡ slice_index_or xs k 0
zero_pushed [] zero = refl
zero_pushed [] (suc k) = refl
zero_pushed (x ∷ xs) zero = refl
zero_pushed (x ∷ xs) (suc k) = zero_pushed xs k

pub sound_others : (held_to : List ℕ) (heads : List RowRead) (groups others : List (List Entry)) → IsSoundTable held_to heads groups → ((row : ℕ) → numbers_at others row ≡ numbers_at groups row) → length heads ≤ 64 * length others → IsSoundTable held_to heads others
sound_others held_to heads groups others s h l =
    record { as_many = s.as_many; enough = l; below = λ row. ap (held_below (slice_index_or held_to row 0)) (h row) ∙ s.below row }

pub sound_pushed : (held_to : List ℕ) (heads : List RowRead) (groups others : List (List Entry)) (head : RowRead) → IsSoundTable held_to heads groups → ((row : ℕ) → numbers_at others row ≡ numbers_at groups row) → length heads < 64 * length others → IsSoundTable (held_to ++ 0 ∷ []) (heads ++ head ∷ []) others
sound_pushed held_to heads groups others head s h l = record {
  as_many = omega (arith, length-append held_to (0 ∷ []), length-append heads (head ∷ []), s.as_many);
  enough = omega (arith, length-append heads (head ∷ []), l);
  below = λ row. ap (λ n. held_below n (numbers_at others row)) (zero_pushed held_to row) ∙ ap (held_below (slice_index_or held_to row 0)) (h row) ∙ s.below row;
}

-- lists that are the same
pub sound_kept : (held_to held_to2 : List ℕ) (heads heads2 : List RowRead) (groups : List (List Entry)) → held_to2 ≡ held_to → heads2 ≡ heads → IsSoundTable held_to heads groups → IsSoundTable held_to2 heads2 groups
sound_kept held_to held_to2 heads heads2 groups p q s =
    subst (λ (hs : List RowRead). IsSoundTable held_to2 hs groups) (sym q) (subst (λ (ns : List ℕ). IsSoundTable ns heads groups) (sym p) s)

-- ---- a number more

below_pushed : (column : ℕ) (value : ℚ) (held : List Held) → held_below column held ≡ true → held_below (column + 1) (held ++ record { column = column; value = value } ∷ []) ≡ true
below_pushed column value [] b = and_from (nat_lt column (column + 1)) true (lt-ltb column (column + 1) (omega arith)) refl
below_pushed column value (h ∷ hs) b =
    let a = and_parts (nat_lt h.column column) (held_below column hs) b in
    let d : h.column < column = ltb-true h.column column a.0 in
    and_from (nat_lt h.column (column + 1)) (held_below (column + 1) (hs ++ record { column = column; value = value } ∷ [])) (lt-ltb h.column (column + 1) (omega (arith, d))) (below_pushed column value hs a.1)

-- a number of the row of this number, behind those of its group
abbrev pub with_entry : ℕ → ℕ → ℚ → List (List Entry) → List (List Entry)
with_entry number column value groups =
    slice_set groups (number / 64) (slice_index_or groups (number / 64) [] ++ record { row = number % 64; held = record { column = column; value = value } } ∷ [])

entry_own : (number column : ℕ) (value : ℚ) (groups : List (List Entry)) → number / 64 < length groups → numbers_at (with_entry number column value groups) number ≡ numbers_at groups number ++ record { column = column; value = value } ∷ []
entry_own number column value groups l =
    let e : Entry = record { row = number % 64; held = record { column = column; value = value } } in
    let g : List Entry = slice_index_or groups (number / 64) [] in
    ap (numbers_of (number % 64)) (get_or-set_same groups (number / 64) (g ++ e ∷ []) [] l) ∙ numbers_own g e

entry_else : (number column : ℕ) (value : ℚ) (groups : List (List Entry)) (row : ℕ) → number / 64 < length groups → row ≢ number → numbers_at (with_entry number column value groups) row ≡ numbers_at groups row
entry_else number column value groups row l n = go (row / 64 == number / 64) refl
  where
    e : Entry
    e = record { row = number % 64; held = record { column = column; value = value } }

    g : List Entry
    g = slice_index_or groups (number / 64) []

    go : (b : Bool) → (row / 64 == number / 64) ≡ b → numbers_at (with_entry number column value groups) row ≡ numbers_at groups row
    go true q =
        let here : row / 64 ≡ number / 64 = eqb-true (row / 64) (number / 64) q in
        let other : (number % 64 == row % 64) ≡ false = ne_eqb (number % 64) (row % 64) (λ p. n (omega (arith, p, here))) in
        ap (λ k. numbers_of (row % 64) (slice_index_or (with_entry number column value groups) k [])) here
        ∙ ap (numbers_of (row % 64)) (get_or-set_same groups (number / 64) (g ++ e ∷ []) [] l) ∙ numbers_other (row % 64) g e other
        ∙ ap (λ k. numbers_of (row % 64) (slice_index_or groups k [])) (sym here)
    go false q =
        let there : row / 64 ≢ number / 64 = eqb-false (row / 64) (number / 64) q in
        ap (numbers_of (row % 64)) (get_or-set_other groups (number / 64) (row / 64) (g ++ e ∷ []) [] there)

pub group_pushed : (groups : List (List Entry)) (k : ℕ) (old new : List Entry) (e : Entry) → k < length groups → old ≡ slice_index_or groups k old → new ≡ old ++ e ∷ [] → new ≡ slice_index_or groups k [] ++ e ∷ []
group_pushed groups k old new e l same more = more ∙ ap (λ (g : List Entry). g ++ e ∷ []) (read_at groups k old [] l same)

pub rows_held : (number column : ℕ) (value : ℚ) (heads : List RowRead) (groups : List (List Entry)) → number < length heads → number / 64 < length groups → rows_of heads (with_entry number column value groups) ≡ changed no_row (rows_of heads groups) (Some number) (with_held column value)
rows_held number column value heads groups l m =
    let f : ℕ → RowRead → RowRead = λ row. with_numbers (numbers_at groups row) in
    let g : ℕ → RowRead → RowRead = λ row. with_numbers (numbers_at (with_entry number column value groups) row) in
    let head : RowRead = slice_index_or heads number no_row in
    at_other f g heads number no_row l (λ row x n. ap (λ held. with_numbers held x) (entry_else number column value groups row m n))
    ∙ ap (slice_set (rows_of heads groups) number)
    (ap (λ held. with_numbers held head) (entry_own number column value groups m) ∙ ap (with_held column value) (sym (at_index f heads number no_row no_row l)))

pub sound_held : (number column : ℕ) (value : ℚ) (held_to : List ℕ) (heads : List RowRead) (groups : List (List Entry)) → IsSoundTable held_to heads groups → number < length heads → held_below column (numbers_at groups number) ≡ true
    → IsSoundTable (slice_set held_to number (column + 1)) heads (with_entry number column value groups)
sound_held number column value held_to heads groups s l b = record {
  as_many = length-set held_to number (column + 1) ∙ s.as_many;
  enough = subst (λ (n : ℕ). length heads ≤ 64 * n) (sym (length-set groups (number / 64) _)) s.enough;
  below = λ row. go row (row == number) refl;
}
  where
    m : number / 64 < length groups
    m = let h = s.enough in omega (arith, l, h)

    n : number < length held_to
    n = let h = s.as_many in omega (arith, l, h)

    go : (row : ℕ) (t : Bool) → (row == number) ≡ t → held_below (slice_index_or (slice_set held_to number (column + 1)) row 0) (numbers_at (with_entry number column value groups) row) ≡ true
    go row true q =
        subst (λ (k : ℕ). held_below (slice_index_or (slice_set held_to number (column + 1)) k 0) (numbers_at (with_entry number column value groups) k) ≡ true) (sym (eqb-true row number q))
        (ap (λ k. held_below k (numbers_at (with_entry number column value groups) number)) (get_or-set_same held_to number (column + 1) 0 n)
        ∙ ap (held_below (column + 1)) (entry_own number column value groups m) ∙ below_pushed column value (numbers_at groups number) b)
    go row false q =
        let other : row ≢ number = eqb-false row number q in
        ap (λ k. held_below k (numbers_at (with_entry number column value groups) row)) (get_or-set_other held_to number row (column + 1) 0 other)
        ∙ ap (held_below (slice_index_or held_to row 0)) (entry_else number column value groups row m other) ∙ s.below row

-- ---- a row less

pub rows_popped : (heads : List RowRead) (groups : List (List Entry)) (n : ℕ) → rows_of (take n heads) groups ≡ take n (rows_of heads groups)
rows_popped heads groups n = at_take (λ number. with_numbers (numbers_at groups number)) heads n

take_index : (xs : List ℕ) (n row : ℕ) → row < n → slice_index_or (take n xs) row 0 ≡ slice_index_or xs row 0
take_index xs zero row l = absurd (omega (arith, l))
take_index [] (suc n) row l = refl
take_index (x ∷ xs) (suc n) zero l = refl
take_index (x ∷ xs) (suc n) (suc row) l = take_index xs n row (omega (arith, l))

-- the last row has no numbers
pub last_is_empty : (heads : List RowRead) (groups : List (List Entry)) (n : ℕ) → n < length heads → (slice_index_or (rows_of heads groups) n no_row).held ≡ [] → numbers_at groups n ≡ []
last_is_empty heads groups n l e =
    ap (λ (r : RowRead). r.held) (sym (at_index (λ number. with_numbers (numbers_at groups number)) heads n no_row no_row l)) ∙ e

pub sound_popped : (held_to : List ℕ) (heads : List RowRead) (groups : List (List Entry)) (n : ℕ) → IsSoundTable held_to heads groups → n + 1 ≡ length heads → numbers_at groups n ≡ [] → IsSoundTable (take n held_to) (take n heads) groups
sound_popped held_to heads groups n s l e = record {
  as_many = length_front held_to n (let m = s.as_many in omega (arith, l, m)) ∙ sym (length_front heads n (omega (arith, l)));
  enough = let m = length_front heads n (omega (arith, l)) in let h = s.enough in omega (arith, l, m, h);
  below = λ row. go row (nat_lt row n) refl;
}
  where
    none : (row : ℕ) → (nat_lt row n ≡ false) → numbers_at groups row ≡ []
    none row q = past (row == n) refl
      where
        past : (b : Bool) → (row == n) ≡ b → numbers_at groups row ≡ []
        past true p = subst (λ (k : ℕ). numbers_at groups k ≡ []) (sym (eqb-true row n p)) e
        past false p = none_past held_to heads groups row s (let d = eqb-false row n p in let m = ltb-false row n q in omega (arith, l, m, d))

    go : (row : ℕ) (b : Bool) → nat_lt row n ≡ b → held_below (slice_index_or (take n held_to) row 0) (numbers_at groups row) ≡ true
    go row true q = ap (λ k. held_below k (numbers_at groups row)) (take_index held_to n row (ltb-true row n q)) ∙ s.below row
    go row false q = ap (held_below (slice_index_or (take n held_to) row 0)) (none row q)

-- ---- a head that has changed

pub rows_changed : (heads : List RowRead) (groups : List (List Entry)) (number : ℕ) (head : RowRead) (f : RowRead → RowRead) → number < length heads
    → with_numbers (numbers_at groups number) head ≡ f (with_numbers (numbers_at groups number) (slice_index_or heads number no_row))
    → rows_of (slice_set heads number head) groups ≡ changed no_row (rows_of heads groups) (Some number) f
rows_changed heads groups number head f l e =
    let g : ℕ → RowRead → RowRead = λ row. with_numbers (numbers_at groups row) in
    at_change g heads number head
    ∙ ap (slice_set (rows_of heads groups) number) (e ∙ ap f (sym (at_index g heads number no_row no_row l)))

-- a group that is as it was
pub group_same : (groups : List (List Entry)) (k : ℕ) (now new : List Entry) → k < length groups → now ≡ slice_index_or groups k now → new ≡ now → slice_set groups k new ≡ groups
group_same [] k now new l e p = absurd (omega (arith, l))
group_same (g ∷ gs) zero now new l e p = ap (λ x. x ∷ gs) (p ∙ e)
group_same (g ∷ gs) (suc k) now new l e p = ap (λ xs. g ∷ xs) (group_same gs k now new (omega (arith, l)) e p)
