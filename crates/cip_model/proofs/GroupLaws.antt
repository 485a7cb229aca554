-- Numbers by groups, and blocks by their rows and columns.
use Rattle.std.proofs.Common.{◌≡◌, ℕ, zero, suc, ◌+◌, ◌<◌, ◌≤◌, ◌==◌, Bool, true, false, cond, List, [], ◌∷◌, ◌++◌, length, map, take, Option, None, Some, Vec, Global, refl, sym, ap, subst, ◌∙◌, get_or, arith, add-zero}
use Rattle.std.specs.Prelude.{slice_set, slice_index_or, replicate, is_none, All, IfSome}
use Rattle.std.proofs.lemmas.Bool.{eqb-true, eq-eqb, false_from_ne_true}
use Rattle.std.proofs.lemmas.List.{append-nil, length-take-le, take_more}
use Rattle.std.proofs.lemmas.List.Elements.{All-get_or}
use Rattle.cip_problem.specs.BlockParts.{numbers_from, is_block, rows_where, grouped, parts_of}
use Rattle.cip_problem.specs.BlockMeaning.{no_part}
use Rattle.cip_model.specs.NumberLists.{lists_of}

-- ---- lists of numbers

pub lists_set : (groups : List (Vec ℕ Global)) (k : ℕ) (v : Vec ℕ Global) → lists_of (slice_set groups k v) ≡ slice_set (lists_of groups) k v.items
lists_set [] k v = refl
lists_set (g ∷ groups) zero v = refl
lists_set (g ∷ groups) (suc k) v = ap (λ ls. g.items ∷ ls) (lists_set groups k v)

pub list_at : (groups : List (Vec ℕ Global)) (k : ℕ) (v : Vec ℕ Global) → k < length groups → v ≡ slice_index_or groups k v → v.items ≡ slice_index_or (lists_of groups) k []
list_at [] k v l e = absurd (omega (arith, l))
list_at (g ∷ groups) zero v l e = ap (λ (x : Vec ℕ Global). x.items) e
list_at (g ∷ groups) (suc k) v l e = list_at groups k v (omega (arith, l)) e

pub lists_length : (groups : List (Vec ℕ Global)) → length (lists_of groups) ≡ length groups
lists_length [] = refl
lists_length (g ∷ groups) = ap suc (lists_length groups)

-- one empty group more
pub one_more : {X : Type 0} (n : ℕ) (x : X) → replicate n x ++ x ∷ [] ≡ replicate (n + 1) x
one_more n x = go n ∙ ap (λ m. replicate m x) (add_one n)
  where
    add_one : (m : ℕ) → suc m ≡ m + 1
    add_one m = omega arith

    go : (m : ℕ) → replicate m x ++ x ∷ [] ≡ replicate (suc m) x
    go zero = refl
    go (suc m) = ap (λ xs. x ∷ xs) (go m)

-- ---- blocks by rows and columns

pub parts_length : (rows columns : List (List ℕ)) → length rows ≡ length columns → length (parts_of rows columns) ≡ length rows
parts_length [] columns e = refl
parts_length (r ∷ rows) [] e = absurd (omega (arith, e))
parts_length (r ∷ rows) (c ∷ columns) e = ap suc (parts_length rows columns (omega (arith, e)))

pub rows_at : (rows columns : List (List ℕ)) (k : ℕ) → length rows ≡ length columns → k < length rows → (slice_index_or (parts_of rows columns) k no_part).rows ≡ slice_index_or rows k []
rows_at [] columns k e l = absurd (omega (arith, l))
rows_at (r ∷ rows) [] k e l = absurd (omega (arith, e))
rows_at (r ∷ rows) (c ∷ columns) zero e l = refl
rows_at (r ∷ rows) (c ∷ columns) (suc k) e l = rows_at rows columns k (omega (arith, e)) (omega (arith, l))

pub columns_at : (rows columns : List (List ℕ)) (k : ℕ) → length rows ≡ length columns → k < length rows → (slice_index_or (parts_of rows columns) k no_part).columns ≡ slice_index_or columns k []
columns_at [] columns k e l = absurd (omega (arith, l))
columns_at (r ∷ rows) [] k e l = absurd (omega (arith, e))
columns_at (r ∷ rows) (c ∷ columns) zero e l = refl
columns_at (r ∷ rows) (c ∷ columns) (suc k) e l = columns_at rows columns k (omega (arith, e)) (omega (arith, l))

-- ---- one number more

-- the numbers that pass a test, with one item more
pub rows_last : (test : Option ℕ → Bool) (first : ℕ) (xs : List (Option ℕ)) (y : Option ℕ) → rows_where test first (xs ++ y ∷ []) ≡ rows_where test first xs ++ cond (test y) ((first + length xs) ∷ []) []
rows_last test first [] y = ap (λ n. cond (test y) (n ∷ []) []) (sym (add-zero first))
rows_last test first (x ∷ xs) y = go (test x) (rows_last test (first + 1) xs y)
  where
    count : first + 1 + length xs ≡ first + suc (length xs)
    count = omega arith

    go : (b : Bool) → rows_where test (first + 1) (xs ++ y ∷ []) ≡ rows_where test (first + 1) xs ++ cond (test y) ((first + 1 + length xs) ∷ []) []
        → cond b (first ∷ rows_where test (first + 1) (xs ++ y ∷ [])) (rows_where test (first + 1) (xs ++ y ∷ [])) ≡ cond b (first ∷ rows_where test (first + 1) xs) (rows_where test (first + 1) xs) ++ cond (test y) ((first + suc (length xs)) ∷ []) []
    go true h = ap (λ l. first ∷ l) (h ∙ ap (λ n. rows_where test (first + 1) xs ++ cond (test y) (n ∷ []) []) count)
    go false h = h ∙ ap (λ n. rows_where test (first + 1) xs ++ cond (test y) (n ∷ []) []) count

map_from : {X : Type 0} (f h : ℕ → X) (first n : ℕ) → ((k : ℕ) → first ≤ k → f k ≡ h k) → map f (numbers_from first n) ≡ map h (numbers_from first n)
map_from f h first zero e = refl
map_from f h first (suc n) e = ap (λ x. x ∷ map f (numbers_from (first + 1) n)) (e first (omega arith)) ∙ ap (λ xs. h first ∷ xs) (map_from f h (first + 1) n (λ k l. e k (omega (arith, l))))

-- the group of a number
group_at : (f : ℕ → List ℕ) (first n g : ℕ) → g < n → slice_index_or (map f (numbers_from first n)) g [] ≡ f (first + g)
group_at f first zero g l = absurd (omega (arith, l))
group_at f first (suc n) zero l = ap f (sym (add-zero first))
group_at f first (suc n) (suc g) l = group_at f (first + 1) n g (omega (arith, l)) ∙ ap f (count first g)
  where
    count : (a b : ℕ) → a + 1 + b ≡ a + suc b
    count a b = omega arith

-- one group is changed
group_set : (f h : ℕ → List ℕ) (first n g : ℕ) (v : List ℕ) → g < n → h (first + g) ≡ v → ((k : ℕ) → (k ≡ first + g → ⊥) → f k ≡ h k) → slice_set (map f (numbers_from first n)) g v ≡ map h (numbers_from first n)
group_set f h first zero g v l e other = absurd (omega (arith, l))
group_set f h first (suc n) zero v l e other =
    ap (λ x. x ∷ map f (numbers_from (first + 1) n)) (sym e ∙ ap h (add-zero first))
    ∙ ap (λ xs. h first ∷ xs) (map_from f h (first + 1) n (λ k l. other k (λ same. absurd (omega (arith, l, same)))))
group_set f h first (suc n) (suc g) v l e other =
    ap (λ x. x ∷ slice_set (map f (numbers_from (first + 1) n)) g v) (other first (λ same. absurd (omega (arith, same))))
    ∙ ap (λ xs. h first ∷ xs) (group_set f h (first + 1) n g v (omega (arith, l)) (ap h (count first g) ∙ e) (λ k ne. other k (λ same. ne (same ∙ sym (count first g)))))
  where
    count : (a b : ℕ) → a + 1 + b ≡ a + suc b
    count a b = omega arith

-- a number of no group
pub grouped_none : (count : ℕ) (xs : List (Option ℕ)) → grouped count xs ≡ grouped count (xs ++ None ∷ [])
grouped_none count xs = map_from (λ b. rows_where (is_block b) 0 xs) (λ b. rows_where (is_block b) 0 (xs ++ None ∷ [])) 0 count (λ k l. sym (rows_last (is_block k) 0 xs None ∙ append-nil (rows_where (is_block k) 0 xs)))

-- a number of a group
pub grouped_some : (count : ℕ) (xs : List (Option ℕ)) (g n : ℕ) → g < count → length xs ≡ n → slice_set (grouped count xs) g (slice_index_or (grouped count xs) g [] ++ n ∷ []) ≡ grouped count (xs ++ Some g ∷ [])
grouped_some count xs g n l e =
    group_set (λ b. rows_where (is_block b) 0 xs) (λ b. rows_where (is_block b) 0 (xs ++ Some g ∷ [])) 0 count g (slice_index_or (grouped count xs) g [] ++ n ∷ []) l here other
  where
    none : (k : ℕ) → 0 + k ≡ k
    none k = omega arith

    here : rows_where (is_block (0 + g)) 0 (xs ++ Some g ∷ []) ≡ slice_index_or (grouped count xs) g [] ++ n ∷ []
    here =
        rows_last (is_block (0 + g)) 0 xs (Some g)
        ∙ ap (λ b. rows_where (is_block (0 + g)) 0 xs ++ cond b ((0 + length xs) ∷ []) []) (eq-eqb g (0 + g) (sym (none g)))
        ∙ ap (λ m. rows_where (is_block (0 + g)) 0 xs ++ m ∷ []) (none (length xs) ∙ e)
        ∙ ap (λ ls. ls ++ n ∷ []) (sym (group_at (λ b. rows_where (is_block b) 0 xs) 0 count g l))

    other : (k : ℕ) → (k ≡ 0 + g → ⊥) → rows_where (is_block k) 0 xs ≡ rows_where (is_block k) 0 (xs ++ Some g ∷ [])
    other k ne =
        sym (rows_last (is_block k) 0 xs (Some g)
        ∙ ap (λ b. rows_where (is_block k) 0 xs ++ cond b ((0 + length xs) ∷ []) []) (false_from_ne_true (g == k) (λ t. absurd (ne (sym (eqb-true g k t) ∙ sym (none g)))))
        ∙ append-nil (rows_where (is_block k) 0 xs))

-- before the first number
pub grouped_first : (count : ℕ) → replicate count [] ≡ grouped count []
grouped_first count = go 0 count
  where
    go : (first n : ℕ) → ◌≡◌ {A = List (List ℕ)} (replicate n []) (map (λ b. rows_where (is_block b) 0 []) (numbers_from first n))
    go first zero = refl
    go first (suc n) = ap (λ xs. [] ∷ xs) (go (first + 1) n)

-- ---- steps

pub length_front : {X : Type 0} (xs : List X) (n : ℕ) → n ≤ length xs → length (take n xs) ≡ n
length_front xs n l = length-take-le n xs l

pub step_none : (count : ℕ) (owners : List (Option ℕ)) (n : ℕ) (lists new_lists : List (List ℕ)) (rest new_rest : List ℕ) → n < length owners → get_or owners n None ≡ None → lists ≡ grouped count (take n owners) → rest ≡ rows_where is_none 0 (take n owners)
    → new_lists ≡ lists → new_rest ≡ rest ++ n ∷ [] → (new_lists ≡ grouped count (take (n + 1) owners)) × (new_rest ≡ rows_where is_none 0 (take (n + 1) owners))
step_none count owners n lists new_lists rest new_rest l o e f g h =
    let more : take (n + 1) owners ≡ take n owners ++ None ∷ [] = take_more owners n None l ∙ ap (λ x. take n owners ++ x ∷ []) o in
    let counted : 0 + length (take n owners) ≡ n = let k : length (take n owners) ≡ n = length_front owners n (omega (arith, l)) in omega (arith, k) in (
      g ∙ e ∙ grouped_none count (take n owners) ∙ ap (grouped count) (sym more),
      h ∙ ap (λ r. r ++ n ∷ []) f ∙ ap (λ m. rows_where is_none 0 (take n owners) ++ m ∷ []) (sym counted) ∙ sym (rows_last is_none 0 (take n owners) None) ∙ ap (rows_where is_none 0) (sym more),
    )

pub step_some : (count : ℕ) (owners : List (Option ℕ)) (n g : ℕ) (lists new_lists : List (List ℕ)) (rest new_rest : List ℕ) → n < length owners → get_or owners n None ≡ Some g → g < count → lists ≡ grouped count (take n owners) → rest ≡ rows_where is_none 0 (take n owners)
    → new_lists ≡ slice_set lists g (slice_index_or lists g [] ++ n ∷ []) → new_rest ≡ rest → (new_lists ≡ grouped count (take (n + 1) owners)) × (new_rest ≡ rows_where is_none 0 (take (n + 1) owners))
step_some count owners n g lists new_lists rest new_rest l o b e f put h =
    let more : take (n + 1) owners ≡ take n owners ++ Some g ∷ [] = take_more owners n None l ∙ ap (λ x. take n owners ++ x ∷ []) o in
    let counted : length (take n owners) ≡ n = length_front owners n (omega (arith, l)) in (
      put ∙ ap (λ ls. slice_set ls g (slice_index_or ls g [] ++ n ∷ [])) e ∙ grouped_some count (take n owners) g n b counted ∙ ap (grouped count) (sym more),
      h ∙ f ∙ sym (append-nil (rows_where is_none 0 (take n owners))) ∙ sym (rows_last is_none 0 (take n owners) (Some g)) ∙ ap (rows_where is_none 0) (sym more),
    )

-- each group is one of so many
pub below_at : (count n g : ℕ) (owners : List (Option ℕ)) → All (λ owner. IfSome owner (λ group. group < count)) owners → n < length owners → get_or owners n None ≡ Some g → g < count
below_at count n g owners all l e = let h = subst (λ (o : Option ℕ). IfSome o (λ group. group < count)) e (All-get_or (λ o. IfSome o (λ group. group < count)) owners n None l all) in h

pub many : (count : ℕ) (groups : List (Vec ℕ Global)) (owners : List (Option ℕ)) → lists_of groups ≡ grouped count owners → length groups ≡ count
many count groups owners e = sym (lists_length groups) ∙ ap length e ∙ length_grouped 0 count
  where
    length_grouped : (first n : ℕ) → length (map (λ b. rows_where (is_block b) 0 owners) (numbers_from first n)) ≡ n
    length_grouped first zero = refl
    length_grouped first (suc n) = ap suc (length_grouped (first + 1) n)

-- ---- blocks as they are kept

pub counted : (rows columns : List (Vec ℕ Global)) → length rows ≡ length columns → length (parts_of (lists_of rows) (lists_of columns)) ≡ length rows
counted rows columns e = parts_length (lists_of rows) (lists_of columns) (lists_length rows ∙ e ∙ sym (lists_length columns)) ∙ lists_length rows

pub rows_kept : (rows columns : List (Vec ℕ Global)) (k : ℕ) (v : Vec ℕ Global) → length rows ≡ length columns → k < length rows → v ≡ slice_index_or rows k v → v.items ≡ (slice_index_or (parts_of (lists_of rows) (lists_of columns)) k no_part).rows
rows_kept rows columns k v e l h =
    let below : k < length (lists_of rows) = let m = lists_length rows in omega (arith, l, m) in
    list_at rows k v l h ∙ sym (rows_at (lists_of rows) (lists_of columns) k (lists_length rows ∙ e ∙ sym (lists_length columns)) below)

pub columns_kept : (rows columns : List (Vec ℕ Global)) (k : ℕ) (v : Vec ℕ Global) → length rows ≡ length columns → k < length rows → v ≡ slice_index_or columns k v → v.items ≡ (slice_index_or (parts_of (lists_of rows) (lists_of columns)) k no_part).columns
columns_kept rows columns k v e l h =
    let below : k < length (lists_of rows) = let m = lists_length rows in omega (arith, l, m) in
    list_at columns k v (omega (arith, l, e)) h ∙ sym (columns_at (lists_of rows) (lists_of columns) k (lists_length rows ∙ e ∙ sym (lists_length columns)) below)
