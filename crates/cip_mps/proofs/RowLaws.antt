-- Rows keep their numbers by rising column.
use Rattle.cip_text_rules.specs.MpsWords.{is_in}
use Rattle.cip_text_rules.proofs.LookUps.{number_some, number_none}
use Rattle.cip_text_rules.proofs.MpsNames.{number_below}
use Rattle.std.proofs.Common.{◌≡◌, ℕ, zero, suc, ◌+◌, add-one, ◌<◌, ◌≤◌, Bool, true, false, cond, ◌&&◌, List, [], ◌∷◌, ◌++◌, length, Some, subst, refl, sym, ap, ◌∙◌, arith}
use Rattle.std.specs.Prelude.{nat_lt, nat_le, slice_index_or, slice_set, not, Result, Ok, Err, OnOk, OnErr, unwrap_or}
use Rattle.std.specs.List.{filter, list_all}
use Rattle.std.proofs.lemmas.Bool.{lt-ltb, ltb-true, leb-false}
use Rattle.std.proofs.lemmas.List.{length_push}
use Rattle.cip_rational.specs.Rational.{ℚ}
use Rattle.cip_text_rules.specs.MpsState.{RowRead, no_row, is_kept}
use Rattle.cip_text_rules.specs.MpsProgram.{is_free}
use Rattle.cip_text_rules.specs.MpsSteps.{changed, with_held, number_or_next, with_name}
use Rattle.cip_text_rules.specs.MpsSoundState.{held_below}
use Rattle.cip_text_rules.proofs.SoundState.{all_set, all_at, all_push, all_more}

-- ---- rows of a draft

-- a row's numbers stand on the first n columns
abbrev pub below : ℕ → RowRead → Bool
below n row = held_below n row.held

pub more_below : (m n : ℕ) (rows : List RowRead) → m ≤ n → list_all (λ row. held_below m row.held) rows ≡ true → list_all (λ row. held_below n row.held) rows ≡ true
more_below m n rows l h =
    all_more (below m) (below n) (λ row e. all_more (λ h. nat_lt h.column m) (λ h. nat_lt h.column n) (λ h e. let d : h.column < m = ltb-true h.column m e in lt-ltb h.column n (omega (arith, d, l))) row.held e) rows h

pub below_at : (n : ℕ) (rows : List RowRead) (k : ℕ) → list_all (λ row. held_below n row.held) rows ≡ true → held_below n (slice_index_or rows k no_row).held ≡ true
below_at n rows k h = all_at (below n) rows k no_row h refl

-- a row is changed
pub below_set : (n : ℕ) (rows : List RowRead) (k : ℕ) (row : RowRead) → list_all (λ row. held_below n row.held) rows ≡ true → held_below n row.held ≡ true → list_all (λ row. held_below n row.held) (slice_set rows k row) ≡ true
below_set n rows k row h e = all_set (below n) rows k row h e

-- a row keeps its type
abbrev pub count_with : Bool → ℕ → ℕ
count_with b n = cond b (suc n) n

kept_cons : (r : RowRead) (rows : List RowRead) → length (filter is_kept (r ∷ rows)) ≡ count_with (is_kept r) (length (filter is_kept rows))
kept_cons r rows = go (is_kept r)
  where
    go : (b : Bool) → length (cond b (r ∷ filter is_kept rows) (filter is_kept rows)) ≡ count_with b (length (filter is_kept rows))
    go true = refl
    go false = refl

count_swap : (a b : Bool) (n : ℕ) → count_with a (count_with b n) ≡ count_with b (count_with a n)
count_swap true true n = refl
count_swap true false n = refl
count_swap false true n = refl
count_swap false false n = refl

-- one row more
pub count_push : (rows : List RowRead) (row : RowRead) → length (filter is_kept (rows ++ row ∷ [])) ≡ count_with (is_kept row) (length (filter is_kept rows))
count_push [] row = kept_cons row []
count_push (r ∷ rows) row =
    kept_cons r (rows ++ row ∷ []) ∙ ap (count_with (is_kept r)) (count_push rows row) ∙ count_swap (is_kept r) (is_kept row) (length (filter is_kept rows))
    ∙ ap (count_with (is_kept row)) (sym (kept_cons r rows))

pub count_set : (rows : List RowRead) (k : ℕ) (row : RowRead) → k < length rows → row.kind ≡ (slice_index_or rows k no_row).kind → length (filter is_kept (slice_set rows k row)) ≡ length (filter is_kept rows)
count_set [] k row l e = refl
count_set (r ∷ rows) zero row l e = kept_cons row rows ∙ ap (λ kind. count_with (not (is_free kind)) (length (filter is_kept rows))) e ∙ sym (kept_cons r rows)
count_set (r ∷ rows) (suc k) row l e =
    kept_cons r (slice_set rows k row) ∙ ap (count_with (is_kept r)) (count_set rows k row (omega (arith, l)) e) ∙ sym (kept_cons r rows)

-- ---- a row is changed

-- and keeps its type
pub changed_counted : (n : ℕ) (rows : List RowRead) (k : ℕ) (f : RowRead → RowRead) → k < length rows → ((r : RowRead) → (f r).kind ≡ r.kind) → n ≡ length (filter is_kept rows) → n ≡ length (filter is_kept (changed no_row rows (Some k) f))
changed_counted n rows k f l same c = c ∙ sym (count_set rows k (f (slice_index_or rows k no_row)) l (same (slice_index_or rows k no_row)))

-- and stands on as many columns
pub changed_below : (n : ℕ) (rows : List RowRead) (k : ℕ) (f : RowRead → RowRead) → ((r : RowRead) → held_below n r.held ≡ true → held_below n (f r).held ≡ true) → list_all (λ row. held_below n row.held) rows ≡ true → list_all (λ row. held_below n row.held) (changed no_row rows (Some k) f) ≡ true
changed_below n rows k f still h = below_set n rows k (f (slice_index_or rows k no_row)) h (still (slice_index_or rows k no_row) (below_at n rows k h))

-- a number is put, or the growth for it was refused
pub put_or_not : {A E : Type 0} (result : Result A E) (old new more : List RowRead) (P : List RowRead → Type 0) → OnOk result (new ≡ more) → OnErr result (new ≡ old) → P old → P more → P new
put_or_not (Ok a) old new more P o e b m = subst P (sym o) m
put_or_not (Err x) old new more P o e b m = subst P (sym e) b

-- a number more
pub held_still : (n column : ℕ) (value : ℚ) → column < n → (r : RowRead) → held_below n r.held ≡ true → held_below n (with_held column value r).held ≡ true
held_still n column value l r h = all_push (λ h. nat_lt h.column n) r.held (record { column = column; value = value }) h (lt-ltb column n l)

-- ---- a row more

-- it is one that isn't of type N, and there is room for it
pub few_more : (free : Bool) (n most : ℕ) → (not free && nat_le most n) ≡ false → false ≡ free → n + 1 ≤ most
few_more false n most h e = let l : n < most = leb-false most n h in omega (arith, l)
few_more true n most h e = cc

-- as many rows as names
pub both_longer : {X Y : Type 0} (xs xs2 : List X) (ys ys2 : List Y) (x : X) (y : Y) → length xs ≡ length ys → xs2 ≡ xs ++ x ∷ [] → ys2 ≡ ys ++ y ∷ [] → length xs2 ≡ length ys2
both_longer xs xs2 ys ys2 x y e p q = ap length p ∙ length_push xs x ∙ ap (λ (n : ℕ). n + 1) e ∙ sym (ap length q ∙ length_push ys y)

-- so many of them aren't of type N
pub counted_more : (rows rows2 : List RowRead) (row : RowRead) (n : ℕ) → n ≡ length (filter is_kept rows) → rows2 ≡ rows ++ row ∷ [] → is_kept row ≡ true → n + 1 ≡ length (filter is_kept rows2)
counted_more rows rows2 row n c p k =
    add-one n ∙ ap suc c ∙ sym (ap (λ rs. length (filter is_kept rs)) p ∙ count_push rows row ∙ ap (λ b. count_with b (length (filter is_kept rows))) k)

pub counted_same : (rows rows2 : List RowRead) (row : RowRead) (n : ℕ) → n ≡ length (filter is_kept rows) → rows2 ≡ rows ++ row ∷ [] → is_kept row ≡ false → n ≡ length (filter is_kept rows2)
counted_same rows rows2 row n c p k =
    c ∙ sym (ap (λ rs. length (filter is_kept rs)) p ∙ count_push rows row ∙ ap (λ b. count_with b (length (filter is_kept rows))) k)

-- a row without numbers
pub below_more_rows : (n : ℕ) (rows rows2 : List RowRead) (row : RowRead) → list_all (λ row. held_below n row.held) rows ≡ true → rows2 ≡ rows ++ row ∷ [] → row.held ≡ [] → list_all (λ row. held_below n row.held) rows2 ≡ true
below_more_rows n rows rows2 row h p e = ap (list_all (below n)) p ∙ all_push (below n) rows row h (ap (held_below n) e)

-- the last row
pub last_pushed : (rows : List RowRead) (row : RowRead) → slice_index_or (rows ++ row ∷ []) (length rows) no_row ≡ row
last_pushed [] row = refl
last_pushed (r ∷ rows) row = last_pushed rows row

-- what holds in any case
pub always_err : {A E X : Type 0} (result : Result A E) → X → OnErr result X
always_err (Ok a) x = tt
always_err (Err e) x = x

pub always_ok : {A E X : Type 0} (result : Result A E) → X → OnOk result X
always_ok (Ok a) x = x
always_ok (Err e) x = tt

-- the number of a name is that of one of the names, and it
pub next_within : (names : List (List ℕ)) (name : List ℕ) → number_or_next names name < length (with_name names name)
next_within names name = go (is_in names name) refl
  where
    go : (b : Bool) → is_in names name ≡ b → number_or_next names name < length (cond b names (names ++ name ∷ []))
    go true e =
        let k = number_some names name e in
        let l : k.0 < length names = number_below names name k.0 k.1 in
        let p : number_or_next names name ≡ k.0 = ap (λ o. unwrap_or o (length names)) k.1 in
        omega (arith, l, p)
    go false e =
        let p : number_or_next names name ≡ length names = ap (λ o. unwrap_or o (length names)) (number_none names name e) in
        let l : length (names ++ name ∷ []) ≡ length names + 1 = length_push names name in
        omega (arith, l, p)
