-- Columns that are free after a term, and after a row.
use Rattle.std.proofs.Common.{◌≡◌, ℕ, zero, suc, ◌+◌, ◌<◌, ◌≤◌, Bool, true, false, List, [], ◌∷◌, length, take, Option, Some, IfSome, slice_get, refl, sym, ap, ◌∙◌, subst, arith, inl, inr, true≢false}
use Rattle.std.specs.Prelude.{slice_set, All, not, IsTrue, ◌↔◌}
use Rattle.std.specs.Bool.{OnTrue}
use Rattle.std.specs.List.{AllByRecursion}
use Rattle.std.proofs.lemmas.Option.{none-some, same_Some, slice_get_within, get_or_from_slice_get, slice_get_read}
use Rattle.std.proofs.Math.ListN.{get_or}
use Rattle.cip_rational.specs.Rational.{ℚ, zeroℚ, ◌≤ℚ◌, ◌<ℚ◌}
use Rattle.cip_rational.proofs.Rational.Order.{≤ℚ_refl, le_of_not_lt}
use Rattle.cip_problem.specs.Program.{Term, Row}
use Rattle.cip_problem.specs.Activity.{StandsBelow}
use Rattle.cip_search.specs.Moving.{LetsFall}
use Rattle.cip_search.specs.Forms.{Form}
use Rattle.cip_presolve.specs.SpentRows.{IsSpent}
use Rattle.cip_presolve.specs.FreeColumns.{turned, FreeFewer, TermFree, TermsFree, RowFree, RowsFree}

-- ---- flags

set_long : (free : List Bool) (n : ℕ) → length (slice_set free n false) ≡ length free
set_long [] n = refl
set_long (f ∷ free) zero = refl
set_long (f ∷ free) (suc n) = ap (λ k. suc k) (set_long free n)

set_free : (free : List Bool) (n column : ℕ) → slice_get (slice_set free n false) column ≡ Some true → slice_get free column ≡ Some true
set_free [] n column h = h
set_free (f ∷ free) zero zero h = absurd (true≢false (sym (same_Some false true h)))
set_free (f ∷ free) zero (suc column) h = h
set_free (f ∷ free) (suc n) zero h = h
set_free (f ∷ free) (suc n) (suc column) h = set_free free n column h

set_locked : (free : List Bool) (n : ℕ) → slice_get (slice_set free n false) n ≡ Some true → ⊥
set_locked [] n h = none-some true h
set_locked (f ∷ free) zero h = true≢false (sym (same_Some false true h))
set_locked (f ∷ free) (suc n) h = set_locked free n h

pub fewer_self : (free : List Bool) → FreeFewer free free
fewer_self free = record { long = refl; free = λ column h. h }

fewer_after : (first second third : List Bool) → FreeFewer first second → FreeFewer second third → FreeFewer first third
fewer_after first second third a b = record { long = b.long ∙ a.long; free = λ column h. a.free column (b.free column h) }

set_fewer : (free : List Bool) (n : ℕ) → FreeFewer free (slice_set free n false)
set_fewer free n = record { long = set_long free n; free = set_free free n }

terms_stay : (rising : Bool) (old new : List Bool) (low high : Option ℚ) (terms : List Term) → FreeFewer old new → TermsFree rising old low high terms → TermsFree rising new low high terms
terms_stay rising old new low high [] f h = tt
terms_stay rising old new low high (t ∷ ts) f h = (λ e. h.0 (f.free t.column e), terms_stay rising old new low high ts f h.1)

row_stays : (rising : Bool) (old new : List Bool) (forms : List (Option Form)) (row : Row) → FreeFewer old new → RowFree rising old forms row → RowFree rising new forms row
row_stays rising old new forms row f (inl s) = inl s
row_stays rising old new forms row f (inr h) = inr (terms_stay rising old new row.low row.high row.terms f h)

rows_stay : (rising : Bool) (old new : List Bool) (forms : List (Option Form)) (rows : List Row) → FreeFewer old new → RowsFree rising old forms rows → RowsFree rising new forms rows
rows_stay rising old new forms [] f h = tt
rows_stay rising old new forms (r ∷ rs) f h = (row_stays rising old new forms r f h.0, rows_stay rising old new forms rs f h.1)

pub all_more : {X : Type 0} (P : X → Type 0) (xs : List X) (n : ℕ) (x : X) → slice_get xs n ≡ Some x → AllByRecursion P (take n xs) → P x → AllByRecursion P (take (suc n) xs)
all_more P [] n x e h p = absurd (none-some x e)
all_more P (y ∷ xs) zero x e h p = (subst P (sym (same_Some y x e)) p, tt)
all_more P (y ∷ xs) (suc n) x e h p = (h.0, all_more P xs n x e h.1 p)

pub all_more_one : {X : Type 0} (P : X → Type 0) (xs : List X) (n : ℕ) (x : X) → slice_get xs n ≡ Some x → AllByRecursion P (take n xs) → P x → AllByRecursion P (take (n + 1) xs)
all_more_one P xs n x e h p =
    let one : suc n ≡ n + 1 = omega arith in
    subst (λ m. AllByRecursion P (take m xs)) one (all_more P xs n x e h p)

all_at : {X : Type 0} (P : X → Type 0) (xs : List X) (n : ℕ) (x : X) → All P xs → slice_get xs n ≡ Some x → P x
all_at P xs n x a g = subst P (get_or_from_slice_get xs n x x g) (a n x (slice_get_within xs n x g))

pub take_whole : {X : Type 0} (xs : List X) (n : ℕ) → length xs ≤ n → take n xs ≡ xs
take_whole [] zero e = refl
take_whole [] (suc n) e = refl
take_whole (x ∷ xs) zero e = absurd (omega (arith, e))
take_whole (x ∷ xs) (suc n) e = ap (λ t. x ∷ t) (take_whole xs n (omega (arith, e)))

-- ---- one term

pub not_up : (c : ℚ) (r : Bool) → (IsTrue r ↔ (zeroℚ <ℚ c)) → OnTrue (not r) (c ≤ℚ zeroℚ)
not_up c true h = tt
not_up c false h = le_of_not_lt zeroℚ c (λ l. true≢false (sym (h.1 l)))

pub not_down : (c : ℚ) (r : Bool) → (IsTrue r ↔ (c <ℚ zeroℚ)) → OnTrue (not r) (zeroℚ ≤ℚ c)
not_down c true h = tt
not_down c false h = le_of_not_lt c zeroℚ (λ l. true≢false (sym (h.1 l)))

pub zero_up : (c : ℚ) (r : Bool) → (IsTrue r ↔ (c ≡ zeroℚ)) → OnTrue r (c ≤ℚ zeroℚ)
zero_up c true h = subst (λ q. q ≤ℚ zeroℚ) (sym (h.0 refl)) (≤ℚ_refl zeroℚ)
zero_up c false h = tt

pub zero_down : (c : ℚ) (r : Bool) → (IsTrue r ↔ (c ≡ zeroℚ)) → OnTrue r (zeroℚ ≤ℚ c)
zero_down c true h = subst (λ q. zeroℚ ≤ℚ q) (sym (h.0 refl)) (≤ℚ_refl zeroℚ)
zero_down c false h = tt

pub ruleset one_falls = (not_up, not_down, zero_up, zero_down)

-- ---- after so many terms

pub record LockedTo (rising : Bool) (old free : List Bool) (low high : Option ℚ) (terms : List Term) (n : ℕ) : Type 0 where
  pub fewer : FreeFewer old free
  pub stay : TermsFree rising free low high (take n terms)

pub none_locked : (rising : Bool) (old : List Bool) (low high : Option ℚ) (terms : List Term) → LockedTo rising old old low high terms 0
none_locked rising old low high terms = record { fewer = fewer_self old; stay = tt }

term_next : (rising : Bool) (old free new : List Bool) (low high : Option ℚ) (terms : List Term) (n : ℕ) (t : Term) → LockedTo rising old free low high terms n → n < length terms → t ≡ get_or terms n t → FreeFewer free new → TermFree rising new low high t → LockedTo rising old new low high terms (n + 1)
term_next rising old free new low high terms n t k below is f l = record {
  fewer = fewer_after old free new k.fewer f;
  stay = all_more_one (TermFree rising new low high) terms n t (slice_get_read terms (length terms) n t refl below is) (terms_stay rising free new low high (take n terms) f k.stay) l;
}

-- a term that lets its column fall
pub term_lets : (rising : Bool) (old free : List Bool) (low high : Option ℚ) (terms : List Term) (n : ℕ) (t : Term) (c : ℚ) → LockedTo rising old free low high terms n → n < length terms → t ≡ get_or terms n t → c ≡ turned rising t.coefficient → IfSome low (λ side. c ≤ℚ zeroℚ) → IfSome high (λ side. zeroℚ ≤ℚ c) → LockedTo rising old free low high terms (n + 1)
term_lets rising old free low high terms n t c k below is e l h =
    term_next rising old free free low high terms n t k below is (fewer_self free)
    (λ g. subst (λ q. LetsFall low high q) e (record { low = l; high = h }))

-- one whose column is free no more
pub term_locks : (rising : Bool) (old free new : List Bool) (low high : Option ℚ) (terms : List Term) (n column : ℕ) (t : Term) → LockedTo rising old free low high terms n → n < length terms → t ≡ get_or terms n t → column ≡ t.column → new ≡ slice_set free column false → LockedTo rising old new low high terms (n + 1)
term_locks rising old free new low high terms n column t k below is c e =
    let s : new ≡ slice_set free t.column false = e ∙ ap (λ m. slice_set free m false) c in
    term_next rising old free new low high terms n t k below is
    (subst (λ (f : List Bool). FreeFewer free f) (sym s) (set_fewer free t.column))
    (λ g. absurd (set_locked free t.column (subst (λ (f : List Bool). slice_get f t.column ≡ Some true) s g)))

pub term_within : (rising : Bool) (old free : List Bool) (low high : Option ℚ) (terms : List Term) (n : ℕ) (t : Term) → LockedTo rising old free low high terms n → StandsBelow (length old) terms → n < length terms → t ≡ get_or terms n t → t.column < length free
term_within rising old free low high terms n t k s below is = let g : slice_get terms n ≡ Some t = slice_get_read terms (length terms) n t refl below is in let e = k.fewer.long in let l = all_at (λ u. u.column < length old) terms n t s g in omega (arith, e, l)

pub all_locked : (rising : Bool) (old free : List Bool) (low high : Option ℚ) (terms : List Term) (n : ℕ) → LockedTo rising old free low high terms n → length terms ≤ n → TermsFree rising free low high terms
all_locked rising old free low high terms n k e = subst (λ (ts : List Term). TermsFree rising free low high ts) (take_whole terms n e) k.stay

pub ruleset locked_terms = (none_locked, term_within, all_locked)

-- ---- after so many rows

pub record RowsLockedTo (rising : Bool) (old free : List Bool) (forms : List (Option Form)) (rows : List Row) (n : ℕ) : Type 0 where
  pub fewer : FreeFewer old free
  pub stay : RowsFree rising free forms (take n rows)

pub no_rows : (rising : Bool) (old : List Bool) (forms : List (Option Form)) (rows : List Row) → RowsLockedTo rising old old forms rows 0
no_rows rising old forms rows = record { fewer = fewer_self old; stay = tt }

row_next : (rising : Bool) (old free new : List Bool) (forms : List (Option Form)) (rows : List Row) (n : ℕ) (row : Row) → RowsLockedTo rising old free forms rows n → n < length rows → row ≡ get_or rows n row → FreeFewer free new → RowFree rising new forms row → RowsLockedTo rising old new forms rows (n + 1)
row_next rising old free new forms rows n row k below is f t = record {
  fewer = fewer_after old free new k.fewer f;
  stay = all_more_one (λ r. RowFree rising new forms r) rows n row (slice_get_read rows (length rows) n row refl below is) (rows_stay rising free new forms (take n rows) f k.stay) t;
}

pub row_spent : (rising : Bool) (old free : List Bool) (forms : List (Option Form)) (rows : List Row) (n : ℕ) (row : Row) → RowsLockedTo rising old free forms rows n → n < length rows → row ≡ get_or rows n row → IsSpent forms row → RowsLockedTo rising old free forms rows (n + 1)
row_spent rising old free forms rows n row k below is s = row_next rising old free free forms rows n row k below is (fewer_self free) (inl s)

pub row_locked : (rising : Bool) (old free new : List Bool) (forms : List (Option Form)) (rows : List Row) (n : ℕ) (row : Row) (low high : Option ℚ) (terms : List Term) → RowsLockedTo rising old free forms rows n → n < length rows → row ≡ get_or rows n row → FreeFewer free new → low ≡ row.low → high ≡ row.high → terms ≡ row.terms → TermsFree rising new low high terms → RowsLockedTo rising old new forms rows (n + 1)
row_locked rising old free new forms rows n row low high terms k below is f l h e t =
    row_next rising old free new forms rows n row k below is f
    (inr (subst (λ (ts : List Term). TermsFree rising new row.low row.high ts) e
    (subst (λ o. TermsFree rising new row.low o terms) h (subst (λ o. TermsFree rising new o high terms) l t))))

pub row_stands : (rising : Bool) (columns : ℕ) (old free : List Bool) (forms : List (Option Form)) (rows : List Row) (n : ℕ) (row : Row) (terms : List Term) → RowsLockedTo rising old free forms rows n → length old ≡ columns → All (λ r. StandsBelow columns r.terms) rows → n < length rows → row ≡ get_or rows n row → terms ≡ row.terms → StandsBelow (length free) terms
row_stands rising columns old free forms rows n row terms k long s below is e =
    let g : slice_get rows n ≡ Some row = slice_get_read rows (length rows) n row refl below is in
    subst (λ m. StandsBelow m terms) (sym (k.fewer.long ∙ long)) (subst (λ (ts : List Term). StandsBelow columns ts) (sym e) (all_at (λ r. StandsBelow columns r.terms) rows n row s g))

pub all_rows : (rising : Bool) (old free : List Bool) (forms : List (Option Form)) (rows : List Row) (n : ℕ) → RowsLockedTo rising old free forms rows n → length rows ≤ n → RowsFree rising free forms rows
all_rows rising old free forms rows n k e = subst (λ (rs : List Row). RowsFree rising free forms rs) (take_whole rows n e) k.stay

pub ruleset locked_rows = (no_rows, all_rows)
