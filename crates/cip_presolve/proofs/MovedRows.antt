-- Rows over the new numbers of their columns.
use Rattle.std.proofs.Common.{◌≡◌, ℕ, zero, suc, ◌+◌, ◌<◌, ◌≤◌, Bool, true, false, List, [], ◌∷◌, ◌++◌, length, take, drop, Some, slice_get, refl, sym, ap, ◌∙◌, subst, arith, add-one}
use Rattle.std.specs.Prelude.{slice_set, slice_index_or, map, filter, not, ◌||◌}
use Rattle.std.proofs.lemmas.Option.{none-some, same_Some, slice_get_read}
use Rattle.std.proofs.Math.ListN.{get_or}
use Rattle.cip_problem.specs.Program.{Term, Row}
use Rattle.cip_presolve.specs.LeftProgram.{moved_row, CanMove, AllMove, stands_on_gone, is_dropped, staying_rows}
use Rattle.cip_presolve.proofs.Merged.{count_same}

-- the first rows are moved, the others as they were
pub record MovedTo (numbers : List ℕ) (old rows : List Row) (n : ℕ) : Type 0 where
  pub are : rows ≡ map (moved_row numbers) (take n old) ++ drop n old
  pub long : length rows ≡ length old

pub none_moved : (numbers : List ℕ) (old : List Row) → MovedTo numbers old old 0
none_moved numbers old = record { are = refl; long = refl }

at_rest : (numbers : List ℕ) (old : List Row) (n : ℕ) → slice_get (map (moved_row numbers) (take n old) ++ drop n old) n ≡ slice_get old n
at_rest numbers [] zero = refl
at_rest numbers [] (suc n) = refl
at_rest numbers (r ∷ rs) zero = refl
at_rest numbers (r ∷ rs) (suc n) = at_rest numbers rs n

-- the next row is the old one
pub old_row : (numbers : List ℕ) (old rows : List Row) (n : ℕ) (row : Row) → MovedTo numbers old rows n → slice_get rows n ≡ Some row → slice_get old n ≡ Some row
old_row numbers old rows n row m g = sym (at_rest numbers old n) ∙ ap (λ (rs : List Row). slice_get rs n) (sym m.are) ∙ g

can_at : (numbers : List ℕ) (rows : List Row) (n : ℕ) (row : Row) → AllMove numbers rows → slice_get rows n ≡ Some row → CanMove numbers row
can_at numbers [] n row h g = absurd (none-some row g)
can_at numbers (r ∷ rs) zero row h g = subst (λ t. CanMove numbers t) (same_Some r row g) h.0
can_at numbers (r ∷ rs) (suc n) row h g = can_at numbers rs n row h.1 g

pub can_move : (numbers : List ℕ) (old rows : List Row) (n : ℕ) (row : Row) → MovedTo numbers old rows n → AllMove numbers old → n < length rows → row ≡ get_or rows n row → CanMove numbers row
can_move numbers old rows n row m h below is = can_at numbers old n row h (old_row numbers old rows n row m (slice_get_read rows (length rows) n row refl below is))

set_next : (numbers : List ℕ) (old : List Row) (n : ℕ) (row : Row) → slice_get old n ≡ Some row → slice_set (map (moved_row numbers) (take n old) ++ drop n old) n (moved_row numbers row) ≡ map (moved_row numbers) (take (suc n) old) ++ drop (suc n) old
set_next numbers [] n row g = absurd (none-some row g)
set_next numbers (r ∷ rs) zero row g = ap (λ t. moved_row numbers t ∷ rs) (sym (same_Some r row g))
set_next numbers (r ∷ rs) (suc n) row g = ap (λ t. moved_row numbers r ∷ t) (set_next numbers rs n row g)

pub next_moved : (numbers : List ℕ) (old rows changed : List Row) (n : ℕ) (row new : Row) → MovedTo numbers old rows n → n < length rows → row ≡ get_or rows n row → new ≡ moved_row numbers row → changed ≡ slice_set rows n new → MovedTo numbers old changed (n + 1)
next_moved numbers old rows changed n row new m below is e k = record {
  are = k ∙ ap (λ (rs : List Row). slice_set rs n new) m.are ∙ ap (λ t. slice_set (map (moved_row numbers) (take n old) ++ drop n old) n t) e ∙ set_next numbers old n row (old_row numbers old rows n row m (slice_get_read rows (length rows) n row refl below is)) ∙ rw add-one refl;
  long = ap (λ (rs : List Row). length rs) k ∙ count_same rows n new ∙ m.long;
}

end_of : (numbers : List ℕ) (old : List Row) (n : ℕ) → length old ≤ n → map (moved_row numbers) (take n old) ++ drop n old ≡ map (moved_row numbers) old
end_of numbers [] zero e = refl
end_of numbers [] (suc n) e = refl
end_of numbers (r ∷ rs) zero e = absurd (omega (arith, e))
end_of numbers (r ∷ rs) (suc n) e = ap (λ t. moved_row numbers r ∷ t) (end_of numbers rs n (omega (arith, e)))

pub all_moved : (numbers : List ℕ) (old rows : List Row) (n : ℕ) → MovedTo numbers old rows n → length rows ≤ n → rows ≡ map (moved_row numbers) old
all_moved numbers old rows n m e = let l = m.long in m.are ∙ end_of numbers old n (omega (arith, e, l))

pub ruleset moving = (none_moved, can_move, next_moved, all_moved)

-- ---- rows that stay

module _ (gone : List Bool) where
  filter_left : (rows : List Row) → filter (λ row. not (is_dropped gone row)) rows ≡ staying_rows gone rows
  filter_left [] = refl
  filter_left (r ∷ rs) = go (is_dropped gone r) refl (filter_left rs)
    where
      go : (t : Bool) → is_dropped gone r ≡ t → filter (λ row. not (is_dropped gone row)) rs ≡ staying_rows gone rs → filter (λ row. not (is_dropped gone row)) (r ∷ rs) ≡ staying_rows gone (r ∷ rs)
      go true e h = rw e h
      go false e h = rw e (ap (λ t. r ∷ t) h)

pub filtered : (gone : List Bool) (rows left : List Row) → left ≡ filter (λ row. not (is_dropped gone row)) rows → left ≡ staying_rows gone rows
filtered gone rows left e = e ∙ filter_left gone rows

-- ---- columns that are gone

-- none of the first terms stands on one
pub none_found : (gone : List Bool) (terms : List Term) → stands_on_gone gone (drop 0 terms) ≡ stands_on_gone gone terms
none_found gone terms = refl

pub found_next : (gone : List Bool) (terms : List Term) (k : ℕ) (t : Term) → stands_on_gone gone (drop k terms) ≡ stands_on_gone gone terms → k < length terms → t ≡ get_or terms k t → slice_index_or gone t.column false ≡ false → stands_on_gone gone (drop (k + 1) terms) ≡ stands_on_gone gone terms
found_next gone terms k t h below is e = rw add-one (sym (next terms k t (slice_get_read terms (length terms) k t refl below is) e) ∙ h)
  where
    next : (terms : List Term) (k : ℕ) (t : Term) → slice_get terms k ≡ Some t → slice_index_or gone t.column false ≡ false → stands_on_gone gone (drop k terms) ≡ stands_on_gone gone (drop (suc k) terms)
    next [] k t g e = absurd (none-some t g)
    next (u ∷ ts) zero t g e = let f : slice_index_or gone u.column false ≡ false = subst (λ (v : Term). slice_index_or gone v.column false ≡ false) (sym (same_Some u t g)) e in ap (λ b. b || stands_on_gone gone ts) f
    next (u ∷ ts) (suc k) t g e = next ts k t g e

pub found_here : (gone : List Bool) (terms : List Term) (k : ℕ) (t : Term) → stands_on_gone gone (drop k terms) ≡ stands_on_gone gone terms → k < length terms → t ≡ get_or terms k t → slice_index_or gone t.column false ≡ true → true ≡ stands_on_gone gone terms
found_here gone terms k t h below is e = sym (here terms k t (slice_get_read terms (length terms) k t refl below is) e) ∙ h
  where
    here : (terms : List Term) (k : ℕ) (t : Term) → slice_get terms k ≡ Some t → slice_index_or gone t.column false ≡ true → stands_on_gone gone (drop k terms) ≡ true
    here [] k t g e = absurd (none-some t g)
    here (u ∷ ts) zero t g e = let f : slice_index_or gone u.column false ≡ true = subst (λ (v : Term). slice_index_or gone v.column false ≡ true) (sym (same_Some u t g)) e in ap (λ b. b || stands_on_gone gone ts) f
    here (u ∷ ts) (suc k) t g e = here ts k t g e

pub found_nowhere : (gone : List Bool) (terms : List Term) (k : ℕ) → stands_on_gone gone (drop k terms) ≡ stands_on_gone gone terms → length terms ≤ k → false ≡ stands_on_gone gone terms
found_nowhere gone terms k h l = ap (λ (ts : List Term). stands_on_gone gone ts) (sym (past terms k l)) ∙ h
  where
    past : (terms : List Term) (k : ℕ) → length terms ≤ k → drop k terms ≡ []
    past [] zero l = refl
    past [] (suc k) l = refl
    past (t ∷ ts) zero l = absurd (omega (arith, l))
    past (t ∷ ts) (suc k) l = past ts k (omega (arith, l))

pub ruleset standing = (none_found, found_next, found_here, found_nowhere)
