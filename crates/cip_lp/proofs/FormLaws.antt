-- The terms of a row, number by number of its form.
use Rattle.std.proofs.Common.{◌≡◌, ℕ, zero, suc, ◌<◌, Bool, true, false, cond, List, [], ◌∷◌, ◌++◌, length, take, Some, refl, sym, ap, ◌∙◌, arith}
use Rattle.std.specs.Prelude.{nat_lt, slice_get, slice_index_or}
use Rattle.std.specs.List.{list_all}
use Rattle.std.proofs.lemmas.Bool.{and_from, and_parts}
use Rattle.cip_problem.specs.Program.{Term}
use Rattle.cip_text_rules.specs.LpFacts.{FormTerm, terms_of}
use Rattle.cip_text_rules.specs.LpSound.{form_rises}

-- a number that all numbers of a list pass
at_place : {X : Type 0} (p : X → Bool) (xs : List X) (k : ℕ) (x : X) → list_all p xs ≡ true → slice_get xs k ≡ Some x → p x ≡ true
at_place p [] k x h e = absurd (cc)
at_place p (y ∷ ys) zero x h e = let q : y ≡ x = cc in ap p (sym q) ∙ (and_parts (p y) (list_all p ys) h).0
at_place p (y ∷ ys) (suc k) x h e = at_place p ys k x (and_parts (p y) (list_all p ys) h).1 e

-- ---- the terms of a row

pub terms_take : (form : List FormTerm) (k : ℕ) (t : FormTerm) → slice_get form k ≡ Some t → terms_of (take k form) ++ terms_of (t ∷ []) ≡ terms_of (take (suc k) form)
terms_take [] k t e = absurd (cc)
terms_take (x ∷ xs) zero t e = let q : x ≡ t = cc in ap (λ y. terms_of (y ∷ [])) (sym q)
terms_take (x ∷ xs) (suc k) t e = go x.zero (terms_take xs k t e)
  where
    go : (b : Bool) → terms_of (take k xs) ++ terms_of (t ∷ []) ≡ terms_of (take (suc k) xs)
        → cond b (terms_of (take k xs)) (record { column = x.column; coefficient = x.value } ∷ terms_of (take k xs)) ++ terms_of (t ∷ [])
        ≡ cond b (terms_of (take (suc k) xs)) (record { column = x.column; coefficient = x.value } ∷ terms_of (take (suc k) xs))
    go true h = h
    go false h = ap (λ (ts : List Term). record { column = x.column; coefficient = x.value } ∷ ts) h

-- the terms of the numbers before one stand on columns before its
pub terms_before : (form : List FormTerm) (k : ℕ) (t : FormTerm) → form_rises form ≡ true → slice_get form k ≡ Some t → list_all (λ (x : Term). nat_lt x.column t.column) (terms_of (take k form)) ≡ true
terms_before form zero t r e = refl
terms_before [] (suc k) t r e = refl
terms_before (x ∷ xs) (suc k) t r e =
    let up = and_parts (list_all (λ o. nat_lt x.column o.column) xs) (form_rises xs) r in
    go x.zero (at_place (λ (o : FormTerm). nat_lt x.column o.column) xs k t up.0 e) (terms_before xs k t up.1 e)
  where
    go : (b : Bool) → nat_lt x.column t.column ≡ true → list_all (λ (y : Term). nat_lt y.column t.column) (terms_of (take k xs)) ≡ true
        → list_all (λ (y : Term). nat_lt y.column t.column) (cond b (terms_of (take k xs)) (record { column = x.column; coefficient = x.value } ∷ terms_of (take k xs))) ≡ true
    go true here h = h
    go false here h = and_from (nat_lt x.column t.column) _ here h

-- the number at a place
pub number_at : (form : List FormTerm) (k : ℕ) (t : FormTerm) → k < length form → t ≡ slice_index_or form k t → slice_get form k ≡ Some t
number_at [] k t l e = absurd (omega (arith, l))
number_at (x ∷ xs) zero t l e = ap Some (sym e)
number_at (x ∷ xs) (suc k) t l e = number_at xs k t (omega (arith, l)) e
