-- The first overflow of operations that are formed one after another.
use Rattle.std.proofs.Common.{◌≡◌, ℕ, zero, suc, ◌+◌, ◌<◌, Bool, true, false, cond, List, [], ◌∷◌, ◌++◌, Option, None, Some, refl, ◌∙◌, arith, add-one, inl, inr}
use Rattle.std.proofs.lemmas.Bool.{cases_eq}
use Rattle.cip_bland.specs.Tables.{each}
use Rattle.cip_bland.specs.Operations.{Placed, overflows, first_overflow}
use Rattle.cip_bland.specs.declared.places.EntryPlace.{EntryPlace}

skip : (b : Bool) (place : EntryPlace) (r : Option EntryPlace) → cond b (Some place) r ≡ None → (b ≡ false) × (r ≡ None)
skip true place r h = absurd (cc)
skip false place r h = (refl, h)

-- the first of two lists, unless none of its operations overflows
pub overflow-append : (xs ys : List Placed) → first_overflow xs ≡ None → first_overflow (xs ++ ys) ≡ first_overflow ys
overflow-append [] ys h = refl
overflow-append (x ∷ xs) ys h =
    let s = skip (overflows x.operation) x.place (first_overflow xs) h in
    rw s.0 (overflow-append xs ys s.1)

found : (b : Bool) (here place : EntryPlace) (r t : Option EntryPlace) → cond b (Some here) r ≡ Some place → (r ≡ Some place → t ≡ Some place) → cond b (Some here) t ≡ Some place
found true here place r t h f = h
found false here place r t h f = f h

pub overflow-found : (xs ys : List Placed) (place : EntryPlace) → first_overflow xs ≡ Some place → first_overflow (xs ++ ys) ≡ Some place
overflow-found [] ys place h = absurd (cc)
overflow-found (x ∷ xs) ys place h =
    found (overflows x.operation) x.place place (first_overflow xs) (first_overflow (xs ++ ys)) h (λ e. overflow-found xs ys place e)

-- a loop over the numbers below n: none overflows at first, none up to the next, and one at some number is the first
pub first_more : (k : ℕ) (f : ℕ → List Placed) → first_overflow (each k f) ≡ None → first_overflow (f k) ≡ None → first_overflow (each (k + 1) f) ≡ None
first_more k f h e = rw add-one (overflow-append (each k f) (f k) h ∙ e)

pub first_at : (n k : ℕ) (f : ℕ → List Placed) (place : EntryPlace) → k < n → first_overflow (each k f) ≡ None → first_overflow (f k) ≡ Some place → first_overflow (each n f) ≡ Some place
first_at zero k f place l h e = absurd (omega (arith, l))
first_at (suc n) k f place l h e =
    elim (cases_eq k n) [
      | inl same ↦ (let h' : first_overflow (each n f) ≡ None = rw same at h in
          let e' : first_overflow (f n) ≡ Some place = rw same at e in
          overflow-append (each n f) (f n) h' ∙ e')
      | inr other ↦ overflow-found (each n f) (f n) place (first_at n k f place (omega (arith, l, other)) h e)
    ]
