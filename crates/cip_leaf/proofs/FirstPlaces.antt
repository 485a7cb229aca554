-- Where the first operation of a first state that overflows is formed.
use Rattle.std.proofs.Common.{◌≡◌, ◌⊎◌, inl, inr, ℕ, zero, suc, ◌+◌, Bool, true, false, cond, ◌||◌, List, [], ◌∷◌, ◌++◌, length, Option, None, Some, refl, sym, ap, ◌∙◌, subst, arith}
use Rattle.std.specs.Prelude.{is_some}
use Rattle.std.proofs.lemmas.Option.{none-some, same_Some}
use Rattle.cip_rational.specs.Rational.{ℚ, ◌*ℚ◌, is_zero}
use Rattle.cip_problem.specs.LinearProgram.{LinearProgram}
use Rattle.cip_bland.specs.Tables.{each}
use Rattle.cip_bland.specs.Operations.{Placed, Sum, Product, placed, overflows, first_overflow, value_place}
use Rattle.cip_bland.specs.FirstState.{System, columns_of, first_value, form_operations, first_operations}
use Rattle.cip_bland.specs.ProgramState.{system_of}
use Rattle.cip_bland.proofs.Overflow.{overflow-append, overflow-found}
use Rattle.cip_bland.specs.declared.places.Line.{Line}
use Rattle.cip_bland.specs.declared.places.Line.TheVariants as line
use Rattle.cip_bland.specs.declared.places.EntryPlace as dictionary
use Rattle.cip_bland.specs.MoveList.{is_out_of_range}
use Rattle.cip_search.specs.WideLeaf.{state_place, FirstValueOverflows}
use Rattle.cip_model.specs.declared.verdicts.Place.{Place}
use Rattle.cip_model.specs.declared.verdicts.Place.TheVariants.{Row, Cost}
use Rattle.cip_leaf.specs.FirstPlaces.{line_of, IsValueLine}
use Rattle.cip_leaf.specs.LeafAnswers.{place_of}

pub split_at : (xs ys : List Placed) (place : dictionary.EntryPlace) (first : Option dictionary.EntryPlace) → first_overflow xs ≡ first → first_overflow (xs ++ ys) ≡ Some place → (first_overflow xs ≡ Some place) ⊎ (first_overflow ys ≡ Some place)
split_at xs ys place None e h = inr (sym (overflow-append xs ys e) ∙ h)
split_at xs ys place (Some other) e h = inl (e ∙ (sym (overflow-found xs ys other e) ∙ h))

pub split : (xs ys : List Placed) (place : dictionary.EntryPlace) → first_overflow (xs ++ ys) ≡ Some place → (first_overflow xs ≡ Some place) ⊎ (first_overflow ys ≡ Some place)
split xs ys place h = split_at xs ys place (first_overflow xs) refl h

-- ---- a form

pub both_at : (at place : dictionary.EntryPlace) (a b : Bool) → cond a (Some at) (cond b (Some at) None) ≡ Some place → place ≡ at
both_at at place true b h = sym (same_Some at place h)
both_at at place false true h = sym (same_Some at place h)
both_at at place false false h = absurd (none-some place h)

pub sum_place : (at place : dictionary.EntryPlace) (c a b : ℚ) (test : Bool) → first_overflow (cond test [] (placed at (Product a b) ∷ placed at (Sum c (a *ℚ b)) ∷ [])) ≡ Some place → place ≡ at
sum_place at place c a b true h = absurd (none-some place h)
sum_place at place c a b false h = both_at at place (overflows (Product a b)) (overflows (Sum c (a *ℚ b))) h

pub form_place : (l : Line) (n : ℕ) (row x : ℕ → ℚ) (place : dictionary.EntryPlace) → first_overflow (form_operations l n row x) ≡ Some place → place ≡ value_place l
form_place l zero row x place h = absurd (none-some place h)
form_place l (suc n) row x place h = elim (split (form_operations l n row x) _ place h) [
  | inl before ↦ form_place l n row x place before
  | inr last ↦ sum_place (value_place l) place _ (row n) (x n) (is_zero (row n) || is_zero (x n)) last
]

-- ---- all rows, and the cost

-- a place is that of a value
pub record IsValuePlace (columns : ℕ) (place : dictionary.EntryPlace) : Type 0 where
  pub is_value : place ≡ value_place place.line
  pub is_line : IsValueLine columns place.line

value_at_row : (columns r : ℕ) (place : dictionary.EntryPlace) → place ≡ value_place (line.Row (columns + r)) → IsValuePlace columns place
value_at_row columns r place e = subst (IsValuePlace columns) (sym e) (record { is_value = refl; is_line = omega arith })

rows_place : (columns m : ℕ) (row : ℕ → ℕ → ℚ) (x : ℕ → ℚ) (place : dictionary.EntryPlace) → first_overflow (each m (λ r. form_operations (line.Row (columns + r)) columns (row r) x)) ≡ Some place → IsValuePlace columns place
rows_place columns zero row x place h = absurd (none-some place h)
rows_place columns (suc m) row x place h = elim (split (each m (λ r. form_operations (line.Row (columns + r)) columns (row r) x)) _ place h) [
  | inl before ↦ rows_place columns m row x place before
  | inr last ↦ value_at_row columns m place (form_place (line.Row (columns + m)) columns (row m) x place last)
]

value_at_cost : (columns : ℕ) (place : dictionary.EntryPlace) → place ≡ value_place line.Cost → IsValuePlace columns place
value_at_cost columns place e = subst (IsValuePlace columns) (sym e) (record { is_value = refl; is_line = tt })

pub first_place : (p : System) (place : dictionary.EntryPlace) → first_overflow (first_operations p) ≡ Some place → IsValuePlace (columns_of p) place
first_place p place h = elim (split (each (length p.rows) (λ r. form_operations (line.Row (columns_of p + r)) (columns_of p) (p.coefficient r) (first_value p))) _ place h) [
  | inl row ↦ rows_place (columns_of p) (length p.rows) p.coefficient (first_value p) place row
  | inr cost ↦ value_at_cost (columns_of p) place (form_place line.Cost (columns_of p) p.costs (first_value p) place cost)
]

-- ---- as it is answered

place_is : (linear : LinearProgram) (found : Place) → state_place linear (place_of found) ≡ value_place (line_of (length linear.bounds) found)
place_is linear (Row number) = refl
place_is linear Cost = refl

pub overflows_there : (linear : LinearProgram) (place : dictionary.EntryPlace) (found : Place) → first_overflow (first_operations (system_of linear)) ≡ Some place → line_of (length linear.bounds) found ≡ place.line → FirstValueOverflows linear (place_of found)
overflows_there linear place found h e =
    let v = first_place (system_of linear) place h in
    h ∙ ap Some (v.is_value ∙ (ap value_place (sym e) ∙ sym (place_is linear found)))

pub some_overflows : (linear : LinearProgram) → is_out_of_range (first_operations (system_of linear)) ≡ true → ¬ (first_overflow (first_operations (system_of linear)) ≡ None)
some_overflows linear h e = absurd (let f = ap is_some e in let g = sym h ∙ f in cc)
