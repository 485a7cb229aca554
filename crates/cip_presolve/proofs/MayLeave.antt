-- Which columns may be left out.
use Rattle.std.proofs.Common.{◌≡◌, ◌⊎◌, ℕ, zero, suc, ◌+◌, ◌<◌, Bool, true, List, [], ◌∷◌, ◌++◌, length, Option, None, Some, IfSome, slice_get, refl, sym, ap, ◌∙◌, subst, arith, inl, inr}
use Rattle.std.specs.Prelude.{slice_set}
use Rattle.std.proofs.Math.ListN.{get_or}
use Rattle.std.proofs.lemmas.Option.{none-some, same_Some, slice_get-get_or}
use Rattle.cip_rational.specs.Rational.{ℚ, zeroℚ, IsWhole}
use Rattle.cip_rational.specs.Range.{fits_range}
use Rattle.cip_problem.specs.Program.{Program, no_row}
use Rattle.cip_problem.specs.Box.{sides_at}
use Rattle.cip_problem.proofs.Points.AtPlaces.{satisfied_at}
use Rattle.cip_presolve.specs.Forms.{Form, constant_form}
use Rattle.cip_presolve.specs.RowReading.{only_value}
use Rattle.cip_presolve.proofs.Recosted.{both_sides}
use Rattle.cip_presolve.specs.ColumnForms.{RowGives, IsSubstitute}
use Rattle.cip_presolve.specs.FormEnds.{FormKeeps}
use Rattle.cip_presolve.specs.ColumnsOut.{IsPlainAndFree, GoesAtValue, GoesWhole, GoesByForm, MayGo, MayAllGo}

-- ---- one value

pub goes_at_value : (program : Program) (column : ℕ) (value : ℚ) (form : Form) → Some value ≡ only_value (sides_at program.bounds column) → form ≡ constant_form value → IsPlainAndFree program column → (whole : Bool) → slice_get program.integral column ≡ Some whole → (whole ≡ true → IsWhole value) → fits_range value ≡ true → GoesAtValue program column form
goes_at_value program column value form only is free whole w f in_range =
    let both = both_sides (sides_at program.bounds column) value (sym only) in
    record { value = value; is = is; free = free; fixed = record { low = both.0; high = both.1 }; whole = λ h. f (same_Some whole true (sym w ∙ h)); in_range = in_range }

pub ruleset at_value = (goes_at_value)

-- ---- one more

pushed : {X : Type 0} (xs : List X) (x y : X) (n : ℕ) → slice_get (xs ++ x ∷ []) n ≡ Some y → (slice_get xs n ≡ Some y) ⊎ ((n ≡ length xs) × (x ≡ y))
pushed [] x y zero h = inr (refl, same_Some x y h)
pushed [] x y (suc n) h = absurd (none-some y h)
pushed (z ∷ xs) x y zero h = inl h
pushed (z ∷ xs) x y (suc n) h = go (pushed xs x y n h)
  where
    go : (slice_get xs n ≡ Some y) ⊎ ((n ≡ length xs) × (x ≡ y)) → (slice_get xs n ≡ Some y) ⊎ ((suc n ≡ suc (length xs)) × (x ≡ y))
    go (inl k) = inl k
    go (inr k) = inr (ap (λ m. suc m) k.0, k.1)

-- the first columns may be left out
pub record FirstMayGo (program : Program) (forms : List (Option Form)) (count : ℕ) : Type 0 where
  pub long : length forms ≡ count
  pub each : (column : ℕ) (form : Form) → slice_get forms column ≡ Some (Some form) → MayGo program column form

pub none_yet : (program : Program) → FirstMayGo program [] 0
none_yet program = record { long = refl; each = λ column form h. absurd (none-some (Some form) h) }

more_may : (program : Program) (forms : List (Option Form)) (o : Option Form) (count : ℕ) → FirstMayGo program forms count → IfSome o (GoesAtValue program count) → (column : ℕ) (form : Form) → (slice_get forms column ≡ Some (Some form)) ⊎ ((column ≡ length forms) × (o ≡ Some form)) → MayGo program column form
more_may program forms o count f m column form (inl h) = f.each column form h
more_may program forms None count f m column form (inr h) = absurd (none-some form h.1)
more_may program forms (Some own) count f m column form (inr h) =
    subst (λ n. MayGo program n form) (sym (h.0 ∙ f.long)) (subst (λ u. MayGo program count u) (same_Some own form h.1) (inl m))

pub one_may : (program : Program) (forms new : List (Option Form)) (o : Option Form) (count : ℕ) → FirstMayGo program forms count → IfSome o (GoesAtValue program count) → new ≡ forms ++ o ∷ [] → FirstMayGo program new (count + 1)
one_may program forms new o count f m e = record {
  long = ap (λ (t : List (Option Form)). length t) e ∙ grown forms o ∙ ap (λ n. n + 1) f.long;
  each = λ column form h. more_may program forms o count f m column form (pushed forms o (Some form) column (subst (λ (t : List (Option Form)). slice_get t column ≡ Some (Some form)) e h));
}
  where
    grown : (forms : List (Option Form)) (o : Option Form) → length (forms ++ o ∷ []) ≡ length forms + 1
    grown [] o = refl
    grown (v ∷ forms) o = let k = grown forms o in omega (arith, k)

pub all_may : (program : Program) (forms : List (Option Form)) (count : ℕ) → FirstMayGo program forms count → count ≡ length program.bounds → MayAllGo program forms
all_may program forms count f e = record { long = f.long ∙ e; each = f.each }

pub ruleset one_more = (none_yet, one_may, all_may)

-- ---- a form

pub goes_by_form : (program : Program) (number column : ℕ) (form : Form) → number < length program.rows → RowGives program number column form → IsSubstitute program column form → ¬ (form.factor ≡ zeroℚ) → IsPlainAndFree program column → FormKeeps form (sides_at program.bounds form.source) (sides_at program.bounds column) → (slice_get program.integral column ≡ Some true → GoesWhole program form) → GoesByForm program column form
goes_by_form program number column form below gives s n free keeps whole =
    let g : slice_get program.rows number ≡ Some (get_or program.rows number no_row) = slice_get-get_or program.rows number no_row below in
    record {
      free = free;
      inside = s.inside;
      nonzero = n;
      keeps = keeps;
      forced = λ point r. (gives (get_or program.rows number no_row) g).follows point (satisfied_at program.rows point number (get_or program.rows number no_row) r.rows g);
      whole = whole;
    }

pub ruleset by_form = (goes_by_form)

-- ---- a form that is added

pub set_long : {X : Type 0} (xs : List X) (n : ℕ) (x : X) → length (slice_set xs n x) ≡ length xs
set_long [] n x = refl
set_long (y ∷ xs) zero x = refl
set_long (y ∷ xs) (suc n) x = ap (λ k. suc k) (set_long xs n x)

set_cases : {X : Type 0} (xs : List X) (n : ℕ) (x : X) (k : ℕ) (y : X) → slice_get (slice_set xs n x) k ≡ Some y → (slice_get xs k ≡ Some y) ⊎ ((k ≡ n) × (x ≡ y))
set_cases [] n x k y h = inl h
set_cases (z ∷ xs) zero x zero y h = inr (refl, same_Some x y h)
set_cases (z ∷ xs) zero x (suc k) y h = inl h
set_cases (z ∷ xs) (suc n) x zero y h = inl h
set_cases (z ∷ xs) (suc n) x (suc k) y h = go (set_cases xs n x k y h)
  where
    go : (slice_get xs k ≡ Some y) ⊎ ((k ≡ n) × (x ≡ y)) → (slice_get xs k ≡ Some y) ⊎ ((suc k ≡ suc n) × (x ≡ y))
    go (inl g) = inl g
    go (inr g) = inr (ap (λ m. suc m) g.0, g.1)

set_may : (program : Program) (forms : List (Option Form)) (column : ℕ) (form : Form) → MayAllGo program forms → GoesByForm program column form → (k : ℕ) (own : Form) → (slice_get forms k ≡ Some (Some own)) ⊎ ((k ≡ column) × (Some form ≡ Some own)) → MayGo program k own
set_may program forms column form m g k own (inl h) = m.each k own h
set_may program forms column form m g k own (inr h) =
    subst (λ n. MayGo program n own) (sym h.0) (subst (λ f. MayGo program column f) (same_Some form own h.1) (inr g))

pub form_added : (program : Program) (forms new : List (Option Form)) (column : ℕ) (form : Form) → MayAllGo program forms → GoesByForm program column form → new ≡ slice_set forms column (Some form) → MayAllGo program new
form_added program forms new column form m g e =
    subst (λ (fs : List (Option Form)). MayAllGo program fs) (sym e) (record {
      long = set_long forms column (Some form) ∙ m.long;
      each = λ k own h. set_may program forms column form m g k own (set_cases forms column (Some form) k (Some own) h);
    })

pub inside_forms : (program : Program) (forms : List (Option Form)) (column : ℕ) (form : Form) → MayAllGo program forms → GoesByForm program column form → column < length forms
inside_forms program forms column form m g = let l = m.long in let i = g.inside in omega (arith, l, i)

pub ruleset added = (inside_forms)
