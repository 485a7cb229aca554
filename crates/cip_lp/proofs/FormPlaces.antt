-- Places of numbers: a column that has a number is found at its place.
use Rattle.std.proofs.Common.{◌≡◌, ◌⊎◌, inl, inr, ℕ, zero, suc, ◌<◌, ◌==◌, Bool, true, false, ◌||◌, List, [], ◌∷◌, ◌++◌, length, set, Option, None, Some, refl, sym, ap, subst, ◌∙◌, arith}
use Rattle.std.specs.Prelude.{slice_get}
use Rattle.std.proofs.lemmas.Bool.{eqb-true, eq-eqb, cases_eq, false_from_ne_true, false≢true}
use Rattle.cip_text_rules.specs.LpFacts.{FormTerm, has_term}
use Rattle.cip_lp.specs.LpForms.{form_of, is_of, stands_at, ArePlaced}
use Rattle.cip_lp.proofs.FormOrder.{has_same}

-- ---- what is found is there

is_there : (terms : List FormTerm) (place column : ℕ) → is_of (slice_get terms place) column ≡ true → has_term terms column ≡ true
is_there [] place column e = e
is_there (t ∷ ts) zero column e = ap (λ (b : Bool). b || has_term ts column) e
is_there (t ∷ ts) (suc place) column e = go (t.column == column) (is_there ts place column e)
  where
    go : (b : Bool) → has_term ts column ≡ true → (b || has_term ts column) ≡ true
    go true h = refl
    go false h = h

found_there : (terms : List FormTerm) (place : Option ℕ) (column : ℕ) → stands_at terms place column ≡ true → has_term terms column ≡ true
found_there terms None column e = absurd (false≢true e)
found_there terms (Some place) column e = is_there terms place column e

same_tests : (a b : Bool) → (a ≡ true → b ≡ true) → (b ≡ true → a ≡ true) → a ≡ b
same_tests true b f g = sym (f refl)
same_tests false b f g = sym (false_from_ne_true b (λ e. false≢true (g e)))

-- a column has a number exactly where one is found
pub found_is : (terms : List FormTerm) (places : List ℕ) (column : ℕ) → ArePlaced terms places → stands_at terms (slice_get places column) column ≡ has_term (form_of terms) column
found_is terms places column h =
    same_tests (stands_at terms (slice_get places column) column) (has_term terms column) (found_there terms (slice_get places column) column) (h.placed column)
    ∙ has_same terms column

-- ---- with room for more places

kept_at : (terms : List FormTerm) (old new : Option ℕ) (column : ℕ) → ((place : ℕ) → old ≡ Some place → new ≡ Some place) → stands_at terms old column ≡ true → stands_at terms new column ≡ true
kept_at terms None new column kept e = absurd (false≢true e)
kept_at terms (Some place) new column kept e = ap (λ (o : Option ℕ). stands_at terms o column) (kept place refl) ∙ e

pub still_placed : (terms : List FormTerm) (old new : List ℕ) → ((column place : ℕ) → slice_get old column ≡ Some place → slice_get new column ≡ Some place) → ArePlaced terms old → ArePlaced terms new
still_placed terms old new kept h = record {
  placed = λ column e. kept_at terms (slice_get old column) (slice_get new column) column (kept column) (h.placed column e);
}

-- ---- with a number more

at_end : {X : Type 0} (xs : List X) (x : X) → slice_get (xs ++ x ∷ []) (length xs) ≡ Some x
at_end [] x = refl
at_end (y ∷ ys) x = at_end ys x

as_before : {X : Type 0} (xs : List X) (x y : X) (k : ℕ) → slice_get xs k ≡ Some y → slice_get (xs ++ x ∷ []) k ≡ Some y
as_before [] x y k e = absurd (cc)
as_before (z ∷ zs) x y zero e = e
as_before (z ∷ zs) x y (suc k) e = as_before zs x y k e

set_here : (places : List ℕ) (k v : ℕ) → k < length places → slice_get (set places k v) k ≡ Some v
set_here [] k v l = absurd (omega (arith, l))
set_here (p ∷ ps) zero v l = refl
set_here (p ∷ ps) (suc k) v l = set_here ps k v (omega (arith, l))

set_elsewhere : (places : List ℕ) (k v j : ℕ) → ¬ (j ≡ k) → slice_get (set places k v) j ≡ slice_get places j
set_elsewhere [] k v j n = refl
set_elsewhere (p ∷ ps) zero v zero n = absurd (n refl)
set_elsewhere (p ∷ ps) zero v (suc j) n = refl
set_elsewhere (p ∷ ps) (suc k) v zero n = refl
set_elsewhere (p ∷ ps) (suc k) v (suc j) n = set_elsewhere ps k v j (λ e. n (ap suc e))

has_before : (terms : List FormTerm) (t : FormTerm) (column : ℕ) → ¬ (column ≡ t.column) → has_term (terms ++ t ∷ []) column ≡ true → has_term terms column ≡ true
has_before [] t column n e = absurd (last (t.column == column) refl e)
  where
    last : (b : Bool) → (t.column == column) ≡ b → (b || false) ≡ true → ⊥
    last true p q = n (sym (eqb-true t.column column p))
    last false p q = false≢true q
has_before (o ∷ os) t column n e = go (o.column == column) (has_before os t column n) e
  where
    go : (b : Bool) → (has_term (os ++ t ∷ []) column ≡ true → has_term os column ≡ true) → (b || has_term (os ++ t ∷ []) column) ≡ true → (b || has_term os column) ≡ true
    go true h p = refl
    go false h p = h p

more_there : (terms : List FormTerm) (t : FormTerm) (found : Option FormTerm) (column place : ℕ) → slice_get terms place ≡ found → is_of found column ≡ true → is_of (slice_get (terms ++ t ∷ []) place) column ≡ true
more_there terms t None column place e h = absurd (false≢true h)
more_there terms t (Some other) column place e h = ap (λ (o : Option FormTerm). is_of o column) (as_before terms t other place e) ∙ h

still_found : (terms : List FormTerm) (t : FormTerm) (place : Option ℕ) (column : ℕ) → stands_at terms place column ≡ true → stands_at (terms ++ t ∷ []) place column ≡ true
still_found terms t None column h = absurd (false≢true h)
still_found terms t (Some place) column h = more_there terms t (slice_get terms place) column place refl h

pub placed_with : (terms : List FormTerm) (t : FormTerm) (places : List ℕ) → t.column < length places → ArePlaced terms places → ArePlaced (terms ++ t ∷ []) (set places t.column (length terms))
placed_with terms t places l h = record { placed = λ column e. go column e (cases_eq column t.column) }
  where
    own : stands_at (terms ++ t ∷ []) (slice_get (set places t.column (length terms)) t.column) t.column ≡ true
    own =
        ap (λ (o : Option ℕ). stands_at (terms ++ t ∷ []) o t.column) (set_here places t.column (length terms) l)
        ∙ ap (λ (o : Option FormTerm). is_of o t.column) (at_end terms t) ∙ eq-eqb t.column t.column refl

    go : (column : ℕ) → has_term (terms ++ t ∷ []) column ≡ true → (column ≡ t.column) ⊎ (column ≡ t.column → ⊥)
        → stands_at (terms ++ t ∷ []) (slice_get (set places t.column (length terms)) column) column ≡ true
    go column e (inl same) = subst (λ (c : ℕ). stands_at (terms ++ t ∷ []) (slice_get (set places t.column (length terms)) c) c ≡ true) (sym same) own
    go column e (inr other) =
        ap (λ (o : Option ℕ). stands_at (terms ++ t ∷ []) o column) (set_elsewhere places t.column (length terms) column other)
        ∙ still_found terms t (slice_get places column) column (h.placed column (has_before terms t column other e))

-- where room was made before
pub placed_more : (terms more : List FormTerm) (places room later : List ℕ) (t : FormTerm) → ArePlaced terms places → ((column place : ℕ) → slice_get places column ≡ Some place → slice_get room column ≡ Some place) → t.column < length room → more ≡ terms ++ t ∷ [] → later ≡ set room t.column (length terms) → ArePlaced more later
placed_more terms more places room later t h kept l m p =
    let base : ArePlaced (terms ++ t ∷ []) (set room t.column (length terms)) = placed_with terms t room l (still_placed terms places room kept h) in
    let here : ArePlaced (terms ++ t ∷ []) later = subst (λ (ps : List ℕ). ArePlaced (terms ++ t ∷ []) ps) (sym p) base in
    subst (λ (ts : List FormTerm). ArePlaced ts later) (sym m) here

-- what is found at a place that is kept, or none, of the form that contracts see
pub found_at : (terms : List FormTerm) (places : List ℕ) (column : ℕ) (form : List FormTerm) (place : Option ℕ) → ArePlaced terms places → form_of terms ≡ form → slice_get places column ≡ place → stands_at terms place column ≡ has_term form column
found_at terms places column form place h v e =
    ap (λ (o : Option ℕ). stands_at terms o column) (sym e) ∙ found_is terms places column h ∙ ap (λ (f : List FormTerm). has_term f column) v
