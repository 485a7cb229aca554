-- Numbers of a form in the order in which they came, and by rising column.
use Rattle.std.proofs.Common.{◌≡◌, ◌⊎◌, inl, inr, ℕ, zero, suc, ◌<◌, ◌≤◌, ◌==◌, Bool, true, cond, false, List, [], ◌∷◌, ◌++◌, length, get_or, fold, sum_by, refl, sym, ap, subst, ◌∙◌, arith, append-nil}
use Rattle.std.specs.Prelude.{nat_lt, All}
use Rattle.std.specs.List.{list_all, Contains}
use Rattle.std.specs.List.Sorted.{IsPermutation, IsNonDecreasingBy}
use Rattle.std.proofs.lemmas.Bool.{and_parts, ltb-true, eq-eqb, ne_eqb, cases_order}
use Rattle.std.proofs.lemmas.List.Elements.{All-head, All-tail, All-contains_itself}
use Rattle.std.proofs.lemmas.List.Sums.{sum_by-cons, AllPass-from_list_all}
use Rattle.std.proofs.lemmas.List.Sorted.{IsPermutation-refl, IsPermutation-sym, IsPermutation-trans, IsPermutation-cons, IsPermutation-middle, IsPermutation-append_left, All-permutation, sum_by-IsPermutation, list_any-IsPermutation}
use Rattle.cip_text_rules.specs.LpFacts.{FormTerm, form_with, has_term}
use Rattle.cip_text_rules.specs.LpSound.{form_rises}
use Rattle.cip_lp.specs.LpForms.{form_of}

-- ---- a form has the numbers that came

put_among : (t : FormTerm) (form : List FormTerm) → IsPermutation (t ∷ form) (form_with t form)
put_among t [] = IsPermutation-refl (t ∷ [])
put_among t (o ∷ os) = go (nat_lt t.column o.column) (put_among t os)
  where
    go : (b : Bool) → IsPermutation (t ∷ os) (form_with t os) → IsPermutation (t ∷ o ∷ os) (cond b (t ∷ o ∷ os) (o ∷ form_with t os))
    go true h = IsPermutation-refl (t ∷ o ∷ os)
    go false h = IsPermutation-trans (t ∷ o ∷ os) (o ∷ t ∷ os) (o ∷ form_with t os) (IsPermutation-middle (t ∷ []) o os) (IsPermutation-cons o (t ∷ os) (form_with t os) h)

abbrev put : List FormTerm → FormTerm → List FormTerm
put form t = form_with t form

all_among : (form terms : List FormTerm) → IsPermutation (form ++ terms) (fold put form terms)
all_among form [] = subst (λ (l : List FormTerm). IsPermutation l form) (sym (append-nil form)) (IsPermutation-refl form)
all_among form (t ∷ ts) =
    let front = IsPermutation-middle form t ts in
    let here = IsPermutation-append_left ts (t ∷ form) (form_with t form) (put_among t form) in
    IsPermutation-trans (form ++ t ∷ ts) (form_with t form ++ ts) (fold put (form_with t form) ts)
    (IsPermutation-trans (form ++ t ∷ ts) (t ∷ (form ++ ts)) (form_with t form ++ ts) front here) (all_among (form_with t form) ts)

pub same_terms : (terms : List FormTerm) → IsPermutation terms (form_of terms)
same_terms terms = all_among [] terms

-- so it has a number of the same columns
pub has_same : (terms : List FormTerm) (column : ℕ) → has_term terms column ≡ has_term (form_of terms) column
has_same terms column = list_any-IsPermutation (λ (t : FormTerm). t.column == column) terms (form_of terms) (same_terms terms)

-- ---- there is one order by rising column

-- how many numbers of a column a number is
abbrev is_here : ℕ → FormTerm → ℕ
is_here column t = cond (t.column == column) 1 0

here : (column : ℕ) (t : FormTerm) → t.column ≡ column → is_here column t ≡ 1
here column t e = ap (λ (b : Bool). cond b 1 0) (eq-eqb t.column column e)

elsewhere : (column : ℕ) (t : FormTerm) → column < t.column → is_here column t ≡ 0
elsewhere column t l = ap (λ (b : Bool). cond b 1 0) (ne_eqb t.column column (λ e. let same : t.column ≡ column = e in absurd (omega (arith, same, l))))

-- on later columns there is none
past : (column : ℕ) (ts : List FormTerm) → All (λ (t : FormTerm). column < t.column) ts → sum_by (is_here column) ts ≡ 0
past column [] h = refl
past column (t ∷ ts) h =
    let first = elsewhere column t (All-head (λ (o : FormTerm). column < o.column) t ts h) in
    let rest = past column ts (All-tail (λ (o : FormTerm). column < o.column) t ts h) in
    let both = sum_by-cons (is_here column) t ts in
    omega (arith, first, rest, both)

-- the columns behind the first one
abbrev IsUp : List FormTerm → Type 0
IsUp ts = IsNonDecreasingBy (λ (t : FormTerm). t.column) ts

up_rest : (t : FormTerm) (ts : List FormTerm) → IsUp (t ∷ ts) → IsUp ts
up_rest t ts h i j d le lt = h (suc i) (suc j) d (omega (arith, le)) (omega (arith, lt))

rises_behind : (column : ℕ) (t : FormTerm) (ts : List FormTerm) → form_rises (t ∷ ts) ≡ true → column < t.column → All (λ (o : FormTerm). column < o.column) ts
rises_behind column t ts r l k d lt =
    let up = AllPass-from_list_all (λ (o : FormTerm). nat_lt t.column o.column) ts (and_parts (list_all (λ (o : FormTerm). nat_lt t.column o.column) ts) (form_rises ts) r).0 in
    let m : t.column < (get_or ts k d).column = ltb-true t.column (get_or ts k d).column (up k d lt) in
    omega (arith, l, m)

up_behind : (column : ℕ) (t : FormTerm) (ts : List FormTerm) → IsUp (t ∷ ts) → column < t.column → All (λ (o : FormTerm). column < o.column) ts
up_behind column t ts h l k d lt =
    let m : t.column ≤ (get_or ts k d).column = h zero (suc k) d (omega arith) (omega (arith, lt)) in
    omega (arith, l, m)

-- the first columns of two such lists with the same numbers
abbrev AreAlike : List FormTerm → List FormTerm → Type 0
AreAlike xs ys = (f : FormTerm → ℕ) → sum_by f ys ≡ sum_by f xs

not_before : (x y : FormTerm) (xs ys : List FormTerm) → form_rises (x ∷ xs) ≡ true → AreAlike (x ∷ xs) (y ∷ ys) → y.column < x.column → ⊥
not_before x y xs ys r same l =
    let f = is_here y.column in
    let left = sum_by-cons f y ys in
    let right = sum_by-cons f x xs in
    let one = here y.column y refl in
    let none = elsewhere y.column x l in
    let rest = past y.column xs (rises_behind y.column x xs r l) in
    let e = same f in
    absurd (omega (arith, left, right, one, none, rest, e))

not_behind : (x y : FormTerm) (xs ys : List FormTerm) → IsUp (y ∷ ys) → AreAlike (x ∷ xs) (y ∷ ys) → x.column < y.column → ⊥
not_behind x y xs ys h same l =
    let f = is_here x.column in
    let left = sum_by-cons f y ys in
    let right = sum_by-cons f x xs in
    let one = here x.column x refl in
    let none = elsewhere x.column y l in
    let rest = past x.column ys (up_behind x.column y ys h l) in
    let e = same f in
    absurd (omega (arith, left, right, one, none, rest, e))

first_column : (x y : FormTerm) (xs ys : List FormTerm) → form_rises (x ∷ xs) ≡ true → IsUp (y ∷ ys) → AreAlike (x ∷ xs) (y ∷ ys) → y.column ≡ x.column
first_column x y xs ys r h same = go (cases_order y.column x.column)
  where
    go : (y.column ≡ x.column) ⊎ ((y.column < x.column) ⊎ (x.column < y.column)) → y.column ≡ x.column
    go (inl e) = e
    go (inr (inl l)) = absurd (not_before x y xs ys r same l)
    go (inr (inr l)) = absurd (not_behind x y xs ys h same l)

rest_alike : (x y : FormTerm) (xs ys : List FormTerm) → AreAlike (x ∷ xs) (y ∷ ys) → y ≡ x → AreAlike xs ys
rest_alike x y xs ys same e f =
    let left = sum_by-cons f y ys in
    let right = sum_by-cons f x xs in
    let first : f y ≡ f x = ap f e in
    let whole = same f in
    omega (arith, left, right, first, whole)

module _ (P : FormTerm → Type 0) (one : (s t : FormTerm) → P s → P t → s.column ≡ t.column → s ≡ t) where
  one_order : (xs ys : List FormTerm) → form_rises xs ≡ true → IsUp ys → All P xs → All P ys → AreAlike xs ys → ys ≡ xs
  one_order [] [] r h p q same = refl
  one_order [] (y ∷ ys) r h p q same =
      let count = same (λ (t : FormTerm). 1) in
      let left = sum_by-cons (λ (t : FormTerm). 1) y ys in
      absurd (omega (arith, count, left))
  one_order (x ∷ xs) [] r h p q same =
      let count = same (λ (t : FormTerm). 1) in
      let right = sum_by-cons (λ (t : FormTerm). 1) x xs in
      absurd (omega (arith, count, right))
  one_order (x ∷ xs) (y ∷ ys) r h p q same =
      let e : y ≡ x = one y x (All-head P y ys q) (All-head P x xs p) (first_column x y xs ys r h same) in
      let rest : ys ≡ xs = one_order xs ys (and_parts (list_all (λ (o : FormTerm). nat_lt x.column o.column) xs) (form_rises xs) r).1 (up_rest y ys h) (All-tail P x xs p) (All-tail P y ys q) (rest_alike x y xs ys same e) in
      λ i. e i ∷ rest i

-- ---- a column has one number

one_at : (form : List FormTerm) → form_rises form ≡ true → (j k : ℕ) (s t : FormTerm) → j < length form → k < length form → get_or form j s ≡ s → get_or form k t ≡ t → s.column ≡ t.column → s ≡ t
one_at [] r j k s t l m p q e = absurd (omega (arith, l))
one_at (x ∷ xs) r zero zero s t l m p q e = sym p ∙ q
one_at (x ∷ xs) r zero (suc k) s t l m p q e =
    let up = AllPass-from_list_all (λ (o : FormTerm). nat_lt x.column o.column) xs (and_parts (list_all (λ (o : FormTerm). nat_lt x.column o.column) xs) (form_rises xs) r).0 in
    let b : x.column < (get_or xs k t).column = ltb-true x.column (get_or xs k t).column (up k t (omega (arith, m))) in
    let c : (get_or xs k t).column ≡ t.column = ap (λ (o : FormTerm). o.column) q in
    let d : x.column ≡ s.column = ap (λ (o : FormTerm). o.column) p in
    absurd (omega (arith, b, c, d, e))
one_at (x ∷ xs) r (suc j) zero s t l m p q e =
    let up = AllPass-from_list_all (λ (o : FormTerm). nat_lt x.column o.column) xs (and_parts (list_all (λ (o : FormTerm). nat_lt x.column o.column) xs) (form_rises xs) r).0 in
    let b : x.column < (get_or xs j s).column = ltb-true x.column (get_or xs j s).column (up j s (omega (arith, l))) in
    let c : (get_or xs j s).column ≡ s.column = ap (λ (o : FormTerm). o.column) p in
    let d : x.column ≡ t.column = ap (λ (o : FormTerm). o.column) q in
    absurd (omega (arith, b, c, d, e))
one_at (x ∷ xs) r (suc j) (suc k) s t l m p q e =
    one_at xs (and_parts (list_all (λ (o : FormTerm). nat_lt x.column o.column) xs) (form_rises xs) r).1 j k s t (omega (arith, l)) (omega (arith, m)) p q e

-- ---- a sort by columns gives the form

pub sorted_form : (terms sorted : List FormTerm) → form_rises (form_of terms) ≡ true → IsPermutation terms sorted → IsNonDecreasingBy (λ (t : FormTerm). t.column) sorted → sorted ≡ form_of terms
sorted_form terms sorted r moved up =
    let form = form_of terms in
    let same : IsPermutation form sorted = IsPermutation-trans form terms sorted (IsPermutation-sym terms form (same_terms terms)) moved in
    let own = All-contains_itself form in
    one_order (Contains form) (λ s t a b e. one_at form r a.0 b.0 s t a.1 b.1 a.2 b.2 e) form sorted r up own
    (All-permutation (Contains form) form sorted same own) (λ f. sum_by-IsPermutation f form sorted same)
