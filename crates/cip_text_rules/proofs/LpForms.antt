-- Forms: a term is put where its column belongs.
use Rattle.std.proofs.Common.{◌≡◌, ℕ, ◌<◌, ◌==◌, Bool, true, false, cond, List, [], ◌∷◌, refl, ap, subst, ◌∙◌, arith}
use Rattle.std.specs.Prelude.{nat_lt, All}
use Rattle.std.specs.List.{list_all}
use Rattle.std.proofs.lemmas.List.Elements.{All-nil, All-cons, All-head, All-tail}
use Rattle.std.proofs.lemmas.Bool.{ltb-true, ltb-false, lt-ltb, eqb-true, eqb-false, eq-eqb, ne_eqb, and_parts, and_from, or_from}
use Rattle.cip_rational.specs.Rational.{ℚ, zeroℚ}
use Rattle.cip_problem.specs.Activity.{StandsBelow}
use Rattle.cip_problem.specs.Program.{Term}
use Rattle.cip_text_rules.specs.MpsStatements.{coefficient_in}
use Rattle.cip_text_rules.proofs.Quiet.{left_false, right_false}
use Rattle.cip_text_rules.specs.LpFacts.{FormTerm, form_with, has_term, terms_of}
use Rattle.cip_text_rules.specs.LpSound.{form_rises}
use Rattle.cip_text_rules.specs.LpStatements.{number_in_form}

-- ---- tests of all

-- what holds of a term and of a form holds of both together
pub all_put : (P : FormTerm → Type 0) (t : FormTerm) (form : List FormTerm) → P t → All P form → All P (form_with t form)
all_put P t [] p h = All-cons P t [] p (All-nil P)
all_put P t (o ∷ os) p h = go (nat_lt t.column o.column) (all_put P t os p (All-tail P o os h))
  where
    go : (b : Bool) → All P (form_with t os) → All P (cond b (t ∷ o ∷ os) (o ∷ form_with t os))
    go true k = All-cons P t (o ∷ os) p h
    go false k = All-cons P o (form_with t os) (All-head P o os h) k

list_all_put : (p : FormTerm → Bool) (t : FormTerm) (form : List FormTerm) → p t ≡ true → list_all p form ≡ true → list_all p (form_with t form) ≡ true
list_all_put p t [] e h = and_from (p t) true e refl
list_all_put p t (o ∷ os) e h =
    let a = and_parts (p o) (list_all p os) h in
    go (nat_lt t.column o.column) (list_all_put p t os e a.1) a.0
  where
    go : (b : Bool) → list_all p (form_with t os) ≡ true → p o ≡ true → list_all p (cond b (t ∷ o ∷ os) (o ∷ form_with t os)) ≡ true
    go true k l = and_from (p t) (list_all p (o ∷ os)) e h
    go false k l = and_from (p o) (list_all p (form_with t os)) l k

-- ---- rising columns

above : (a b : ℕ) (form : List FormTerm) → a < b → list_all (λ other. nat_lt b other.column) form ≡ true → list_all (λ other. nat_lt a other.column) form ≡ true
above a b [] l h = refl
above a b (o ∷ os) l h =
    let p = and_parts (nat_lt b o.column) (list_all (λ other. nat_lt b other.column) os) h in
    let m : b < o.column = ltb-true b o.column p.0 in
    and_from (nat_lt a o.column) _ (lt-ltb a o.column (omega arith)) (above a b os l p.1)

pub rises_put : (t : FormTerm) (form : List FormTerm) → has_term form t.column ≡ false → form_rises form ≡ true → form_rises (form_with t form) ≡ true
rises_put t [] e h = refl
rises_put t (o ∷ os) e h =
    let p = and_parts (list_all (λ other. nat_lt o.column other.column) os) (form_rises os) h in
    go (nat_lt t.column o.column) refl p.0 p.1 (rises_put t os (right_false (o.column == t.column) (has_term os t.column) e) p.1)
  where
    go : (b : Bool) → nat_lt t.column o.column ≡ b → list_all (λ other. nat_lt o.column other.column) os ≡ true → form_rises os ≡ true → form_rises (form_with t os) ≡ true → form_rises (cond b (t ∷ o ∷ os) (o ∷ form_with t os)) ≡ true
    go true q a r k =
        and_from _ (form_rises (o ∷ os))
        (and_from (nat_lt t.column o.column) _ q (above t.column o.column os (ltb-true t.column o.column q) a)) h
    go false q a r k =
        let n : ¬ (o.column ≡ t.column) = eqb-false o.column t.column (left_false (o.column == t.column) (has_term os t.column) e) in
        let m = ltb-false t.column o.column q in
        and_from _ (form_rises (form_with t os))
        (list_all_put (λ other. nat_lt o.column other.column) t os (lt-ltb o.column t.column (omega (arith, n, m))) a) k

-- ---- numbers

same_first : (t : FormTerm) (rest : ℚ) → cond (t.column == t.column) (cond t.zero zeroℚ t.value) rest ≡ cond t.zero zeroℚ t.value
same_first t rest = go (t.column == t.column) (eq-eqb t.column t.column refl)
  where
    go : (b : Bool) → b ≡ true → cond b (cond t.zero zeroℚ t.value) rest ≡ cond t.zero zeroℚ t.value
    go true e = refl
    go false e = absurd (cc)

skip : (b : Bool) (x y z : ℚ) → b ≡ false → y ≡ z → cond b x y ≡ z
skip false x y z e h = h
skip true x y z e h = absurd (cc)

pub own_number : (t : FormTerm) (form : List FormTerm) → has_term form t.column ≡ false → number_in_form (form_with t form) t.column ≡ cond t.zero zeroℚ t.value
own_number t [] e = same_first t zeroℚ
own_number t (o ∷ os) e = go (nat_lt t.column o.column) (own_number t os (right_false (o.column == t.column) (has_term os t.column) e))
  where
    go : (b : Bool) → number_in_form (form_with t os) t.column ≡ cond t.zero zeroℚ t.value → number_in_form (cond b (t ∷ o ∷ os) (o ∷ form_with t os)) t.column ≡ cond t.zero zeroℚ t.value
    go true k = same_first t (number_in_form (o ∷ os) t.column)
    go false k = skip (o.column == t.column) _ _ _ (left_false (o.column == t.column) (has_term os t.column) e) k

pub other_number : (t : FormTerm) (form : List FormTerm) (column : ℕ) → (t.column == column) ≡ false → number_in_form (form_with t form) column ≡ number_in_form form column
other_number t [] column e = skip (t.column == column) _ _ _ e refl
other_number t (o ∷ os) column e = go (nat_lt t.column o.column) (other_number t os column e)
  where
    go : (b : Bool) → number_in_form (form_with t os) column ≡ number_in_form os column → number_in_form (cond b (t ∷ o ∷ os) (o ∷ form_with t os)) column ≡ number_in_form (o ∷ os) column
    go true k = skip (t.column == column) _ _ _ e refl
    go false k = ap (λ (x : ℚ). cond (o.column == column) (cond o.zero zeroℚ o.value) x) k

-- a form whose columns are above one has no number there
none_above : (a : ℕ) (form : List FormTerm) → list_all (λ other. nat_lt a other.column) form ≡ true → coefficient_in (terms_of form) a ≡ zeroℚ
none_above a [] h = refl
none_above a (o ∷ os) h =
    let p = and_parts (nat_lt a o.column) (list_all (λ other. nat_lt a other.column) os) h in
    let l : a < o.column = ltb-true a o.column p.0 in
    go o.zero (ne_eqb o.column a (λ e. let f : o.column ≡ a = e in absurd (omega arith))) (none_above a os p.1)
  where
    go : (z : Bool) → (o.column == a) ≡ false → coefficient_in (terms_of os) a ≡ zeroℚ → coefficient_in (cond z (terms_of os) (record { column = o.column; coefficient = o.value } ∷ terms_of os)) a ≡ zeroℚ
    go true n k = k
    go false n k = skip (o.column == a) _ _ _ n k

pub row_numbers : (form : List FormTerm) (column : ℕ) → form_rises form ≡ true → coefficient_in (terms_of form) column ≡ number_in_form form column
row_numbers [] column h = refl
row_numbers (o ∷ os) column h =
    let p = and_parts (list_all (λ other. nat_lt o.column other.column) os) (form_rises os) h in
    go o.zero (o.column == column) refl p.0 (row_numbers os column p.1)
  where
    go : (z b : Bool) → (o.column == column) ≡ b → list_all (λ other. nat_lt o.column other.column) os ≡ true → coefficient_in (terms_of os) column ≡ number_in_form os column → coefficient_in (cond z (terms_of os) (record { column = o.column; coefficient = o.value } ∷ terms_of os)) column ≡ cond b (cond z zeroℚ o.value) (number_in_form os column)
    go true true q a k = subst (λ (c : ℕ). coefficient_in (terms_of os) c ≡ zeroℚ) (eqb-true o.column column q) (none_above o.column os a)
    go true false q a k = k
    go false true q a k = ap (λ (x : Bool). cond x o.value (coefficient_in (terms_of os) column)) q
    go false false q a k = ap (λ (x : Bool). cond x o.value (coefficient_in (terms_of os) column)) q ∙ k

-- the terms of a form stand on its columns
pub terms_below : (n : ℕ) (form : List FormTerm) → All (λ t. t.column < n) form → StandsBelow n (terms_of form)
terms_below n [] h = All-nil (λ (t : Term). t.column < n)
terms_below n (o ∷ os) h = go o.zero (terms_below n os (All-tail (λ (t : FormTerm). t.column < n) o os h))
  where
    go : (z : Bool) → StandsBelow n (terms_of os) → StandsBelow n (cond z (terms_of os) (record { column = o.column; coefficient = o.value } ∷ terms_of os))
    go true k = k
    go false k = All-cons (λ (t : Term). t.column < n) _ (terms_of os) (All-head (λ (t : FormTerm). t.column < n) o os h) k

-- a form on the first columns has no number of the next one
pub none_next : (n : ℕ) (form : List FormTerm) → All (λ t. t.column < n) form → has_term form n ≡ false
none_next n [] h = refl
none_next n (o ∷ os) h =
    let l : o.column < n = All-head (λ (t : FormTerm). t.column < n) o os h in
    or_from (o.column == n) (has_term os n) (ne_eqb o.column n (λ e. let f : o.column ≡ n = e in absurd (omega arith)))
    (none_next n os (All-tail (λ (t : FormTerm). t.column < n) o os h))
