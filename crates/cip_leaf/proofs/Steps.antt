-- One more column, and one more term.
use Rattle.std.proofs.Common.{◌≡◌, ◌≢◌, ℕ, zero, suc, ◌+◌, ◌-◌, ◌<◌, Bool, true, false, not, List, [], ◌∷◌, ◌++◌, length, take, drop, All, refl, sym, ap, ◌∙◌, subst, arith, true≢false, cond, add-one, append-nil}
use Rattle.std.proofs.Math.ListN.{get_or}
use Rattle.std.proofs.Math.Seq.{take-suc}
use Rattle.std.proofs.lemmas.List.{get_or-take, length-take-le, get_or_default}
use Rattle.std.proofs.lemmas.List.Elements.{All-get_or, All-from_get_or, All-head, All-tail, All-cons, All-nil}
use Rattle.cip_rational.specs.Rational.{zeroℚ}
use Rattle.cip_problem.specs.Program.{Term}
use Rattle.cip_problem.specs.Activity.{StandsBelow}
use Rattle.cip_problem.specs.RowTerms.{no_term, column_at, AreTerms}
use Rattle.cip_lin.specs.RowFaults.{CanStandAfter}
use Rattle.cip_search.specs.LeafProgram.{at_continuous, is_continuous, new_number, continuous_terms}
use Rattle.cip_leaf.specs.Building.{numbers_from}

-- ---- columns

skip : {X : Type 0} (k : ℕ) (ws : List Bool) (xs : List X) → length ws ≡ length xs → get_or ws k false ≡ true → at_continuous (drop k ws) (drop k xs) ≡ at_continuous (drop (suc k) ws) (drop (suc k) xs)
skip k [] [] e h = absurd (true≢false (sym h))
skip k [] (x ∷ xs) e h = absurd (omega (arith, e))
skip k (w ∷ ws) [] e h = absurd (omega (arith, e))
skip zero (true ∷ ws) (x ∷ xs) e h = refl
skip zero (false ∷ ws) (x ∷ xs) e h = absurd (true≢false (sym h))
skip (suc k) (w ∷ ws) (x ∷ xs) e h = skip k ws xs (omega (arith, e)) h

-- a whole column leaves nothing
pub skipped : {X : Type 0} (k : ℕ) (ws : List Bool) (xs made all : List X) → length ws ≡ length xs → get_or ws k false ≡ true → made ++ at_continuous (drop k ws) (drop k xs) ≡ all → made ++ at_continuous (drop (k + 1) ws) (drop (k + 1) xs) ≡ all
skipped k ws xs made all e h f = rw add-one (ap (λ t. made ++ t) (sym (skip k ws xs e h)) ∙ f)

pub continuous_test : (ws : List Bool) (k : ℕ) (test : Bool) → k < length ws → get_or ws k false ≡ test → is_continuous ws k ≡ not test
continuous_test [] k test l h = absurd (omega (arith, l))
continuous_test (true ∷ ws) zero test l h = ap not h
continuous_test (false ∷ ws) zero test l h = ap not h
continuous_test (true ∷ ws) (suc k) test l h = continuous_test ws k test (omega (arith, l)) h
continuous_test (false ∷ ws) (suc k) test l h = continuous_test ws k test (omega (arith, l)) h

-- ---- new numbers

pub numbers-long : (n : ℕ) (ws : List Bool) → length (numbers_from n ws) ≡ length ws
numbers-long n [] = refl
numbers-long n (true ∷ ws) = ap suc (numbers-long n ws)
numbers-long n (false ∷ ws) = ap suc (numbers-long (n + 1) ws)

numbers_at : (n : ℕ) (ws : List Bool) (k : ℕ) → k < length ws → get_or (numbers_from n ws) k 0 ≡ n + new_number ws k
numbers_at n [] k l = absurd (omega (arith, l))
numbers_at n (true ∷ ws) zero l = omega arith
numbers_at n (false ∷ ws) zero l = omega arith
numbers_at n (true ∷ ws) (suc k) l = numbers_at n ws k (omega (arith, l))
numbers_at n (false ∷ ws) (suc k) l = let h = numbers_at (n + 1) ws k (omega (arith, l)) in omega (arith, h)

pub number_at : (ws : List Bool) (k : ℕ) → k < length ws → get_or (numbers_from 0 ws) k 0 ≡ new_number ws k
number_at ws k l = let h = numbers_at 0 ws k l in omega (arith, h)

-- new numbers rise with the numbers of continuous columns
numbers_rise : (ws : List Bool) (j k : ℕ) → j < k → is_continuous ws j ≡ true → new_number ws j < new_number ws k
numbers_rise [] j k l h = absurd (true≢false (sym h))
numbers_rise (w ∷ ws) j zero l h = absurd (omega (arith, l))
numbers_rise (true ∷ ws) zero (suc k) l h = absurd (true≢false (sym h))
numbers_rise (true ∷ ws) (suc j) (suc k) l h = numbers_rise ws j k (omega (arith, l)) h
numbers_rise (false ∷ ws) zero (suc k) l h = omega arith
numbers_rise (false ∷ ws) (suc j) (suc k) l h = let r = numbers_rise ws j k (omega (arith, l)) h in omega (arith, r)

-- ---- terms

abbrev moved : List Bool → Term → Term
moved integral t = record { column = new_number integral t.column; coefficient = t.coefficient }

behind : (integral : List Bool) (x : Term) (more fewer last : List Term) (b : Bool) → more ≡ fewer ++ last → cond b (moved integral x ∷ more) more ≡ cond b (moved integral x ∷ fewer) fewer ++ last
behind integral x more fewer last true e = ap (λ ts. moved integral x ∷ ts) e
behind integral x more fewer last false e = e

one_term : (integral : List Bool) (xs : List Term) (t : Term) (test : Bool) → is_continuous integral t.column ≡ test → continuous_terms integral (xs ++ t ∷ []) ≡ continuous_terms integral xs ++ cond test (moved integral t ∷ []) []
one_term integral [] t test e = ap (λ b. cond b (moved integral t ∷ []) []) e
one_term integral (x ∷ xs) t test e = behind integral x (continuous_terms integral (xs ++ t ∷ [])) (continuous_terms integral xs) (cond test (moved integral t ∷ []) []) (is_continuous integral x.column) (one_term integral xs t test e)

-- the terms as far as the next one
pub whole_term : (integral : List Bool) (terms : List Term) (k : ℕ) (t : Term) → k < length terms → get_or terms k t ≡ t → is_continuous integral t.column ≡ false → continuous_terms integral (take (k + 1) terms) ≡ continuous_terms integral (take k terms)
whole_term integral terms k t l e h =
    rw add-one
    (ap (continuous_terms integral) (take-suc terms k t l ∙ ap (λ u. take k terms ++ u ∷ []) e)
    ∙ (one_term integral (take k terms) t false h ∙ append-nil (continuous_terms integral (take k terms))))

pub continuous_term : (integral : List Bool) (terms : List Term) (k : ℕ) (t : Term) → k < length terms → get_or terms k t ≡ t → is_continuous integral t.column ≡ true → continuous_terms integral (take (k + 1) terms) ≡ continuous_terms integral (take k terms) ++ moved integral t ∷ []
continuous_term integral terms k t l e h =
    rw add-one
    (ap (continuous_terms integral) (take-suc terms k t l ∙ ap (λ u. take k terms ++ u ∷ []) e)
    ∙ one_term integral (take k terms) t true h)

-- ---- the next term can stand there

columns_rise : (terms : List Term) (i d : ℕ) → AreTerms terms → i + suc d < length terms → column_at terms i < column_at terms (i + suc d)
columns_rise terms i zero h l = let r = h.rising i (omega (arith, l)) in r
columns_rise terms i (suc d) h l =
    let r = columns_rise terms i d h (omega (arith, l)) in
    let s : column_at terms (i + suc d) < column_at terms (i + suc d + 1) = h.rising (i + suc d) (omega (arith, l)) in
    let e : i + suc d + 1 ≡ i + suc (suc d) = omega arith in
    let s2 : column_at terms (i + suc d) < column_at terms (i + suc (suc d)) = subst (λ n. column_at terms (i + suc d) < column_at terms n) e s in
    omega (arith, r, s2)

before : (terms : List Term) (i k : ℕ) → AreTerms terms → i < k → k < length terms → column_at terms i < column_at terms k
before terms i k h l m =
    let d : ℕ = k - suc i in
    let e : i + suc d ≡ k = omega arith in
    subst (λ n. column_at terms i < column_at terms n) e (columns_rise terms i d h (omega arith))

all_before : (terms : List Term) (k : ℕ) → AreTerms terms → k < length terms → All (λ t. t.column < column_at terms k) (take k terms)
all_before terms k h l =
    All-from_get_or (λ t. t.column < column_at terms k) (take k terms) no_term
    (λ i m. let n : i < k = omega (arith, m, length-take-le k terms (omega (arith, l))) in
    subst (λ (t : Term). t.column < column_at terms k) (sym (get_or-take k terms i no_term n)) (before terms i k h n l))

first_below : (integral : List Bool) (x : Term) (xs : List Term) (column : ℕ) (b : Bool) → is_continuous integral x.column ≡ b → x.column < column → All (λ t. t.column < new_number integral column) xs → All (λ t. t.column < new_number integral column) (cond b (moved integral x ∷ xs) xs)
first_below integral x xs column true e l h = All-cons (λ t. t.column < new_number integral column) (moved integral x) xs (numbers_rise integral x.column column l e) h
first_below integral x xs column false e l h = h

numbers_below : (integral : List Bool) (xs : List Term) (column : ℕ) → All (λ t. t.column < column) xs → All (λ t. t.column < new_number integral column) (continuous_terms integral xs)
numbers_below integral [] column h = All-nil (λ t. t.column < new_number integral column)
numbers_below integral (x ∷ xs) column h =
    first_below integral x (continuous_terms integral xs) column (is_continuous integral x.column) refl (All-head (λ t. t.column < column) x xs h)
    (numbers_below integral xs column (All-tail (λ t. t.column < column) x xs h))

pub stands_next : (integral : List Bool) (terms : List Term) (k : ℕ) (t : Term) → AreTerms terms → k < length terms → get_or terms k t ≡ t → CanStandAfter (continuous_terms integral (take k terms)) (moved integral t)
stands_next integral terms k t h l e =
    let same : get_or terms k no_term ≡ t = get_or_default terms k no_term t l ∙ e in
    let below = numbers_below integral (take k terms) (column_at terms k) (all_before terms k h l) in
    record {
      above = record { above = λ i m. subst (λ (u : Term). column_at (continuous_terms integral (take k terms)) i < new_number integral u.column) same (All-get_or (λ t. t.column < new_number integral (column_at terms k)) (continuous_terms integral (take k terms)) i no_term (omega (arith, m)) below) };
      nonzero = subst (λ (u : Term). u.coefficient ≢ zeroℚ) same (h.nonzero k l);
    }

-- a term of a row stands on one of the columns
pub stands_on : (n : ℕ) (terms : List Term) (k : ℕ) (t : Term) → StandsBelow n terms → k < length terms → get_or terms k t ≡ t → t.column < n
stands_on n terms k t h l e = subst (λ (u : Term). u.column < n) e (All-get_or (λ t. t.column < n) terms k t l h)
