-- The aggregated row holds where its parts do; it is the one that is computed.
use mathlib.Core.Path.{fun_ext}
use Rattle.std.proofs.Common.{◌≡◌, ℕ, zero, suc, ◌+◌, ◌<◌, ◌==◌, cond, List, [], ◌∷◌, length, map, refl, sym, ap, ap₂, ◌∙◌, arith}
use Rattle.std.specs.List.{AllByRecursion, range_with_len}
use Rattle.std.proofs.lemmas.List.FromFn.{length-map-range_with_len}
use Rattle.std.proofs.Math.Dec.{eqb-suc-zero, eqb-zero-suc, eqb-suc-suc}
use Rattle.std.proofs.lemmas.List.Elements.{recursion_from_All}
use Rattle.cip_rational.specs.Rational.{ℚ, ◌+ℚ◌, ◌*ℚ◌, zeroℚ, oneℚ, ◌≤ℚ◌}
use Rattle.cip_rational.specs.Sums.{dot}
use Rattle.cip_rational.proofs.Rational.Ring.{+ℚ-zero, zero-+ℚ, zero-*ℚ, *ℚ-zero, *ℚ-one, *ℚ_assoc}
use Rattle.cip_rational.proofs.Rational.Order.{≤ℚ_refl}
use Rattle.cip_rational.proofs.Rational.Monotone.{+ℚ_mono}
use Rattle.cip_rational.proofs.Linear.{linear_same}
use Rattle.cip_problem.specs.Program.{Term}
use Rattle.cip_problem.specs.Activity.{activity, value_at, StandsBelow}
use Rattle.cip_problem.specs.Aggregate.{Part, AllHoldAt, Inequality, Holds, total_activity, total_side, IsAggregate, table, coefficient_on, combined, aggregate}

-- ---- the sum of parts that hold

pub total_holds : (parts : List Part) (point : List ℚ) → AllHoldAt parts point → total_side parts ≤ℚ total_activity parts point
total_holds [] point h = ≤ℚ_refl zeroℚ
total_holds (p ∷ ps) point h = +ℚ_mono h.0 (total_holds ps point h.1)

pub aggregate_holds : (columns : ℕ) (parts : List Part) (row : Inequality) (point : List ℚ) → IsAggregate columns parts row → AllHoldAt parts point → Holds row point
aggregate_holds columns parts row point h k = rw (h.least, h.form point) (total_holds parts point k)

-- ---- tables

pub length-table : {X : Type 0} (n : ℕ) (f : ℕ → X) → length (table n f) ≡ n
unfolding table
length-table n f = length-map-range_with_len f 0 n

-- a table, one value before the others
abbrev pub listed : {X : Type 0} → ℕ → (ℕ → X) → List X
listed zero f = []
listed (suc n) f = f 0 ∷ listed n (λ k. f (suc k))

listed_from : {X : Type 0} (a n : ℕ) (f g : ℕ → X) → ((k : ℕ) → f (a + k) ≡ g k) → map f (range_with_len a n) ≡ listed n g
listed_from a zero f g h = refl
listed_from a (suc n) f g h =
    let first : a ≡ a + 0 = omega arith in
    ap₂ (λ x xs. x ∷ xs) (ap f first ∙ h 0)
    (listed_from (a + 1) n f (λ k. g (suc k)) (λ k. let next : (a + 1) + k ≡ a + suc k = omega arith in ap f next ∙ h (suc k)))

pub table_listed : {X : Type 0} (n : ℕ) (f : ℕ → X) → table n f ≡ listed n f
unfolding table
table_listed n f = listed_from 0 n f f (λ k. let same : 0 + k ≡ k = omega arith in ap f same)

zeros_listed : (n : ℕ) (f : ℕ → ℚ) (xs : List ℚ) → ((k : ℕ) → f k ≡ zeroℚ) → dot (listed n f) xs ≡ zeroℚ
zeros_listed zero f xs e = refl
zeros_listed (suc n) f [] e = refl
zeros_listed (suc n) f (x ∷ xs) e = rw (e 0, zero-*ℚ x, zeros_listed n (λ k. f (suc k)) xs (λ k. e (suc k))) (zero-+ℚ zeroℚ)

sum_listed : (n : ℕ) (f g : ℕ → ℚ) (c : ℚ) (xs : List ℚ) → dot (listed n (λ k. c *ℚ f k +ℚ g k)) xs ≡ c *ℚ dot (listed n f) xs +ℚ dot (listed n g) xs
sum_listed zero f g c xs = sym (+ℚ-zero (c *ℚ zeroℚ) ∙ *ℚ-zero c)
sum_listed (suc n) f g c [] = sym (+ℚ-zero (c *ℚ zeroℚ) ∙ *ℚ-zero c)
sum_listed (suc n) f g c (x ∷ xs) =
    let e = sum_listed n (λ k. f (suc k)) (λ k. g (suc k)) c xs in
    let a : (c *ℚ f 0) *ℚ x ≡ c *ℚ (f 0 *ℚ x) = *ℚ_assoc c (f 0) x in
    linear_same
    ((c *ℚ f 0 *ℚ x) ∷ (g 0 *ℚ x) ∷ (c *ℚ (f 0 *ℚ x)) ∷ (c *ℚ dot (listed n (λ k. f (suc k))) xs) ∷ dot (listed n (λ k. g (suc k))) xs ∷ dot (listed n (λ k. c *ℚ f (suc k) +ℚ g (suc k))) xs ∷ [])
    (λ s w. let m = s.products tt in omega (arith, s.same_out))

add_listed : (n : ℕ) (f g : ℕ → ℚ) (xs : List ℚ) → dot (listed n (λ k. f k +ℚ g k)) xs ≡ dot (listed n f) xs +ℚ dot (listed n g) xs
add_listed zero f g xs = sym (+ℚ-zero zeroℚ)
add_listed (suc n) f g [] = sym (+ℚ-zero zeroℚ)
add_listed (suc n) f g (x ∷ xs) =
    let e = add_listed n (λ k. f (suc k)) (λ k. g (suc k)) xs in
    linear_same
    ((f 0 *ℚ x) ∷ (g 0 *ℚ x) ∷ dot (listed n (λ k. f (suc k))) xs ∷ dot (listed n (λ k. g (suc k))) xs ∷ dot (listed n (λ k. f (suc k) +ℚ g (suc k))) xs ∷ [])
    (λ s w. let m = s.products tt in omega (arith, s.same_out))

-- ---- the coefficients of a sum of terms

-- a number on one column, and 0 on the others
abbrev at_column : ℕ → ℚ → ℕ → ℚ
at_column column c k = cond (column == k) c zeroℚ

at_listed : (n column : ℕ) (c : ℚ) (xs : List ℚ) → column < n → dot (listed n (at_column column c)) xs ≡ c *ℚ value_at xs column
at_listed zero column c xs h = absurd (omega arith)
at_listed (suc n) column c [] h = sym (*ℚ-zero c)
at_listed (suc n) zero c (x ∷ xs) h =
    rw (zeros_listed n (λ k. cond (0 == suc k) c zeroℚ) xs (λ k. ap (λ b. cond b c zeroℚ) (eqb-zero-suc k))) (+ℚ-zero (c *ℚ x))
at_listed (suc n) (suc column) c (x ∷ xs) h =
    let e : (λ (k : ℕ). cond (suc column == suc k) c zeroℚ) ≡ at_column column c = fun_ext (λ k. ap (λ b. cond b c zeroℚ) (eqb-suc-suc column k)) in
    rw (eqb-suc-zero column, zero-*ℚ x, ap (λ f. dot (listed n f) xs) e, at_listed n column c xs (omega arith)) (zero-+ℚ (c *ℚ value_at xs column))

terms_listed : (n : ℕ) (terms : List Term) (xs : List ℚ) → AllByRecursion (λ t. t.column < n) terms → dot (listed n (coefficient_on terms)) xs ≡ activity terms xs
terms_listed n [] xs h = zeros_listed n (λ k. zeroℚ) xs (λ k. refl)
terms_listed n (t ∷ ts) xs h =
    add_listed n (at_column t.column t.coefficient) (coefficient_on ts) xs ∙ ap₂ (λ u v. u +ℚ v) (at_listed n t.column t.coefficient xs h.0) (terms_listed n ts xs h.1)

parts_listed : (n : ℕ) (parts : List Part) (xs : List ℚ) → AllByRecursion (λ part. StandsBelow n part.terms) parts → dot (listed n (combined parts)) xs ≡ total_activity parts xs
parts_listed n [] xs h = zeros_listed n (λ k. zeroℚ) xs (λ k. refl)
parts_listed n (p ∷ ps) xs h =
    sum_listed n (coefficient_on p.terms) (combined ps) p.factor xs ∙ ap₂ (λ u v. p.factor *ℚ u +ℚ v) (terms_listed n p.terms xs (recursion_from_All _ p.terms h.0)) (parts_listed n ps xs h.1)

pub parts_form : (n : ℕ) (parts : List Part) (xs : List ℚ) → AllByRecursion (λ part. StandsBelow n part.terms) parts → dot (table n (combined parts)) xs ≡ total_activity parts xs
parts_form n parts xs h = ap (λ t. dot t xs) (table_listed n (combined parts)) ∙ parts_listed n parts xs h

pub aggregate_is : (columns : ℕ) (parts : List Part) → AllByRecursion (λ part. StandsBelow columns part.terms) parts → IsAggregate columns parts (aggregate columns parts)
aggregate_is columns parts h = record {
  long = length-table columns (combined parts);
  form = λ point. parts_form columns parts point h;
  least = refl;
}

-- ---- a linear form has one list of coefficients

abbrev zeros : List ℚ → List ℚ
zeros [] = []
zeros (x ∷ xs) = zeroℚ ∷ zeros xs

length-zeros : (xs : List ℚ) → length (zeros xs) ≡ length xs
length-zeros [] = refl
length-zeros (x ∷ xs) = ap suc (length-zeros xs)

dot-zeros : (xs ys : List ℚ) → dot xs (zeros ys) ≡ zeroℚ
dot-zeros [] ys = refl
dot-zeros (x ∷ xs) [] = refl
dot-zeros (x ∷ xs) (y ∷ ys) = rw (*ℚ-zero x, dot-zeros xs ys) (zero-+ℚ zeroℚ)

first_value : (a : ℚ) (av : List ℚ) (ys : List ℚ) → dot (a ∷ av) (oneℚ ∷ zeros ys) ≡ a
first_value a av ys = rw (*ℚ-one a, dot-zeros av ys) (+ℚ-zero a)

rest_value : (a : ℚ) (av : List ℚ) (ys : List ℚ) → dot (a ∷ av) (zeroℚ ∷ ys) ≡ dot av ys
rest_value a av ys = rw (*ℚ-zero a) (zero-+ℚ (dot av ys))

-- two lists of one length that give the same sums at each list of that length are the same
pub same_form : (av bv : List ℚ) → length av ≡ length bv → ((xs : List ℚ) → length xs ≡ length av → dot av xs ≡ dot bv xs) → av ≡ bv
same_form [] [] e h = refl
same_form [] (b ∷ bv) e h = absurd (omega (arith, e))
same_form (a ∷ av) [] e h = absurd (omega (arith, e))
same_form (a ∷ av) (b ∷ bv) e h =
    ap₂ (λ x xs. x ∷ xs)
    (sym (first_value a av av) ∙ h (oneℚ ∷ zeros av) (ap suc (length-zeros av)) ∙ first_value b bv av)
    (same_form av bv (omega (arith, e)) (λ xs l. sym (rest_value a av xs) ∙ h (zeroℚ ∷ xs) (ap suc l) ∙ rest_value b bv xs))

abbrev inequality : List ℚ → ℚ → Inequality
inequality coefficients least = record { coefficients = coefficients; least = least }

pub inequality_same : (first second : Inequality) → first.coefficients ≡ second.coefficients → first.least ≡ second.least → first ≡ second
inequality_same first second e f = ap₂ inequality e f

pub aggregate_unique : (columns : ℕ) (parts : List Part) (first second : Inequality) → IsAggregate columns parts first → IsAggregate columns parts second → first ≡ second
aggregate_unique columns parts first second h k =
    let c : first.coefficients ≡ second.coefficients = same_form first.coefficients second.coefficients (h.long ∙ sym k.long) (λ xs l. h.form xs ∙ sym (k.form xs)) in
    inequality_same first second c (h.least ∙ sym k.least)
