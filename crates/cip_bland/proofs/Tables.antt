-- Tables are read at their numbers, sums are linear, and least numbers are least.
use Rattle.std.proofs.Common.{◌≡◌, ℕ, zero, suc, ◌<◌, ◌==◌, cond, List, [], ◌∷◌, length, get_or, refl, sym, ap, ◌∙◌, inl, inr, arith}
use Rattle.std.proofs.lemmas.Bool.{eq-eqb, ne_eqb, cases_eq}
use Rattle.std.proofs.lemmas.List.FromFn.{get_or-map-range_with_len, fill_by_all}
use Rattle.cip_rational.specs.Rational.{ℚ, ◌+ℚ◌, ◌-ℚ◌, ◌*ℚ◌, zeroℚ}
use Rattle.cip_rational.proofs.Rational.Ring.{+ℚ-zero, zero-+ℚ, *ℚ-zero}
use Rattle.cip_rational.proofs.Linear.{linear_same}
pub use Rattle.cip_problem.proofs.Aggregates.{length-table}
use Rattle.cip_bland.specs.Tables.{table, total, form}

pub at_table : {X : Type 0} (n : ℕ) (f : ℕ → X) (k : ℕ) (d : X) → k < n → get_or (table n f) k d ≡ f k
unfolding table
at_table n f k d h = get_or-map-range_with_len f 0 n k k d h (omega arith)

-- a list that has the values of a function is its table
pub same_table : {X : Type 0} (n : ℕ) (f : ℕ → X) (xs : List X) (d : X) → length xs ≡ n → ((k : ℕ) → k < n → get_or xs k d ≡ f k) → xs ≡ table n f
unfolding table
same_table n f xs d l h = fill_by_all f xs n d l h

pub table_same : {X : Type 0} (n : ℕ) (f g : ℕ → X) (d : X) → ((k : ℕ) → k < n → f k ≡ g k) → table n f ≡ table n g
table_same n f g d h = same_table n g (table n f) d (length-table n f) (λ k l. at_table n f k d l ∙ h k l)

-- ---- sums

pub total_same : (n : ℕ) (f g : ℕ → ℚ) → ((k : ℕ) → k < n → f k ≡ g k) → total n f ≡ total n g
total_same zero f g h = refl
total_same (suc n) f g h =
    let e : total n f ≡ total n g = total_same n f g (λ k l. h k (omega (arith, l))) in
    let e' : f n ≡ g n = h n (omega arith) in
    cc

pub total_zero : (n : ℕ) (f : ℕ → ℚ) → ((k : ℕ) → k < n → f k ≡ zeroℚ) → total n f ≡ zeroℚ
total_zero zero f h = refl
total_zero (suc n) f h =
    let e : total n f ≡ zeroℚ = total_zero n f (λ k l. h k (omega (arith, l))) in
    let e' : f n ≡ zeroℚ = h n (omega arith) in
    rw (e, e') (+ℚ-zero zeroℚ)

pub total-add : (n : ℕ) (f g : ℕ → ℚ) → total n (λ k. f k +ℚ g k) ≡ total n f +ℚ total n g
total-add zero f g = sym (+ℚ-zero zeroℚ)
total-add (suc n) f g =
    rw (total-add n f g) (linear_same (total n f ∷ total n g ∷ f n ∷ g n ∷ []) (λ s w. omega arith))

pub total-sub : (n : ℕ) (f g : ℕ → ℚ) → total n (λ k. f k -ℚ g k) ≡ total n f -ℚ total n g
total-sub zero f g = linear_same [] (λ s w. omega arith)
total-sub (suc n) f g =
    rw (total-sub n f g) (linear_same (total n f ∷ total n g ∷ f n ∷ g n ∷ []) (λ s w. omega arith))

pub total-scale : (n : ℕ) (c : ℚ) (f : ℕ → ℚ) → total n (λ k. c *ℚ f k) ≡ c *ℚ total n f
total-scale zero c f = sym (*ℚ-zero c)
total-scale (suc n) c f =
    rw (total-scale n c f) (linear_same ((c *ℚ total n f) ∷ (c *ℚ f n) ∷ []) (λ s w. let m = s.products tt in omega arith))

-- a at one number, 0 at the others
abbrev pub only : ℕ → ℚ → ℕ → ℚ
only i a k = cond (k == i) a zeroℚ

pub only_here : (i : ℕ) (a : ℚ) → only i a i ≡ a
only_here i a = rw (eq-eqb i i refl) refl

pub only_there : (i k : ℕ) (a : ℚ) → ¬ (k ≡ i) → only i a k ≡ zeroℚ
only_there i k a h = rw (ne_eqb k i h) refl

pub total-only : (n i : ℕ) (a : ℚ) → i < n → total n (only i a) ≡ a
total-only zero i a h = absurd (omega (arith, h))
total-only (suc n) i a h =
    elim (cases_eq n i) [
      | inl e ↦ (let here : only i a n ≡ a = rw e (only_here i a) in
          let rest : total n (only i a) ≡ zeroℚ = total_zero n (only i a) (λ k l. only_there i k a (λ (e' : k ≡ i). omega (arith, l, e, e'))) in
          rw (here, rest) (zero-+ℚ a))
      | inr ne ↦ (let there : only i a n ≡ zeroℚ = only_there i n a ne in
          let rest : total n (only i a) ≡ a = total-only n i a (omega (arith, h, ne)) in
          rw (there, rest) (+ℚ-zero a))
    ]

pub form_same : (n : ℕ) (f g x : ℕ → ℚ) → ((k : ℕ) → k < n → f k ≡ g k) → form n f x ≡ form n g x
form_same n f g x h = total_same n (λ k. f k *ℚ x k) (λ k. g k *ℚ x k) (λ k l. ap (λ t. t *ℚ x k) (h k l))

pub form_at_same : (n : ℕ) (f x y : ℕ → ℚ) → ((k : ℕ) → k < n → x k ≡ y k) → form n f x ≡ form n f y
form_at_same n f x y h = total_same n (λ k. f k *ℚ x k) (λ k. f k *ℚ y k) (λ k l. ap (λ t. f k *ℚ t) (h k l))
