-- A sum over all columns is the sum of its parts.
use Rattle.std.proofs.Common.{◌≡◌, ℕ, zero, suc, ◌<◌, ◌≤◌, ◌==◌, Bool, true, false, cond, List, [], ◌∷◌, length, None, Some, refl, sym, ap, ap₂, ◌∙◌, arith}
use Rattle.std.specs.List.{AllByRecursion}
use Rattle.std.proofs.lemmas.Bool.{eqb-true, eqb-false}
use Rattle.cip_rational.specs.Rational.{ℚ, ◌+ℚ◌, ◌*ℚ◌, zeroℚ, ◌≤ℚ◌}
use Rattle.cip_rational.specs.Sums.{dot}
use Rattle.cip_rational.proofs.Sums.{dot-nil}
use Rattle.cip_rational.proofs.Rational.Ring.{+ℚ-zero, zero-+ℚ}
use Rattle.cip_rational.proofs.Rational.Order.{≤ℚ_refl}
use Rattle.cip_rational.proofs.Rational.Monotone.{+ℚ_mono}
use Rattle.cip_rational.proofs.Linear.{linear_same}
use Rattle.cip_pricing.specs.Decomposition.{Owner, same_owner, picked, IsOwner}
use Rattle.cip_pricing.specs.LeastCosts.{sum_below}

-- ---- sums below a number

pub sum_below-same : (n : ℕ) (f g : ℕ → ℚ) → ((k : ℕ) → k < n → f k ≡ g k) → sum_below n f ≡ sum_below n g
sum_below-same zero f g e = refl
sum_below-same (suc n) f g e = ap₂ (λ x y. x +ℚ y) (sum_below-same n f g (λ k h. e k (omega arith))) (e n (omega arith))

pub sum_below_mono : (n : ℕ) (f g : ℕ → ℚ) → ((k : ℕ) → k < n → f k ≤ℚ g k) → sum_below n f ≤ℚ sum_below n g
sum_below_mono zero f g e = ≤ℚ_refl zeroℚ
sum_below_mono (suc n) f g e = +ℚ_mono (sum_below_mono n f g (λ k h. e k (omega arith))) (e n (omega arith))

pub sum_below-zero : (n : ℕ) (f : ℕ → ℚ) → ((k : ℕ) → k < n → f k ≡ zeroℚ) → sum_below n f ≡ zeroℚ
sum_below-zero zero f e = refl
sum_below-zero (suc n) f e =
    ap₂ (λ x y. x +ℚ y) (sum_below-zero n f (λ k h. e k (omega arith))) (e n (omega arith)) ∙ +ℚ-zero zeroℚ

pub sum_below-add : (n : ℕ) (f g : ℕ → ℚ) → sum_below n (λ k. f k +ℚ g k) ≡ sum_below n f +ℚ sum_below n g
sum_below-add zero f g = sym (+ℚ-zero zeroℚ)
sum_below-add (suc n) f g =
    let e = sum_below-add n f g in
    linear_same (sum_below n f ∷ sum_below n g ∷ f n ∷ g n ∷ sum_below n (λ k. f k +ℚ g k) ∷ [])
    (λ s w. omega (arith, s.same_out))

one_step : (n j : ℕ) (v : ℚ) (t : Bool) → (j == n) ≡ t → j < suc n
    → (j < n → sum_below n (λ k. cond (j == k) v zeroℚ) ≡ v)
    → sum_below n (λ k. cond (j == k) v zeroℚ) +ℚ cond t v zeroℚ ≡ v
one_step n j v true e h f =
    let same : j ≡ n = eqb-true j n e in
    ap (λ x. x +ℚ v) (sum_below-zero n (λ k. cond (j == k) v zeroℚ)
    (λ k l. away k (j == k) refl (λ q. absurd (omega (arith, q, same, l))))) ∙ zero-+ℚ v
  where
    away : (k : ℕ) (u : Bool) → (j == k) ≡ u → (j ≡ k → ⊥) → cond u v zeroℚ ≡ zeroℚ
    away k true q none = absurd (none (eqb-true j k q))
    away k false q none = refl
one_step n j v false e h f =
    ap (λ x. x +ℚ zeroℚ) (f (below (eqb-false j n e))) ∙ +ℚ-zero v
  where
    below : (j ≡ n → ⊥) → j < n
    below none = omega (arith, h, none)

pub sum_below-one : (n j : ℕ) (v : ℚ) → j < n → sum_below n (λ k. cond (j == k) v zeroℚ) ≡ v
sum_below-one zero j v h = absurd (omega arith)
sum_below-one (suc n) j v h = one_step n j v (j == n) refl h (λ l. sum_below-one n j v l)

-- ---- a linear form and its parts

dot_step : (t : Bool) (x y : ℚ) (xs ys : List ℚ)
    → dot (cond t (x ∷ xs) xs) (cond t (y ∷ ys) ys) ≡ cond t (x *ℚ y) zeroℚ +ℚ dot xs ys
dot_step true x y xs ys = refl
dot_step false x y xs ys = sym (zero-+ℚ (dot xs ys))

-- a value counts once, for its owner
own_value : (count : ℕ) (owner : Owner) (v : ℚ) → IsOwner count owner
    → cond (same_owner owner None) v zeroℚ +ℚ sum_below count (λ k. cond (same_owner owner (Some k)) v zeroℚ) ≡ v
own_value count None v h = ap (λ t. v +ℚ t) (sum_below-zero count (λ k. zeroℚ) (λ k l. refl)) ∙ +ℚ-zero v
own_value count (Some j) v h = ap (λ t. zeroℚ +ℚ t) (sum_below-one count j v h) ∙ zero-+ℚ v

no_parts : (count : ℕ) (f : ℕ → ℚ) (a : ℚ) → a ≡ zeroℚ → ((k : ℕ) → f k ≡ zeroℚ) → zeroℚ ≡ a +ℚ sum_below count f
no_parts count f a e h = sym (ap₂ (λ x y. x +ℚ y) e (sum_below-zero count f (λ k l. h k)) ∙ +ℚ-zero zeroℚ)

pub dot_parts : (count : ℕ) (owners : List Owner) (form point : List ℚ) → AllByRecursion (IsOwner count) owners
    → length form ≤ length owners
    → dot form point ≡ dot (picked None owners form) (picked None owners point) +ℚ sum_below count
    (λ k. dot (picked (Some k) owners form) (picked (Some k) owners point))
dot_parts count [] [] point h l = no_parts count _ zeroℚ refl (λ k. refl)
dot_parts count [] (x ∷ xs) point h l = absurd (omega (arith, l))
dot_parts count (o ∷ os) [] point h l = no_parts count _ zeroℚ refl (λ k. refl)
dot_parts count (o ∷ os) (x ∷ xs) [] h l = no_parts count _ _ (dot-nil _) (λ k. dot-nil _)
dot_parts count (o ∷ os) (x ∷ xs) (y ∷ ys) h l =
    let v : ℚ = x *ℚ y in
    let rest : Owner → ℚ = λ who. dot (picked who os xs) (picked who os ys) in
    let own : Owner → ℚ = λ who. cond (same_owner o who) v zeroℚ in
    let before : dot xs ys ≡ rest None +ℚ sum_below count (λ k. rest (Some k)) = dot_parts count os xs ys h.1
    (omega (arith, l)) in
    let free : dot (picked None (o ∷ os) (x ∷ xs)) (picked None (o ∷ os) (y ∷ ys)) ≡ own None +ℚ rest None = dot_step
    (same_owner o None) x y (picked None os xs) (picked None os ys) in
    let parts : sum_below count (λ k. dot (picked (Some k) (o ∷ os) (x ∷ xs)) (picked (Some k) (o ∷ os) (y ∷ ys))) ≡
    sum_below count (λ k. own (Some k)) +ℚ sum_below count (λ k. rest (Some k)) =
    sum_below-same count _ (λ k. own (Some k) +ℚ rest (Some k))
    (λ k q. dot_step (same_owner o (Some k)) x y (picked (Some k) os xs) (picked (Some k) os ys)) ∙
    sum_below-add count (λ k. own (Some k)) (λ k. rest (Some k)) in
    let once : own None +ℚ sum_below count (λ k. own (Some k)) ≡ v = own_value count o v h.0 in
    four v (dot xs ys) (own None) (rest None) (sum_below count (λ k. own (Some k)))
    (sum_below count (λ k. rest (Some k))) _ _ before free parts once
  where
    four : (v d o r so sr a b : ℚ) → d ≡ r +ℚ sr → a ≡ o +ℚ r → b ≡ so +ℚ sr → o +ℚ so ≡ v → v +ℚ d ≡ a +ℚ b
    four v d o r so sr a b e f g h = linear_same (v ∷ d ∷ o ∷ r ∷ so ∷ sr ∷ a ∷ b ∷ [])
        (λ s w. omega (arith, s.same_out))
