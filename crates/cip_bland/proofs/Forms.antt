-- The algebra of an exchange, on forms alone.
use Rattle.std.proofs.Common.{◌≡◌, ℕ, ◌<◌, ◌==◌, Bool, true, false, ◌||◌, [], ◌∷◌, refl, sym, ap, ◌∙◌, inl, inr, arith}
use Rattle.std.proofs.lemmas.Bool.{eq-eqb, ne_eqb, cases_eq}
use Rattle.cip_rational.specs.Rational.{ℚ, ◌+ℚ◌, ◌-ℚ◌, ◌*ℚ◌, zeroℚ, negate}
use Rattle.cip_rational.proofs.Rational.Ring.{zero-*ℚ, *ℚ_assoc, negate-*ℚ, ring_laws}
use Rattle.cip_rational.proofs.Linear.{linear_same}
use Rattle.cip_bland.specs.Tables.{total, form}
use Rattle.cip_bland.specs.Exchange.{is_absent, solved, substituted}
use Rattle.cip_bland.proofs.Tables.{total_same, total-add, total-sub, total-scale, total-only, only, only_here, only_there}

-- a row has 0 on basic variables
abbrev pub IsFree : ℕ → (ℕ → Bool) → (ℕ → ℚ) → Type 0
IsFree n basic row = (k : ℕ) → k < n → basic k ≡ true → row k ≡ zeroℚ

-- ---- one entry

module _ (basic : ℕ → Bool) (i j : ℕ) (q : ℚ) (row : ℕ → ℚ) where
  pub solved_leaving : solved basic i j q row i ≡ q
  solved_leaving = rw (eq-eqb i i refl) refl

  pub solved_absent : (k : ℕ) → ¬ (k ≡ i) → is_absent basic j k ≡ true → solved basic i j q row k ≡ zeroℚ
  solved_absent k h e = rw (ne_eqb k i h, e) refl

  pub solved_kept : (k : ℕ) → ¬ (k ≡ i) → is_absent basic j k ≡ false → solved basic i j q row k ≡ negate (row k) *ℚ q
  solved_kept k h e = rw (ne_eqb k i h, e) refl

module _ (basic : ℕ → Bool) (i j : ℕ) (q : ℚ) (new row : ℕ → ℚ) where
  pub substituted_leaving : substituted basic i j q new row i ≡ row j *ℚ q
  substituted_leaving = rw (eq-eqb i i refl) refl

  pub substituted_absent : (k : ℕ) → ¬ (k ≡ i) → is_absent basic j k ≡ true → substituted basic i j q new row k ≡ zeroℚ
  substituted_absent k h e = rw (ne_eqb k i h, e) refl

  pub substituted_kept : (k : ℕ) → ¬ (k ≡ i) → is_absent basic j k ≡ false → substituted basic i j q new row k ≡ row k +ℚ row j *ℚ new k
  substituted_kept k h e = rw (ne_eqb k i h, e) refl

-- basic variables and the one that enters are absent, the others not
pub absent_basic : (basic : ℕ → Bool) (j k : ℕ) → basic k ≡ true → is_absent basic j k ≡ true
absent_basic basic j k e = rw e refl

pub absent_entering : (basic : ℕ → Bool) (j : ℕ) → is_absent basic j j ≡ true
absent_entering basic j = go (basic j) (j == j) (eq-eqb j j refl)
  where
    go : (a b : Bool) → b ≡ true → (a || b) ≡ true
    go true b e = refl
    go false b e = e

pub absent_other : (basic : ℕ → Bool) (j k : ℕ) → basic k ≡ false → ¬ (k ≡ j) → is_absent basic j k ≡ false
absent_other basic j k e h = rw (e, ne_eqb k j h) refl

-- the four kinds of variables in an exchange
data Role (basic : ℕ → Bool) (i j k : ℕ) : Type 0 where
  leaves : k ≡ i → Role basic i j k
  enters : ¬ (k ≡ i) → k ≡ j → Role basic i j k
  stays : ¬ (k ≡ i) → ¬ (k ≡ j) → basic k ≡ true → Role basic i j k
  other : ¬ (k ≡ i) → ¬ (k ≡ j) → basic k ≡ false → Role basic i j k

role : (basic : ℕ → Bool) (i j k : ℕ) → Role basic i j k
role basic i j k =
    elim (cases_eq k i) [
      | inl e ↦ leaves e
      | inr ne ↦ elim (cases_eq k j) [ inl e ↦ enters ne e | inr ne' ↦ go (basic k) refl ne ne' ]
    ]
  where
    go : (b : Bool) → basic k ≡ b → ¬ (k ≡ i) → ¬ (k ≡ j) → Role basic i j k
    go true e ne ne' = stays ne ne' e
    go false e ne ne' = other ne ne' e

-- ---- products, from what stands in them

leaving_product : (q s r x a b : ℚ) → s ≡ q → r ≡ zeroℚ → a ≡ x → b ≡ zeroℚ → s *ℚ x ≡ q *ℚ (a -ℚ (r *ℚ x -ℚ b))
leaving_product q s r x a b e f g h =
    rw (e, f, g, h, zero-*ℚ x) (linear_same ((q *ℚ x) ∷ (q *ℚ zeroℚ) ∷ []) (λ s w. let m = s.products tt in omega arith))

absent_product : (q s r x a b : ℚ) → s ≡ zeroℚ → a ≡ zeroℚ → r *ℚ x ≡ b → s *ℚ x ≡ q *ℚ (a -ℚ (r *ℚ x -ℚ b))
absent_product q s r x a b e f g =
    rw (e, f, g, zero-*ℚ x) (linear_same ((q *ℚ b) ∷ []) (λ s w. let m = s.products tt in omega arith))

kept_product : (q s r x a b : ℚ) → s ≡ negate r *ℚ q → a ≡ zeroℚ → b ≡ zeroℚ → s *ℚ x ≡ q *ℚ (a -ℚ (r *ℚ x -ℚ b))
kept_product q s r x a b e f g =
    let turned : r *ℚ q *ℚ x ≡ q *ℚ (r *ℚ x) = simp ring_laws in
    let moved : negate r *ℚ q *ℚ x ≡ negate (q *ℚ (r *ℚ x)) = ap (λ t. t *ℚ x) (negate-*ℚ r q) ∙ negate-*ℚ (r *ℚ q) x ∙ ap negate turned in
    rw (e, f, g) (moved ∙ linear_same ((q *ℚ (r *ℚ x)) ∷ (q *ℚ zeroℚ) ∷ []) (λ s w. let m = s.products tt in omega arith))

module _ (n : ℕ) (basic : ℕ → Bool) (i j : ℕ) (q : ℚ) (row x : ℕ → ℚ) (bi : basic i ≡ true) (ne : ¬ (i ≡ j)) (free : IsFree n basic row) where
  -- each product of the solved row
  solved_product : (k : ℕ) → k < n → Role basic i j k → solved basic i j q row k *ℚ x k ≡ q *ℚ (only i (x i) k -ℚ (row k *ℚ x k -ℚ only j (row j *ℚ x j) k))
  solved_product k l (leaves e) =
      leaving_product q _ (row k) (x k) _ _
      (rw e (solved_leaving basic i j q row))
      (free k l (rw e bi))
      (rw e (only_here i (x i)))
      (only_there j k (row j *ℚ x j) (λ (e' : k ≡ j). ne (sym e ∙ e')))
  solved_product k l (enters ni e) =
      absent_product q _ (row k) (x k) _ _
      (solved_absent basic i j q row k ni (rw e (absent_entering basic j)))
      (only_there i k (x i) ni)
      (rw e (sym (only_here j (row j *ℚ x j))))
  solved_product k l (stays ni nj e) =
      absent_product q _ (row k) (x k) _ _
      (solved_absent basic i j q row k ni (absent_basic basic j k e))
      (only_there i k (x i) ni)
      (rw (free k l e, zero-*ℚ (x k)) (sym (only_there j k (row j *ℚ x j) nj)))
  solved_product k l (other ni nj e) =
      kept_product q _ (row k) (x k) _ _
      (solved_kept basic i j q row k ni (absent_other basic j k e nj))
      (only_there i k (x i) ni)
      (only_there j k (row j *ℚ x j) nj)

  pub form-solved : i < n → j < n → form n (solved basic i j q row) x ≡ q *ℚ (x i -ℚ (form n row x -ℚ row j *ℚ x j))
  form-solved li lj =
      let products : form n (solved basic i j q row) x ≡ total n (λ k. q *ℚ (only i (x i) k -ℚ (row k *ℚ x k -ℚ only j (row j *ℚ x j) k))) = total_same n _ _ (λ k l. solved_product k l (role basic i j k)) in
      products
      ∙ total-scale n q (λ k. only i (x i) k -ℚ (row k *ℚ x k -ℚ only j (row j *ℚ x j) k))
      ∙ ap (λ t. q *ℚ t) (total-sub n (only i (x i)) (λ k. row k *ℚ x k -ℚ only j (row j *ℚ x j) k)
      ∙ ap (λ t. total n (only i (x i)) -ℚ t) (total-sub n (λ k. row k *ℚ x k) (only j (row j *ℚ x j)))
      ∙ ap (λ t. t -ℚ (form n row x -ℚ total n (only j (row j *ℚ x j)))) (total-only n i (x i) li)
      ∙ ap (λ t. x i -ℚ (form n row x -ℚ t)) (total-only n j (row j *ℚ x j) lj))

-- ---- the other rows

expanded : (a b c d x : ℚ) → (a +ℚ b *ℚ c -ℚ d) *ℚ x ≡ a *ℚ x +ℚ b *ℚ (c *ℚ x) -ℚ d *ℚ x
expanded a b c d x =
    let e : b *ℚ c *ℚ x ≡ b *ℚ (c *ℚ x) = *ℚ_assoc b c x in
    linear_same ((a *ℚ x) ∷ (b *ℚ (c *ℚ x)) ∷ (d *ℚ x) ∷ []) (λ s w. let m = s.products tt in omega (arith, s.same_out))

only-mul : (j k : ℕ) (a : ℚ) (x : ℕ → ℚ) → only j (a *ℚ x j) k ≡ only j a k *ℚ x k
only-mul j k a x =
    elim (cases_eq k j) [
      | inl e ↦ rw e (only_here j (a *ℚ x j) ∙ ap (λ t. t *ℚ x j) (sym (only_here j a)))
      | inr ne ↦ only_there j k (a *ℚ x j) ne ∙ sym (ap (λ t. t *ℚ x k) (only_there j k a ne) ∙ zero-*ℚ (x k))
    ]

module _ (n : ℕ) (basic : ℕ → Bool) (i j : ℕ) (q : ℚ) (new row : ℕ → ℚ) (bi : basic i ≡ true) (ne : ¬ (i ≡ j)) (free : IsFree n basic row) (at_i : new i ≡ q) (at_j : new j ≡ zeroℚ) (kept : (k : ℕ) → k < n → ¬ (k ≡ i) → basic k ≡ true → new k ≡ zeroℚ) where
  -- each entry is that of the row and of the new row times that on j, but on j
  substituted_entry : (k : ℕ) → k < n → Role basic i j k → substituted basic i j q new row k ≡ row k +ℚ row j *ℚ new k -ℚ only j (row j) k
  substituted_entry k l (leaves e) =
      let zero_here : row k ≡ zeroℚ = free k l (rw e bi) in
      let none : only j (row j) k ≡ zeroℚ = only_there j k (row j) (λ (e' : k ≡ j). ne (sym e ∙ e')) in
      let here : substituted basic i j q new row k ≡ row j *ℚ q = rw e (substituted_leaving basic i j q new row) in
      let new_here : new k ≡ q = rw e at_i in
      here ∙ rw (zero_here, none, new_here) (linear_same ((row j *ℚ q) ∷ []) (λ s w. omega arith))
  substituted_entry k l (enters ni e) =
      let here : substituted basic i j q new row k ≡ zeroℚ = substituted_absent basic i j q new row k ni (rw e (absent_entering basic j)) in
      let one : only j (row j) k ≡ row j = rw e (only_here j (row j)) in
      let new_here : new k ≡ zeroℚ = rw e at_j in
      let same : row k ≡ row j = ap row e in
      here ∙ rw (one, new_here, same) (linear_same (row j ∷ []) (λ s w. let m = s.products tt in omega arith))
  substituted_entry k l (stays ni nj e) =
      let here : substituted basic i j q new row k ≡ zeroℚ = substituted_absent basic i j q new row k ni (absent_basic basic j k e) in
      let none : only j (row j) k ≡ zeroℚ = only_there j k (row j) nj in
      here ∙ rw (free k l e, none, kept k l ni e) (linear_same (row j ∷ []) (λ s w. let m = s.products tt in omega arith))
  substituted_entry k l (other ni nj e) =
      let here : substituted basic i j q new row k ≡ row k +ℚ row j *ℚ new k = substituted_kept basic i j q new row k ni (absent_other basic j k e nj) in
      let none : only j (row j) k ≡ zeroℚ = only_there j k (row j) nj in
      here ∙ rw none (linear_same (row k ∷ (row j *ℚ new k) ∷ []) (λ s w. omega arith))

  pub form-substituted : (x : ℕ → ℚ) → j < n → form n (substituted basic i j q new row) x ≡ form n row x +ℚ row j *ℚ (form n new x -ℚ x j)
  form-substituted x lj =
      let spread : (k : ℕ) → k < n → substituted basic i j q new row k *ℚ x k ≡ row k *ℚ x k +ℚ row j *ℚ (new k *ℚ x k) -ℚ only j (row j *ℚ x j) k = λ k l. ap (λ t. t *ℚ x k) (substituted_entry k l (role basic i j k)) ∙ expanded (row k) (row j) (new k) (only j (row j) k) (x k) ∙ ap (λ t. row k *ℚ x k +ℚ row j *ℚ (new k *ℚ x k) -ℚ t) (sym (only-mul j k (row j) x)) in
      let products : form n (substituted basic i j q new row) x ≡ total n (λ k. row k *ℚ x k +ℚ row j *ℚ (new k *ℚ x k) -ℚ only j (row j *ℚ x j) k) = total_same n _ _ spread in
      products
      ∙ total-sub n (λ k. row k *ℚ x k +ℚ row j *ℚ (new k *ℚ x k)) (only j (row j *ℚ x j))
      ∙ ap (λ t. t -ℚ total n (only j (row j *ℚ x j))) (total-add n (λ k. row k *ℚ x k) (λ k. row j *ℚ (new k *ℚ x k)) ∙ ap (λ t. form n row x +ℚ t) (total-scale n (row j) (λ k. new k *ℚ x k)))
      ∙ ap (λ t. form n row x +ℚ row j *ℚ form n new x -ℚ t) (total-only n j (row j *ℚ x j) lj)
      ∙ linear_same (form n row x ∷ (row j *ℚ form n new x) ∷ (row j *ℚ x j) ∷ []) (λ s w. let m = s.products tt in omega arith)
