-- The values after a variable has moved solve the state.
use Rattle.std.proofs.Common.{◌≡◌, ℕ, ◌<◌, Bool, true, false, refl, sym, ap, ◌∙◌, inl, inr}
use Rattle.std.proofs.lemmas.Bool.{eq-eqb, ne_eqb, cases_eq, true≢false}
use Rattle.cip_rational.specs.Rational.{ℚ, ◌+ℚ◌, ◌*ℚ◌, zeroℚ}
use Rattle.cip_rational.proofs.Rational.Ring.{zero-*ℚ, +ℚ-zero, *ℚ-add}
use Rattle.cip_bland.specs.Tables.{form}
use Rattle.cip_bland.specs.Dictionary.{Dictionary, size, is_basic, entry, cost_entry, value, Solves, IsConsistent}
use Rattle.cip_bland.specs.Exchange.{moved, moved_cost}
use Rattle.cip_bland.proofs.Tables.{total_same, total-add, total-only, only, only_here, only_there, form_at_same}
use Rattle.cip_bland.proofs.Forms.{IsFree}

pub Solves-same : (d : Dictionary) (x y : ℕ → ℚ) → ((v : ℕ) → v < size d → x v ≡ y v) → Solves d x → Solves d y
Solves-same d x y same h v l b = sym (same v l) ∙ h v l b ∙ form_at_same (size d) (entry d v) x y same

module _ (d : Dictionary) (j : ℕ) (t : ℚ) where
  pub moved_here : moved d j t j ≡ value d j +ℚ t
  moved_here = rw (eq-eqb j j refl) refl

  pub moved_basic : (v : ℕ) → ¬ (v ≡ j) → is_basic d v ≡ true → moved d j t v ≡ value d v +ℚ entry d v j *ℚ t
  moved_basic v nj e = rw (ne_eqb v j nj, e) refl

  pub moved_other : (v : ℕ) → ¬ (v ≡ j) → is_basic d v ≡ false → moved d j t v ≡ value d v
  moved_other v nj e = rw (ne_eqb v j nj, e) refl

  moved_product : (row : ℕ → ℚ) (k : ℕ) → (is_basic d k ≡ true → row k ≡ zeroℚ) → (b : Bool) → is_basic d k ≡ b → row k *ℚ moved d j t k ≡ row k *ℚ value d k +ℚ only j (row j *ℚ t) k
  moved_product row k free b e =
      elim (cases_eq k j) [
        | inl same ↦ rw (same, moved_here, only_here j (row j *ℚ t)) (*ℚ-add (row j) (value d j) t)
        | inr nj ↦ (let none : only j (row j *ℚ t) k ≡ zeroℚ = only_there j k (row j *ℚ t) nj in
            rw (none, +ℚ-zero (row k *ℚ value d k)) (case b e nj))
      ]
    where
      case : (b : Bool) → is_basic d k ≡ b → ¬ (k ≡ j) → row k *ℚ moved d j t k ≡ row k *ℚ value d k
      case true e nj = rw (free e) (zero-*ℚ (moved d j t k) ∙ sym (zero-*ℚ (value d k)))
      case false e nj = ap (λ u. row k *ℚ u) (moved_other k nj e)

  -- a form of nonbasic variables moves by its entry on j
  pub form_moved : (row : ℕ → ℚ) → j < size d → IsFree (size d) (is_basic d) row → form (size d) row (moved d j t) ≡ form (size d) row (value d) +ℚ row j *ℚ t
  form_moved row lj free =
      total_same (size d) (λ k. row k *ℚ moved d j t k) (λ k. row k *ℚ value d k +ℚ only j (row j *ℚ t) k)
      (λ k l. moved_product row k (free k l) (is_basic d k) refl)
      ∙ total-add (size d) (λ k. row k *ℚ value d k) (only j (row j *ℚ t))
      ∙ ap (λ u. form (size d) row (value d) +ℚ u) (total-only (size d) j (row j *ℚ t) lj)

  pub moved_solves : IsConsistent d → j < size d → is_basic d j ≡ false → Solves d (moved d j t)
  moved_solves c lj nonbasic v lv b =
      let nj : ¬ (v ≡ j) = λ (e : v ≡ j). true≢false (sym b ∙ ap (is_basic d) e ∙ nonbasic) in
      moved_basic v nj b
      ∙ ap (λ u. u +ℚ entry d v j *ℚ t) (c.solved v lv b)
      ∙ sym (form_moved (entry d v) lj (λ k lk bk. c.rows_free v k lv b lk bk))

  pub moved_cost_is : IsConsistent d → j < size d → moved_cost d j t ≡ form (size d) (cost_entry d) (moved d j t)
  moved_cost_is c lj =
      ap (λ u. u +ℚ cost_entry d j *ℚ t) c.cost_value ∙ sym (form_moved (cost_entry d) lj c.costs_free)
