-- An exchange and a flip keep a state consistent, and its solutions and cost.
use Rattle.std.proofs.Common.{◌≡◌, ℕ, ◌<◌, true, false, not, is_some, [], ◌∷◌, None, Some, refl, sym, ap, ◌∙◌, inl, inr, arith}
use Rattle.std.proofs.lemmas.Bool.{cases_eq, true≢false}
use Rattle.cip_rational.specs.Rational.{ℚ, ◌+ℚ◌, ◌-ℚ◌, ◌*ℚ◌, zeroℚ, oneℚ}
use Rattle.cip_rational.proofs.Rational.Ring.{+ℚ-zero, *ℚ_assoc, *ℚ_comm, one-*ℚ, *ℚ-zero, sub_self}
use Rattle.cip_rational.proofs.Rational.Inverse.{*ℚ-inverse}
use Rattle.cip_rational.proofs.Linear.{linear_same}
use Rattle.cip_problem.specs.Program.{Sides}
use Rattle.cip_problem.specs.Box.{sides_at}
use Rattle.cip_bland.specs.Tables.{form}
use Rattle.cip_bland.specs.Dictionary.{Dictionary, size, stand, is_basic, entry, cost_entry, value, standing_value, CanStand, Solves, Stands, IsConsistent}
use Rattle.cip_bland.specs.Exchange.{is_absent, moved, moved_cost, pivot, entering, exchanged_row, step, exchanged, CanExchange, other_stand, way, flipped, CanFlip}
use Rattle.cip_bland.specs.DictionaryStatements.{KeepsSolutions, ExchangesKeep, FlipsKeep}
use Rattle.cip_bland.specs.declared.moves.Stand.{Stand}
use Rattle.cip_bland.specs.declared.moves.Stand.TheVariants.{Low, High, Zero}
use Rattle.cip_bland.proofs.Tables.{form_same, form_at_same}
use Rattle.cip_bland.proofs.Forms.{IsFree, solved_leaving, solved_absent, substituted_absent, absent_basic, absent_entering, form-solved, form-substituted}
use Rattle.cip_bland.proofs.States.{exchanged-cost_entry, exchanged-value, entered-entry, stayed-entry, left_stand, entered_stand, stayed_stand, flipped-value, turned_stand, unturned_stand}
use Rattle.cip_bland.proofs.Values.{Solves-same, moved_here, moved_basic, moved_other, moved_solves, moved_cost_is}
use Rattle.cip_bland.proofs.StateFacts.{nonbasic_at, stand_of_nonbasic, basic_at}

-- ---- the arithmetic of one line

solved_line : (p q a f x : ℚ) → p *ℚ q ≡ oneℚ → f ≡ a → q *ℚ (a -ℚ (f -ℚ p *ℚ x)) ≡ x
solved_line p q a f x one e =
    let first : a -ℚ (f -ℚ p *ℚ x) ≡ p *ℚ x = rw e (linear_same (a ∷ (p *ℚ x) ∷ []) (λ s w. omega arith)) in
    ap (λ t. q *ℚ t) first ∙ sym (*ℚ_assoc q p x) ∙ ap (λ t. t *ℚ x) (*ℚ_comm q p ∙ one) ∙ one-*ℚ x

line_back : (p q a f x : ℚ) → p *ℚ q ≡ oneℚ → q *ℚ (a -ℚ (f -ℚ p *ℚ x)) ≡ x → a ≡ f
line_back p q a f x one e =
    let both : p *ℚ (q *ℚ (a -ℚ (f -ℚ p *ℚ x))) ≡ p *ℚ x = ap (λ t. p *ℚ t) e in
    let left : p *ℚ (q *ℚ (a -ℚ (f -ℚ p *ℚ x))) ≡ a -ℚ (f -ℚ p *ℚ x) = sym (*ℚ_assoc p q _) ∙ ap (λ t. t *ℚ (a -ℚ (f -ℚ p *ℚ x))) one ∙ one-*ℚ _ in
    let same : a -ℚ (f -ℚ p *ℚ x) ≡ p *ℚ x = sym left ∙ both in
    linear_same (a ∷ f ∷ (p *ℚ x) ∷ []) (λ s w. omega (arith, s.same_out))

nothing_more : (f r n x : ℚ) → n ≡ x → f +ℚ r *ℚ (n -ℚ x) ≡ f
nothing_more f r n x e = rw (e, sub_self x, *ℚ-zero r) (+ℚ-zero f)

arrives : (p q v side : ℚ) → p *ℚ q ≡ oneℚ → v +ℚ p *ℚ ((side -ℚ v) *ℚ q) ≡ side
arrives p q v side one =
    let e : p *ℚ ((side -ℚ v) *ℚ q) ≡ side -ℚ v = ap (λ t. p *ℚ t) (*ℚ_comm (side -ℚ v) q) ∙ sym (*ℚ_assoc p q _) ∙ ap (λ t. t *ℚ (side -ℚ v)) one ∙ one-*ℚ _ in
    ap (λ t. v +ℚ t) e ∙ linear_same (v ∷ side ∷ []) (λ s w. omega arith)

different : (d : Dictionary) (v w : ℕ) → is_basic d v ≡ true → is_basic d w ≡ false → ¬ (v ≡ w)
different d v w b n e = true≢false (sym b ∙ ap (is_basic d) e ∙ n)

-- ---- the exchange
module _ (d : Dictionary) (i j : ℕ) (to : Stand) (c : IsConsistent d) (h : CanExchange d i j to) where
  apart : ¬ (i ≡ j)
  apart = different d i j h.basic h.nonbasic

  apart' : ¬ (j ≡ i)
  apart' e = apart (sym e)

  one : entry d i j *ℚ pivot d i j ≡ oneℚ
  one = *ℚ-inverse (entry d i j) h.nonzero

  form-entering : (x : ℕ → ℚ) → form (size d) (entering d i j) x ≡ pivot d i j *ℚ (x i -ℚ (form (size d) (entry d i) x -ℚ entry d i j *ℚ x j))
  form-entering x = form-solved (size d) (is_basic d) i j (pivot d i j) (entry d i) x h.basic apart (λ k lk bk. c.rows_free i k h.leaving h.basic lk bk) h.leaving h.entering

  form-exchanged : (row x : ℕ → ℚ) → IsFree (size d) (is_basic d) row → form (size d) (exchanged_row d i j row) x ≡ form (size d) row x +ℚ row j *ℚ (form (size d) (entering d i j) x -ℚ x j)
  form-exchanged row x free =
      form-substituted (size d) (is_basic d) i j (pivot d i j) (entering d i j) row h.basic apart free
      (solved_leaving (is_basic d) i j (pivot d i j) (entry d i))
      (solved_absent (is_basic d) i j (pivot d i j) (entry d i) j apart' (absent_entering (is_basic d) j))
      (λ k l ni b. solved_absent (is_basic d) i j (pivot d i j) (entry d i) k ni (absent_basic (is_basic d) j k b))
      x h.entering

  new_line : (x : ℕ → ℚ) → x i ≡ form (size d) (entry d i) x → form (size d) (entering d i j) x ≡ x j
  new_line x e = form-entering x ∙ solved_line (entry d i j) (pivot d i j) (x i) (form (size d) (entry d i) x) (x j) one (sym e)

  old_line : (x : ℕ → ℚ) → form (size d) (entering d i j) x ≡ x j → x i ≡ form (size d) (entry d i) x
  old_line x e = line_back (entry d i j) (pivot d i j) (x i) (form (size d) (entry d i) x) (x j) one (sym (form-entering x) ∙ e)

  same_line : (row x : ℕ → ℚ) → IsFree (size d) (is_basic d) row → form (size d) (entering d i j) x ≡ x j → form (size d) (exchanged_row d i j row) x ≡ form (size d) row x
  same_line row x free e = form-exchanged row x free ∙ nothing_more (form (size d) row x) (row j) _ (x j) e

  -- the lines of the state after it
  entered_line : (x : ℕ → ℚ) → form (size d) (entry (exchanged d i j to) j) x ≡ form (size d) (entering d i j) x
  entered_line x = form_same (size d) _ _ x (λ k l. entered-entry d i j to k apart' h.entering l)

  stayed_line : (v : ℕ) (x : ℕ → ℚ) → v < size d → ¬ (v ≡ i) → ¬ (v ≡ j) → is_basic d v ≡ true → form (size d) (entry (exchanged d i j to) v) x ≡ form (size d) (exchanged_row d i j (entry d v)) x
  stayed_line v x l ni nj b = form_same (size d) _ _ x (λ k lk. stayed-entry d i j to v k ni nj b l lk)

  cost_line : (x : ℕ → ℚ) → form (size d) (cost_entry (exchanged d i j to)) x ≡ form (size d) (exchanged_row d i j (cost_entry d)) x
  cost_line x = form_same (size d) _ _ x (λ k lk. exchanged-cost_entry d i j to k lk)

  -- who is basic after it: the one that entered, or one that was before
  data After (v : ℕ) : Type 0 where
    entered : v ≡ j → After v
    stayed : ¬ (v ≡ i) → ¬ (v ≡ j) → is_basic d v ≡ true → After v

  basic_after : (v : ℕ) → v < size d → is_basic (exchanged d i j to) v ≡ true → After v
  basic_after v l b =
      elim (cases_eq v i) [
        | inl e ↦ absurd (true≢false (sym b ∙ ap (is_basic (exchanged d i j to)) e ∙ nonbasic_at (exchanged d i j to) i to (left_stand d i j to h.leaving)))
        | inr ni ↦ elim (cases_eq v j) [
          | inl e ↦ entered e
          | inr nj ↦ stayed ni nj (sym (ap (λ s. not (is_some s)) (stayed_stand d i j to v ni nj l)) ∙ b)
        ]
      ]

  not_leaving : (v : ℕ) → After v → ¬ (v ≡ i)
  not_leaving v (entered e) = λ (e' : v ≡ i). apart (sym e' ∙ e)
  not_leaving v (stayed ni nj b) = ni

  absent_after : (k : ℕ) → After k → is_absent (is_basic d) j k ≡ true
  absent_after k (entered e) = rw e (absent_entering (is_basic d) j)
  absent_after k (stayed ni nj b) = absent_basic (is_basic d) j k b

  row_free : (v k : ℕ) → v < size d → k < size d → After v → After k → entry (exchanged d i j to) v k ≡ zeroℚ
  row_free v k lv lk (entered e) a =
      ap (λ u. entry (exchanged d i j to) u k) e ∙ entered-entry d i j to k apart' h.entering lk
      ∙ solved_absent (is_basic d) i j (pivot d i j) (entry d i) k (not_leaving k a) (absent_after k a)
  row_free v k lv lk (stayed ni nj b) a =
      stayed-entry d i j to v k ni nj b lv lk
      ∙ substituted_absent (is_basic d) i j (pivot d i j) (entering d i j) (entry d v) k (not_leaving k a) (absent_after k a)

  cost_free : (k : ℕ) → k < size d → After k → cost_entry (exchanged d i j to) k ≡ zeroℚ
  cost_free k lk a =
      exchanged-cost_entry d i j to k lk
      ∙ substituted_absent (is_basic d) i j (pivot d i j) (entering d i j) (cost_entry d) k (not_leaving k a) (absent_after k a)

  solution_onto : (x : ℕ → ℚ) → Solves d x → (v : ℕ) → v < size d → After v → x v ≡ form (size d) (entry (exchanged d i j to) v) x
  solution_onto x s v l (entered e) =
      rw e (sym (new_line x (s i h.leaving h.basic)) ∙ sym (entered_line x))
  solution_onto x s v l (stayed ni nj b) =
      s v l b ∙ sym (stayed_line v x l ni nj b ∙ same_line (entry d v) x (λ k lk bk. c.rows_free v k l b lk bk) (new_line x (s i h.leaving h.basic)))

  pub exchange_onto : (x : ℕ → ℚ) → Solves d x → Solves (exchanged d i j to) x
  unfolding exchanged
  exchange_onto x s v l b = solution_onto x s v l (basic_after v l b)

  new_solves : (x : ℕ → ℚ) → Solves (exchanged d i j to) x → form (size d) (entering d i j) x ≡ x j
  unfolding exchanged
  new_solves x s =
      sym (entered_line x) ∙ sym (s j h.entering (basic_at (exchanged d i j to) j (entered_stand d i j to apart' h.entering)))

  solution_back : (x : ℕ → ℚ) → Solves (exchanged d i j to) x → (v : ℕ) → v < size d → is_basic d v ≡ true → x v ≡ form (size d) (entry d v) x
  unfolding exchanged
  solution_back x s v l b =
      elim (cases_eq v i) [
        | inl e ↦ rw e (old_line x (new_solves x s))
        | inr ni ↦ (let nj = different d v j b h.nonbasic in
            let still : is_basic (exchanged d i j to) v ≡ true = ap (λ s. not (is_some s)) (stayed_stand d i j to v ni nj l) ∙ b in
            s v l still ∙ stayed_line v x l ni nj b ∙ same_line (entry d v) x (λ k lk bk. c.rows_free v k l b lk bk) (new_solves x s))
      ]

  pub exchange_back : (x : ℕ → ℚ) → Solves (exchanged d i j to) x → Solves d x
  exchange_back x s = solution_back x s

  exchange_cost : (x : ℕ → ℚ) → Solves d x → form (size d) (cost_entry d) x ≡ form (size d) (cost_entry (exchanged d i j to)) x
  exchange_cost x s = sym (cost_line x ∙ same_line (cost_entry d) x c.costs_free (new_line x (s i h.leaving h.basic)))

  arrived : value (exchanged d i j to) i ≡ standing_value (sides_at d.sides i) to
  arrived =
      exchanged-value d i j to i h.leaving
      ∙ moved_basic d j (step d i j to) i apart h.basic
      ∙ arrives (entry d i j) (pivot d i j) (value d i) (standing_value (sides_at d.sides i) to) one

  stands_after : (v : ℕ) (at : Stand) → v < size d → stand (exchanged d i j to) v ≡ Some at → Stands (exchanged d i j to) v at
  unfolding exchanged
  stands_after v at l e =
      elim (cases_eq v i) [
        | inl same ↦ (let is : Some to ≡ Some at = sym (left_stand d i j to h.leaving) ∙ sym (ap (stand (exchanged d i j to)) same) ∙ e in
            let is' : to ≡ at = cc in
            rw (same, ← is') (record { can_stand = h.can_stand; has_value = arrived }))
        | inr ni ↦ elim (cases_eq v j) [
          | inl same ↦ (let none : Some at ≡ None = sym e ∙ ap (stand (exchanged d i j to)) same ∙ entered_stand d i j to apart' h.entering in
              absurd (cc))
          | inr nj ↦ (let before : stand d v ≡ Some at = sym (stayed_stand d i j to v ni nj l) ∙ e in
              let old : Stands d v at = c.stands v at l before in
              record { can_stand = old.can_stand; has_value = exchanged-value d i j to v l ∙ moved_other d j (step d i j to) v nj (nonbasic_at d v at before) ∙ old.has_value })
        ]
      ]

  values_after : Solves (exchanged d i j to) (value (exchanged d i j to))
  unfolding exchanged
  values_after =
      Solves-same (exchanged d i j to) (moved d j (step d i j to)) (value (exchanged d i j to))
      (λ v l. sym (exchanged-value d i j to v l))
      (exchange_onto (moved d j (step d i j to)) (moved_solves d j (step d i j to) c h.entering h.nonbasic))

  cost_after : moved_cost d j (step d i j to) ≡ form (size d) (cost_entry (exchanged d i j to)) (value (exchanged d i j to))
  cost_after =
      moved_cost_is d j (step d i j to) c h.entering
      ∙ exchange_cost (moved d j (step d i j to)) (moved_solves d j (step d i j to) c h.entering h.nonbasic)
      ∙ form_at_same (size d) (cost_entry (exchanged d i j to)) _ _ (λ v l. sym (exchanged-value d i j to v l))

  consistent_after : IsConsistent (exchanged d i j to)
  unfolding exchanged
  consistent_after = record {
    rows_free = λ v k lv bv lk bk. row_free v k lv lk (basic_after v lv bv) (basic_after k lk bk);
    costs_free = λ k lk bk. cost_free k lk (basic_after k lk bk);
    solved = values_after;
    cost_value = cost_after;
    stands = stands_after;
  }

  exchange_kept : KeepsSolutions d (exchanged d i j to)
  unfolding exchanged
  exchange_kept = record {
    consistent = consistent_after;
    same = record {
      same_sides = refl;
      onto = exchange_onto;
      back = exchange_back;
      same_cost = exchange_cost;
    };
  }

pub exchanges_keep : ExchangesKeep
exchanges_keep d i j to c h = exchange_kept d i j to c h

-- ---- the flip

-- a variable with two sides can stand at the other one
can_turn : (sides : Sides) (at : Stand) → CanStand sides at → is_some sides.low ≡ true → is_some sides.high ≡ true → CanStand sides (other_stand (Some at))
can_turn sides Low c low high = high
can_turn sides High c low high = low
can_turn sides Zero c low high = absurd (true≢false (sym low ∙ ap is_some c.0))

module _ (d : Dictionary) (j : ℕ) (c : IsConsistent d) (h : CanFlip d j) where
  flip_stand : (at : Stand) → stand d j ≡ Some at → CanStand (sides_at d.sides j) (other_stand (stand d j))
  flip_stand at e =
      rw e (can_turn (sides_at d.sides j) at (c.stands j at h.within e).can_stand h.low h.high)

  reached : value (flipped d j) j ≡ standing_value (sides_at d.sides j) (other_stand (stand d j))
  reached =
      flipped-value d j j h.within ∙ moved_here d j (way d j)
      ∙ linear_same (value d j ∷ standing_value (sides_at d.sides j) (other_stand (stand d j)) ∷ []) (λ s w. omega arith)

  -- who is basic stays so
  flipped_basic : (v : ℕ) → v < size d → is_basic (flipped d j) v ≡ is_basic d v
  flipped_basic v l =
      elim (cases_eq v j) [
        | inl e ↦ rw e (nonbasic_at (flipped d j) j (other_stand (stand d j)) (turned_stand d j h.within) ∙ sym h.nonbasic)
        | inr nj ↦ ap (λ s. not (is_some s)) (unturned_stand d j v nj l)
      ]

  flip_onto : (x : ℕ → ℚ) → Solves d x → Solves (flipped d j) x
  unfolding flipped
  flip_onto x s v l b = s v l (sym (flipped_basic v l) ∙ b)

  flip_back : (x : ℕ → ℚ) → Solves (flipped d j) x → Solves d x
  unfolding flipped
  flip_back x s v l b = s v l (flipped_basic v l ∙ b)

  flip_stands : (v : ℕ) (at : Stand) → v < size d → stand (flipped d j) v ≡ Some at → Stands (flipped d j) v at
  unfolding flipped
  flip_stands v at l e =
      elim (cases_eq v j) [
        | inl same ↦ (let is : Some (other_stand (stand d j)) ≡ Some at = sym (turned_stand d j h.within) ∙ sym (ap (stand (flipped d j)) same) ∙ e in
            let is' : other_stand (stand d j) ≡ at = cc in
            let before = stand_of_nonbasic d j h.nonbasic in
            rw (same, ← is') (record { can_stand = flip_stand before.0 before.1; has_value = reached }))
        | inr nj ↦ (let before : stand d v ≡ Some at = sym (unturned_stand d j v nj l) ∙ e in
            let old : Stands d v at = c.stands v at l before in
            record { can_stand = old.can_stand; has_value = flipped-value d j v l ∙ moved_other d j (way d j) v nj (nonbasic_at d v at before) ∙ old.has_value })
      ]

  flip_values : Solves (flipped d j) (value (flipped d j))
  unfolding flipped
  flip_values =
      Solves-same (flipped d j) (moved d j (way d j)) (value (flipped d j))
      (λ v l. sym (flipped-value d j v l))
      (flip_onto (moved d j (way d j)) (moved_solves d j (way d j) c h.within h.nonbasic))

  flip_cost : moved_cost d j (way d j) ≡ form (size d) (cost_entry d) (value (flipped d j))
  flip_cost =
      moved_cost_is d j (way d j) c h.within
      ∙ form_at_same (size d) (cost_entry d) _ _ (λ v l. sym (flipped-value d j v l))

  flip_consistent : IsConsistent (flipped d j)
  unfolding flipped
  flip_consistent = record {
    rows_free = λ v k lv bv lk bk. c.rows_free v k lv (sym (flipped_basic v lv) ∙ bv) lk (sym (flipped_basic k lk) ∙ bk);
    costs_free = λ k lk bk. c.costs_free k lk (sym (flipped_basic k lk) ∙ bk);
    solved = flip_values;
    cost_value = flip_cost;
    stands = flip_stands;
  }

  flip_kept : KeepsSolutions d (flipped d j)
  unfolding flipped
  flip_kept = record {
    consistent = flip_consistent;
    same = record {
      same_sides = refl;
      onto = flip_onto;
      back = flip_back;
      same_cost = λ x s. refl;
    };
  }

pub flips_keep : FlipsKeep
flips_keep d j c h = flip_kept d j c h
