-- How values change as a variable goes that lets the cost fall: how long its ways are, that the shortest one leaves all
-- values between their sides, and by how much the cost falls.
use Rattle.std.proofs.Common.{◌≡◌, ◌≢◌, ℕ, ◌<◌, Bool, true, false, cond, [], ◌∷◌, None, Some, unwrap_or, refl, sym, ap, ap₂, ◌∙◌, subst, inl, inr, arith}
use Rattle.std.proofs.lemmas.Bool.{true≢false, eq-eqb, ne_eqb, cases_eq}
use Rattle.std.proofs.lemmas.Option.{none-some}
use Rattle.cip_rational.specs.Rational.{ℚ, ◌+ℚ◌, ◌-ℚ◌, ◌*ℚ◌, negate, inverse, zeroℚ, oneℚ, ◌<ℚ◌, is_zero}
use Rattle.cip_rational.proofs.Rational.Ring.{+ℚ-zero, zero-*ℚ, *ℚ_assoc, *ℚ_comm, one-*ℚ, negate-*ℚ, *ℚ-negate}
use Rattle.cip_rational.proofs.Rational.Inverse.{*ℚ-inverse}
use Rattle.cip_rational.proofs.Rational.Order.{eq-or-lt}
use Rattle.cip_rational.proofs.Linear.{linear_lt, linear_same}
use Rattle.cip_bland.specs.Program.{Sides}
use Rattle.cip_bland.specs.Box.{sides_at}
use Rattle.cip_bland.specs.Dictionary.{Dictionary, size, stand, is_basic, entry, cost_entry, value, standing_value, CanStand, IsConsistent}
use Rattle.cip_bland.specs.Exchange.{moved, moved_cost, step, other_stand, way, after}
use Rattle.cip_bland.specs.declared.moves.Stand.{Stand}
use Rattle.cip_bland.specs.declared.moves.Stand.TheVariants.{Low, High, Zero}
use Rattle.cip_bland.specs.declared.moves.Move.TheVariants.{Exchange, Flip}
use Rattle.cip_bland.proofs.Zeros.{nonzero_of}
use Rattle.cip_bland.proofs.Values.{moved_here, moved_basic, moved_other}
use Rattle.cip_bland.proofs.States.{exchanged-value, exchanged-cost, flipped-value, flipped-cost}
use Rattle.cip_bland.specs.Headings.{along, heading_for, stand_ahead, side_ahead, is_ahead, goal_ahead}
use Rattle.cip_bland.specs.Rule.{improves, falling_heading, goal_with, goal_of, length_of, Way, way_of, move_by}
use Rattle.cip_bland.specs.EndAnswers.{change_of}
use Rattle.cip_bland.specs.declared.steps.Heading.{Heading}
use Rattle.cip_bland.specs.declared.steps.Heading.TheVariants.{Up, Down}
use Rattle.cip_bland.proofs.SideCases.{standing_ahead}
use Rattle.cip_bland.proofs.StateFacts.{at_stand}
use Rattle.cip_bland.proofs.Emptiness.{along-zero, along-one}
use Rattle.cip_bland.proofs.RayEnds.{along_sign, change_here, change_basic, change_other}
use Rattle.cip_bland.proofs.MovesMade.{Drives, driver, IsWayOf, is_way}
use Rattle.cip_problem.proofs.Rows.{zero_of_test}

-- ---- ways up and down

pub along_twice : (heading : Heading) (a : ℚ) → along heading (along heading a) ≡ a
along_twice Up a = refl
along_twice Down a = linear_same (a ∷ []) (λ s w. omega arith)

pub along_both : (heading : Heading) (a b : ℚ) → along heading a *ℚ along heading b ≡ a *ℚ b
along_both Up a b = refl
along_both Down a b = negate-*ℚ a (negate b) ∙ ap negate (*ℚ-negate a b) ∙ linear_same ((a *ℚ b) ∷ []) (λ s w. omega arith)

along_right : (heading : Heading) (a b : ℚ) → a *ℚ along heading b ≡ along heading a *ℚ b
along_right Up a b = refl
along_right Down a b = *ℚ-negate a b ∙ sym (negate-*ℚ a b)

pub one_ahead : (heading : Heading) → zeroℚ <ℚ along heading (along heading oneℚ)
one_ahead heading = subst (λ q. zeroℚ <ℚ q) (sym (along_twice heading oneℚ)) (linear_lt [] (λ s w. omega arith))

pub strict_sign : (heading : Heading) (a : ℚ) → a ≢ zeroℚ → zeroℚ <ℚ along (heading_for heading a) (along heading a)
strict_sign heading a ne =
    elim (eq-or-lt (along_sign heading a)) [
      | inl e ↦ absurd (ne (back (heading_for heading a) heading a (sym e)))
      | inr lt ↦ lt
    ]
  where
    back : (g h : Heading) (a : ℚ) → along g (along h a) ≡ zeroℚ → a ≡ zeroℚ
    back g h a e =
        let once : along h a ≡ zeroℚ = sym (along_twice g (along h a)) ∙ ap (along g) e ∙ along-zero g in
        sym (along_twice h a) ∙ ap (along h) once ∙ along-zero h

other_side : (heading : Heading) (s : Sides) (at : Stand) (side : ℚ) → is_ahead heading at ≡ false → CanStand s at → side_ahead heading s ≡ Some side → standing_value s (other_stand (Some at)) ≡ side
other_side Up s Low side n c e = ap (λ o. unwrap_or o zeroℚ) e
other_side Up s High side n c e = absurd (true≢false n)
other_side Up s Zero side n c e = absurd (none-some side (sym c.1 ∙ e))
other_side Down s Low side n c e = absurd (true≢false n)
other_side Down s High side n c e = ap (λ o. unwrap_or o zeroℚ) e
other_side Down s Zero side n c e = absurd (none-some side (sym c.0 ∙ e))

inverse_cancels : (a x : ℚ) → a ≢ zeroℚ → a *ℚ (x *ℚ inverse a) ≡ x
inverse_cancels a x ne =
    ap (λ q. a *ℚ q) (*ℚ_comm x (inverse a)) ∙ sym (*ℚ_assoc a (inverse a) x) ∙ ap (λ q. q *ℚ x) (*ℚ-inverse a ne) ∙ one-*ℚ x

-- ---- the rate of a variable
module _ (d : Dictionary) (c : IsConsistent d) (j : ℕ) (lj : j < size d) (good : improves d j ≡ true) where
  pub driven : Drives d (cost_entry d) Down j
  driven = driver d (cost_entry d) Down j good

  -- it stays, or goes this way towards the side ahead; where that is there, its way is as long as it takes
  pub data Rate (v : ℕ) : Type 0 where
    still : change_of d j v ≡ zeroℚ → goal_of d j v ≡ None → Rate v
    going : (heading : Heading) → zeroℚ <ℚ along heading (change_of d j v) → goal_of d j v ≡ goal_ahead heading (sides_at d.sides v)
        → ((side : ℚ) → side_ahead heading (sides_at d.sides v) ≡ Some side → change_of d j v *ℚ length_of d j v (stand_ahead heading) ≡ side -ℚ value d v) → Rate v

  goal_here : (v : ℕ) → v ≡ j → goal_of d j v ≡ goal_ahead (falling_heading d j) (sides_at d.sides v)
  goal_here v e = ap (λ t. goal_with t (is_basic d v) (falling_heading d j) (entry d v j) (sides_at d.sides v)) (eq-eqb v j e)

  rate_here : Rate j
  rate_here =
      let h = falling_heading d j in
      let m = driven.may in
      going h (subst (λ q. zeroℚ <ℚ along h q) (sym (change_here d c j lj driven.nonbasic)) (one_ahead h)) (goal_here j refl)
      (λ side e.
      let own : (if_own : length_of d j j (stand_ahead h) ≡ along h (way d j)) → change_of d j j *ℚ length_of d j j (stand_ahead h) ≡ way d j = λ o.
      ap₂ (λ a b. a *ℚ b) (change_here d c j lj driven.nonbasic) o ∙ along-one h (along h (way d j)) ∙ along_twice h (way d j) in
      let there : standing_value (sides_at d.sides j) (other_stand (stand d j)) ≡ side = ap (λ s. standing_value (sides_at d.sides j) (other_stand s)) m.stands ∙ other_side h (sides_at d.sides j) m.where_it_is side m.not_ahead (at_stand d c j m.where_it_is lj m.stands).0 e in
      own (ap (λ t. along h (cond t (way d j) (step d j j (stand_ahead h)))) (eq-eqb j j refl)) ∙ ap (λ q. q -ℚ value d j) there)

  rate_basic : (v : ℕ) → ¬ (v ≡ j) → is_basic d v ≡ true → (z : Bool) → is_zero (entry d v j) ≡ z → Rate v
  rate_basic v ne b true z =
      still (change_basic d c j lj driven.nonbasic v b ∙ ap (along (falling_heading d j)) (zero_of_test (entry d v j) z) ∙ along-zero (falling_heading d j))
      (ap (λ t. goal_with t (is_basic d v) (falling_heading d j) (entry d v j) (sides_at d.sides v)) (ne_eqb v j ne) ∙ ap (λ t. goal_with false t (falling_heading d j) (entry d v j) (sides_at d.sides v)) b ∙ ap (λ t. cond t None (goal_ahead (heading_for (falling_heading d j) (entry d v j)) (sides_at d.sides v))) z)
  rate_basic v ne b false z =
      let h = falling_heading d j in
      let a = entry d v j in
      let g = heading_for h a in
      let change = change_basic d c j lj driven.nonbasic v b in
      let nonzero = nonzero_of a z in
      going g (subst (λ q. zeroℚ <ℚ along g q) (sym change) (strict_sign h a nonzero))
      (ap (λ t. goal_with t (is_basic d v) h a (sides_at d.sides v)) (ne_eqb v j ne) ∙ ap (λ t. goal_with false t h a (sides_at d.sides v)) b ∙ ap (λ t. cond t None (goal_ahead g (sides_at d.sides v))) z)
      (λ side e.
      let length : length_of d j v (stand_ahead g) ≡ along h (step d v j (stand_ahead g)) = ap (λ t. along h (cond t (way d j) (step d v j (stand_ahead g)))) (ne_eqb v j ne) in
      ap₂ (λ p q. p *ℚ q) change length ∙ along_both h a (step d v j (stand_ahead g))
      ∙ inverse_cancels a (standing_value (sides_at d.sides v) (stand_ahead g) -ℚ value d v) nonzero
      ∙ ap (λ q. q -ℚ value d v) (standing_ahead g (sides_at d.sides v) side e))

  pub rate : (v : ℕ) → Rate v
  rate v =
      elim (cases_eq v j) [
        | inl e ↦ subst Rate (sym e) rate_here
        | inr ne ↦ by_basis (is_basic d v) refl ne
      ]
    where
      by_basis : (b : Bool) → is_basic d v ≡ b → ¬ (v ≡ j) → Rate v
      by_basis true e ne = rate_basic v ne e (is_zero (entry d v j)) refl
      by_basis false e ne =
          still (change_other d c j lj driven.nonbasic v ne e)
          (ap (λ t. goal_with t (is_basic d v) (falling_heading d j) (entry d v j) (sides_at d.sides v)) (ne_eqb v j ne) ∙ ap (λ t. goal_with false t (falling_heading d j) (entry d v j) (sides_at d.sides v)) e)

  -- ---- values and the cost after so long a way

  moved_is : (v : ℕ) (long : ℚ) → moved d j (along (falling_heading d j) long) v ≡ value d v +ℚ change_of d j v *ℚ long
  moved_is v long =
      elim (cases_eq v j) [
        | inl e ↦ subst (λ u. moved d j (along (falling_heading d j) long) u ≡ value d u +ℚ change_of d j u *ℚ long) (sym e) here
        | inr ne ↦ by_basis (is_basic d v) refl ne
      ]
    where
      here : moved d j (along (falling_heading d j) long) j ≡ value d j +ℚ change_of d j j *ℚ long
      here =
          moved_here d j (along (falling_heading d j) long)
          ∙ ap (λ q. value d j +ℚ q) (sym (ap (λ q. q *ℚ long) (change_here d c j lj driven.nonbasic) ∙ along-one (falling_heading d j) long))

      by_basis : (b : Bool) → is_basic d v ≡ b → ¬ (v ≡ j) → moved d j (along (falling_heading d j) long) v ≡ value d v +ℚ change_of d j v *ℚ long
      by_basis true e ne =
          moved_basic d j (along (falling_heading d j) long) v ne e
          ∙ ap (λ q. value d v +ℚ q) (along_right (falling_heading d j) (entry d v j) long ∙ sym (ap (λ q. q *ℚ long) (change_basic d c j lj driven.nonbasic v e)))
      by_basis false e ne =
          moved_other d j (along (falling_heading d j) long) v ne e
          ∙ sym (ap (λ q. value d v +ℚ q *ℚ long) (change_other d c j lj driven.nonbasic v ne e) ∙ ap (λ q. value d v +ℚ q) (zero-*ℚ long) ∙ +ℚ-zero (value d v))

  module _ (v : ℕ) (lv : v < size d) (w : Way) (is : way_of d j v ≡ Some w) where
    way_is : IsWayOf d j v w
    way_is = is_way d j v w is

    step_is : ¬ (w.variable ≡ j) → step d w.variable j w.to ≡ along (falling_heading d j) w.length
    step_is ne =
        let h = falling_heading d j in
        let nvj : ¬ (v ≡ j) = λ (f : v ≡ j). ne (way_is.variable ∙ f) in
        ap (λ u. step d u j w.to) way_is.variable
        ∙ sym (along_twice h (step d v j w.to))
        ∙ sym (ap (along h) (way_is.length ∙ ap (λ t. along h (cond t (way d j) (step d v j w.to))) (ne_eqb v j nvj)))

    flip_is : w.variable ≡ j → way d j ≡ along (falling_heading d j) w.length
    flip_is e =
        let h = falling_heading d j in
        let vj : v ≡ j = sym way_is.variable ∙ e in
        sym (along_twice h (way d j))
        ∙ sym (ap (along h) (way_is.length ∙ ap (λ t. along h (cond t (way d j) (step d v j w.to))) (eq-eqb v j vj)))

    pub after_value : (u : ℕ) → u < size d → value (after d (move_by j w)) u ≡ value d u +ℚ change_of d j u *ℚ w.length
    after_value u l =
        elim (cases_eq w.variable j) [
          | inl e ↦
              (ap (λ t. value (after d (cond t (Flip j) (Exchange w.variable j w.to))) u) (eq-eqb w.variable j e)
              ∙ flipped-value d j u l ∙ ap (λ t. moved d j t u) (flip_is e) ∙ moved_is u w.length)
          | inr ne ↦
              (ap (λ t. value (after d (cond t (Flip j) (Exchange w.variable j w.to))) u) (ne_eqb w.variable j ne)
              ∙ exchanged-value d w.variable j w.to u l ∙ ap (λ t. moved d j t u) (step_is ne) ∙ moved_is u w.length)
        ]

    cost_moved : moved_cost d j (along (falling_heading d j) w.length) ≡ d.cost +ℚ along (falling_heading d j) (cost_entry d j) *ℚ w.length
    cost_moved = ap (λ q. d.cost +ℚ q) (along_right (falling_heading d j) (cost_entry d j) w.length)

    pub after_cost : (after d (move_by j w)).cost ≡ d.cost +ℚ along (falling_heading d j) (cost_entry d j) *ℚ w.length
    after_cost =
        elim (cases_eq w.variable j) [
          | inl e ↦
              (ap (λ t. (after d (cond t (Flip j) (Exchange w.variable j w.to))).cost) (eq-eqb w.variable j e)
              ∙ flipped-cost d j ∙ ap (moved_cost d j) (flip_is e) ∙ cost_moved)
          | inr ne ↦
              (ap (λ t. (after d (cond t (Flip j) (Exchange w.variable j w.to))).cost) (ne_eqb w.variable j ne)
              ∙ exchanged-cost d w.variable j w.to ∙ ap (moved_cost d j) (step_is ne) ∙ cost_moved)
        ]
