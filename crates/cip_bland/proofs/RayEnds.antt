-- Where the cost falls as a variable goes and no way ends at a side, the way is a ray.
use Rattle.std.proofs.Common.{◌≡◌, ◌≢◌, ◌⊎◌, ℕ, ◌<◌, Bool, true, false, not, cond, [], ◌∷◌, Option, None, Some, IfSome, refl, sym, ap, ◌∙◌, subst, inl, inr, arith}
use Rattle.std.proofs.lemmas.Bool.{true≢false, and_parts, eq-eqb, ne_eqb, cases_eq}
use Rattle.std.proofs.lemmas.Option.{none-some}
use Rattle.cip_rational.specs.Rational.{ℚ, ◌*ℚ◌, zeroℚ, oneℚ, ◌≤ℚ◌, ◌<ℚ◌, lt_test, is_zero}
use Rattle.cip_rational.proofs.Rational.Ring.{zero-*ℚ, *ℚ-zero, *ℚ_comm}
use Rattle.cip_rational.proofs.Rational.Order.{≤ℚ_of_eq, ≤ℚ_of_lt, lt_of_test, le_of_lt_test, eq-or-lt}
use Rattle.cip_rational.proofs.Linear.{linear_le, linear_lt}
use Rattle.cip_bland.specs.Program.{Sides}
use Rattle.cip_bland.specs.Box.{sides_at}
use Rattle.cip_bland.specs.LinearProgram.{LinearProgram, IsProper, StaysBetween, IsRay}
use Rattle.cip_bland.specs.Tables.{form}
use Rattle.cip_bland.specs.Dictionary.{Dictionary, size, is_basic, entry, cost_entry, Solves, IsConsistent}
use Rattle.cip_bland.specs.ProgramState.{first_of_program}
use Rattle.cip_bland.specs.declared.moves.Stand.{Stand}
use Rattle.cip_bland.proofs.Tables.{total_same, total-only, only, only_here, only_there}
use Rattle.cip_bland.proofs.Zeros.{nonzero_of}
use Rattle.cip_bland.specs.Headings.{back_of, along, heading_for, side_ahead, goal_ahead}
use Rattle.cip_bland.specs.Rule.{improves, falling_heading, goal_with, goal_of, way_with, way_of}
use Rattle.cip_bland.specs.EndAnswers.{change_of, ray_of}
use Rattle.cip_bland.specs.Statements.{IsStateOf}
use Rattle.cip_bland.specs.declared.steps.Heading.{Heading}
use Rattle.cip_bland.specs.declared.steps.Heading.TheVariants.{Up, Down}
use Rattle.cip_bland.proofs.SideCases.{goes, goal_none, free_stays}
use Rattle.cip_bland.proofs.StateFacts.{IsFreeRow, nonbasic_at, sizes}
use Rattle.cip_bland.proofs.PointsOf.{ray_by}
use Rattle.cip_bland.proofs.Emptiness.{along-zero, along-one}
use Rattle.cip_problem.proofs.Rows.{zero_of_test}

-- ---- signs

pub along_one_up : (heading : Heading) → zeroℚ ≤ℚ along heading (along heading oneℚ)
along_one_up Up = linear_le [] (λ s w. omega arith)
along_one_up Down = linear_le [] (λ s w. omega arith)

-- a product with a goes that way as its variable goes the way of it
pub along_sign : (heading : Heading) (a : ℚ) → zeroℚ ≤ℚ along (heading_for heading a) (along heading a)
along_sign heading a = go heading (lt_test zeroℚ a) refl
  where
    go : (heading : Heading) (b : Bool) → lt_test zeroℚ a ≡ b → zeroℚ ≤ℚ along (cond b heading (back_of heading)) (along heading a)
    go Up true e = ≤ℚ_of_lt (lt_of_test e)
    go Up false e = let h : a ≤ℚ zeroℚ = le_of_lt_test e in linear_le (a ∷ []) (λ s w. omega (arith, s.le_out))
    go Down true e = let h : zeroℚ <ℚ a = lt_of_test e in linear_le (a ∷ []) (λ s w. omega (arith, s.lt_out))
    go Down false e = let h : a ≤ℚ zeroℚ = le_of_lt_test e in linear_le (a ∷ []) (λ s w. omega (arith, s.le_out))

-- the cost falls along the way that lets it
pub falls_along : (a : ℚ) → a ≢ zeroℚ → along (heading_for Down a) a <ℚ zeroℚ
falls_along a ne = go (lt_test zeroℚ a) refl
  where
    go : (b : Bool) → lt_test zeroℚ a ≡ b → along (cond b Down Up) a <ℚ zeroℚ
    go true e = let h : zeroℚ <ℚ a = lt_of_test e in linear_lt (a ∷ []) (λ s w. omega (arith, s.lt_out))
    go false e =
        elim (eq-or-lt (le_of_lt_test e)) [
          | inl same ↦ absurd (ne same)
          | inr lt ↦ lt
        ]

pub zero_stays : (s : Sides) (change : ℚ) → change ≡ zeroℚ → StaysBetween s.low s.high change
zero_stays s change e = record { not_down = below s.low; not_up = above s.high }
  where
    below : (o : Option ℚ) → IfSome o (λ _. zeroℚ ≤ℚ change)
    below None = tt
    below (Some q) = ≤ℚ_of_eq (sym e)

    above : (o : Option ℚ) → IfSome o (λ _. change ≤ℚ zeroℚ)
    above None = tt
    above (Some q) = ≤ℚ_of_eq e

-- ---- the changes of the variables as j goes
module _ (d : Dictionary) (c : IsConsistent d) (j : ℕ) (lj : j < size d) (nonbasic : is_basic d j ≡ false) where
  pub change_here : change_of d j j ≡ along (falling_heading d j) oneℚ
  change_here = ap (λ t. cond t (along (falling_heading d j) oneℚ) (cond (is_basic d j) (along (falling_heading d j) (entry d j j)) zeroℚ)) (eq-eqb j j refl)

  pub change_basic : (v : ℕ) → is_basic d v ≡ true → change_of d j v ≡ along (falling_heading d j) (entry d v j)
  change_basic v b =
      let ne : ¬ (v ≡ j) = λ (e : v ≡ j). true≢false (sym b ∙ ap (is_basic d) e ∙ nonbasic) in
      ap (λ t. cond t (along (falling_heading d j) oneℚ) (cond (is_basic d v) (along (falling_heading d j) (entry d v j)) zeroℚ)) (ne_eqb v j ne)
      ∙ ap (λ t. cond t (along (falling_heading d j) (entry d v j)) zeroℚ) b

  pub change_other : (v : ℕ) → ¬ (v ≡ j) → is_basic d v ≡ false → change_of d j v ≡ zeroℚ
  change_other v ne b =
      ap (λ t. cond t (along (falling_heading d j) oneℚ) (cond (is_basic d v) (along (falling_heading d j) (entry d v j)) zeroℚ)) (ne_eqb v j ne)
      ∙ ap (λ t. cond t (along (falling_heading d j) (entry d v j)) zeroℚ) b

  change_product : (row : ℕ → ℚ) → IsFreeRow d row → (k : ℕ) → k < size d → row k *ℚ change_of d j k ≡ only j (along (falling_heading d j) (row j)) k
  change_product row free k l =
      elim (cases_eq k j) [
        | inl e ↦
            (rw e (ap (λ q. row j *ℚ q) change_here ∙ *ℚ_comm (row j) (along (falling_heading d j) oneℚ) ∙ along-one (falling_heading d j) (row j) ∙ sym (only_here j (along (falling_heading d j) (row j)))))
        | inr ne ↦ (go (is_basic d k) refl ne ∙ sym (only_there j k (along (falling_heading d j) (row j)) ne))
      ]
    where
      go : (b : Bool) → is_basic d k ≡ b → ¬ (k ≡ j) → row k *ℚ change_of d j k ≡ zeroℚ
      go true e ne = ap (λ q. q *ℚ change_of d j k) (free k l e) ∙ zero-*ℚ (change_of d j k)
      go false e ne = ap (λ q. row k *ℚ q) (change_other k ne e) ∙ *ℚ-zero (row k)

  pub change_form : (row : ℕ → ℚ) → IsFreeRow d row → form (size d) row (change_of d j) ≡ along (falling_heading d j) (row j)
  change_form row free =
      total_same (size d) (λ k. row k *ℚ change_of d j k) (only j (along (falling_heading d j) (row j))) (λ k l. change_product row free k l)
      ∙ total-only (size d) j (along (falling_heading d j) (row j)) lj

  pub change_solves : Solves d (change_of d j)
  change_solves v l b = change_basic v b ∙ sym (change_form (entry d v) (λ k lk bk. c.rows_free v k l b lk bk))

  no_goal : (v : ℕ) (o : Option Stand) → way_with d j v o ≡ None → o ≡ None
  no_goal v None e = refl
  no_goal v (Some to) e = absurd (none-some _ (sym e))

  zero_or_free : (z : Bool) (heading : Heading) (s : Sides) → cond z None (goal_ahead heading s) ≡ None → (z ≡ true) ⊎ (side_ahead heading s ≡ None)
  zero_or_free true heading s e = inl refl
  zero_or_free false heading s e = inr (goal_none heading s e)

  -- where no way ends, all changes stay between
  pub changes_stay : ((v : ℕ) → v < size d → way_of d j v ≡ None) → (v : ℕ) → v < size d → StaysBetween (sides_at d.sides v).low (sides_at d.sides v).high (change_of d j v)
  changes_stay none v l =
      let h = falling_heading d j in
      let goal : goal_of d j v ≡ None = no_goal v (goal_of d j v) (none v l) in
      elim (cases_eq v j) [
        | inl e ↦
            (let free : goal_ahead h (sides_at d.sides v) ≡ None = ap (λ t. goal_with t (is_basic d v) h (entry d v j) (sides_at d.sides v)) (sym (eq-eqb v j e)) ∙ goal in
            free_stays h (sides_at d.sides v) (change_of d j v) (goal_none h (sides_at d.sides v) free) (subst (λ q. zeroℚ ≤ℚ along h q) (sym (ap (change_of d j) e ∙ change_here)) (along_one_up h)))
        | inr ne ↦ go (is_basic d v) refl ne (ap (λ t. goal_with t (is_basic d v) h (entry d v j) (sides_at d.sides v)) (sym (ne_eqb v j ne)) ∙ goal)
      ]
    where
      moves : is_basic d v ≡ true → (is_zero (entry d v j) ≡ true) ⊎ (side_ahead (heading_for (falling_heading d j) (entry d v j)) (sides_at d.sides v) ≡ None) → StaysBetween (sides_at d.sides v).low (sides_at d.sides v).high (change_of d j v)
      moves b (inl z) =
          zero_stays (sides_at d.sides v) (change_of d j v) (change_basic v b ∙ ap (along (falling_heading d j)) (zero_of_test (entry d v j) z) ∙ along-zero (falling_heading d j))
      moves b (inr free) =
          let h = heading_for (falling_heading d j) (entry d v j) in
          free_stays h (sides_at d.sides v) (change_of d j v) free (subst (λ q. zeroℚ ≤ℚ along h q) (sym (change_basic v b)) (along_sign (falling_heading d j) (entry d v j)))

      go : (b : Bool) → is_basic d v ≡ b → ¬ (v ≡ j) → goal_with false (is_basic d v) (falling_heading d j) (entry d v j) (sides_at d.sides v) ≡ None → StaysBetween (sides_at d.sides v).low (sides_at d.sides v).high (change_of d j v)
      go true e ne g =
          moves e (zero_or_free (is_zero (entry d v j)) (heading_for (falling_heading d j) (entry d v j)) (sides_at d.sides v) (ap (λ t. goal_with false t (falling_heading d j) (entry d v j) (sides_at d.sides v)) (sym e) ∙ g))
      go false e ne g = zero_stays (sides_at d.sides v) (change_of d j v) (change_other v ne e)

-- a variable that lets the cost fall is nonbasic, and its entry isn't 0
pub improver : (d : Dictionary) (j : ℕ) → improves d j ≡ true → (is_basic d j ≡ false) × (cost_entry d j ≢ zeroℚ)
improver d j e =
    let parts = and_parts _ _ e in
    let g = goes (sides_at d.sides j) _ (falling_heading d j) parts.1 in
    (nonbasic_at d j g.where_it_is g.stands, nonzero_of (cost_entry d j) (go (is_zero (cost_entry d j)) parts.0))
  where
    go : (b : Bool) → not b ≡ true → b ≡ false
    go true f = absurd (true≢false (sym f))
    go false f = refl

module _ (program : LinearProgram) (d : Dictionary) (proper : IsProper program) (st : IsStateOf program d) (j : ℕ) (lj : j < size d) (good : improves d j ≡ true) (none : (v : ℕ) → v < size d → way_of d j v ≡ None) where
  solves : Solves (first_of_program program) (change_of d j)
  solves = st.same.back (change_of d j) (change_solves d st.consistent j lj (improver d j good).0)

  pub is_ray : IsRay program (ray_of program d j)
  is_ray =
      ray_by program proper (change_of d j) solves
      (λ v l. subst (λ sides. StaysBetween (sides_at sides v).low (sides_at sides v).high (change_of d j v)) (sym st.same.same_sides)
      (changes_stay d st.consistent j lj (improver d j good).0 none v (subst (λ n. v < n) (sizes program d proper st) l)))
      (subst (λ q. q <ℚ zeroℚ) (sym (st.same.same_cost (change_of d j) solves ∙ change_form d st.consistent j lj (improver d j good).0 (cost_entry d) st.consistent.costs_free)) (falls_along (cost_entry d j) (improver d j good).1))
