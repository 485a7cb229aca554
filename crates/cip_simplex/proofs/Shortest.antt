-- The ways of a variable, one after another.
use Rattle.std.proofs.Common.{◌≡◌, ◌≢◌, ℕ, zero, suc, ◌+◌, ◌<◌, Bool, true, false, not, cond, ◌||◌, is_some, ap₂, Option, None, Some, refl, sym, ap, ◌∙◌, inl, inr, arith, add-one}
use Rattle.std.proofs.lemmas.Bool.{eq-eqb, ne_eqb, cases_eq, or_right}
use Rattle.cip_bland.specs.Dictionary.{Dictionary}
use Rattle.cip_rational.specs.Rational.{ℚ, ◌-ℚ◌, zeroℚ, lt_test, is_zero}
use Rattle.cip_rational.specs.Range.{difference_overflows}
use Rattle.cip_problem.specs.Box.{sides_at}
use Rattle.cip_problem.proofs.Rows.{zero_of_test}
use Rattle.cip_bland.specs.Dictionary.{is_basic, entry, stand, value, standing_value}
use Rattle.cip_bland.specs.Exchange.{step, way, other_stand}
use Rattle.cip_bland.specs.MoveOperations.{step_operations}
use Rattle.cip_bland.specs.declared.moves.Stand.{Stand}
use Rattle.cip_bland.specs.declared.moves.Move.TheVariants.{Exchange, Flip}
use Rattle.cip_bland.specs.declared.steps.Heading.{Heading}
use Rattle.cip_bland.proofs.Zeros.{is_zero_of, nonzero_of, is_zero_false}
use Rattle.cip_bland.specs.Headings.{along, heading_for, goal_ahead}
use Rattle.cip_bland.specs.Rule.{Way, way_of, way_with, goal_with, goal_of, falling_heading, shortest, shorter}
use Rattle.cip_bland.specs.Tables.{first_of as first_move}
use Rattle.cip_bland.specs.MoveList.{is_out_of_range, wide_way, first_wide_way}
use Rattle.cip_bland.proofs.SideCases.{true_of_not}
use Rattle.cip_bland.proofs.MovesMade.{from_not}

-- ---- tests of entries

-- an entry isn't 0 where a test says so, and is where it doesn't
pub zero_by : (q : ℚ) (has : Bool) → has ≡ not (is_zero q) → has ≡ false → q ≡ zeroℚ
zero_by q has e f = zero_of_test q (true_of_not (is_zero q) (sym e ∙ f))

pub nonzero_by : (q : ℚ) (has : Bool) → has ≡ not (is_zero q) → has ≡ true → q ≢ zeroℚ
nonzero_by q has e f = nonzero_of q (from_not (is_zero q) (sym e ∙ f))

-- ---- the way to the side of a basic variable

module _ (d : Dictionary) (j v : ℕ) (apart : v ≢ j) (basic : is_basic d v ≡ true) where
  -- none where the entry is 0
  pub zero_entry : entry d v j ≡ zeroℚ → (wide_way d j (way_of d j v) ≡ None) × (None ≡ way_of d j v)
  zero_entry e =
      let none : way_of d j v ≡ None = rw (ne_eqb v j apart, basic, is_zero_of (entry d v j) e) refl in
      (ap (wide_way d j) none, sym none)

  goal_is : entry d v j ≢ zeroℚ → way_of d j v ≡ way_with d j v (goal_ahead (heading_for (falling_heading d j) (entry d v j)) (sides_at d.sides v))
  goal_is ne = rw (ne_eqb v j apart, basic, is_zero_false (entry d v j) ne) refl

  pub no_side : entry d v j ≢ zeroℚ → goal_ahead (heading_for (falling_heading d j) (entry d v j)) (sides_at d.sides v) ≡ None → (wide_way d j (way_of d j v) ≡ None) × (None ≡ way_of d j v)
  no_side ne e =
      let none : way_of d j v ≡ None = goal_is ne ∙ ap (way_with d j v) e in
      (ap (wide_way d j) none, sym none)

  way_is : (to : Stand) → entry d v j ≢ zeroℚ → goal_ahead (heading_for (falling_heading d j) (entry d v j)) (sides_at d.sides v) ≡ Some to → way_of d j v ≡ Some (record { variable = v; to = to; length = along (falling_heading d j) (step d v j to) })
  way_is to ne e =
      goal_is ne ∙ ap (way_with d j v) e
      ∙ ap (λ b. Some (record { variable = v; to = to; length = along (falling_heading d j) (cond b (Rattle.cip_bland.specs.Exchange.way d j) (step d v j to)) })) (ne_eqb v j apart)

  pub side_found : (to : Stand) → entry d v j ≢ zeroℚ → goal_ahead (heading_for (falling_heading d j) (entry d v j)) (sides_at d.sides v) ≡ Some to → is_out_of_range (step_operations d v j to) ≡ false
      → (wide_way d j (way_of d j v) ≡ None) × (Some (record { variable = v; to = to; length = along (falling_heading d j) (step d v j to) }) ≡ way_of d j v)
  side_found to ne e fits = (ap (wide_way d j) (way_is to ne e) ∙ rw (ne_eqb v j apart, fits) refl, sym (way_is to ne e))

  pub side_wide : (to : Stand) → entry d v j ≢ zeroℚ → goal_ahead (heading_for (falling_heading d j) (entry d v j)) (sides_at d.sides v) ≡ Some to → is_out_of_range (step_operations d v j to) ≡ true → wide_way d j (way_of d j v) ≡ Some (Exchange v j to)
  side_wide to ne e wide = ap (wide_way d j) (way_is to ne e) ∙ rw (ne_eqb v j apart, wide) refl

-- ---- the way to its own other side

module _ (d : Dictionary) (j : ℕ) (to : Stand) (ahead : Some to ≡ goal_ahead (falling_heading d j) (sides_at d.sides j)) where
  own_is : way_of d j j ≡ Some (record { variable = j; to = to; length = along (falling_heading d j) (way d j) })
  own_is =
      let goal : goal_of d j j ≡ Some to = rw (eq-eqb j j refl) (sym ahead) in
      ap (way_with d j j) goal
      ∙ ap (λ b. Some (record { variable = j; to = to; length = along (falling_heading d j) (cond b (way d j) (step d j j to)) })) (eq-eqb j j refl)

  module _ (side v : ℚ) (s : side ≡ standing_value (sides_at d.sides j) (other_stand (stand d j))) (e : v ≡ value d j) where
    pub own_found : (heading : Heading) (change length : ℚ) → heading ≡ falling_heading d j → difference_overflows side v ≡ false → change ≡ side -ℚ v → length ≡ along heading change → (wide_way d j (way_of d j j) ≡ None) × (Some (record { variable = j; to = to; length = length }) ≡ way_of d j j)
    own_found heading change length h o c l =
        let fits : difference_overflows (standing_value (sides_at d.sides j) (other_stand (stand d j))) (value d j) ≡ false = sym (ap₂ difference_overflows s e) ∙ o in
        let long : length ≡ along (falling_heading d j) (way d j) = l ∙ ap₂ along h (c ∙ ap₂ (λ a b. a -ℚ b) s e) in
        (ap (wide_way d j) own_is ∙ rw (eq-eqb j j refl, fits) refl, ap (λ l. Some (record { variable = j; to = to; length = l })) long ∙ sym own_is)

    pub own_wide : difference_overflows side v ≡ true → wide_way d j (way_of d j j) ≡ Some (Flip j)
    own_wide o =
        let wide : difference_overflows (standing_value (sides_at d.sides j) (other_stand (stand d j))) (value d j) ≡ true = sym (ap₂ difference_overflows s e) ∙ o in
        ap (wide_way d j) own_is ∙ rw (eq-eqb j j refl, wide) refl

-- ---- whether there is a way at all

some_shorter : (first second : Option Way) → is_some (shorter first second) ≡ is_some first || is_some second
some_shorter None second = refl
some_shorter (Some first) None = refl
some_shorter (Some first) (Some second) =
    elim (lt_test second.length first.length) as (λ b. is_some (cond b (Some second) (Some first)) ≡ true) [ true ↦ refl | false ↦ refl ]

pub none_more : (n : ℕ) (ways : ℕ → Option Way) → is_some (shortest n ways) ≡ false → is_some (ways n) ≡ false → is_some (shortest (n + 1) ways) ≡ false
none_more n ways h e = rw add-one (some_shorter (shortest n ways) (ways n) ∙ ap₂ (λ a b. a || b) h e)

pub some_at : (n k : ℕ) (ways : ℕ → Option Way) → k < n → is_some (ways k) ≡ true → is_some (shortest n ways) ≡ true
some_at zero k ways l e = absurd (omega (arith, l))
some_at (suc n) k ways l e =
    some_shorter (shortest n ways) (ways n) ∙ elim (cases_eq k n) [
      | inl same ↦ (let e' : is_some (ways n) ≡ true = rw same at e in or_right (is_some (shortest n ways)) (is_some (ways n)) e')
      | inr other ↦ ap (λ b. b || is_some (ways n)) (some_at n k ways (omega (arith, l, other)) e)
    ]

pub shortest_more : (n : ℕ) (ways : ℕ → Option Way) (best found new : Option Way) → best ≡ shortest n ways → found ≡ ways n → new ≡ shorter best found → new ≡ shortest (n + 1) ways
shortest_more n ways best found new b f e = rw add-one (e ∙ ap₂ shorter b f)

pub first_wide_more : (d : Dictionary) (j n : ℕ) → first_wide_way d j n ≡ None → wide_way d j (way_of d j n) ≡ None → first_wide_way d j (n + 1) ≡ None
first_wide_more d j n a b = rw add-one (ap₂ first_move a b)

-- ---- whether there is a way to the side of a variable

some_with : (d : Dictionary) (j v : ℕ) (goal : Option Stand) → is_some goal ≡ is_some (way_with d j v goal)
some_with d j v None = refl
some_with d j v (Some to) = refl

module _ (d : Dictionary) (j v : ℕ) (goal : Option Stand) where
  pub some_own : v ≡ j → goal ≡ goal_ahead (falling_heading d j) (sides_at d.sides j) → is_some goal ≡ is_some (way_of d j v)
  some_own e h =
      some_with d j v goal ∙ ap (λ g. is_some (way_with d j v g))
      (h ∙ ap (λ k. goal_ahead (falling_heading d j) (sides_at d.sides k)) (sym e) ∙ sym (ap (λ t. goal_with t (is_basic d v) (falling_heading d j) (entry d v j) (sides_at d.sides v)) (eq-eqb v j e)))

  pub some_basic : v ≢ j → is_basic d v ≡ true → is_zero (entry d v j) ≡ false → goal ≡ goal_ahead (heading_for (falling_heading d j) (entry d v j)) (sides_at d.sides v) → is_some goal ≡ is_some (way_of d j v)
  some_basic n b z h =
      let is : goal_of d j v ≡ goal_ahead (heading_for (falling_heading d j) (entry d v j)) (sides_at d.sides v) = rw (ne_eqb v j n, b, z) refl in
      some_with d j v goal ∙ ap (λ g. is_some (way_with d j v g)) (h ∙ sym is)

  pub some_zero : v ≢ j → is_basic d v ≡ true → is_zero (entry d v j) ≡ true → goal ≡ None → is_some goal ≡ is_some (way_of d j v)
  some_zero n b z h =
      let is : goal_of d j v ≡ None = rw (ne_eqb v j n, b, z) refl in
      some_with d j v goal ∙ ap (λ g. is_some (way_with d j v g)) (h ∙ sym is)

  pub some_nonbasic : v ≢ j → is_basic d v ≡ false → goal ≡ None → is_some goal ≡ is_some (way_of d j v)
  some_nonbasic n b h =
      let is : goal_of d j v ≡ None = rw (ne_eqb v j n, b) refl in
      some_with d j v goal ∙ ap (λ g. is_some (way_with d j v g)) (h ∙ sym is)
