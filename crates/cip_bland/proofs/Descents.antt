-- A move by which the cost falls: its way isn't negative, all values are between their sides after it, the cost falls by
-- the length of the way, and a flip has a length above 0.
use Rattle.std.proofs.Common.{◌≡◌, ℕ, ◌<◌, true, false, cond, is_some, [], ◌∷◌, Option, None, Some, IfSome, refl, sym, ap, ap₂, ◌∙◌, subst, inl, inr, arith}
use Rattle.std.proofs.lemmas.Bool.{true≢false, and_from}
use Rattle.std.proofs.lemmas.Option.{none-some}
use Rattle.cip_rational.specs.Rational.{ℚ, ◌+ℚ◌, ◌-ℚ◌, ◌*ℚ◌, negate, zeroℚ, ◌≤ℚ◌, ◌<ℚ◌}
use Rattle.cip_rational.proofs.Rational.Ring.{+ℚ-zero, zero-*ℚ, *ℚ-zero, negate-*ℚ}
use Rattle.cip_rational.proofs.Rational.Order.{≤ℚ_refl, ≤ℚ_of_lt, not_le_of_lt, eq-or-lt, test_of_le, ne_of_lt}
use Rattle.cip_rational.proofs.Rational.Monotone.{*ℚ_mono, *ℚ_pos, *ℚ_nonneg, le_of_*ℚ}
use Rattle.cip_rational.proofs.Linear.{linear_le, linear_lt, linear_same}
use Rattle.cip_bland.specs.Program.{Sides}
use Rattle.cip_bland.specs.Box.{Between, sides_at, sides_equal}
use Rattle.cip_bland.specs.Dictionary.{Dictionary, size, cost_entry, value, standing_value, CanStand, IsConsistent}
use Rattle.cip_bland.specs.Exchange.{after}
use Rattle.cip_bland.specs.declared.moves.Stand.{Stand}
use Rattle.cip_bland.specs.declared.moves.Stand.TheVariants.{Low, High, Zero}
use Rattle.cip_bland.specs.Headings.{along, stand_ahead, side_ahead, is_ahead, goal_ahead}
use Rattle.cip_bland.specs.Rule.{improves, falling_heading, goal_of, length_of, Way, way_with, way_of, move_by}
use Rattle.cip_bland.specs.EndAnswers.{change_of}
use Rattle.cip_bland.specs.declared.steps.Heading.{Heading}
use Rattle.cip_bland.specs.declared.steps.Heading.TheVariants.{Up, Down}
use Rattle.cip_bland.proofs.Searches.{IsShortest}
use Rattle.cip_bland.proofs.SideCases.{goal_some, there_is}
use Rattle.cip_bland.proofs.StateFacts.{at_stand}
use Rattle.cip_bland.proofs.Emptiness.{along-mul}
use Rattle.cip_bland.proofs.RayEnds.{falls_along, change_here}
use Rattle.cip_bland.proofs.MovesMade.{IsWayOf, is_way}
use Rattle.cip_bland.proofs.Rates.{one_ahead, driven, Rate, still, going, rate, after_value, after_cost}

-- ---- between sides

pub between_ahead : (heading : Heading) (s : Sides) (x side : ℚ) → Between s.low s.high x → side_ahead heading s ≡ Some side → zeroℚ ≤ℚ along heading (side -ℚ x)
between_ahead Up s x side b e =
    let h : x ≤ℚ side = subst (λ o. IfSome o (λ q. x ≤ℚ q)) e b.below in
    linear_le (x ∷ side ∷ []) (λ s w. omega (arith, s.le_out))
between_ahead Down s x side b e =
    let h : side ≤ℚ x = subst (λ o. IfSome o (λ q. q ≤ℚ x)) e b.above in
    linear_le (x ∷ side ∷ []) (λ s w. omega (arith, s.le_out))

-- a value that goes that way from between its sides, and not past the side ahead, stays between them
pub stays_inside : (heading : Heading) (low high : Option ℚ) (x y : ℚ) → Between low high x → zeroℚ ≤ℚ along heading (y -ℚ x) → ((side : ℚ) → side_ahead heading (record { low = low; high = high }) ≡ Some side → zeroℚ ≤ℚ along heading (side -ℚ y)) → Between low high y
stays_inside Up low high x y b p f = record { above = behind low b.above; below = ahead high f }
  where
    behind : (o : Option ℚ) → IfSome o (λ q. q ≤ℚ x) → IfSome o (λ q. q ≤ℚ y)
    behind None h = tt
    behind (Some q) h = linear_le (q ∷ x ∷ y ∷ []) (λ s w. omega (arith, s.le_out))

    ahead : (o : Option ℚ) → ((side : ℚ) → o ≡ Some side → zeroℚ ≤ℚ side -ℚ y) → IfSome o (λ q. y ≤ℚ q)
    ahead None g = tt
    ahead (Some q) g = let h : zeroℚ ≤ℚ q -ℚ y = g q refl in linear_le (q ∷ y ∷ []) (λ s w. omega (arith, s.le_out))
stays_inside Down low high x y b p f = record { above = ahead low f; below = behind high b.below }
  where
    behind : (o : Option ℚ) → IfSome o (λ q. x ≤ℚ q) → IfSome o (λ q. y ≤ℚ q)
    behind None h = tt
    behind (Some q) h = linear_le (q ∷ x ∷ y ∷ []) (λ s w. omega (arith, s.le_out))

    ahead : (o : Option ℚ) → ((side : ℚ) → o ≡ Some side → zeroℚ ≤ℚ negate (side -ℚ y)) → IfSome o (λ q. q ≤ℚ y)
    ahead None g = tt
    ahead (Some q) g = let h : zeroℚ ≤ℚ negate (q -ℚ y) = g q refl in linear_le (q ∷ y ∷ []) (λ s w. omega (arith, s.le_out))

-- a variable that stands not at the side ahead, and yet has its value, has equal sides
equal_at : (low high : Option ℚ) (x : ℚ) → is_some low ≡ true → low ≡ Some x → high ≡ Some x → sides_equal low high ≡ true
equal_at low high x there l h = ap₂ sides_equal l h ∙ and_from _ _ (test_of_le (≤ℚ_refl x)) (test_of_le (≤ℚ_refl x))

pub equal_sides : (heading : Heading) (s : Sides) (at : Stand) (x : ℚ) → is_ahead heading at ≡ false → CanStand s at → x ≡ standing_value s at → side_ahead heading s ≡ Some x → sides_equal s.low s.high ≡ true
equal_sides Up s Low x n c e a = equal_at s.low s.high x c (there_is s.low x c e) a
equal_sides Up s High x n c e a = absurd (true≢false n)
equal_sides Up s Zero x n c e a = absurd (none-some x (sym c.1 ∙ a))
equal_sides Down s Low x n c e a = absurd (true≢false n)
equal_sides Down s High x n c e a = equal_at s.low s.high x (ap is_some a) a (there_is s.high x c e)
equal_sides Down s Zero x n c e a = absurd (none-some x (sym c.0 ∙ a))

pub same_heading : (g h : Heading) (a : ℚ) → zeroℚ <ℚ along g a → zeroℚ <ℚ along h a → g ≡ h
same_heading Up Up a p q = refl
same_heading Up Down a p q = absurd (not_le_of_lt p (linear_le (a ∷ []) (λ s w. omega (arith, s.lt_out))))
same_heading Down Up a p q = absurd (not_le_of_lt q (linear_le (a ∷ []) (λ s w. omega (arith, s.lt_out))))
same_heading Down Down a p q = refl

goal_there : (heading : Heading) (s : Sides) (side : ℚ) → side_ahead heading s ≡ Some side → goal_ahead heading s ≡ Some (stand_ahead heading)
goal_there heading s side e = ap (λ o. cond (is_some o) (Some (stand_ahead heading)) None) e

module _ (d : Dictionary) (c : IsConsistent d) (j : ℕ) (lj : j < size d) (good : improves d j ≡ true) where
  -- a way leads on to the side ahead, and is as long as it takes
  pub record Reaches (v : ℕ) (w : Way) : Type 0 where
    pub heading : Heading
    pub side : ℚ
    pub moves : zeroℚ <ℚ along heading (change_of d j v)
    pub there : side_ahead heading (sides_at d.sides v) ≡ Some side
    pub to : w.to ≡ stand_ahead heading
    pub span : change_of d j v *ℚ w.length ≡ side -ℚ value d v

  reach_by : (v : ℕ) (w : Way) → IsWayOf d j v w → Rate d c j lj good v → Reaches v w
  reach_by v w is (still change none) = absurd (none-some w.to (sym none ∙ is.goal))
  reach_by v w is (going heading moves goal span) =
      let g = goal_some heading (sides_at d.sides v) w.to (sym goal ∙ is.goal) in
      record {
        heading = heading;
        side = g.side;
        moves = moves;
        there = g.there;
        to = g.is_ahead;
        span = ap (λ q. change_of d j v *ℚ q) (is.length ∙ ap (length_of d j v) g.is_ahead) ∙ span g.side g.there;
      }

  pub reaches : (v : ℕ) (w : Way) → way_of d j v ≡ Some w → Reaches v w
  reaches v w e = reach_by v w (is_way d j v w e) (rate d c j lj good v)

  -- the side ahead of a variable that moves gives a way
  pub way_there : (v : ℕ) (heading : Heading) (side : ℚ) → goal_of d j v ≡ goal_ahead heading (sides_at d.sides v) → side_ahead heading (sides_at d.sides v) ≡ Some side → way_of d j v ≡ Some (record { variable = v; to = stand_ahead heading; length = length_of d j v (stand_ahead heading) })
  way_there v heading side goal e = ap (way_with d j v) (goal ∙ goal_there heading (sides_at d.sides v) side e)

  -- a variable between its sides takes no less than no way
  pub way_nonneg : (v : ℕ) (w : Way) → way_of d j v ≡ Some w → Between (sides_at d.sides v).low (sides_at d.sides v).high (value d v) → zeroℚ ≤ℚ w.length
  way_nonneg v w e b =
      let r = reaches v w e in
      let a = along r.heading (change_of d j v) in
      let far : zeroℚ ≤ℚ along r.heading (r.side -ℚ value d v) = between_ahead r.heading (sides_at d.sides v) (value d v) r.side b r.there in
      let product : a *ℚ w.length ≡ along r.heading (r.side -ℚ value d v) = along-mul r.heading (change_of d j v) w.length ∙ ap (along r.heading) r.span in
      le_of_*ℚ zeroℚ w.length a r.moves (subst (λ q. q ≤ℚ a *ℚ w.length) (sym (*ℚ-zero a)) (subst (λ q. zeroℚ ≤ℚ q) (sym product) far))

  -- the own way of the variable that goes is above 0
  pub own_positive : (w : Way) → way_of d j j ≡ Some w → Between (sides_at d.sides j).low (sides_at d.sides j).high (value d j) → zeroℚ <ℚ w.length
  own_positive w e b =
      elim (eq-or-lt (way_nonneg j w e b)) [
        | inl zero ↦ absurd (none zero)
        | inr lt ↦ lt
      ]
    where
      none : zeroℚ ≡ w.length → ⊥
      none zero =
          let r = reaches j w e in
          let m = (driven d c j lj good).may in
          let h = falling_heading d j in
          let ahead : zeroℚ <ℚ along h (change_of d j j) = subst (λ q. zeroℚ <ℚ along h q) (sym (change_here d c j lj (driven d c j lj good).nonbasic)) (one_ahead h) in
          let same : r.heading ≡ h = same_heading r.heading h (change_of d j j) r.moves ahead in
          let span : r.side -ℚ value d j ≡ zeroℚ = sym r.span ∙ ap (λ q. change_of d j j *ℚ q) (sym zero) ∙ *ℚ-zero (change_of d j j) in
          let at : r.side ≡ value d j = linear_same (r.side ∷ value d j ∷ []) (λ s w. omega (arith, s.same_out)) in
          let there : side_ahead h (sides_at d.sides j) ≡ Some (value d j) = ap (λ g. side_ahead g (sides_at d.sides j)) (sym same) ∙ r.there ∙ ap Some at in
          let stands = at_stand d c j m.where_it_is lj m.stands in
          true≢false (sym (equal_sides h (sides_at d.sides j) m.where_it_is (value d j) m.not_ahead stands.0 stands.1 there) ∙ m.not_equal)

  -- ---- the shortest way
  module _ (inside : (u : ℕ) → u < size d → Between (sides_at d.sides u).low (sides_at d.sides u).high (value d u)) (v : ℕ) (w : Way) (short : IsShortest (size d) (way_of d j) v w) where
    pub nonneg : zeroℚ ≤ℚ w.length
    nonneg = way_nonneg v w short.is_way (inside v short.below)

    inside_by : (u : ℕ) → u < size d → Rate d c j lj good u → Between (sides_at d.sides u).low (sides_at d.sides u).high (value d u +ℚ change_of d j u *ℚ w.length)
    inside_by u l (still change none) =
        subst (Between (sides_at d.sides u).low (sides_at d.sides u).high) (sym (ap (λ q. value d u +ℚ q *ℚ w.length) change ∙ ap (λ q. value d u +ℚ q) (zero-*ℚ w.length) ∙ +ℚ-zero (value d u))) (inside u l)
    inside_by u l (going heading moves goal span) =
        let x = value d u in
        let change = change_of d j u in
        let y = x +ℚ change *ℚ w.length in
        let a = along heading change in
        let forward : y -ℚ x ≡ change *ℚ w.length = linear_same (x ∷ (change *ℚ w.length) ∷ []) (λ s w. omega arith) in
        stays_inside heading (sides_at d.sides u).low (sides_at d.sides u).high x y (inside u l)
        (subst (λ q. zeroℚ ≤ℚ along heading q) (sym forward) (subst (λ q. zeroℚ ≤ℚ q) (along-mul heading change w.length) (*ℚ_nonneg (≤ℚ_of_lt moves) nonneg)))
        (λ side e.
        let long = length_of d j u (stand_ahead heading) in
        let order : w.length ≤ℚ long = short.none_shorter u _ l (way_there u heading side goal e) in
        let products : a *ℚ w.length ≤ℚ a *ℚ long = *ℚ_mono w.length long a (≤ℚ_of_lt moves) order in
        not_past heading x change w.length long side (subst (λ q. q ≤ℚ along heading (change *ℚ long)) (along-mul heading change w.length) (subst (λ q. a *ℚ w.length ≤ℚ q) (along-mul heading change long) products)) (span side e))
      where
        not_past : (heading : Heading) (x change short long side : ℚ) → along heading (change *ℚ short) ≤ℚ along heading (change *ℚ long) → change *ℚ long ≡ side -ℚ x → zeroℚ ≤ℚ along heading (side -ℚ (x +ℚ change *ℚ short))
        not_past Up x change short long side h e = linear_le (x ∷ side ∷ (change *ℚ short) ∷ (change *ℚ long) ∷ []) (λ s w. omega (arith, s.le_out, s.same_out))
        not_past Down x change short long side h e = linear_le (x ∷ side ∷ (change *ℚ short) ∷ (change *ℚ long) ∷ []) (λ s w. omega (arith, s.le_out, s.same_out))

    -- after it all values are between their sides
    pub inside_after : (u : ℕ) → u < size d → Between (sides_at d.sides u).low (sides_at d.sides u).high (value (after d (move_by j w)) u)
    inside_after u l =
        subst (Between (sides_at d.sides u).low (sides_at d.sides u).high) (sym (after_value d c j lj good v short.below w short.is_way u l)) (inside_by u l (rate d c j lj good u))

    falling : along (falling_heading d j) (cost_entry d j) <ℚ zeroℚ
    falling = falls_along (cost_entry d j) (driven d c j lj good).nonzero

    pub cost_no_more : (after d (move_by j w)).cost ≤ℚ d.cost
    cost_no_more =
        subst (λ q. q ≤ℚ d.cost) (sym (after_cost d c j lj good v short.below w short.is_way))
        (down d.cost (along (falling_heading d j) (cost_entry d j)) w.length (≤ℚ_of_lt falling) nonneg)
      where
        down : (cost a long : ℚ) → a ≤ℚ zeroℚ → zeroℚ ≤ℚ long → cost +ℚ a *ℚ long ≤ℚ cost
        down cost a long n p =
            let m : zeroℚ ≤ℚ negate a = linear_le (a ∷ []) (λ s w. omega (arith, s.le_out)) in
            let k : zeroℚ ≤ℚ negate a *ℚ long = *ℚ_nonneg m p in
            let e = negate-*ℚ a long in
            linear_le (cost ∷ (a *ℚ long) ∷ (negate a *ℚ long) ∷ []) (λ s w. omega (arith, s.le_out, s.same_out))

    -- where the cost stays, the way has no length
    pub no_length : (after d (move_by j w)).cost ≡ d.cost → w.length ≡ zeroℚ
    no_length e =
        elim (eq-or-lt nonneg) [
          | inl zero ↦ sym zero
          | inr lt ↦ absurd (
              let a = along (falling_heading d j) (cost_entry d j) in
              let products : a *ℚ w.length ≡ zeroℚ = same_cost d.cost (a *ℚ w.length) (sym (after_cost d c j lj good v short.below w short.is_way) ∙ e) in
              strictly a w.length falling lt products)
        ]
      where
        same_cost : (cost p : ℚ) → cost +ℚ p ≡ cost → p ≡ zeroℚ
        same_cost cost p e = linear_same (cost ∷ p ∷ []) (λ s w. omega (arith, s.same_out))

        strictly : (a long : ℚ) → a <ℚ zeroℚ → zeroℚ <ℚ long → a *ℚ long ≡ zeroℚ → ⊥
        strictly a long n p e =
            let m : zeroℚ <ℚ negate a = linear_lt (a ∷ []) (λ s w. omega (arith, s.lt_out)) in
            let k : zeroℚ <ℚ negate a *ℚ long = *ℚ_pos m p in
            let f = negate-*ℚ a long in
            ne_of_lt k (sym (f ∙ ap negate e ∙ linear_same [] (λ s w. omega arith)))

    -- and then no value changes
    pub same_values : w.length ≡ zeroℚ → (u : ℕ) → u < size d → value (after d (move_by j w)) u ≡ value d u
    same_values e u l =
        after_value d c j lj good v short.below w short.is_way u l
        ∙ ap (λ q. value d u +ℚ change_of d j u *ℚ q) e ∙ ap (λ q. value d u +ℚ q) (*ℚ-zero (change_of d j u)) ∙ +ℚ-zero (value d u)
