-- What the tests of the rule say of a variable's sides and its value.
use Rattle.std.proofs.Common.{◌≡◌, ◌≢◌, Bool, true, false, not, ◌&&◌, cond, is_some, [], ◌∷◌, Option, None, Some, IfSome, unwrap_or, refl, sym, ap, ◌∙◌, subst, inl, inr, arith}
use Rattle.std.proofs.lemmas.Bool.{and_parts, and_cases, true≢false}
use Rattle.std.proofs.lemmas.Option.{none-some, same_Some}
use Rattle.cip_rational.specs.Rational.{ℚ, negate, zeroℚ, ◌≤ℚ◌, ◌<ℚ◌, lt_test, is_zero}
use Rattle.cip_rational.proofs.Rational.Order.{≤ℚ_refl, ≤ℚ_antisymm, ≤ℚ_of_lt, lt_of_test, le_of_test, lt_of_le_test, le_of_lt_test, not_le_of_lt, ne_of_lt}
use Rattle.cip_rational.proofs.Linear.{linear_lt, linear_le, linear_same}
use Rattle.cip_bland.specs.Program.{Sides}
use Rattle.cip_bland.specs.Box.{Between, sides_equal, at_least, at_most, is_between}
use Rattle.cip_bland.specs.LinearProgram.{StaysBetween}
use Rattle.cip_bland.specs.Multipliers.{IsUsed}
use Rattle.cip_bland.specs.Dictionary.{standing_value, CanStand}
use Rattle.cip_bland.specs.declared.moves.Stand.{Stand}
use Rattle.cip_bland.specs.declared.moves.Stand.TheVariants.{Low, High, Zero}
use Rattle.cip_bland.specs.Headings.{back_of, along, heading_for, stand_ahead, side_ahead, is_ahead, goal_ahead}
use Rattle.cip_bland.specs.Rule.{sides_cross, outside_with, may_go_from}
use Rattle.cip_bland.specs.declared.steps.Heading.{Heading}
use Rattle.cip_bland.specs.declared.steps.Heading.TheVariants.{Up, Down}
use Rattle.cip_problem.proofs.Rows.{zero_of_test}

abbrev pub sides : Option ℚ → Option ℚ → Sides
sides low high = record { low = low; high = high }

-- ---- sides that don't cross

pub uncrossed : (low high : ℚ) → lt_test high low ≡ false → low ≤ℚ high
uncrossed low high e = le_of_lt_test e

-- a variable at a side lies between its sides
pub standing_between : (low high : Option ℚ) (at : Stand) (value : ℚ) → sides_cross low high ≡ false → CanStand (sides low high) at → value ≡ standing_value (sides low high) at → Between low high value
standing_between None high Low value n c e = absurd (true≢false (sym c))
standing_between (Some l) None Low value n c e = record { above = subst (λ q. l ≤ℚ q) (sym e) (≤ℚ_refl l); below = tt }
standing_between (Some l) (Some h) Low value n c e =
    record { above = subst (λ q. l ≤ℚ q) (sym e) (≤ℚ_refl l); below = subst (λ q. q ≤ℚ h) (sym e) (uncrossed l h n) }
standing_between low None High value n c e = absurd (true≢false (sym c))
standing_between None (Some h) High value n c e = record { above = tt; below = subst (λ q. q ≤ℚ h) (sym e) (≤ℚ_refl h) }
standing_between (Some l) (Some h) High value n c e =
    record { above = subst (λ q. l ≤ℚ q) (sym e) (uncrossed l h n); below = subst (λ q. q ≤ℚ h) (sym e) (≤ℚ_refl h) }
standing_between (Some l) high Zero value n c e = absurd (none-some l (sym c.0))
standing_between None (Some h) Zero value n c e = absurd (none-some h (sym c.1))
standing_between None None Zero value n c e = record { above = tt; below = tt }

-- ---- a value outside

-- its side on the way in which it is outside is there, and the value is past it
pub record IsPast (sides : Sides) (value side : ℚ) (heading : Heading) : Type 0 where
  pub there : side_ahead heading sides ≡ Some side
  pub past : along heading side <ℚ along heading value

pub outside_past : (low high : Option ℚ) (value : ℚ) → is_between low high value ≡ false → (side : ℚ) × IsPast (sides low high) value side (outside_with (sides low high) value)
outside_past low high value e = go (at_least low value) refl e
  where
    below : (low : Option ℚ) → at_least low value ≡ false → (side : ℚ) × (low ≡ Some side) × (value <ℚ side)
    below None f = absurd (true≢false f)
    below (Some l) f = (l, refl, lt_of_le_test f)

    above : (high : Option ℚ) → at_most high value ≡ false → (side : ℚ) × (high ≡ Some side) × (side <ℚ value)
    above None f = absurd (true≢false f)
    above (Some h) f = (h, refl, lt_of_le_test f)

    go : (b : Bool) → at_least low value ≡ b → (b && at_most high value) ≡ false → (side : ℚ) × IsPast (sides low high) value side (cond b Up Down)
    go true f g = let a = above high g in (a.0, record { there = a.1; past = a.2 })
    go false f g =
        let b = below low f in
        let lt : value <ℚ b.0 = b.2 in
        (b.0, record { there = b.1; past = linear_lt (value ∷ b.0 ∷ []) (λ s w. omega (arith, s.lt_out)) })

-- ---- the side ahead

pub can_stand_ahead : (heading : Heading) (s : Sides) (side : ℚ) → side_ahead heading s ≡ Some side → CanStand s (stand_ahead heading)
can_stand_ahead Up s side e = ap is_some e
can_stand_ahead Down s side e = ap is_some e

pub standing_ahead : (heading : Heading) (s : Sides) (side : ℚ) → side_ahead heading s ≡ Some side → standing_value s (stand_ahead heading) ≡ side
standing_ahead Up s side e = ap (λ o. unwrap_or o zeroℚ) e
standing_ahead Down s side e = ap (λ o. unwrap_or o zeroℚ) e

-- a goal is the stand at the side ahead, which is there
pub record IsGoal (heading : Heading) (s : Sides) (to : Stand) : Type 0 where
  pub side : ℚ
  pub there : side_ahead heading s ≡ Some side
  pub is_ahead : to ≡ stand_ahead heading

goal_case : (heading : Heading) (s : Sides) (to : Stand) (o : Option ℚ) → side_ahead heading s ≡ o → cond (is_some o) (Some (stand_ahead heading)) None ≡ Some to → IsGoal heading s to
goal_case heading s to None e f = absurd (none-some to f)
goal_case heading s to (Some side) e f = record { side = side; there = e; is_ahead = sym (same_Some (stand_ahead heading) to f) }

pub goal_some : (heading : Heading) (s : Sides) (to : Stand) → goal_ahead heading s ≡ Some to → IsGoal heading s to
goal_some heading s to e = goal_case heading s to (side_ahead heading s) refl e

no_goal_case : (heading : Heading) (s : Sides) (o : Option ℚ) → side_ahead heading s ≡ o → cond (is_some o) (Some (stand_ahead heading)) None ≡ None → side_ahead heading s ≡ None
no_goal_case heading s None e f = e
no_goal_case heading s (Some side) e f = absurd (none-some (stand_ahead heading) (sym f))

pub goal_none : (heading : Heading) (s : Sides) → goal_ahead heading s ≡ None → side_ahead heading s ≡ None
goal_none heading s e = no_goal_case heading s (side_ahead heading s) refl e

pub goal_can_stand : (heading : Heading) (s : Sides) (to : Stand) → IsGoal heading s to → CanStand s to
goal_can_stand heading s to g = subst (CanStand s) (sym g.is_ahead) (can_stand_ahead heading s g.side g.there)

-- ---- who may go

-- a variable that may go stands somewhere, and not at the side ahead, and its sides aren't equal
pub record MayGo (s : Sides) (at : Option Stand) (heading : Heading) : Type 0 where
  pub where_it_is : Stand
  pub stands : at ≡ Some where_it_is
  pub not_ahead : is_ahead heading where_it_is ≡ false
  pub not_equal : sides_equal s.low s.high ≡ false

pub goes : (s : Sides) (at : Option Stand) (heading : Heading) → may_go_from s at heading ≡ true → MayGo s at heading
goes s None heading e = absurd (true≢false (sym e))
goes s (Some at) heading e =
    let parts = and_parts (not (sides_equal s.low s.high)) (not (is_ahead heading at)) e in
    record { where_it_is = at; stands = refl; not_ahead = from_not (is_ahead heading at) parts.1; not_equal = from_not (sides_equal s.low s.high) parts.0 }
  where
    from_not : (b : Bool) → not b ≡ true → b ≡ false
    from_not true f = absurd (true≢false (sym f))
    from_not false f = refl

-- where it may go to a side, it has two
pub two_sides : (heading : Heading) (s : Sides) (at : Stand) (side : ℚ) → is_ahead heading at ≡ false → CanStand s at → side_ahead heading s ≡ Some side → (is_some s.low ≡ true) × (is_some s.high ≡ true)
two_sides Up s Low side n c e = (c, ap is_some e)
two_sides Up s High side n c e = absurd (true≢false n)
two_sides Up s Zero side n c e = absurd (none-some side (sym c.1 ∙ e))
two_sides Down s Low side n c e = absurd (true≢false n)
two_sides Down s High side n c e = (ap is_some e, c)
two_sides Down s Zero side n c e = absurd (none-some side (sym c.0 ∙ e))

-- one that may not go has equal sides or is at the side ahead: so that side is its value
equal_ahead : (heading : Heading) (low high : Option ℚ) (at : Stand) (value : ℚ) → sides_equal low high ≡ true → CanStand (sides low high) at → value ≡ standing_value (sides low high) at → side_ahead heading (sides low high) ≡ Some value
equal_ahead heading None high at value q c e = absurd (true≢false (sym q))
equal_ahead heading (Some l) None at value q c e = absurd (true≢false (sym q))
equal_ahead heading (Some l) (Some h) at value q c e =
    let parts = and_parts _ _ q in
    let same : l ≡ h = ≤ℚ_antisymm (le_of_test parts.0) (le_of_test parts.1) in
    go heading at c e same
  where
    go : (heading : Heading) (at : Stand) → CanStand (sides (Some l) (Some h)) at → value ≡ standing_value (sides (Some l) (Some h)) at → l ≡ h → side_ahead heading (sides (Some l) (Some h)) ≡ Some value
    go heading Zero c e same = absurd (none-some l (sym c.0))
    go Up Low c e same = ap Some (sym same ∙ sym e)
    go Up High c e same = ap Some (sym e)
    go Down Low c e same = ap Some (sym e)
    go Down High c e same = ap Some (same ∙ sym e)

pub there_is : (o : Option ℚ) (value : ℚ) → is_some o ≡ true → value ≡ unwrap_or o zeroℚ → o ≡ Some value
there_is None value c e = absurd (true≢false (sym c))
there_is (Some q) value c e = ap Some (sym e)

at_ahead : (heading : Heading) (s : Sides) (at : Stand) (value : ℚ) → is_ahead heading at ≡ true → CanStand s at → value ≡ standing_value s at → side_ahead heading s ≡ Some value
at_ahead Up s Low value a c e = absurd (true≢false (sym a))
at_ahead Up s High value a c e = there_is s.high value c e
at_ahead Up s Zero value a c e = absurd (true≢false (sym a))
at_ahead Down s Low value a c e = there_is s.low value c e
at_ahead Down s High value a c e = absurd (true≢false (sym a))
at_ahead Down s Zero value a c e = absurd (true≢false (sym a))

pub true_of_not : (b : Bool) → not b ≡ false → b ≡ true
true_of_not true e = refl
true_of_not false e = absurd (true≢false e)

pub stuck_side : (heading : Heading) (s : Sides) (at : Stand) (value : ℚ) → may_go_from s (Some at) heading ≡ false → CanStand s at → value ≡ standing_value s at → side_ahead heading s ≡ Some value
stuck_side heading s at value m c e =
    elim (and_cases (not (sides_equal s.low s.high)) (not (is_ahead heading at)) m) [
      | inl q ↦ equal_ahead heading s.low s.high at value (true_of_not (sides_equal s.low s.high) q) c e
      | inr a ↦ at_ahead heading s at value (true_of_not (is_ahead heading at) a) c e
    ]

-- ---- the side that a multiplier uses

-- a multiplier with the sign of the other way uses the side ahead
ahead_used : (heading : Heading) (a : ℚ) (s : Sides) (value : ℚ) (b : Bool) → lt_test zeroℚ a ≡ b → (a ≢ zeroℚ → side_ahead (cond b heading (back_of heading)) s ≡ Some value) → IsUsed (along (back_of heading) a) s value
ahead_used Up a s value true t h = record {
  low = λ p. absurd (not_le_of_lt (lt_of_test t) (≤ℚ_of_lt (linear_lt (a ∷ []) (λ s w. omega (arith, s.lt_out)))));
  high = λ n. h (λ e. ne_of_lt (lt_of_test t) (sym e));
}
ahead_used Up a s value false t h = record {
  low = λ p. h (λ e. ne_of_lt p (sym (ap negate e ∙ linear_same [] (λ s w. omega arith))));
  high = λ n. absurd (not_le_of_lt n (linear_le (a ∷ []) (let k : a ≤ℚ zeroℚ = le_of_lt_test t in λ s w. omega (arith, s.le_out))));
}
ahead_used Down a s value true t h = record {
  low = λ p. h (λ e. ne_of_lt p (sym e));
  high = λ n. absurd (not_le_of_lt (lt_of_test t) (≤ℚ_of_lt n));
}
ahead_used Down a s value false t h = record {
  low = λ p. absurd (not_le_of_lt p (le_of_lt_test t));
  high = λ n. h (λ e. ne_of_lt n e);
}

-- the multiplier of a variable that doesn't drive a form uses the side at which it stands; of a basic one it is 0
pub stuck_used : (heading : Heading) (a : ℚ) (s : Sides) (at : Option Stand) (value : ℚ) → (not (is_zero a) && may_go_from s at (heading_for heading a)) ≡ false → (at ≡ None → a ≡ zeroℚ) → ((w : Stand) → at ≡ Some w → CanStand s w × (value ≡ standing_value s w)) → IsUsed (along (back_of heading) a) s value
stuck_used heading a s None value stuck free stands = ahead_used heading a s value (lt_test zeroℚ a) refl (λ n. absurd (n (free refl)))
stuck_used heading a s (Some at) value stuck free stands =
    ahead_used heading a s value (lt_test zeroℚ a) refl
    (λ n. elim (and_cases (not (is_zero a)) (may_go_from s (Some at) (heading_for heading a)) stuck) [
      | inl z ↦ absurd (n (zero_of_test a (true_of_not (is_zero a) z)))
      | inr m ↦ stuck_side (heading_for heading a) s at value m (stands at refl).0 (stands at refl).1
    ])

-- ---- rays

-- without a side ahead, a change that way stays between
pub free_stays : (heading : Heading) (s : Sides) (change : ℚ) → side_ahead heading s ≡ None → zeroℚ ≤ℚ along heading change → StaysBetween s.low s.high change
free_stays Up s change n p = record { not_down = if_some s.low (λ q. p); not_up = subst (λ o. IfSome o (λ _. change ≤ℚ zeroℚ)) (sym n) tt }
  where
    if_some : (o : Option ℚ) {P : ℚ → Type 0} → ((q : ℚ) → P q) → IfSome o P
    if_some None f = tt
    if_some (Some q) f = f q
free_stays Down s change n p = record { not_down = subst (λ o. IfSome o (λ _. zeroℚ ≤ℚ change)) (sym n) tt; not_up = if_some s.high (λ q. linear_le (change ∷ []) (λ s w. omega (arith, s.le_out))) }
  where
    if_some : (o : Option ℚ) {P : ℚ → Type 0} → ((q : ℚ) → P q) → IfSome o P
    if_some None f = tt
    if_some (Some q) f = f q
