-- Two states of one program between which no variable above r moves: r can't leave in one, and enter in the other from
-- where it left to. The one law is for variables outside, the other for moves by which the cost doesn't change.
use Rattle.std.proofs.Common.{◌≡◌, ◌⊎◌, ℕ, zero, suc, ◌<◌, ◌≤◌, Bool, true, false, [], ◌∷◌, length, Some, IfSome, refl, sym, ap, ◌∙◌, subst, inl, inr, arith}
use Rattle.std.proofs.lemmas.Bool.{true≢false, cases_eq, cases_lt}
use Rattle.std.proofs.lemmas.Option.{same_Some}
use Rattle.cip_rational.specs.Rational.{ℚ, ◌-ℚ◌, ◌*ℚ◌, zeroℚ, ◌≤ℚ◌, ◌<ℚ◌}
use Rattle.cip_rational.proofs.Rational.Ring.{zero-*ℚ, *ℚ-zero}
use Rattle.cip_rational.proofs.Rational.Order.{≤ℚ_refl, ≤ℚ_of_lt, ≤ℚ_of_eq, <ℚ_trans, not_le_of_lt, le_or_lt, eq-or-lt, ne_of_lt}
use Rattle.cip_rational.proofs.Rational.Monotone.{+ℚ_mono, *ℚ_mono, *ℚ_pos, *ℚ_nonneg}
use Rattle.cip_rational.proofs.Rational.Inverse.{*ℚ_antitone, *ℚ_eq-zero}
use Rattle.cip_rational.proofs.Linear.{linear_le, linear_lt, linear_same}
use Rattle.cip_bland.specs.Program.{Sides}
use Rattle.cip_bland.specs.Box.{Between, sides_at}
use Rattle.cip_bland.specs.Multipliers.{IsUsed}
use Rattle.cip_bland.specs.Tables.{total, form}
use Rattle.cip_bland.specs.Dictionary.{Dictionary, size, stand, is_basic, entry, cost_entry, value, standing_value, Solves, IsConsistent}
use Rattle.cip_bland.specs.declared.moves.Stand.{Stand}
use Rattle.cip_bland.specs.Headings.{back_of, along, heading_for, stand_ahead, side_ahead, is_ahead, goal_ahead}
use Rattle.cip_bland.specs.Rule.{is_crossed, is_outside, outside_heading, repairs, improves, falling_heading, goal_of, length_of, Way, way_of}
use Rattle.cip_bland.specs.EndAnswers.{change_of}
use Rattle.cip_bland.specs.declared.steps.Heading.{Heading}
use Rattle.cip_bland.specs.declared.steps.Heading.TheVariants.{Up, Down}
use Rattle.cip_bland.proofs.Searches.{IsLeast, NoneOf, IsShortest}
use Rattle.cip_bland.proofs.SideCases.{IsPast, outside_past, standing_ahead}
use Rattle.cip_bland.proofs.StateFacts.{at_stand, stuck_at, between_at, stand_of_nonbasic, nonbasic_at}
use Rattle.cip_bland.proofs.Emptiness.{along-zero, along-mul, total-along, back_and_forth}
use Rattle.cip_bland.proofs.RayEnds.{falls_along, change_other, change_form, change_solves}
use Rattle.cip_bland.proofs.MovesMade.{driver, outside_basic, outside_between}
use Rattle.cip_bland.proofs.Rates.{along_both, strict_sign, Rate, still, going, rate, driven}
use Rattle.cip_bland.proofs.Descents.{between_ahead, reaches, way_there}

-- ---- sums

total_le : (n : ℕ) (f g : ℕ → ℚ) → ((k : ℕ) → k < n → f k ≤ℚ g k) → total n f ≤ℚ total n g
total_le zero f g h = ≤ℚ_refl zeroℚ
total_le (suc n) f g h = +ℚ_mono (total_le n f g (λ k l. h k (omega (arith, l)))) (h n (omega arith))

total_less : (n r : ℕ) (f g : ℕ → ℚ) → r < n → ((k : ℕ) → k < n → f k ≤ℚ g k) → f r <ℚ g r → total n f <ℚ total n g
total_less zero r f g l h lt = absurd (omega (arith, l))
total_less (suc n) r f g l h lt =
    let before = λ (k : ℕ) (lk : k < n). h k (omega (arith, lk)) in
    elim (cases_eq r n) [
      | inl e ↦
          (let here : f n <ℚ g n = subst (λ k. f k <ℚ g k) e lt in
          let rest = total_le n f g before in
          linear_lt (f n ∷ g n ∷ total n f ∷ total n g ∷ []) (λ s w. omega (arith, s.le_out, s.lt_out)))
      | inr ne ↦
          (let here : f n ≤ℚ g n = h n (omega arith) in
          let rest = total_less n r f g (omega (arith, l, ne)) before lt in
          linear_lt (f n ∷ g n ∷ total n f ∷ total n g ∷ []) (λ s w. omega (arith, s.le_out, s.lt_out)))
    ]

total_nonneg : (n : ℕ) (f : ℕ → ℚ) → ((k : ℕ) → k < n → zeroℚ ≤ℚ f k) → zeroℚ ≤ℚ total n f
total_nonneg zero f h = ≤ℚ_refl zeroℚ
total_nonneg (suc n) f h =
    let here : zeroℚ ≤ℚ f n = h n (omega arith) in
    let rest = total_nonneg n f (λ k l. h k (omega (arith, l))) in
    linear_le (f n ∷ total n f ∷ []) (λ s w. omega (arith, s.le_out))

-- ---- signs

-- a multiplier times the side that it uses is at most the multiplier times a value between the sides
used_le : (y u x : ℚ) (s : Sides) → IsUsed y s u → Between s.low s.high x → y *ℚ u ≤ℚ y *ℚ x
used_le y u x s used b =
    elim (le_or_lt y zeroℚ) [
      | inl n ↦
          elim (eq-or-lt n) [
            | inl e ↦ ≤ℚ_of_eq (ap (λ q. q *ℚ u) e ∙ zero-*ℚ u ∙ sym (ap (λ q. q *ℚ x) e ∙ zero-*ℚ x))
            | inr lt ↦ *ℚ_antitone x u y n (subst (λ o. IfSome o (λ q. x ≤ℚ q)) (used.high lt) b.below)
          ]
      | inr p ↦ *ℚ_mono u x y (≤ℚ_of_lt p) (subst (λ o. IfSome o (λ q. q ≤ℚ x)) (used.low p) b.above)
    ]

not_at_ahead : (g v : Heading) → is_ahead g (stand_ahead v) ≡ false → g ≡ back_of v
not_at_ahead Up Up e = absurd (true≢false e)
not_at_ahead Up Down e = refl
not_at_ahead Down Up e = refl
not_at_ahead Down Down e = absurd (true≢false e)

back_both : (v w : Heading) (a : ℚ) → along (back_of v) (along (back_of w) a) ≡ along v (along w a)
back_both Up Up a = linear_same (a ∷ []) (λ s w. omega arith)
back_both Up Down a = refl
back_both Down Up a = refl
back_both Down Down a = linear_same (a ∷ []) (λ s w. omega arith)

along_between : (v : Heading) (a b : ℚ) → along v a <ℚ along v b → zeroℚ <ℚ along v (b -ℚ a)
along_between Up a b h = linear_lt (a ∷ b ∷ []) (λ s w. omega (arith, s.lt_out))
along_between Down a b h = linear_lt (a ∷ b ∷ []) (λ s w. omega (arith, s.lt_out))

farther : (w : Heading) (a x y : ℚ) → zeroℚ <ℚ along w a *ℚ (y -ℚ x) → along w (a *ℚ x) <ℚ along w (a *ℚ y)
farther w a x y h =
    let e = along-mul w a x in
    let f = along-mul w a y in
    subst (λ q. q <ℚ along w (a *ℚ y)) e (subst (λ q. along w a *ℚ x <ℚ q) f (linear_lt ((along w a *ℚ x) ∷ (along w a *ℚ y) ∷ []) (λ s w. let m = s.products tt in omega (arith, s.lt_out))))

past_side : (w : Heading) (side x y : ℚ) → along w side <ℚ along w x → along w x <ℚ along w y → ¬ (zeroℚ ≤ℚ along w (side -ℚ y))
past_side Up side x y h k n = not_le_of_lt (<ℚ_trans h k) (linear_le (side ∷ y ∷ []) (λ s w. omega (arith, s.le_out)))
past_side Down side x y h k n = not_le_of_lt (<ℚ_trans h k) (linear_le (side ∷ y ∷ []) (λ s w. omega (arith, s.le_out)))

-- ---- two states of one program

pub record AreOfOne (p q : Dictionary) : Type 0 where
  pub first : IsConsistent p
  pub second : IsConsistent q
  pub sides : p.sides ≡ q.sides
  pub solves : Solves q (value p)
  pub cost : (x : ℕ → ℚ) → Solves q x → form (size p) (cost_entry p) x ≡ form (size q) (cost_entry q) x

-- above r all stand alike
abbrev pub AlikeAbove : Dictionary → Dictionary → ℕ → Type 0
AlikeAbove p q r = (k : ℕ) → r < k → k < size q → stand p k ≡ stand q k

module _ (p q : Dictionary) (one : AreOfOne p q) where
  pub sizes : size p ≡ size q
  sizes = ap length one.sides

  -- who stands alike has one value
  pub same_value : (k : ℕ) → k < size q → (at : Stand) → stand p k ≡ Some at → stand q k ≡ Some at → value p k ≡ value q k
  same_value k l at e f =
      (at_stand p one.first k at (subst (λ n. k < n) (sym sizes) l) e).1
      ∙ ap (λ ss. standing_value (sides_at ss k) at) one.sides
      ∙ sym (at_stand q one.second k at l f).1

  -- ---- r is the least variable outside at p, and enters at q for l, which is less
  module _ (uncrossed : NoneOf (size p) (is_crossed p)) (r l : ℕ) (least_p : IsLeast (size p) (is_outside p) r) (out_q : IsLeast (size q) (is_outside q) l) (enters_q : IsLeast (size q) (repairs q l) r) (less : l < r) (from : stand q r ≡ Some (stand_ahead (outside_heading p r))) (alike : AlikeAbove p q r) where
    lr : r < size q
    lr = enters_q.below

    below_p : (k : ℕ) → k < r → Between (sides_at q.sides k).low (sides_at q.sides k).high (value p k)
    below_p k lt =
        let lk : k < size p = omega (arith, lt, least_p.below) in
        subst (λ ss. Between (sides_at ss k).low (sides_at ss k).high (value p k)) one.sides (between_at p one.first k lk (uncrossed.fails k lk) (least_p.first k lt))

    past_p : (side : ℚ) × IsPast (sides_at q.sides r) (value p r) side (outside_heading p r)
    past_p = subst (λ ss. (side : ℚ) × IsPast (sides_at ss r) (value p r) side (outside_heading p r)) one.sides (outside_past (sides_at p.sides r).low (sides_at p.sides r).high (value p r) (outside_between p r least_p.passes))

    past_q : (side : ℚ) × IsPast (sides_at q.sides l) (value q l) side (outside_heading q l)
    past_q = outside_past (sides_at q.sides l).low (sides_at q.sides l).high (value q l) (outside_between q l out_q.passes)

    basic_l : is_basic q l ≡ true
    basic_l = outside_basic q l out_q.passes

    free : (k : ℕ) → k < size q → is_basic q k ≡ true → entry q l k ≡ zeroℚ
    free k lk b = one.second.rows_free l k out_q.below basic_l lk b

    -- r goes on where it was past its side
    at_r : along (outside_heading q l) (entry q l r *ℚ value q r) <ℚ along (outside_heading q l) (entry q l r *ℚ value p r)
    at_r =
        let v = outside_heading p r in
        let a = entry q l r in
        let g = driver q (entry q l) (back_of (outside_heading q l)) r enters_q.passes in
        let at : g.may.where_it_is ≡ stand_ahead v = same_Some _ (stand_ahead v) (sym g.may.stands ∙ from) in
        let heading : heading_for (back_of (outside_heading q l)) a ≡ back_of v = not_at_ahead _ v (ap (is_ahead (heading_for (back_of (outside_heading q l)) a)) (sym at) ∙ g.may.not_ahead) in
        let sign : zeroℚ <ℚ along v (along (outside_heading q l) a) = subst (λ t. zeroℚ <ℚ t) (ap (λ h. along h (along (back_of (outside_heading q l)) a)) heading ∙ back_both v (outside_heading q l) a) (strict_sign (back_of (outside_heading q l)) a g.nonzero) in
        let here : value q r ≡ past_p.0 = (at_stand q one.second r (stand_ahead v) lr from).1 ∙ standing_ahead v (sides_at q.sides r) past_p.0 past_p.1.there in
        let gap : zeroℚ <ℚ along v (value p r -ℚ value q r) = along_between v (value q r) (value p r) (subst (λ t. along v t <ℚ along v (value p r)) (sym here) past_p.1.past) in
        farther (outside_heading q l) a (value q r) (value p r) (subst (λ t. zeroℚ <ℚ t) (along_both v (along (outside_heading q l) a) (value p r -ℚ value q r)) (*ℚ_pos sign gap))

    each : (k : ℕ) → k < size q → along (outside_heading q l) (entry q l k *ℚ value q k) ≤ℚ along (outside_heading q l) (entry q l k *ℚ value p k)
    each k lk =
        elim (cases_lt k r) [
          | inl lt ↦
              (let used : IsUsed (along (back_of (back_of (outside_heading q l))) (entry q l k)) (sides_at q.sides k) (value q k) = stuck_at q one.second (entry q l) (back_of (outside_heading q l)) free k lk (enters_q.first k lt) in
              let le = used_le (along (outside_heading q l) (entry q l k)) (value q k) (value p k) (sides_at q.sides k) (subst (λ y. IsUsed y (sides_at q.sides k) (value q k)) (back_and_forth (outside_heading q l) (entry q l k)) used) (below_p k lt) in
              subst (λ t. t ≤ℚ along (outside_heading q l) (entry q l k *ℚ value p k)) (along-mul (outside_heading q l) (entry q l k) (value q k))
              (subst (λ t. along (outside_heading q l) (entry q l k) *ℚ value q k ≤ℚ t) (along-mul (outside_heading q l) (entry q l k) (value p k)) le))
          | inr ge ↦ at_least_r k lk ge (cases_eq k r)
        ]
      where
        above : (k : ℕ) → k < size q → r < k → (b : Bool) → is_basic q k ≡ b → along (outside_heading q l) (entry q l k *ℚ value q k) ≤ℚ along (outside_heading q l) (entry q l k *ℚ value p k)
        above k lk gt true b =
            ≤ℚ_of_eq (ap (λ t. along (outside_heading q l) (t *ℚ value q k)) (free k lk b) ∙ ap (along (outside_heading q l)) (zero-*ℚ (value q k) ∙ sym (zero-*ℚ (value p k))) ∙ sym (ap (λ t. along (outside_heading q l) (t *ℚ value p k)) (free k lk b)))
        above k lk gt false b =
            let at = stand_of_nonbasic q k b in
            ≤ℚ_of_eq (ap (λ t. along (outside_heading q l) (entry q l k *ℚ t)) (sym (same_value k lk at.0 (alike k gt lk ∙ at.1) at.1)))

        at_least_r : (k : ℕ) → k < size q → r ≤ k → (k ≡ r) ⊎ (¬ (k ≡ r)) → along (outside_heading q l) (entry q l k *ℚ value q k) ≤ℚ along (outside_heading q l) (entry q l k *ℚ value p k)
        at_least_r k lk ge (inl e) = subst (λ u. along (outside_heading q l) (entry q l u *ℚ value q u) ≤ℚ along (outside_heading q l) (entry q l u *ℚ value p u)) (sym e) (≤ℚ_of_lt at_r)
        at_least_r k lk ge (inr ne) = above k lk (omega (arith, ge, ne)) (is_basic q k) refl

    pub repairs_clash : ⊥
    repairs_clash =
        let h = outside_heading q l in
        let n = size q in
        let sums : total n (λ k. along h (entry q l k *ℚ value q k)) <ℚ total n (λ k. along h (entry q l k *ℚ value p k)) = total_less n r _ _ lr each at_r in
        let first : total n (λ k. along h (entry q l k *ℚ value q k)) ≡ along h (value q l) = total-along n h (λ k. entry q l k *ℚ value q k) ∙ ap (along h) (sym (one.second.solved l out_q.below basic_l)) in
        let then : total n (λ k. along h (entry q l k *ℚ value p k)) ≡ along h (value p l) = total-along n h (λ k. entry q l k *ℚ value p k) ∙ ap (along h) (sym (one.solves l out_q.below basic_l)) in
        let out : along h (value q l) <ℚ along h (value p l) = subst (λ t. t <ℚ along h (value p l)) first (subst (λ t. total n (λ k. along h (entry q l k *ℚ value q k)) <ℚ t) then sums) in
        past_side h past_q.0 (value q l) (value p l) past_q.1.past out (between_ahead h (sides_at q.sides l) (value p l) past_q.0 (below_p l less) past_q.1.there)

  -- ---- r enters at p, and is the first that blocks e, which is less, at q, at once
  module _ (r e : ℕ) (enters_p : IsLeast (size p) (improves p) r) (enters_q : IsLeast (size q) (improves q) e) (way : Way) (short : IsShortest (size q) (way_of q e) r way) (none : way.length ≡ zeroℚ) (less : e < r) (values : (k : ℕ) → k < size q → value p k ≡ value q k) (to : stand p r ≡ Some way.to) (alike : AlikeAbove p q r) where
    -- a variable below r isn't at the side ahead of it
    not_blocked : (k : ℕ) → k < r → (heading : Heading) → zeroℚ <ℚ along heading (change_of q e k) → goal_of q e k ≡ goal_ahead heading (sides_at q.sides k) → ((side : ℚ) → side_ahead heading (sides_at q.sides k) ≡ Some side → change_of q e k *ℚ length_of q e k (stand_ahead heading) ≡ side -ℚ value q k) → ¬ (side_ahead heading (sides_at q.sides k) ≡ Some (value q k))
    not_blocked k lt heading moves goal span there =
        let long = length_of q e k (stand_ahead heading) in
        let zero : change_of q e k *ℚ long ≡ zeroℚ = span (value q k) there ∙ linear_same (value q k ∷ []) (λ s w. omega arith) in
        let longer : way.length <ℚ long = short.earlier k _ lt (way_there q one.second e enters_q.below enters_q.passes k heading (value q k) goal there) in
        elim (*ℚ_eq-zero (change_of q e k) long zero) [
          | inl z ↦ ne_of_lt moves (sym (ap (along heading) z ∙ along-zero heading))
          | inr z ↦ ne_of_lt longer (none ∙ sym z)
        ]

    product_sign : (c x : ℚ) (s : Sides) (v : ℚ) (heading : Heading) → zeroℚ <ℚ along heading x → IsUsed c s v → ¬ (side_ahead heading s ≡ Some v) → zeroℚ ≤ℚ c *ℚ x
    product_sign c x s v heading moves used free =
        elim (le_or_lt c zeroℚ) [
          | inl n ↦
              elim (eq-or-lt n) [
                | inl z ↦ ≤ℚ_of_eq (sym (ap (λ t. t *ℚ x) z ∙ zero-*ℚ x))
                | inr lt ↦ down heading moves free (used.high lt) (≤ℚ_of_lt lt)
              ]
          | inr p ↦ up heading moves free (used.low p) (≤ℚ_of_lt p)
        ]
      where
        down : (heading : Heading) → zeroℚ <ℚ along heading x → ¬ (side_ahead heading s ≡ Some v) → s.high ≡ Some v → c ≤ℚ zeroℚ → zeroℚ ≤ℚ c *ℚ x
        down Up moves free e n = absurd (free e)
        down Down moves free e n = subst (λ t. t ≤ℚ c *ℚ x) (*ℚ-zero c) (*ℚ_antitone x zeroℚ c n (linear_le (x ∷ []) (λ s w. omega (arith, s.lt_out))))

        up : (heading : Heading) → zeroℚ <ℚ along heading x → ¬ (side_ahead heading s ≡ Some v) → s.low ≡ Some v → zeroℚ ≤ℚ c → zeroℚ ≤ℚ c *ℚ x
        up Up moves free e p = *ℚ_nonneg p (≤ℚ_of_lt moves)
        up Down moves free e p = absurd (free e)

    lp : (k : ℕ) → k < size q → k < size p
    lp k l = subst (λ n. k < n) (sym sizes) l

    below : (k : ℕ) → k < size q → k < r → Rate q one.second e enters_q.below enters_q.passes k → zeroℚ ≤ℚ cost_entry p k *ℚ change_of q e k
    below k lk lt (still stays none) = ≤ℚ_of_eq (sym (ap (λ t. cost_entry p k *ℚ t) stays ∙ *ℚ-zero (cost_entry p k)))
    below k lk lt (going heading moves goal span) =
        let used : IsUsed (cost_entry p k) (sides_at p.sides k) (value p k) = stuck_at p one.first (cost_entry p) Down one.first.costs_free k (lp k lk) (enters_p.first k lt) in
        let used' : IsUsed (cost_entry p k) (sides_at q.sides k) (value q k) = subst (IsUsed (cost_entry p k) (sides_at q.sides k)) (values k lk) (subst (λ ss. IsUsed (cost_entry p k) (sides_at ss k) (value p k)) one.sides used) in
        product_sign (cost_entry p k) (change_of q e k) (sides_at q.sides k) (value q k) heading moves used' (not_blocked k lt heading moves goal span)

    at_r' : zeroℚ ≤ℚ cost_entry p r *ℚ change_of q e r
    at_r' =
        let g = driver p (cost_entry p) Down r enters_p.passes in
        let m = reaches q one.second e enters_q.below enters_q.passes r way short.is_way in
        let at : g.may.where_it_is ≡ stand_ahead m.heading = same_Some _ (stand_ahead m.heading) (sym g.may.stands ∙ to ∙ ap Some m.to) in
        let c = cost_entry p r in
        let heading : heading_for Down c ≡ back_of m.heading = not_at_ahead _ m.heading (ap (is_ahead (heading_for Down c)) (sym at) ∙ g.may.not_ahead) in
        let sign : zeroℚ <ℚ along m.heading (along Up c) = subst (λ t. zeroℚ <ℚ t) (ap (λ h. along h (along (back_of Up) c)) heading ∙ back_both m.heading Up c) (strict_sign Down c g.nonzero) in
        ≤ℚ_of_lt (subst (λ t. zeroℚ <ℚ t) (along_both m.heading c (change_of q e r)) (*ℚ_pos sign m.moves))

    above' : (k : ℕ) → k < size q → r < k → (b : Bool) → is_basic p k ≡ b → zeroℚ ≤ℚ cost_entry p k *ℚ change_of q e k
    above' k lk gt true b = ≤ℚ_of_eq (sym (ap (λ t. t *ℚ change_of q e k) (one.first.costs_free k (lp k lk) b) ∙ zero-*ℚ (change_of q e k)))
    above' k lk gt false b =
        let at = stand_of_nonbasic p k b in
        let nb : is_basic q k ≡ false = nonbasic_at q k at.0 (sym (alike k gt lk) ∙ at.1) in
        let ne : ¬ (k ≡ e) = λ (f : k ≡ e). omega (arith, f, gt, less) in
        ≤ℚ_of_eq (sym (ap (λ t. cost_entry p k *ℚ t) (change_other q one.second e enters_q.below (driven q one.second e enters_q.below enters_q.passes).nonbasic k ne nb) ∙ *ℚ-zero (cost_entry p k)))

    terms : (k : ℕ) → k < size q → zeroℚ ≤ℚ cost_entry p k *ℚ change_of q e k
    terms k lk =
        elim (cases_lt k r) [
          | inl lt ↦ below k lk lt (rate q one.second e enters_q.below enters_q.passes k)
          | inr ge ↦ elim (cases_eq k r) [
            | inl f ↦ subst (λ u. zeroℚ ≤ℚ cost_entry p u *ℚ change_of q e u) (sym f) at_r'
            | inr ne ↦ above' k lk (omega (arith, ge, ne)) (is_basic p k) refl
          ]
        ]

    pub descents_clash : ⊥
    descents_clash =
        let nonbasic = (driven q one.second e enters_q.below enters_q.passes).nonbasic in
        let solves : Solves q (change_of q e) = change_solves q one.second e enters_q.below nonbasic in
        let sum : form (size q) (cost_entry p) (change_of q e) ≡ along (falling_heading q e) (cost_entry q e) =
        ap (λ n. form n (cost_entry p) (change_of q e)) (sym sizes) ∙ one.cost (change_of q e) solves
        ∙ change_form q one.second e enters_q.below nonbasic (cost_entry q) one.second.costs_free in
        not_le_of_lt (falls_along (cost_entry q e) (driven q one.second e enters_q.below enters_q.passes).nonzero)
        (subst (λ t. zeroℚ ≤ℚ t) sum (total_nonneg (size q) (λ k. cost_entry p k *ℚ change_of q e k) terms))
