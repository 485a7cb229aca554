-- The moves that the rule chooses can be made.
use Rattle.std.proofs.Common.{◌≡◌, ◌≢◌, ℕ, ◌<◌, Bool, true, false, not, cond, Option, None, Some, refl, sym, ap, ◌∙◌, subst, inl, inr}
use Rattle.std.proofs.lemmas.Bool.{true≢false, and_parts, eq-eqb, ne_eqb, cases_eq}
use Rattle.std.proofs.lemmas.Option.{none-some, same_Some}
use Rattle.cip_rational.specs.Rational.{ℚ, zeroℚ, is_zero}
use Rattle.cip_bland.specs.Box.{sides_at, is_between}
use Rattle.cip_bland.specs.Dictionary.{Dictionary, size, stand, is_basic, entry, cost_entry, value, CanStand, IsConsistent}
use Rattle.cip_bland.specs.Exchange.{CanExchange, CanFlip, CanMove}
use Rattle.cip_bland.specs.declared.moves.Stand.{Stand}
use Rattle.cip_bland.specs.declared.moves.Move.TheVariants.{Exchange, Flip}
use Rattle.cip_bland.proofs.Zeros.{nonzero_of}
use Rattle.cip_bland.specs.Headings.{back_of, heading_for, stand_ahead}
use Rattle.cip_bland.specs.Rule.{is_outside, outside_heading, drives, repairs, improves, falling_heading, Way, goal_with, goal_of, length_of, way_with, way_of, move_by}
use Rattle.cip_bland.specs.declared.steps.Heading.{Heading}
use Rattle.cip_bland.specs.declared.steps.Heading.TheVariants.{Down}
use Rattle.cip_bland.proofs.SideCases.{outside_past, can_stand_ahead, IsGoal, goal_some, goal_can_stand, MayGo, goes, two_sides}
use Rattle.cip_bland.proofs.StateFacts.{nonbasic_at, at_stand}

pub from_not : (b : Bool) → not b ≡ true → b ≡ false
from_not true e = absurd (true≢false (sym e))
from_not false e = refl

-- a variable that drives a form is nonbasic, has an entry that isn't 0, and may go where it has to
pub record Drives (d : Dictionary) (row : ℕ → ℚ) (heading : Heading) (k : ℕ) : Type 0 where
  pub nonzero : row k ≢ zeroℚ
  pub may : MayGo (sides_at d.sides k) (stand d k) (heading_for heading (row k))
  pub nonbasic : is_basic d k ≡ false

pub driver : (d : Dictionary) (row : ℕ → ℚ) (heading : Heading) (k : ℕ) → drives d row heading k ≡ true → Drives d row heading k
driver d row heading k e =
    let parts = and_parts _ _ e in
    let g = goes (sides_at d.sides k) (stand d k) (heading_for heading (row k)) parts.1 in
    record {
      nonzero = nonzero_of (row k) (from_not (is_zero (row k)) parts.0);
      may = g;
      nonbasic = nonbasic_at d k g.where_it_is g.stands;
    }

-- a variable outside is basic, and has the side that it breaks
pub outside_basic : (d : Dictionary) (i : ℕ) → is_outside d i ≡ true → is_basic d i ≡ true
outside_basic d i e = (and_parts _ _ e).0

pub outside_between : (d : Dictionary) (i : ℕ) → is_outside d i ≡ true → is_between (sides_at d.sides i).low (sides_at d.sides i).high (value d i) ≡ false
outside_between d i e = from_not (is_between (sides_at d.sides i).low (sides_at d.sides i).high (value d i)) (and_parts _ _ e).1

pub outside_stand : (d : Dictionary) (i : ℕ) → is_outside d i ≡ true → CanStand (sides_at d.sides i) (stand_ahead (outside_heading d i))
outside_stand d i e =
    let s = sides_at d.sides i in
    let p = outside_past s.low s.high (value d i) (from_not (is_between s.low s.high (value d i)) (and_parts _ _ e).1) in
    can_stand_ahead (outside_heading d i) s p.0 p.1.there

pub can_repair : (d : Dictionary) (i j : ℕ) → i < size d → j < size d → is_outside d i ≡ true → repairs d i j ≡ true → CanExchange d i j (stand_ahead (outside_heading d i))
can_repair d i j li lj out good =
    let g = driver d (entry d i) (back_of (outside_heading d i)) j good in
    record {
      leaving = li;
      basic = outside_basic d i out;
      entering = lj;
      nonbasic = g.nonbasic;
      nonzero = g.nonzero;
      can_stand = outside_stand d i out;
    }

-- ---- ways

-- what a way is: its variable's, to the goal of that
pub record IsWayOf (d : Dictionary) (j v : ℕ) (way : Way) : Type 0 where
  pub variable : way.variable ≡ v
  pub goal : goal_of d j v ≡ Some way.to
  pub length : way.length ≡ length_of d j v way.to

pub is_way : (d : Dictionary) (j v : ℕ) (way : Way) → way_of d j v ≡ Some way → IsWayOf d j v way
is_way d j v way e = go (goal_of d j v) refl e
  where
    go : (o : Option Stand) → goal_of d j v ≡ o → way_with d j v o ≡ Some way → IsWayOf d j v way
    go None g f = absurd (none-some way f)
    go (Some to) g f =
        let same = same_Some _ way f in
        let to_is : to ≡ way.to = ap (λ (w : Way). w.to) same in
        record {
          variable = sym (ap (λ (w : Way). w.variable) same);
          goal = g ∙ ap Some to_is;
          length = sym (ap (λ (w : Way). w.length) same) ∙ ap (length_of d j v) to_is;
        }

some_unless : (z : Bool) (to : Stand) (o : Option Stand) → cond z None o ≡ Some to → (z ≡ false) × (o ≡ Some to)
some_unless true to o e = absurd (none-some to e)
some_unless false to o e = (refl, e)

-- the way of a basic variable
pub record IsBasicWay (d : Dictionary) (j v : ℕ) (to : Stand) : Type 0 where
  pub basic : is_basic d v ≡ true
  pub nonzero : entry d v j ≢ zeroℚ
  pub goal : IsGoal (heading_for (falling_heading d j) (entry d v j)) (sides_at d.sides v) to

basic_case : (d : Dictionary) (j v : ℕ) (to : Stand) (b : Bool) → is_basic d v ≡ b → goal_with false b (falling_heading d j) (entry d v j) (sides_at d.sides v) ≡ Some to → IsBasicWay d j v to
basic_case d j v to true b e =
    let parts = some_unless (is_zero (entry d v j)) to _ e in
    record {
      basic = b;
      nonzero = nonzero_of (entry d v j) parts.0;
      goal = goal_some (heading_for (falling_heading d j) (entry d v j)) (sides_at d.sides v) to parts.1;
    }
basic_case d j v to false b e = absurd (none-some to e)

pub basic_way : (d : Dictionary) (j v : ℕ) (to : Stand) → ¬ (v ≡ j) → goal_of d j v ≡ Some to → IsBasicWay d j v to
basic_way d j v to ne e =
    basic_case d j v to (is_basic d v) refl (ap (λ t. goal_with t (is_basic d v) (falling_heading d j) (entry d v j) (sides_at d.sides v)) (sym (ne_eqb v j ne)) ∙ e)

pub own_way : (d : Dictionary) (j v : ℕ) (to : Stand) → v ≡ j → goal_of d j v ≡ Some to → IsGoal (falling_heading d j) (sides_at d.sides v) to
own_way d j v to same e =
    goal_some (falling_heading d j) (sides_at d.sides v) to (ap (λ t. goal_with t (is_basic d v) (falling_heading d j) (entry d v j) (sides_at d.sides v)) (sym (eq-eqb v j same)) ∙ e)

module _ (d : Dictionary) (c : IsConsistent d) (j : ℕ) (lj : j < size d) (good : improves d j ≡ true) where
  driven : Drives d (cost_entry d) Down j
  driven = driver d (cost_entry d) Down j good

  pub can_flip : (to : Stand) → IsGoal (falling_heading d j) (sides_at d.sides j) to → CanFlip d j
  can_flip to g =
      let m = driven.may in
      let sides = two_sides (falling_heading d j) (sides_at d.sides j) m.where_it_is g.side m.not_ahead (at_stand d c j m.where_it_is lj m.stands).0 g.there in
      record { within = lj; nonbasic = driven.nonbasic; low = sides.0; high = sides.1 }

  pub can_exchange : (v : ℕ) (to : Stand) → v < size d → IsBasicWay d j v to → CanExchange d v j to
  can_exchange v to lv w = record {
    leaving = lv;
    basic = w.basic;
    entering = lj;
    nonbasic = driven.nonbasic;
    nonzero = w.nonzero;
    can_stand = goal_can_stand (heading_for (falling_heading d j) (entry d v j)) (sides_at d.sides v) to w.goal;
  }

  pub can_go : (v : ℕ) (way : Way) → v < size d → way_of d j v ≡ Some way → CanMove d (move_by j way)
  can_go v way lv e =
      let w = is_way d j v way e in
      elim (cases_eq way.variable j) [
        | inl same ↦
            (let vj : v ≡ j = sym w.variable ∙ same in
            subst (λ t. CanMove d (cond t (Flip j) (Exchange way.variable j way.to))) (sym (eq-eqb way.variable j same)) (can_flip way.to (subst (λ u. IsGoal (falling_heading d j) (sides_at d.sides u) way.to) vj (own_way d j v way.to vj w.goal))))
        | inr ne ↦
            (let nvj : ¬ (v ≡ j) = λ (f : v ≡ j). ne (w.variable ∙ f) in
            subst (λ t. CanMove d (cond t (Flip j) (Exchange way.variable j way.to))) (sym (ne_eqb way.variable j ne)) (subst (λ u. CanExchange d u j way.to) (sym w.variable) (can_exchange v way.to lv (basic_way d j v way.to nvj w.goal))))
      ]
