-- The moves of a start can be made, one after another.
use Rattle.std.proofs.Common.{◌≡◌, ℕ, zero, suc, ◌+◌, ◌<◌, ◌≤◌, Bool, true, false, cond, is_some, List, Option, None, Some, Result, Ok, Err, IfOk, refl, sym, ap, ◌∙◌, subst, inl, inr, arith, add-one}
use Rattle.std.proofs.lemmas.Bool.{and_parts, cases_eq}
use Rattle.cip_rational.specs.Rational.{ℚ, is_zero}
use Rattle.cip_problem.specs.Program.{Sides}
use Rattle.cip_problem.specs.Box.{sides_at}
use Rattle.cip_bland.specs.Tables.{least}
use Rattle.cip_bland.specs.Dictionary.{Dictionary, size, stand, is_basic, entry, CanStand, IsConsistent}
use Rattle.cip_bland.specs.Exchange.{CanExchange, CanFlip}
use Rattle.cip_bland.specs.FirstState.{first_stand}
use Rattle.cip_bland.specs.declared.moves.Stand.{Stand}
use Rattle.cip_bland.specs.declared.moves.Stand.TheVariants.{Low, High, Zero}
use Rattle.cip_bland.specs.declared.moves.Move.{Move}
use Rattle.cip_bland.proofs.Zeros.{nonzero_of}
use Rattle.cip_bland.proofs.Searches.{least_some}
use Rattle.cip_bland.proofs.StateFacts.{nonbasic_at}
use Rattle.cip_bland.proofs.MovesMade.{from_not}
use Rattle.cip_simplex.specs.Starts.{Stands, has_stand, stand_for, may_leave, leaving_stand, are_opposite, Begun, begun_by, begun_unless, begun_through}

-- ---- places

is_none : (o : Option ℚ) → is_some o ≡ false → o ≡ None
is_none None e = refl
is_none (Some q) e = absurd (cc)

can_stand_first : (low high : Option ℚ) → CanStand (record { low = low; high = high }) (first_stand (record { low = low; high = high }))
can_stand_first (Some low) high = refl
can_stand_first None (Some high) = refl
can_stand_first None None = (refl, refl)

can_stand_at : (sides : Sides) (to : Stand) → has_stand sides to ≡ true → CanStand sides to
can_stand_at sides Low e = e
can_stand_at sides High e = e
can_stand_at sides Zero e =
    let parts = and_parts _ _ e in
    (is_none sides.low (from_not (is_some sides.low) parts.0), is_none sides.high (from_not (is_some sides.high) parts.1))

can_stand_by : (sides : Sides) (to : Stand) (b : Bool) → has_stand sides to ≡ b → CanStand sides (cond b to (first_stand sides))
can_stand_by sides to true e = can_stand_at sides to e
can_stand_by sides to false e = can_stand_first sides.low sides.high

pub can_stand_for : (sides : Sides) (to : Stand) → CanStand sides (stand_for sides to)
can_stand_for sides to = can_stand_by sides to (has_stand sides to) refl

-- a variable that may stand at both of two opposite places has two sides
opposite_sides : (sides : Sides) (at to : Stand) → are_opposite at to ≡ true → CanStand sides at → CanStand sides to → (is_some sides.low ≡ true) × (is_some sides.high ≡ true)
opposite_sides sides Low High e a b = (a, b)
opposite_sides sides High Low e a b = (b, a)
opposite_sides sides Low Low e a b = absurd (cc)
opposite_sides sides Low Zero e a b = absurd (cc)
opposite_sides sides High High e a b = absurd (cc)
opposite_sides sides High Zero e a b = absurd (cc)
opposite_sides sides Zero Low e a b = absurd (cc)
opposite_sides sides Zero High e a b = absurd (cc)
opposite_sides sides Zero Zero e a b = absurd (cc)

-- ---- moves

pub can_enter : (start : Stands) (d : Dictionary) (k v : ℕ) (to : Stand) → k < size d → is_basic d k ≡ false → Some v ≡ least (size d) (may_leave start d k) → to ≡ leaving_stand start d v → CanExchange d v k to
can_enter start d k v to lk nonbasic e t =
    let h = least_some (size d) (may_leave start d k) v (sym e) in
    let first = and_parts _ _ h.passes in
    let second = and_parts _ _ first.1 in
    record {
      leaving = h.below;
      basic = first.0;
      entering = lk;
      nonbasic = nonbasic;
      nonzero = nonzero_of (entry d v k) (from_not (is_zero (entry d v k)) second.1);
      can_stand = subst (CanStand (sides_at d.sides v)) (sym t) (can_stand_for (sides_at d.sides v) _);
    }

pub can_flip_over : (d : Dictionary) (v : ℕ) (at to : Stand) → v < size d → IsConsistent d → stand d v ≡ Some at → are_opposite at (stand_for (sides_at d.sides v) to) ≡ true → CanFlip d v
can_flip_over d v at to l consistent e o =
    let sides = opposite_sides (sides_at d.sides v) at (stand_for (sides_at d.sides v) to) o (consistent.stands v at l e).can_stand (can_stand_for (sides_at d.sides v) to) in
    record { within = l; nonbasic = nonbasic_at d v at e; low = sides.0; high = sides.1 }

-- ---- one after another

module _ (choice : Dictionary → ℕ → Option Move) (b : Begun) where
  pub begun_next : (n : ℕ) (moves : List Move) (d : Dictionary) (chosen : Option Move) (after : Begun) → begun_through n choice b ≡ record { moves = moves; last = d; wide = None } → chosen ≡ choice d n → begun_by (record { moves = moves; last = d; wide = None }) chosen ≡ after → begun_through (n + 1) choice b ≡ after
  begun_next n moves d chosen after e c f =
      rw (add-one n)
      (ap (λ (before : Begun). begun_unless before.wide before (choice before.last n)) e ∙ ap (begun_by (record { moves = moves; last = d; wide = None })) (sym c) ∙ f)

  -- after a move that is out of range there is none
  begun_stays : (n k : ℕ) (moves : List Move) (d : Dictionary) (wide : Move) → k ≤ n → begun_through k choice b ≡ record { moves = moves; last = d; wide = Some wide } → begun_through n choice b ≡ record { moves = moves; last = d; wide = Some wide }
  begun_stays zero k moves d wide l e =
      let none : k ≡ 0 = omega (arith, l) in
      rw none at e
  begun_stays (suc n) k moves d wide l e =
      elim (cases_eq k (suc n)) [
        | inl same ↦ (rw same at e)
        | inr other ↦ ap (λ (before : Begun). begun_unless before.wide before (choice before.last n)) (begun_stays n k moves d wide (omega (arith, l, other)) e)
      ]

  pub begun_stops : (n k : ℕ) (moves longer : List Move) (d later : Dictionary) (chosen : Option Move) (wide : Move) → k < n → begun_through k choice b ≡ record { moves = moves; last = d; wide = None } → chosen ≡ choice d k → begun_by (record { moves = moves; last = d; wide = None }) chosen ≡ record { moves = longer; last = later; wide = Some wide } → begun_through n choice b ≡ record { moves = longer; last = later; wide = Some wide }
  begun_stops n k moves longer d later chosen wide l e c f =
      begun_stays n (k + 1) longer later wide (omega (arith, l)) (begun_next k moves d chosen _ e c f)

pub stays_wide : (choice : Dictionary → ℕ → Option Move) (n : ℕ) (moves : List Move) (d : Dictionary) (wide : Move) → begun_through n choice (record { moves = moves; last = d; wide = Some wide }) ≡ record { moves = moves; last = d; wide = Some wide }
stays_wide choice n moves d wide =
    let b : Begun = record { moves = moves; last = d; wide = Some wide } in
    begun_stays choice b n 0 moves d wide (omega arith) refl

-- what holds of a value holds of what follows from it
pub if_ok : {X E : Type 0} (P Q : X → Type 0) (r : Result X E) → ((x : X) → P x → Q x) → IfOk r P → IfOk r Q
if_ok P Q (Ok x) f h = f x h
if_ok P Q (Err e) f h = h
