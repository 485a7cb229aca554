-- No list of moves leads from a state of a program back to that state.
use Rattle.std.proofs.Common.{◌≡◌, ◌⊎◌, ℕ, zero, suc, ◌+◌, ◌-◌, ◌<◌, ◌≤◌, Bool, true, false, cond, length, Some, refl, sym, ap, ◌∙◌, subst, inl, inr, arith}
use Rattle.std.proofs.lemmas.Bool.{true≢false, ne_eqb}
use Rattle.std.proofs.lemmas.Option.{none-some}
use Rattle.cip_rational.specs.Rational.{◌*ℚ◌, zeroℚ, ◌≤ℚ◌, ◌<ℚ◌}
use Rattle.cip_rational.proofs.Rational.Ring.{zero-*ℚ}
use Rattle.cip_rational.proofs.Rational.Order.{≤ℚ_refl, ≤ℚ_trans, ≤ℚ_antisymm, <ℚ_irrefl}
use Rattle.cip_bland.specs.Box.{Between, sides_at}
use Rattle.cip_problem.proofs.PassedOn.{test_of_between}
use Rattle.cip_bland.specs.LinearProgram.{LinearProgram, IsProper}
use Rattle.cip_bland.specs.Dictionary.{Dictionary, size, stand, is_basic, entry, cost_entry, value}
use Rattle.cip_bland.specs.Exchange.{exchanged, after, CanExchange}
use Rattle.cip_bland.specs.ProgramState.{first_of_program}
use Rattle.cip_bland.specs.declared.moves.Stand.{Stand}
use Rattle.cip_bland.specs.declared.moves.Stand.TheVariants.{Zero}
use Rattle.cip_bland.specs.declared.moves.Move.{Move}
use Rattle.cip_bland.specs.declared.moves.Move.TheVariants.{Exchange, Flip}
use Rattle.cip_bland.proofs.Tables.{total_same, form_at_same}
use Rattle.cip_bland.proofs.States.{left_stand, entered_stand, stayed_stand}
use Rattle.cip_bland.specs.Headings.{stand_ahead}
use Rattle.cip_bland.specs.Rule.{is_outside, outside_heading, repairs, improves, Way, way_of, move_by, next}
use Rattle.cip_bland.specs.MoveList.{state_by, state_after}
use Rattle.cip_bland.specs.Statements.{IsStateOf, IsSound}
use Rattle.cip_bland.specs.NoRepeat.{Lasts}
use Rattle.cip_bland.specs.declared.steps.Step.{Step}
use Rattle.cip_bland.specs.declared.steps.Step.TheVariants.{Crossed, Infeasible, Optimum, Ray, Makes}
use Rattle.cip_bland.proofs.Searches.{IsLeast, IsShortest}
use Rattle.cip_bland.proofs.StateFacts.{stand_of_basic, stand_of_nonbasic, all_between, first_cost}
use Rattle.cip_bland.proofs.MovesMade.{outside_basic, outside_between, can_repair, is_way, basic_way, can_exchange}
use Rattle.cip_bland.proofs.StepCases.{IsRepair, IsDescent, Reason, crossed, infeasible, optimum, ray, repair, descent, reason, steps_are_sound}
use Rattle.cip_bland.proofs.RunFacts.{no_move, state_start}
use Rattle.cip_bland.proofs.Stretches.{IsSwap, IsTurn, turn}
use Rattle.cip_bland.proofs.Descents.{own_positive, inside_after, cost_no_more, no_length, same_values}
use Rattle.cip_bland.proofs.Clashes.{AreOfOne, same_value, repairs_clash, descents_clash}

-- ---- moves

-- the next move repairs
pub record Repairing (d : Dictionary) : Type 0 where
  pub leaves : ℕ
  pub enters : ℕ
  pub is : IsRepair d leaves enters
  pub step : next d ≡ Makes (Exchange leaves enters (stand_ahead (outside_heading d leaves)))

-- or it lets the cost fall
pub record Descending (d : Dictionary) : Type 0 where
  pub enters : ℕ
  pub number : ℕ
  pub way : Way
  pub is : IsDescent d enters number way
  pub step : next d ≡ Makes (move_by enters way)

kind_by : (d : Dictionary) (step : Step) → Reason d step → next d ≡ step → (move : Move) → step ≡ Makes move → Repairing d ⊎ Descending d
kind_by d step (crossed v h) e move f = absurd (no_move (Crossed v) refl move f)
kind_by d step (infeasible i a b c) e move f = absurd (no_move (Infeasible i) refl move f)
kind_by d step (optimum a b c) e move f = absurd (no_move Optimum refl move f)
kind_by d step (ray j a b c h) e move f = absurd (no_move (Ray j) refl move f)
kind_by d step (repair i j h) e move f = inl (record { leaves = i; enters = j; is = h; step = e })
kind_by d step (descent j v way h) e move f = inr (record { enters = j; number = v; way = way; is = h; step = e })

pub kind_of : (d : Dictionary) (move : Move) → next d ≡ Makes move → Repairing d ⊎ Descending d
kind_of d move e = kind_by d (next d) (reason d) refl move e

-- the variables of the next exchange, 0 where there is none
abbrev leaving_of : Step → ℕ
leaving_of (Makes (Exchange i j to)) = i
leaving_of (Makes (Flip j)) = 0
leaving_of (Crossed v) = 0
leaving_of (Infeasible i) = 0
leaving_of Optimum = 0
leaving_of (Ray j) = 0

abbrev entering_of : Step → ℕ
entering_of (Makes (Exchange i j to)) = j
entering_of (Makes (Flip j)) = 0
entering_of (Crossed v) = 0
entering_of (Infeasible i) = 0
entering_of Optimum = 0
entering_of (Ray j) = 0

abbrev place_of : Step → Stand
place_of (Makes (Exchange i j to)) = to
place_of (Makes (Flip j)) = Zero
place_of (Crossed v) = Zero
place_of (Infeasible i) = Zero
place_of Optimum = Zero
place_of (Ray j) = Zero

-- ---- states one after another

pub state_next : (k : ℕ) (d : Dictionary) → state_after (suc k) d ≡ state_by (state_after k d) (next (state_after k d))
unfolding state_after
state_next zero d = refl
state_next (suc k) d = state_next k (state_by d (next d))

pub state_add : (i k : ℕ) (d : Dictionary) → state_after k (state_after i d) ≡ state_after (i + k) d
unfolding state_after
state_add zero k d = let e : 0 + k ≡ k = omega arith in ap (λ n. state_after n d) (sym e)
state_add (suc i) k d =
    let e : suc (i + k) ≡ suc i + k = omega arith in
    state_add i k (state_by d (next d)) ∙ ap (λ n. state_after n d) e

by_move : (k : ℕ) (d : Dictionary) (move : Move) → next (state_after k d) ≡ Makes move → state_after (suc k) d ≡ after (state_after k d) move
by_move k d move e = state_next k d ∙ ap (state_by (state_after k d)) e

module _ (program : LinearProgram) (proper : IsProper program) where
  on_by : (d : Dictionary) (step : Step) → next d ≡ step → IsStateOf program d → IsSound program d step → IsStateOf program (state_by d step)
  on_by d (Makes move) e st h = h.state
  on_by d (Crossed v) e st h = st
  on_by d (Infeasible i) e st h = st
  on_by d Optimum e st h = st
  on_by d (Ray j) e st h = st

  pub states_on : (k : ℕ) (d : Dictionary) → IsStateOf program d → IsStateOf program (state_after k d)
  unfolding state_after
  states_on zero d st = st
  states_on (suc k) d st = states_on k (state_by d (next d)) (on_by d (next d) refl st (steps_are_sound program d proper st))

  -- two states of one program
  one_of : (p q : Dictionary) → IsStateOf program p → IsStateOf program q → AreOfOne p q
  one_of p q a b = record {
    first = a.consistent;
    second = b.consistent;
    sides = sym a.same.same_sides ∙ b.same.same_sides;
    solves = b.same.onto (value p) (a.same.back (value p) a.consistent.solved);
    cost = λ x s. sym (a.same.same_cost x (b.same.back x s)) ∙ b.same.same_cost x (b.same.back x s);
  }

  -- who stands alike has the same values, also the basic variables
  alike_values : (p q : Dictionary) → IsStateOf program p → IsStateOf program q → ((k : ℕ) → k < size q → stand p k ≡ stand q k) → (k : ℕ) → k < size q → value p k ≡ value q k
  alike_values p q a b alike k l = by_basis k l (is_basic q k) refl
    where
      one : AreOfOne p q
      one = one_of p q a b

      nonbasic_value : (u : ℕ) → u < size q → is_basic q u ≡ false → value p u ≡ value q u
      nonbasic_value u lu f = let at = stand_of_nonbasic q u f in same_value p q one u lu at.0 (alike u lu ∙ at.1) at.1

      products : (u : ℕ) → is_basic q k ≡ true → u < size q → (f : Bool) → is_basic q u ≡ f → entry q k u *ℚ value p u ≡ entry q k u *ℚ value q u
      products u bk lu true f =
          ap (λ t. t *ℚ value p u) (b.consistent.rows_free k u l bk lu f) ∙ zero-*ℚ (value p u) ∙ sym (ap (λ t. t *ℚ value q u) (b.consistent.rows_free k u l bk lu f) ∙ zero-*ℚ (value q u))
      products u bk lu false f = ap (λ t. entry q k u *ℚ t) (nonbasic_value u lu f)

      by_basis : (k' : ℕ) → k' < size q → (f : Bool) → is_basic q k ≡ f → value p k ≡ value q k
      by_basis k' l' true f =
          one.solves k l f
          ∙ total_same (size q) (λ u. entry q k u *ℚ value p u) (λ u. entry q k u *ℚ value q u) (λ u lu. products u f lu (is_basic q u) refl)
          ∙ sym (b.consistent.solved k l f)
      by_basis k' l' false f = nonbasic_value k l f

-- ---- one exchange, as where variables stand

swap_is : (d : Dictionary) (i j : ℕ) (to : Stand) → CanExchange d i j to → IsSwap (size d) (stand d) (stand (exchanged d i j to)) i j to
swap_is d i j to can =
    let at = stand_of_nonbasic d j can.nonbasic in
    let ne : ¬ (j ≡ i) = λ (e : j ≡ i). true≢false (sym can.basic ∙ ap (is_basic d) (sym e) ∙ can.nonbasic) in
    record {
      leaving = can.leaving;
      entering = can.entering;
      basic = stand_of_basic d i can.basic;
      left = left_stand d i j to can.leaving;
      where_j_was = at.0;
      nonbasic = at.1;
      entered = entered_stand d i j to ne can.entering;
      others = λ k lk ni nj. stayed_stand d i j to k ni nj lk;
    }

-- ---- what a state without a variable outside is

abbrev AllBetween : Dictionary → Type 0
AllBetween d = (u : ℕ) → u < size d → Between (sides_at d.sides u).low (sides_at d.sides u).high (value d u)

not_repairing : (d : Dictionary) → AllBetween d → ¬ Repairing d
not_repairing d inside r =
    let i = r.leaves in
    true≢false (sym (test_of_between (sides_at d.sides i).low (sides_at d.sides i).high (value d i) (inside i r.is.outside.below)) ∙ outside_between d i r.is.outside.passes)

module _ (program : LinearProgram) (proper : IsProper program) (d : Dictionary) (st : IsStateOf program d) (n : ℕ) (lasts : Lasts n d) where
  s : ℕ → Dictionary
  s k = state_after k d

  state_at : (k : ℕ) → IsStateOf program (state_after k d)
  state_at k = states_on program proper k d st

  sides_same : (k : ℕ) → (state_after k d).sides ≡ d.sides
  sides_same k = sym (state_at k).same.same_sides ∙ st.same.same_sides

  size_same : (k : ℕ) → size (state_after k d) ≡ size d
  size_same k = ap length (sides_same k)

  kind_at : (t : ℕ) → t < n → Repairing (state_after t d) ⊎ Descending (state_after t d)
  kind_at t l = kind_of (state_after t d) (lasts t l).0 (lasts t l).1

  between_descending : (t : ℕ) → Descending (state_after t d) → AllBetween (state_after t d)
  between_descending t g = all_between (state_after t d) (state_at t).consistent g.is.uncrossed g.is.inside

  next_state : (t : ℕ) (move : Move) → next (state_after t d) ≡ Makes move → state_after (suc t) d ≡ after (state_after t d) move
  next_state t move e = by_move t d move e

  -- after it all are inside again
  between_after : (t : ℕ) → Descending (state_after t d) → AllBetween (state_after (suc t) d)
  between_after t g u l =
      let e = next_state t (move_by g.enters g.way) g.step in
      let l' : u < size (state_after t d) = omega (arith, l, size_same t, size_same (suc t)) in
      let h = inside_after (state_after t d) (state_at t).consistent g.enters g.is.enters.below g.is.enters.passes (between_descending t g) g.number g.way g.is.way_is u l' in
      subst (λ ss. Between (sides_at ss u).low (sides_at ss u).high (value (state_after (suc t) d) u)) (sides_same t ∙ sym (sides_same (suc t)))
      (subst (λ x. Between (sides_at (state_after t d).sides u).low (sides_at (state_after t d).sides u).high (value x u)) (sym e) h)

  descending_at : (t : ℕ) → t < n → AllBetween (state_after t d) → Descending (state_after t d)
  descending_at t l inside = elim (kind_at t l) [
    | inl r ↦ absurd (not_repairing (state_after t d) inside r)
    | inr g ↦ g
  ]

  -- once none is outside, none is outside later
  between_later : (far t : ℕ) → t + far ≤ n → AllBetween (state_after t d) → AllBetween (state_after (t + far) d)
  between_later zero t l inside = let e : t ≡ t + 0 = omega arith in subst (λ k. AllBetween (state_after k d)) e inside
  between_later (suc far) t l inside =
      let lt : t < n = omega (arith, l) in
      let e : suc t + far ≡ t + suc far = omega arith in
      subst (λ k. AllBetween (state_after k d)) e (between_later far (suc t) (omega (arith, l)) (between_after t (descending_at t lt inside)))

  -- ---- where the list comes back
  module _ (some : 0 < n) (alike : (k : ℕ) → k < size d → stand d k ≡ stand (state_after n d) k) where
    start : state_after 0 d ≡ d
    start = state_start d

    alike_ends : (k : ℕ) → k < size d → stand (state_after 0 d) k ≡ stand (state_after n d) k
    alike_ends k l = ap (λ x. stand x k) start ∙ alike k l

    values_end : (k : ℕ) → k < size d → value (state_after 0 d) k ≡ value (state_after n d) k
    values_end k l =
        alike_values program proper (state_after 0 d) (state_after n d) (state_at 0) (state_at n)
        (λ u lu. alike_ends u (omega (arith, lu, size_same n))) k (omega (arith, l, size_same n))

    between_start : AllBetween (state_after n d) → AllBetween (state_after 0 d)
    between_start inside u l =
        let lu : u < size d = omega (arith, l, size_same 0) in
        subst (λ ss. Between (sides_at ss u).low (sides_at ss u).high (value (state_after 0 d) u)) (sides_same n ∙ sym (sides_same 0))
        (subst (Between (sides_at (state_after n d).sides u).low (sides_at (state_after n d).sides u).high) (sym (values_end u lu)) (inside u (omega (arith, lu, size_same n))))

    swap_at : (t i j : ℕ) (to : Stand) → next (state_after t d) ≡ Makes (Exchange i j to) → CanExchange (state_after t d) i j to → IsSwap (size d) (stand (state_after t d)) (stand (state_after (suc t) d)) (leaving_of (next (state_after t d))) (entering_of (next (state_after t d))) (place_of (next (state_after t d)))
    swap_at t i j to e can =
        let x = state_after t d in
        let y = state_after (suc t) d in
        let after_is : exchanged x i j to ≡ y = sym (next_state t (Exchange i j to) e) in
        subst (λ k. IsSwap (size d) (stand x) (stand y) k (entering_of (next x)) (place_of (next x))) (sym (ap leaving_of e))
        (subst (λ k. IsSwap (size d) (stand x) (stand y) i k (place_of (next x))) (sym (ap entering_of e))
        (subst (λ p. IsSwap (size d) (stand x) (stand y) i j p) (sym (ap place_of e))
        (subst (λ z. IsSwap (size d) (stand x) (stand z) i j to) after_is
        (subst (λ k. IsSwap k (stand x) (stand (exchanged x i j to)) i j to) (size_same t) (swap_is x i j to can)))))

    -- a turn of exchanges
    turned : ((t : ℕ) → t < n → IsSwap (size d) (stand (state_after t d)) (stand (state_after (suc t) d)) (leaving_of (next (state_after t d))) (entering_of (next (state_after t d))) (place_of (next (state_after t d)))) → (r : ℕ) × IsTurn (size d) n (λ t k. stand (state_after t d) k) (λ t. leaving_of (next (state_after t d))) (λ t. entering_of (next (state_after t d))) (λ t. place_of (next (state_after t d))) r
    turned swaps =
        turn (size d) n (λ t k. stand (state_after t d) k) (λ t. leaving_of (next (state_after t d))) (λ t. entering_of (next (state_after t d))) (λ t. place_of (next (state_after t d))) swaps some alike_ends

    -- ---- all moves repair
    module _ (all : (t : ℕ) → t < n → Repairing (state_after t d)) where
      repairs_turn : (r : ℕ) → IsTurn (size d) n (λ t k. stand (state_after t d) k) (λ t. leaving_of (next (state_after t d))) (λ t. entering_of (next (state_after t d))) (λ t. place_of (next (state_after t d))) r → ⊥
      repairs_turn r g =
          let a = g.turns.exit.time in
          let b = g.turns.entry.time in
          let p = state_after a d in
          let q = state_after b d in
          let ra = all a g.turns.exit.early in
          let rb = all b g.turns.entry.early in
          let l = rb.leaves in
          let leaves_r : ra.leaves ≡ r = sym (ap leaving_of ra.step) ∙ g.turns.exit.is in
          let enters_r : rb.enters ≡ r = sym (ap entering_of rb.step) ∙ g.turns.entry.is in
          let place : g.turns.place ≡ stand_ahead (outside_heading p r) = sym g.turns.exit.went ∙ ap place_of ra.step ∙ ap (λ k. stand_ahead (outside_heading p k)) leaves_r in
          let stood : stand q r ≡ Some g.turns.place = g.turns.entry.stood in
          let ne : ¬ (l ≡ r) = λ (e : l ≡ r). none-some g.turns.place (sym (stand_of_basic q l (outside_basic q l rb.is.outside.passes)) ∙ ap (stand q) e ∙ stood) in
          let at_most : l ≤ r = subst (λ k. k ≤ r) (ap leaving_of rb.step) (g.leaves_below b g.turns.entry.early) in
          repairs_clash p q (one_of program proper p q (state_at a) (state_at b)) ra.is.uncrossed r l
          (subst (IsLeast (size p) (is_outside p)) leaves_r ra.is.outside) rb.is.outside (subst (IsLeast (size q) (repairs q l)) enters_r rb.is.enters)
          (omega (arith, at_most, ne)) (stood ∙ ap Some place)
          (λ k gt lk. g.stay k gt (omega (arith, lk, size_same b)) a b (omega (arith, g.turns.exit.early)) (omega (arith, g.turns.entry.early)))

      pub all_repair : ⊥
      all_repair =
          let t = turned (λ t l. let r = all t l in
          swap_at t r.leaves r.enters (stand_ahead (outside_heading (state_after t d) r.leaves)) r.step (can_repair (state_after t d) r.leaves r.enters r.is.outside.below r.is.enters.below r.is.outside.passes r.is.enters.passes)) in
          repairs_turn t.0 t.1

    -- ---- all moves let the cost fall
    module _ (all : (t : ℕ) → t < n → Descending (state_after t d)) where
      cost_step : (t : ℕ) → t < n → (state_after (suc t) d).cost ≤ℚ (state_after t d).cost
      cost_step t l =
          let g = all t l in
          let x = state_after t d in
          subst (λ (y : Dictionary). y.cost ≤ℚ x.cost) (sym (next_state t (move_by g.enters g.way) g.step))
          (cost_no_more x (state_at t).consistent g.enters g.is.enters.below g.is.enters.passes (between_descending t g) g.number g.way g.is.way_is)

      cost_down : (far t : ℕ) → t + far ≤ n → (state_after (t + far) d).cost ≤ℚ (state_after t d).cost
      cost_down zero t l = let e : t ≡ t + 0 = omega arith in subst (λ k. (state_after k d).cost ≤ℚ (state_after t d).cost) e (≤ℚ_refl (state_after t d).cost)
      cost_down (suc far) t l =
          let e : suc t + far ≡ t + suc far = omega arith in
          ≤ℚ_trans (subst (λ k. (state_after k d).cost ≤ℚ (state_after (suc t) d).cost) e (cost_down far (suc t) (omega (arith, l)))) (cost_step t (omega (arith, l)))

      cost_ends : (state_after n d).cost ≡ (state_after 0 d).cost
      cost_ends =
          let first = first_of_program program in
          let first_size : size first ≡ size d = ap length st.same.same_sides in
          sym (first_cost program (state_after n d) proper (state_at n))
          ∙ form_at_same (size first) (cost_entry first) (value (state_after n d)) (value (state_after 0 d)) (λ k l. sym (values_end k (omega (arith, l, first_size))))
          ∙ first_cost program (state_after 0 d) proper (state_at 0)

      cost_same : (t : ℕ) → t ≤ n → (state_after t d).cost ≡ (state_after 0 d).cost
      cost_same t l =
          let down : (state_after t d).cost ≤ℚ (state_after 0 d).cost = (let e : 0 + t ≡ t = omega arith in subst (λ k. (state_after k d).cost ≤ℚ (state_after 0 d).cost) e (cost_down t 0 (omega (arith, l)))) in
          let up : (state_after n d).cost ≤ℚ (state_after t d).cost = (let e : t + (n - t) ≡ n = omega (arith, l) in subst (λ k. (state_after k d).cost ≤ℚ (state_after t d).cost) e (cost_down (n - t) t (omega (arith, l)))) in
          ≤ℚ_antisymm down (subst (λ q. q ≤ℚ (state_after t d).cost) cost_ends up)

      no_way : (t : ℕ) (l : t < n) → (all t l).way.length ≡ zeroℚ
      no_way t l =
          let g = all t l in
          let x = state_after t d in
          no_length x (state_at t).consistent g.enters g.is.enters.below g.is.enters.passes (between_descending t g) g.number g.way g.is.way_is
          (ap (λ (y : Dictionary). y.cost) (sym (next_state t (move_by g.enters g.way) g.step)) ∙ cost_same (suc t) (omega (arith, l)) ∙ sym (cost_same t (omega (arith, l))))

      values_same : (t : ℕ) → t ≤ n → (k : ℕ) → k < size d → value (state_after t d) k ≡ value (state_after 0 d) k
      values_same zero l k lk = refl
      values_same (suc t) l k lk =
          let lt : t < n = omega (arith, l) in
          let g = all t lt in
          let x = state_after t d in
          ap (λ y. value y k) (next_state t (move_by g.enters g.way) g.step)
          ∙ same_values x (state_at t).consistent g.enters g.is.enters.below g.is.enters.passes (between_descending t g) g.number g.way g.is.way_is (no_way t lt) k (omega (arith, lk, size_same t))
          ∙ values_same t (omega (arith, l)) k lk

      -- so none of them is a flip
      variable_is : (t : ℕ) (l : t < n) → (all t l).way.variable ≡ (all t l).number
      variable_is t l = let g = all t l in (is_way (state_after t d) g.enters g.number g.way g.is.way_is.is_way).variable

      no_flip : (t : ℕ) (l : t < n) → ¬ ((all t l).way.variable ≡ (all t l).enters)
      no_flip t l e =
          let g = all t l in
          let x = state_after t d in
          let own : way_of x g.enters g.enters ≡ Some g.way = subst (λ k. way_of x g.enters k ≡ Some g.way) (sym (variable_is t l) ∙ e) g.is.way_is.is_way in
          <ℚ_irrefl zeroℚ (subst (λ q. zeroℚ <ℚ q) (no_way t l) (own_positive x (state_at t).consistent g.enters g.is.enters.below g.is.enters.passes g.way own (between_descending t g g.enters g.is.enters.below)))

      exchange_at : (t : ℕ) (l : t < n) → next (state_after t d) ≡ Makes (Exchange (all t l).number (all t l).enters (all t l).way.to)
      exchange_at t l =
          let g = all t l in
          g.step ∙ ap (λ b. Makes (cond b (Flip g.enters) (Exchange g.way.variable g.enters g.way.to))) (ne_eqb g.way.variable g.enters (no_flip t l))
          ∙ ap (λ k. Makes (Exchange k g.enters g.way.to)) (variable_is t l)

      can_at : (t : ℕ) (l : t < n) → CanExchange (state_after t d) (all t l).number (all t l).enters (all t l).way.to
      can_at t l =
          let g = all t l in
          let x = state_after t d in
          let ne : ¬ (g.number ≡ g.enters) = λ (e : g.number ≡ g.enters). no_flip t l (variable_is t l ∙ e) in
          can_exchange x (state_at t).consistent g.enters g.is.enters.below g.is.enters.passes g.number g.way.to g.is.way_is.below (basic_way x g.enters g.number g.way.to ne (is_way x g.enters g.number g.way g.is.way_is.is_way).goal)

      descents_turn : (r : ℕ) → IsTurn (size d) n (λ t k. stand (state_after t d) k) (λ t. leaving_of (next (state_after t d))) (λ t. entering_of (next (state_after t d))) (λ t. place_of (next (state_after t d))) r → ⊥
      descents_turn r g =
          let a = g.turns.exit.time in
          let b = g.turns.entry.time in
          let la = g.turns.exit.early in
          let lb = g.turns.entry.early in
          let p = state_after b d in
          let q = state_after a d in
          let gb = all b lb in
          let ga = all a la in
          let leaves_r : ga.number ≡ r = sym (ap leaving_of (exchange_at a la)) ∙ g.turns.exit.is in
          let enters_r : gb.enters ≡ r = sym (ap entering_of (exchange_at b lb)) ∙ g.turns.entry.is in
          let place : g.turns.place ≡ ga.way.to = sym g.turns.exit.went ∙ ap place_of (exchange_at a la) in
          let can = can_at a la in
          let ne : ¬ (ga.enters ≡ r) = λ (e : ga.enters ≡ r). true≢false (sym can.basic ∙ ap (is_basic q) (leaves_r ∙ sym e) ∙ can.nonbasic) in
          let at_most : ga.enters ≤ r = subst (λ k. k ≤ r) (ap entering_of (exchange_at a la)) (g.enters_below a la) in
          descents_clash p q (one_of program proper p q (state_at b) (state_at a)) r ga.enters
          (subst (IsLeast (size p) (improves p)) enters_r gb.is.enters) ga.is.enters ga.way
          (subst (λ k. IsShortest (size q) (way_of q ga.enters) k ga.way) leaves_r ga.is.way_is) (no_way a la) (omega (arith, at_most, ne))
          (λ k lk. let l : k < size d = omega (arith, lk, size_same a) in values_same b (omega (arith, lb)) k l ∙ sym (values_same a (omega (arith, la)) k l))
          (g.turns.entry.stood ∙ ap Some place)
          (λ k gt lk. g.stay k gt (omega (arith, lk, size_same a)) b a (omega (arith, lb)) (omega (arith, la)))

      pub all_descend : ⊥
      all_descend = let t = turned (λ t l. swap_at t (all t l).number (all t l).enters (all t l).way.to (exchange_at t l) (can_at t l)) in descents_turn t.0 t.1

    -- ---- one or the other
    repairing_from : Repairing (state_after 0 d) → (t : ℕ) → t < n → Repairing (state_after t d)
    repairing_from r t l = elim (kind_at t l) [
      | inl h ↦ h
      | inr g ↦
          (let e : t + (n - t) ≡ n = omega (arith, l) in
          absurd (not_repairing (state_after 0 d) (between_start (subst (λ k. AllBetween (state_after k d)) e (between_later (n - t) t (omega (arith, l)) (between_descending t g)))) r))
    ]

    descending_from : Descending (state_after 0 d) → (t : ℕ) → t < n → Descending (state_after t d)
    descending_from g t l =
        let e : 0 + t ≡ t = omega arith in
        descending_at t l (subst (λ k. AllBetween (state_after k d)) e (between_later t 0 (omega (arith, l)) (between_descending 0 g)))

    pub no_return : ⊥
    no_return = elim (kind_at 0 some) [
      | inl r ↦ all_repair (repairing_from r)
      | inr g ↦ all_descend (descending_from g)
    ]
