-- What follows from a check that accepts.
use Rattle.std.proofs.Common.{◌≡◌, ℕ, suc, ◌<◌, ◌≤◌, Bool, true, false, not, cond, ◌&&◌, ◌||◌, List, [], ◌∷◌, length, Option, None, Some, Result, Ok, Err, IfOk, IfSome, MatchResult, refl, sym, ap, ◌∙◌, subst, arith}
use Rattle.std.specs.Prelude.{OnOk}
use Rattle.std.proofs.lemmas.Option.{none-some, same_Some}
use Rattle.cip_rational.specs.Rational.{ℚ, ◌+ℚ◌, ◌-ℚ◌, ◌*ℚ◌, inverse, zeroℚ, ◌≤ℚ◌, le_test, lt_test, is_whole, IsWhole}
use Rattle.cip_rational.specs.Range.{quotient_overflows}
use Rattle.cip_rational.specs.Sums.{dot}
use Rattle.cip_rational.proofs.Sums.{dot-nil}
use Rattle.cip_rational.proofs.Rational.Ring.{zero-*ℚ}
use Rattle.cip_rational.proofs.Rational.Order.{≤ℚ_of_eq, ≤ℚ_trans, lt_of_test, le_of_test, not_le_of_lt}
use Rattle.cip_rational.proofs.Rational.Monotone.{+ℚ_mono}
use Rattle.cip_rational.proofs.Rational.Inverse.{divide_le}
use Rattle.cip_rational.proofs.Rational.Whole.{IsWhole-zero, IsWhole-add, IsWhole-mul, IsWhole_of_test}
use Rattle.cip_rational.proofs.Rational.Rounding.{ceil_le_whole, whole_le_floor}
use Rattle.cip_rational.proofs.Linear.{linear_le}
use Rattle.cip_frac.specs.Order.{same_rational, equal_from_same}
use Rattle.cip_problem.specs.Program.{Sides}
use Rattle.cip_problem.specs.Activity.{value_at}
use Rattle.cip_problem.specs.Box.{IsInBox}
use Rattle.cip_problem.specs.BoxBound.{sum_if_both, least_cost, least_costs}
use Rattle.cip_problem.specs.Points.{AreWhole}
use Rattle.cip_problem.proofs.BoxBound.BelowCosts.{least_cost_holds}
use Rattle.cip_problem.specs.Aggregate.{Inequality, Holds, differences, bound_of, only}
use Rattle.cip_problem.proofs.Aggregates.{aggregate_holds}
use Rattle.cip_problem.proofs.Bounds.{dot_differences, dot-only, divide_negative}
use Rattle.cip_cert.specs.declared.faults.CutFault.{CutFault}
use Rattle.cip_cert.specs.Lent.{Lent, Fits, Multiples}
use Rattle.cip_cert.specs.Checks.{chain, aggregate_of, first_stop, round_unless, round_if, derived, bound_from, rests_from, lower_bound_of, rests_of, positive, emptied, quotient_at, round_up_if, round_down_if, implied_low, implied_high, low_allowed, high_allowed, low_reduced, high_reduced}
use Rattle.cip_node_rules.specs.RowRules.{stops_rounding}
use Rattle.cip_cert.specs.Follows.{FollowsAt, RowFollows, BoundFollows, EmptinessFollows, LowFollows, HighFollows, IsSum}
use Rattle.cip_cert.proofs.Sums.{ok_chain, ok_weaker, ok_cond, aggregate_sum}
use Rattle.cip_cert.proofs.Values.{bound_value, zero_value, one_value}

-- ---- bounds at a point, also where there are more coefficients than columns

sum_holds : (a b x y : ℚ) (p q : Option ℚ) → sum_if_both p q ≡ Some b → ((u : ℚ) → p ≡ Some u → u ≤ℚ x) → ((u : ℚ) → q ≡ Some u → u ≤ℚ y) → b ≤ℚ x +ℚ y
sum_holds a b x y None q e f g = absurd (none-some b e)
sum_holds a b x y (Some u) None e f g = absurd (none-some b e)
sum_holds a b x y (Some u) (Some v) e f g = subst (λ t. t ≤ℚ x +ℚ y) (same_Some _ b e) (+ℚ_mono (f u refl) (g v refl))

least_any : (costs : List ℚ) (box : List Sides) (point : List ℚ) (b : ℚ) → IsInBox box point → least_costs costs box ≡ Some b → b ≤ℚ dot costs point
least_any [] box point b w e = ≤ℚ_of_eq (sym (same_Some zeroℚ b e))
least_any (c ∷ cs) [] [] b w e = ≤ℚ_of_eq (sym (same_Some zeroℚ b e))
least_any (c ∷ cs) [] (v ∷ vs) b w e = absurd w
least_any (c ∷ cs) (s ∷ ss) [] b w e = absurd w
least_any (c ∷ cs) (s ∷ ss) (v ∷ vs) b w e =
    sum_holds zeroℚ b (c *ℚ v) (dot cs vs) (least_cost c s) (least_costs cs ss) e
    (λ u k. least_cost_holds c u v s k w.0)
    (λ u k. least_any cs ss vs u w.1 k)

bound_any : (row : Inequality) (costs : List ℚ) (box : List Sides) (point : List ℚ) (b : ℚ) → IsInBox box point → Holds row point → bound_of row costs box ≡ Some b → b ≤ℚ dot costs point
bound_any row costs box point b w holds e =
    let rest = differences costs row.coefficients in
    let h : b ≤ℚ row.least +ℚ dot rest point = sum_holds zeroℚ b row.least (dot rest point) (Some row.least) (least_costs rest box) e (λ u k. ≤ℚ_of_eq (sym (same_Some row.least u k))) (λ u k. least_any rest box point u w k) in
    let k : row.least ≤ℚ dot row.coefficients point = holds in
    let d : dot rest point ≡ dot costs point -ℚ dot row.coefficients point = dot_differences costs row.coefficients point in
    linear_le (b ∷ row.least ∷ dot costs point ∷ dot row.coefficients point ∷ dot rest point ∷ []) (λ s w. omega (arith, s.le_out, s.same_out))

-- ---- rounding, also where there are more coefficients than columns

whole_parts : (w : Bool) (d v : ℚ) (same whole : Bool) → same_rational d zeroℚ ≡ same → is_whole d ≡ whole → (not same && (not w || not whole)) ≡ false → (w ≡ true → IsWhole v) → IsWhole (d *ℚ v)
whole_parts w d v true whole e f h k = subst IsWhole (sym (ap (λ t. t *ℚ v) (equal_from_same d zeroℚ e) ∙ zero-*ℚ v)) IsWhole-zero
whole_parts true d v false true e f h k = IsWhole-mul d v (IsWhole_of_test d f) (k refl)
whole_parts true d v false false e f h k = absurd (cc)
whole_parts false d v false whole e f h k = absurd (cc)

whole_product : (w : Bool) (d v : ℚ) → stops_rounding w d ≡ false → (w ≡ true → IsWhole v) → IsWhole (d *ℚ v)
whole_product w d v h k = whole_parts w d v (same_rational d zeroℚ) (is_whole d) refl refl h k

pub first_none : (column : ℕ) (t : Bool) (rest : Option ℕ) → cond t (Some column) rest ≡ None → (t ≡ false) × (rest ≡ None)
first_none column true rest e = absurd (none-some column (sym e))
first_none column false rest e = (refl, e)

whole_sum : (column : ℕ) (integral : List Bool) (ds point : List ℚ) → first_stop column integral ds ≡ None → AreWhole integral point → IsWhole (dot ds point)
whole_sum column [] ds [] e h = subst IsWhole (sym (dot-nil ds)) IsWhole-zero
whole_sum column [] ds (v ∷ vs) e h = absurd h
whole_sum column (w ∷ ws) [] point e h = IsWhole-zero
whole_sum column (w ∷ ws) (d ∷ ds) [] e h = absurd h
whole_sum column (w ∷ ws) (d ∷ ds) (v ∷ vs) e h =
    let parts = first_none column (stops_rounding w d) (first_stop (suc column) ws ds) e in
    IsWhole-add (d *ℚ v) (dot ds vs) (whole_product w d v parts.0 h.0) (whole_sum (suc column) ws ds vs parts.1 h.1)

-- ---- what follows

module _ (lent : Lent) (box : List Sides) (columns : ℕ) (combo : Multiples) (fits : Fits (length box) lent) (room : length box ≤ columns) where
  sum_holds_at : (row : Inequality) → IsSum lent box columns row → FollowsAt lent box (Holds row)
  sum_holds_at row s point r w = aggregate_holds columns s.parts row point s.sum (s.kept point r w)

  long : (row : Inequality) → IsSum lent box columns row → length box ≤ length row.coefficients
  long row s = omega (arith, s.sum.long, room)

  round_follows : (integral : List Bool) (row : Inequality) (stop : Option ℕ) → first_stop 0 integral row.coefficients ≡ stop → IsSum lent box columns row → IfOk (round_unless stop row) (RowFollows lent integral box true)
  round_follows integral row (Some column) e s = tt
  round_follows integral row None e s = λ point r w whole.
      ceil_le_whole (dot row.coefficients point) row.least (whole_sum 0 integral row.coefficients point e (whole refl)) (sum_holds_at row s point r w)

  either_follows : (integral : List Bool) (round : Bool) (row : Inequality) → IsSum lent box columns row → IfOk (round_if round integral row) (RowFollows lent integral box round)
  either_follows integral true row s = round_follows integral row (first_stop 0 integral row.coefficients) refl s
  either_follows integral false row s = λ point r w whole. sum_holds_at row s point r w

  pub derived_follows : (integral : List Bool) (round : Bool) → IfOk (derived lent integral box columns combo round) (RowFollows lent integral box round)
  derived_follows integral round =
      ok_chain (IsSum lent box columns) (RowFollows lent integral box round) (aggregate_of lent box columns combo) (round_if round integral) (aggregate_sum lent box columns combo fits room)
      (λ row s. either_follows integral round row s)

  pub derive_follows : (integral : List Bool) (round : Bool) (ds : List ℚ) (result : Result ℚ CutFault) → MatchResult result (λ least. derived lent integral box columns combo round ≡ Ok (record { coefficients = ds; least = least })) (λ fault. derived lent integral box columns combo round ≡ Err fault) → IfOk result (λ least. RowFollows lent integral box round (record { coefficients = ds; least = least }))
  derive_follows integral round ds (Ok least) e = subst (λ o. IfOk o (RowFollows lent integral box round)) e (derived_follows integral round)
  derive_follows integral round ds (Err fault) e = tt

  pub lower_bound_follows : (costs : List ℚ) → length costs ≡ length box → IfOk (lower_bound_of lent box columns costs combo) (BoundFollows lent box costs)
  lower_bound_follows costs l =
      ok_chain (IsSum lent box columns) (BoundFollows lent box costs) (aggregate_of lent box columns combo) (λ row. bound_from 0 row.least costs row.coefficients box) (aggregate_sum lent box columns combo fits room)
      (λ row s. ok_weaker (λ b. bound_of row costs box ≡ Some b) (BoundFollows lent box costs) (bound_from 0 row.least costs row.coefficients box) (λ b e point r w. bound_any row costs box point b w (sum_holds_at row s point r w) e) (bound_value row costs box l (long row s)))

  not_above : ℚ → Type 0
  not_above b = FollowsAt lent box (λ point. b ≤ℚ zeroℚ)

  zero_follows : IfOk (rests_of lent box columns None combo) not_above
  unfolding not_above
  zero_follows =
      ok_chain (IsSum lent box columns) not_above (aggregate_of lent box columns combo) (λ row. rests_from None 0 row.least row.coefficients box) (aggregate_sum lent box columns combo fits room)
      (λ row s. ok_weaker (λ b. bound_of row [] box ≡ Some b) not_above (rests_from None 0 row.least row.coefficients box) (λ b e point r w. bound_any row [] box point b w (sum_holds_at row s point r w) e) (zero_value row box (long row s)))

  emptied_follows : IfOk (emptied lent box columns combo) (λ b. EmptinessFollows lent box)
  unfolding not_above
  emptied_follows =
      ok_chain not_above (λ b. EmptinessFollows lent box) (rests_of lent box columns None combo) positive zero_follows
      (λ b h. ok_cond (λ b. EmptinessFollows lent box) (lt_test zeroℚ b) (Ok b) _ (λ p point r w. not_le_of_lt (lt_of_test p) (h point r w)) (λ _. tt))

  pub empties_follows : (outcome : Result ℚ CutFault) → outcome ≡ emptied lent box columns combo → IfOk outcome (λ b. EmptinessFollows lent box)
  empties_follows outcome e = subst (λ o. IfOk o (λ b. EmptinessFollows lent box)) (sym e) emptied_follows

  -- ---- one column

  module _ (column : ℕ) (inside : column < length box) (whole : Bool) (value : ℚ) where
    -- the bound is at most the product on the column
    record IsProductBound (row : Inequality) (b : ℚ) : Type 0 where
      pub below : FollowsAt lent box (λ point. b ≤ℚ value_at row.coefficients column *ℚ value_at point column)

    one_follows : (row : Inequality) → IsSum lent box columns row → IfOk (rests_from (Some column) 0 row.least row.coefficients box) (IsProductBound row)
    one_follows row s =
        let d = value_at row.coefficients column in
        ok_weaker (λ b. bound_of row (only column d) box ≡ Some b) (IsProductBound row) (rests_from (Some column) 0 row.least row.coefficients box)
        (λ b e. record { below = λ point r w. subst (λ t. b ≤ℚ t) (dot-only column d point) (bound_any row (only column d) box point b w (sum_holds_at row s point r w) e) })
        (one_value row box column (long row s) inside)

    up_holds : (w : Bool) (q v : ℚ) → (w ≡ true → IsWhole v) → q ≤ℚ v → round_up_if w q ≤ℚ v
    up_holds true q v h k = ceil_le_whole v q (h refl) k
    up_holds false q v h k = k

    down_holds : (w : Bool) (q v : ℚ) → (w ≡ true → IsWhole v) → v ≤ℚ q → v ≤ℚ round_down_if w q
    down_holds true q v h k = whole_le_floor v q (h refl) k
    down_holds false q v h k = k

    quotient_is : (b d : ℚ) → IfOk (quotient_at column b d) (λ q. q ≡ b *ℚ inverse d)
    quotient_is b d = ok_cond (λ q. q ≡ b *ℚ inverse d) (quotient_overflows b d) _ _ (λ _. tt) (λ _. refl)

    low_follows : (row : Inequality) (b : ℚ) → IsProductBound row b → IfOk (implied_low column whole (value_at row.coefficients column) b) (λ implied. IfSome implied (LowFollows lent box column whole))
    low_follows row b p =
        let d = value_at row.coefficients column in
        ok_cond (λ implied. IfSome implied (LowFollows lent box column whole)) (lt_test zeroℚ d) _ _
        (λ positive.
        ok_chain (λ q. q ≡ b *ℚ inverse d) (λ implied. IfSome implied (LowFollows lent box column whole)) (quotient_at column b d) (λ q. Ok (Some (round_up_if whole q))) (quotient_is b d)
        (λ q e point r w h. up_holds whole q (value_at point column) h (subst (λ t. t ≤ℚ value_at point column) (sym e) (divide_le b d (value_at point column) (lt_of_test positive) (p.below point r w)))))
        (λ _. tt)

    high_follows : (row : Inequality) (b : ℚ) → IsProductBound row b → IfOk (implied_high column whole (value_at row.coefficients column) b) (λ implied. IfSome implied (HighFollows lent box column whole))
    high_follows row b p =
        let d = value_at row.coefficients column in
        ok_cond (λ implied. IfSome implied (HighFollows lent box column whole)) (lt_test d zeroℚ) _ _
        (λ negative.
        ok_chain (λ q. q ≡ b *ℚ inverse d) (λ implied. IfSome implied (HighFollows lent box column whole)) (quotient_at column b d) (λ q. Ok (Some (round_down_if whole q))) (quotient_is b d)
        (λ q e point r w h. down_holds whole q (value_at point column) h (subst (λ t. value_at point column ≤ℚ t) (sym e) (divide_negative b d (value_at point column) (lt_of_test negative) (p.below point r w)))))
        (λ _. tt)

    -- the answer is the value, which follows
    record IsLow (answer : ℚ) : Type 0 where
      pub is_value : answer ≡ value
      pub follows : LowFollows lent box column whole value

    record IsHigh (answer : ℚ) : Type 0 where
      pub is_value : answer ≡ value
      pub follows : HighFollows lent box column whole value

    low_answer : (implied : Option ℚ) → IfSome implied (LowFollows lent box column whole) → IfOk (low_allowed value implied) IsLow
    low_answer None h = tt
    low_answer (Some side) h =
        ok_cond IsLow (le_test value side) (Ok value) _ (λ l. record { is_value = refl; follows = λ point r w k. ≤ℚ_trans (le_of_test l) (h point r w k) }) (λ _. tt)

    high_answer : (implied : Option ℚ) → IfSome implied (HighFollows lent box column whole) → IfOk (high_allowed value implied) IsHigh
    high_answer None h = tt
    high_answer (Some side) h =
        ok_cond IsHigh (le_test side value) (Ok value) _ (λ l. record { is_value = refl; follows = λ point r w k. ≤ℚ_trans (h point r w k) (le_of_test l) }) (λ _. tt)

    low_reduced_follows : IfOk (low_reduced lent whole box columns column value combo) IsLow
    low_reduced_follows =
        ok_chain (IsSum lent box columns) IsLow (aggregate_of lent box columns combo) (λ row. chain (rests_from (Some column) 0 row.least row.coefficients box) (λ bound. chain (implied_low column whole (value_at row.coefficients column) bound) (low_allowed value))) (aggregate_sum lent box columns combo fits room)
        (λ row s.
        ok_chain (IsProductBound row) IsLow (rests_from (Some column) 0 row.least row.coefficients box) (λ bound. chain (implied_low column whole (value_at row.coefficients column) bound) (low_allowed value)) (one_follows row s)
        (λ b p. ok_chain (λ implied. IfSome implied (LowFollows lent box column whole)) IsLow (implied_low column whole (value_at row.coefficients column) b) (low_allowed value) (low_follows row b p) low_answer))

    high_reduced_follows : IfOk (high_reduced lent whole box columns column value combo) IsHigh
    high_reduced_follows =
        ok_chain (IsSum lent box columns) IsHigh (aggregate_of lent box columns combo) (λ row. chain (rests_from (Some column) 0 row.least row.coefficients box) (λ bound. chain (implied_high column whole (value_at row.coefficients column) bound) (high_allowed value))) (aggregate_sum lent box columns combo fits room)
        (λ row s.
        ok_chain (IsProductBound row) IsHigh (rests_from (Some column) 0 row.least row.coefficients box) (λ bound. chain (implied_high column whole (value_at row.coefficients column) bound) (high_allowed value)) (one_follows row s)
        (λ b p. ok_chain (λ implied. IfSome implied (HighFollows lent box column whole)) IsHigh (implied_high column whole (value_at row.coefficients column) b) (high_allowed value) (high_follows row b p) high_answer))

    to_low : (r : Result ℚ CutFault) → IfOk r IsLow → OnOk r (LowFollows lent box column whole value)
    to_low (Ok a) h = h.follows
    to_low (Err fault) h = tt

    to_high : (r : Result ℚ CutFault) → IfOk r IsHigh → OnOk r (HighFollows lent box column whole value)
    to_high (Ok a) h = h.follows
    to_high (Err fault) h = tt

    pub low_on_ok : (result : Result ℚ CutFault) → result ≡ low_reduced lent whole box columns column value combo → OnOk result (LowFollows lent box column whole value)
    low_on_ok result e = to_low result (subst (λ o. IfOk o IsLow) (sym e) low_reduced_follows)

    pub high_on_ok : (result : Result ℚ CutFault) → result ≡ high_reduced lent whole box columns column value combo → OnOk result (HighFollows lent box column whole value)
    high_on_ok result e = to_high result (subst (λ o. IfOk o IsHigh) (sym e) high_reduced_follows)
