-- Multipliers of the master program show what costs come to at least.
use Rattle.std.proofs.Common.{◌≡◌, ℕ, zero, suc, ◌+◌, Bool, true, false, cond, List, [], ◌∷◌, ◌++◌, length, map, take, drop, Option, None, Some, IfSome, refl, sym, ap, ap₂, ◌∙◌, subst, arith}
use Rattle.std.specs.List.{AllZip, AllByRecursion}
use Rattle.std.proofs.lemmas.Option.{none-some, same_Some}
use Rattle.std.proofs.lemmas.List.{length-map, length-append, length-take-le, length-drop, take-append-drop, take_at, drop_at, map-append}
use Rattle.std.proofs.lemmas.Slice.Zip.{AllZip-long}
use Rattle.cip_rational.specs.Rational.{ℚ, ◌+ℚ◌, ◌-ℚ◌, ◌*ℚ◌, negate, zeroℚ, oneℚ, ◌≤ℚ◌, lt_test}
use Rattle.cip_rational.specs.Sums.{dot, scale_list, add_lists}
use Rattle.cip_rational.proofs.Sums.{dot-nil, dot-append, dot-add_left, dot-scale_left}
use Rattle.cip_rational.proofs.Rational.Ring.{+ℚ-zero, zero-+ℚ, zero-*ℚ, *ℚ-one, +ℚ_assoc}
use Rattle.cip_rational.proofs.Rational.Order.{≤ℚ_refl, ≤ℚ_of_lt, ≤ℚ_of_eq, ≤ℚ_antisymm, lt_of_test, le_of_lt_test}
use Rattle.cip_rational.proofs.Rational.Monotone.{+ℚ_mono, *ℚ_mono}
use Rattle.cip_rational.proofs.Rational.Inverse.{*ℚ_antitone}
use Rattle.cip_rational.proofs.Linear.{linear_same, linear_le}
use Rattle.cip_problem.specs.Program.{Sides, Row, Program}
use Rattle.cip_problem.specs.Activity.{activity, value_at}
use Rattle.cip_problem.specs.Box.{Between, IsInBox}
use Rattle.cip_problem.specs.BoxBound.{sum_if_both, product_at}
use Rattle.cip_problem.specs.LinearProgram.{LinearProgram}
use Rattle.cip_problem.specs.Multipliers.{OnVariables, paired, activities, IsUsed, AllUsed, row_sides, UsesSides, SumsTo}
use Rattle.cip_problem.proofs.Aggregates.{same_form}
use Rattle.cip_pricing.specs.Decomposition.{Owner, Decomposition, picked, master_rows}
use Rattle.cip_pricing.specs.Mixtures.{Held, total}
use Rattle.cip_pricing.specs.LeastCosts.{side_total, row_total, AreRests, sum_below, price_total, ShowsLeast}
use Rattle.cip_pricing.specs.MasterForms.{master_form, weight_sides, master_box, reduced_cost, reduced_costs}
use Rattle.cip_pricing.proofs.Picked.{length_picked}
use Rattle.cip_pricing.proofs.Masters.{master_shows, scale-long, add-long}
use Rattle.cip_pricing.specs.MasterPrograms.{IsMasterRow, AreSumRows, IsMasterProgram}
use Rattle.cip_pricing.proofs.Spread.{unmixed, dot-master_form}
use Rattle.cip_pricing.proofs.Sums.{masters_total, price_from, sums_total}

-- ---- what is left of the costs

-- there is what multipliers leave of the costs
record HasRests (columns : ℕ) (costs ys : List ℚ) (rows : List Row) : Type 0 where
  pub rests : List ℚ
  pub are : AreRests columns costs ys rows rests

all_left : (columns : ℕ) (costs ys : List ℚ) (rows : List Row) → length costs ≡ columns
    → ((point : List ℚ) → row_total ys rows point ≡ zeroℚ) → HasRests columns costs ys rows
all_left columns costs ys rows e f = record {
  rests = costs;
  are = record { long = e; form = λ point. step point (f point) };
}
  where
    step : (point : List ℚ) → row_total ys rows point ≡ zeroℚ
        → dot costs point ≡ dot costs point -ℚ row_total ys rows point
    step point g = linear_same (dot costs point ∷ row_total ys rows point ∷ []) (λ s w. omega (arith, s.same_out))

less_left : (columns : ℕ) (costs : List ℚ) (y : ℚ) (ys : List ℚ) (row : Row) (rows : List Row) (form : List ℚ)
    → length form ≡ columns → ((point : List ℚ) → dot form point ≡ activity row.terms point)
    → HasRests columns costs ys rows → HasRests columns costs (y ∷ ys) (row ∷ rows)
less_left columns costs y ys row rows form l f h = record {
  rests = add_lists h.rests (scale_list (negate y) form);
  are = record {
    long = add-long columns h.rests (scale_list (negate y) form) h.are.long (scale-long (negate y) form ∙ l);
    form = λ point.
        step point (dot-add_left h.rests (scale_list (negate y) form) point)
        (dot-scale_left (negate y) form point ∙ ap (λ t. negate y *ℚ t) (f point)) (h.are.form point);
  };
}
  where
    step : (point : List ℚ)
        → dot (add_lists h.rests (scale_list (negate y) form)) point
        ≡ dot h.rests point +ℚ dot (scale_list (negate y) form) point
        → dot (scale_list (negate y) form) point ≡ negate y *ℚ activity row.terms point
        → dot h.rests point ≡ dot costs point -ℚ row_total ys rows point
        → dot (add_lists h.rests (scale_list (negate y) form)) point
        ≡ dot costs point -ℚ (y *ℚ activity row.terms point +ℚ row_total ys rows point)
    step point a b c =
        linear_same
        (dot (add_lists h.rests (scale_list (negate y) form)) point ∷ dot h.rests point
        ∷ dot (scale_list (negate y) form) point ∷ dot costs point ∷ row_total ys rows point
        ∷ (y *ℚ activity row.terms point) ∷ [])
        (λ s w. let q = s.products tt in omega (arith, s.same_out))

rests_there : (columns : ℕ) (owners : List Owner) (held : List Held) (costs ys : List ℚ) (rows owns : List Row)
    → length costs ≡ columns → AllZip (IsMasterRow columns owners held) rows owns → HasRests columns costs ys rows
rests_there columns owners held costs [] rows owns e a = all_left columns costs [] rows e (λ point. refl)
rests_there columns owners held costs (y ∷ ys) [] owns e a =
    all_left columns costs (y ∷ ys) [] e (λ point. refl)
rests_there columns owners held costs (y ∷ ys) (r ∷ rs) [] e a = absurd a
rests_there columns owners held costs (y ∷ ys) (r ∷ rs) (o ∷ os) e a =
    less_left columns costs y ys r rs a.0.form a.0.long a.0.is_form
    (rests_there columns owners held costs ys rs os e a.1)

-- ---- sides

-- the product of a multiplier and the side that it uses
used_product : (y u : ℚ) (row : Row) (sides : Sides) (t v : Bool) → lt_test zeroℚ y ≡ t → lt_test y zeroℚ ≡ v
    → IsUsed y sides u → sides.low ≡ row.low → sides.high ≡ row.high
    → cond t (product_at y row.low) (cond v (product_at y row.high) (Some zeroℚ)) ≡ Some (y *ℚ u)
used_product y u row sides true v p n h e f = ap (product_at y) (sym e ∙ h.low (lt_of_test p))
used_product y u row sides false true p n h e f = ap (product_at y) (sym f ∙ h.high (lt_of_test n))
used_product y u row sides false false p n h e f =
    let none : y ≡ zeroℚ = ≤ℚ_antisymm (le_of_lt_test p) (le_of_lt_test n) in
    ap (λ t. Some t) (sym (ap (λ t. t *ℚ u) none ∙ zero-*ℚ u))

sides_there : (columns : ℕ) (owners : List Owner) (held : List Held) (ys us : List ℚ) (rows owns : List Row)
    → AllZip (IsMasterRow columns owners held) rows owns → AllUsed ys (map row_sides owns) us
    → side_total ys rows ≡ Some (dot ys us)
sides_there columns owners held [] us rows owns a h = refl
sides_there columns owners held (y ∷ ys) us [] [] a h = absurd h
sides_there columns owners held (y ∷ ys) us [] (o ∷ os) a h = absurd a
sides_there columns owners held (y ∷ ys) us (r ∷ rs) [] a h = absurd a
sides_there columns owners held (y ∷ ys) [] (r ∷ rs) (o ∷ os) a h = absurd h
sides_there columns owners held (y ∷ ys) (u ∷ us) (r ∷ rs) (o ∷ os) a h =
    ap₂ sum_if_both
    (used_product y u r (row_sides o) (lt_test zeroℚ y) (lt_test y zeroℚ) refl refl h.0 a.0.low a.0.high)
    (sides_there columns owners held ys us rs os a.1 h.1)

-- the side of a row of sums is 1
one_used : (y u : ℚ) (own : Row) (t v : Bool) → lt_test zeroℚ y ≡ t → lt_test y zeroℚ ≡ v → IsUsed y (row_sides own) u
    → own.low ≡ Some oneℚ → own.high ≡ Some oneℚ → y *ℚ u ≡ y
one_used y u own true v p n h e f =
    ap (λ t. y *ℚ t) (same_Some u oneℚ (sym (h.low (lt_of_test p)) ∙ e)) ∙ *ℚ-one y
one_used y u own false true p n h e f =
    ap (λ t. y *ℚ t) (same_Some u oneℚ (sym (h.high (lt_of_test n)) ∙ f)) ∙ *ℚ-one y
one_used y u own false false p n h e f =
    let none : y ≡ zeroℚ = ≤ℚ_antisymm (le_of_lt_test p) (le_of_lt_test n) in
    ap (λ t. t *ℚ u) none ∙ zero-*ℚ u ∙ sym none

prices_there : (free first : ℕ) (held : List Held) (ps us : List ℚ) (owns : List Row)
    → AreSumRows free first held owns → AllUsed ps (map row_sides owns) us → dot ps us ≡ total ps
prices_there free first held [] us owns a h = refl
prices_there free first held (p ∷ ps) us [] a h = absurd h
prices_there free first held (p ∷ ps) [] (o ∷ os) a h = absurd h
prices_there free first held (p ∷ ps) (u ∷ us) (o ∷ os) a h =
    ap₂ (λ s t. s +ℚ t)
    (one_used p u o (lt_test zeroℚ p) (lt_test p zeroℚ) refl refl h.0 a.0.low a.0.high)
    (prices_there free (suc first) held ps us os a.1 h.1)

pub shift_sum : (n : ℕ) (f : ℕ → ℚ) → sum_below (suc n) f ≡ f 0 +ℚ sum_below n (λ k. f (suc k))
shift_sum zero f = zero-+ℚ (f 0) ∙ sym (+ℚ-zero (f 0))
shift_sum (suc n) f =
    ap (λ t. t +ℚ f (suc n)) (shift_sum n f) ∙ +ℚ_assoc (f 0) (sum_below n (λ k. f (suc k))) (f (suc n))

pub sum_total : (prices : List ℚ) → sum_below (length prices) (value_at prices) ≡ total prices
sum_total [] = refl
sum_total (p ∷ ps) = shift_sum (length ps) (value_at (p ∷ ps)) ∙ ap (λ t. p +ℚ t) (sum_total ps)

-- ---- columns

-- a multiplier times the side that it uses is at most its product with a value between the sides
used_low : (y u v : ℚ) (sides : Sides) (t n : Bool) → lt_test zeroℚ y ≡ t → lt_test y zeroℚ ≡ n → IsUsed y sides u
    → Between sides.low sides.high v → y *ℚ u ≤ℚ y *ℚ v
used_low y u v sides true n p q h b =
    *ℚ_mono u v y (≤ℚ_of_lt (lt_of_test p))
    (subst (λ (o : Option ℚ). IfSome o (λ (side : ℚ). side ≤ℚ v)) (h.low (lt_of_test p)) b.above)
used_low y u v sides false true p q h b =
    *ℚ_antitone v u y (≤ℚ_of_lt (lt_of_test q))
    (subst (λ (o : Option ℚ). IfSome o (λ (side : ℚ). v ≤ℚ side)) (h.high (lt_of_test q)) b.below)
used_low y u v sides false false p q h b =
    let none : y ≡ zeroℚ = ≤ℚ_antisymm (le_of_lt_test p) (le_of_lt_test q) in
    ≤ℚ_of_eq (ap (λ t. t *ℚ u) none ∙ zero-*ℚ u ∙ sym (ap (λ t. t *ℚ v) none ∙ zero-*ℚ v))

all_used_low : (ys us vs : List ℚ) (box : List Sides) → AllUsed ys box us → IsInBox box vs → dot ys us ≤ℚ dot ys vs
all_used_low [] us vs box h b = ≤ℚ_refl zeroℚ
all_used_low (y ∷ ys) us vs [] h b = absurd h
all_used_low (y ∷ ys) [] vs (s ∷ ss) h b = absurd h
all_used_low (y ∷ ys) (u ∷ us) [] (s ∷ ss) h b = absurd b
all_used_low (y ∷ ys) (u ∷ us) (v ∷ vs) (s ∷ ss) h b =
    +ℚ_mono (used_low y u v s (lt_test zeroℚ y) (lt_test y zeroℚ) refl refl h.0 b.0)
    (all_used_low ys us vs ss h.1 b.1)

-- the multiplier of a weight isn't below 0
weight_low : (y u : ℚ) (t : Bool) → lt_test y zeroℚ ≡ t → IsUsed y weight_sides u → zeroℚ ≤ℚ y
weight_low y u true e h = absurd (none-some u (h.high (lt_of_test e)))
weight_low y u false e h = le_of_lt_test e

all_weights_low : (reduced : Held → ℚ) (held : List Held) (us : List ℚ)
    → AllUsed (map reduced held) (map (λ (h : Held). weight_sides) held) us
    → AllByRecursion (λ (h : Held). zeroℚ ≤ℚ reduced h) held
all_weights_low reduced [] us h = tt
all_weights_low reduced (g ∷ hs) [] h = absurd h
all_weights_low reduced (g ∷ hs) (u ∷ us) h =
    (weight_low (reduced g) u (lt_test (reduced g) zeroℚ) refl h.0, all_weights_low reduced hs us h.1)

-- the last of used ones, behind as many sides as there are first ones
last_used : (first second us : List ℚ) (box : List Sides) (held : List Held) → length first ≡ length box
    → AllUsed (first ++ second) (box ++ map (λ (h : Held). weight_sides) held) us
    → AllUsed second (map (λ (h : Held). weight_sides) held) (drop (length first) us)
last_used [] second us [] held e h = h
last_used [] second us (s ∷ ss) held e h = absurd (omega (arith, e))
last_used (y ∷ ys) second us [] held e h = absurd (omega (arith, e))
last_used (y ∷ ys) second [] (s ∷ ss) held e h = absurd h
last_used (y ∷ ys) second (u ∷ us) (s ∷ ss) held e h = last_used ys second us ss held (omega (arith, e)) h.1

used_long : (ys us : List ℚ) (box : List Sides) → AllUsed ys box us → length ys ≡ length box
used_long [] [] [] h = refl
used_long [] us (s ∷ ss) h = absurd (no us h)
  where
    no : (us : List ℚ) → AllUsed [] (s ∷ ss) us → ⊥
    no [] h = h
    no (u ∷ us) h = h
used_long [] (u ∷ us) [] h = absurd h
used_long (y ∷ ys) us [] h = absurd h
used_long (y ∷ ys) [] (s ∷ ss) h = absurd h
used_long (y ∷ ys) (u ∷ us) (s ∷ ss) h = ap suc (used_long ys us ss h.1)

-- ---- lists in two parts

dot_parted : (n : ℕ) (xs us : List ℚ) → dot xs us ≡ dot (take n xs) (take n us) +ℚ dot (drop n xs) (drop n us)
dot_parted zero xs us = sym (zero-+ℚ (dot xs us))
dot_parted (suc n) [] us = sym (+ℚ-zero zeroℚ)
dot_parted (suc n) (x ∷ xs) [] =
    sym (ap (λ t. zeroℚ +ℚ t) (dot-nil (drop n xs)) ∙ +ℚ-zero zeroℚ)
dot_parted (suc n) (x ∷ xs) (u ∷ us) =
    ap (λ t. x *ℚ u +ℚ t) (dot_parted n xs us)
    ∙ sym (+ℚ_assoc (x *ℚ u) (dot (take n xs) (take n us)) (dot (drop n xs) (drop n us)))

front_used : (ys us : List ℚ) (first second : List Sides) → AllUsed ys (first ++ second) us
    → AllUsed (take (length first) ys) first (take (length first) us)
front_used ys us [] second h = tt
front_used [] us (s ∷ ss) second h = absurd (none us h)
  where
    none : (us : List ℚ) → AllUsed [] (s ∷ (ss ++ second)) us → ⊥
    none [] h = h
    none (u ∷ us) h = h
front_used (y ∷ ys) [] (s ∷ ss) second h = absurd h
front_used (y ∷ ys) (u ∷ us) (s ∷ ss) second h = (h.0, front_used ys us ss second h.1)

rest_used : (ys us : List ℚ) (first second : List Sides) → AllUsed ys (first ++ second) us
    → AllUsed (drop (length first) ys) second (drop (length first) us)
rest_used ys us [] second h = h
rest_used [] us (s ∷ ss) second h = absurd (none us h)
  where
    none : (us : List ℚ) → AllUsed [] (s ∷ (ss ++ second)) us → ⊥
    none [] h = h
    none (u ∷ us) h = h
rest_used (y ∷ ys) [] (s ∷ ss) second h = absurd h
rest_used (y ∷ ys) (u ∷ us) (s ∷ ss) second h = rest_used ys us ss second h.1

-- ---- reduced costs

difference_sum : (f g : Held → ℚ) (held : List Held) (weights : List ℚ)
    → dot (map (λ (h : Held). f h -ℚ g h) held) weights ≡ dot (map f held) weights -ℚ dot (map g held) weights
difference_sum f g [] weights = linear_same (zeroℚ ∷ []) (λ s w. omega arith)
difference_sum f g (h ∷ hs) [] = linear_same (zeroℚ ∷ []) (λ s w. omega arith)
difference_sum f g (h ∷ hs) (w ∷ ws) =
    let e = difference_sum f g hs ws in
    linear_same
    ((f h *ℚ w) ∷ (g h *ℚ w) ∷ dot (map f hs) ws ∷ dot (map g hs) ws ∷ dot (map (λ (h : Held). f h -ℚ g h) hs) ws
    ∷ [])
    (λ s z. let q = s.products tt in omega (arith, s.same_out))

reduced_sum : (owners : List Owner) (rests prices : List ℚ) (held : List Held) (values weights : List ℚ)
    → length (picked None owners rests) ≡ length values
    → dot (reduced_costs owners rests prices held) (values ++ weights)
    ≡ dot (master_form owners rests held) (values ++ weights) -ℚ dot (map (price_from 0 prices) held) weights
reduced_sum owners rests prices held values weights e =
    let form : Held → ℚ = λ h. dot (picked (Some h.block) owners rests) h.point in
    let a = dot-append (picked None owners rests) values (map (reduced_cost owners rests prices) held) weights e in
    let b = dot-append (picked None owners rests) values (map form held) weights e in
    let c = difference_sum form (price_from 0 prices) held weights in
    step (dot (picked None owners rests) values) (dot (map form held) weights)
    (dot (map (price_from 0 prices) held) weights) (dot (map (reduced_cost owners rests prices) held) weights)
    (dot (reduced_costs owners rests prices held) (values ++ weights))
    (dot (master_form owners rests held) (values ++ weights)) a b c
  where
    step : (free forms prices reduced left right : ℚ) → left ≡ free +ℚ reduced → right ≡ free +ℚ forms
        → reduced ≡ forms -ℚ prices → left ≡ right -ℚ prices
    step free forms prices reduced left right a b c =
        linear_same (free ∷ forms ∷ prices ∷ reduced ∷ left ∷ right ∷ []) (λ s w. omega (arith, s.same_out))

-- ---- the whole

module _ (program : Program) (blocks : Decomposition) (box : List Sides) (held : List Held) (lp : LinearProgram)
    (costs : List ℚ) (y u : OnVariables) (wide : length box ≡ length blocks.columns)
    (each : length costs ≡ length blocks.columns) (m : IsMasterProgram program blocks box held lp)
    (uses : UsesSides lp y u) (sums : SumsTo lp y (master_form blocks.columns costs held)) where
  abbrev ys : List ℚ
  ys = take (length (master_rows program blocks)) y.rows

  abbrev ps : List ℚ
  ps = drop (length (master_rows program blocks)) y.rows

  masters_long : length m.masters ≡ length (master_rows program blocks)
  masters_long =
      AllZip-long (IsMasterRow (length blocks.columns) blocks.columns held) (master_rows program blocks) m.masters
      m.are_masters

  rows_used : AllUsed y.rows (map row_sides m.masters ++ map row_sides m.sums) u.rows
  rows_used =
      subst (λ (ss : List Sides). AllUsed y.rows ss u.rows)
      (ap (map row_sides) m.rows ∙ map-append row_sides m.masters m.sums) uses.rows

  count_is : length (map row_sides m.masters) ≡ length (master_rows program blocks)
  count_is = length-map m.masters row_sides ∙ masters_long

  front : AllUsed ys (map row_sides m.masters) (take (length (master_rows program blocks)) u.rows)
  front =
      subst (λ n. AllUsed (take n y.rows) (map row_sides m.masters) (take n u.rows)) count_is
      (front_used y.rows u.rows (map row_sides m.masters) (map row_sides m.sums) rows_used)

  back : AllUsed ps (map row_sides m.sums) (drop (length (master_rows program blocks)) u.rows)
  back =
      subst (λ n. AllUsed (drop n y.rows) (map row_sides m.sums) (drop n u.rows)) count_is
      (rest_used y.rows u.rows (map row_sides m.masters) (map row_sides m.sums) rows_used)

  prices_long : length ps ≡ length m.sums
  prices_long =
      used_long ps (drop (length (master_rows program blocks)) u.rows) (map row_sides m.sums) back
      ∙ length-map m.sums row_sides

  -- the sides of the rows
  rows_sum : dot y.rows u.rows
      ≡ dot ys (take (length (master_rows program blocks)) u.rows) +ℚ price_total blocks ps
  rows_sum =
      dot_parted (length (master_rows program blocks)) y.rows u.rows
      ∙ ap (λ t. dot ys (take (length (master_rows program blocks)) u.rows) +ℚ t)
      (prices_there (length (picked None blocks.columns box)) 0 held ps
      (drop (length (master_rows program blocks)) u.rows) m.sums m.are_sums back
      ∙ sym (sum_total ps) ∙ ap (λ n. sum_below n (value_at ps)) (prices_long ∙ m.count))

  left : HasRests (length blocks.columns) costs ys (master_rows program blocks)
  left =
      rests_there (length blocks.columns) blocks.columns held costs ys (master_rows program blocks) m.masters each
      m.are_masters

  free_long : (form : List ℚ) → length form ≡ length blocks.columns
      → length (picked None blocks.columns form) ≡ length (picked None blocks.columns box)
  free_long form e = length_picked None blocks.columns form box (e ∙ sym wide)

  activities_parted : (point : List ℚ)
      → dot y.rows (activities lp.rows point) ≡ dot ys (activities m.masters point) +ℚ dot ps (activities m.sums point)
  activities_parted point =
      let acts : List ℚ = activities m.masters point in
      let n : length acts ≡ length (master_rows program blocks) =
      length-map m.masters (λ (row : Row). activity row.terms point) ∙ masters_long in
      ap (λ (rows : List Row). dot y.rows (activities rows point)) m.rows
      ∙ ap (dot y.rows) (map-append (λ (row : Row). activity row.terms point) m.masters m.sums)
      ∙ dot_parted (length (master_rows program blocks)) y.rows (acts ++ activities m.sums point)
      ∙ ap₂ (λ a b. dot ys a +ℚ dot ps b)
      (take_at acts (activities m.sums point) (length (master_rows program blocks)) n)
      (drop_at acts (activities m.sums point) (length (master_rows program blocks)) n)

  added : (columns rows costs total prices rests form reduced masters sums : ℚ) → columns +ℚ rows ≡ form
      → rows ≡ masters +ℚ sums → masters ≡ total → sums ≡ prices → form ≡ costs → rests ≡ costs -ℚ total
      → reduced ≡ rests -ℚ prices → columns ≡ reduced
  added columns rows costs total prices rests form reduced masters sums a b c d e f g =
      linear_same (columns ∷ rows ∷ costs ∷ total ∷ prices ∷ rests ∷ form ∷ reduced ∷ masters ∷ sums ∷ [])
      (λ s w. omega (arith, s.same_out))

  -- at values and weights the columns' multipliers have the sum of the reduced costs
  columns_at : (values weights : List ℚ) → length values ≡ length (picked None blocks.columns box)
      → length weights ≡ length held
      → dot y.columns (values ++ weights) ≡ dot (reduced_costs blocks.columns left.rests ps held) (values ++ weights)
  columns_at values weights e f =
      let x : List ℚ = unmixed blocks.columns held values weights in
      let long : length (values ++ weights) ≡ length lp.bounds =
      (let a = length-append values weights in
      let b : length lp.bounds ≡ length (picked None blocks.columns box) + length held =
      ap (λ (ss : List Sides). length ss) m.bounds
      ∙ length-append (picked None blocks.columns box) (map (λ (h : Held). weight_sides) held)
      ∙ ap (λ n. length (picked None blocks.columns box) + n) (length-map held (λ (h : Held). weight_sides)) in
      omega (arith, a, b, e, f)) in
      added (dot y.columns (values ++ weights)) (dot y.rows (activities lp.rows (values ++ weights))) (dot costs x)
      (row_total ys (master_rows program blocks) x) (dot (map (price_from 0 ps) held) weights)
      (dot (master_form blocks.columns left.rests held) (values ++ weights))
      (dot (master_form blocks.columns costs held) (values ++ weights))
      (dot (reduced_costs blocks.columns left.rests ps held) (values ++ weights))
      (dot ys (activities m.masters (values ++ weights))) (dot ps (activities m.sums (values ++ weights)))
      (sums (values ++ weights) long)
      (activities_parted (values ++ weights))
      (masters_total (length blocks.columns) blocks.columns box held ys (master_rows program blocks) m.masters values
      weights wide e m.are_masters)
      (sums_total (length (picked None blocks.columns box)) 0 held ps m.sums values weights e prices_long m.are_sums)
      (dot-master_form blocks.columns costs held values weights (free_long costs each ∙ sym e))
      (dot-master_form blocks.columns left.rests held values weights (free_long left.rests left.are.long ∙ sym e)
      ∙ left.are.form x)
      (reduced_sum blocks.columns left.rests ps held values weights (free_long left.rests left.are.long ∙ sym e))

  columns_long : length y.columns ≡ length (picked None blocks.columns box) + length held
  columns_long =
      used_long y.columns u.columns lp.bounds uses.columns
      ∙ ap (λ (ss : List Sides). length ss) m.bounds
      ∙ length-append (picked None blocks.columns box) (map (λ (h : Held). weight_sides) held)
      ∙ ap (λ n. length (picked None blocks.columns box) + n) (length-map held (λ (h : Held). weight_sides))

  reduced_long : length (reduced_costs blocks.columns left.rests ps held)
      ≡ length (picked None blocks.columns box) + length held
  reduced_long =
      length-append (picked None blocks.columns left.rests) (map (reduced_cost blocks.columns left.rests ps) held)
      ∙ ap₂ (λ a b. a + b) (free_long left.rests left.are.long)
      (length-map held (reduced_cost blocks.columns left.rests ps))

  columns_are : y.columns ≡ reduced_costs blocks.columns left.rests ps held
  columns_are =
      same_form y.columns (reduced_costs blocks.columns left.rests ps held) (columns_long ∙ sym reduced_long) parted
    where
      parted : (xs : List ℚ) → length xs ≡ length y.columns
          → dot y.columns xs ≡ dot (reduced_costs blocks.columns left.rests ps held) xs
      parted xs e =
          let n : ℕ = length (picked None blocks.columns box) in
          let front_long : length (take n xs) ≡ n = length-take-le n xs (omega (arith, e, columns_long)) in
          let rest_long : length (drop n xs) ≡ length held =
          (let a = length-drop n xs in omega (arith, a, e, columns_long)) in
          subst (λ (zs : List ℚ). dot y.columns zs ≡ dot (reduced_costs blocks.columns left.rests ps held) zs)
          (take-append-drop n xs) (columns_at (take n xs) (drop n xs) front_long rest_long)

  reduced_low : AllByRecursion (λ (h : Held). zeroℚ ≤ℚ reduced_cost blocks.columns left.rests ps h) held
  reduced_low =
      all_weights_low (reduced_cost blocks.columns left.rests ps) held
      (drop (length (picked None blocks.columns left.rests)) u.columns)
      (last_used (picked None blocks.columns left.rests)
      (map (reduced_cost blocks.columns left.rests ps) held) u.columns
      (picked None blocks.columns box) held (free_long left.rests left.are.long)
      (subst (λ (zs : List ℚ). AllUsed zs (master_box blocks.columns box held) u.columns) columns_are
      (subst (λ (ss : List Sides). AllUsed y.columns ss u.columns) m.bounds uses.columns)))

  total_low : (columns used rows sides prices point : ℚ) → used ≤ℚ columns → columns ≡ point
      → rows ≡ sides +ℚ prices → used +ℚ rows ≤ℚ (sides +ℚ prices) +ℚ point
  total_low columns used rows sides prices point a b c =
      linear_le (columns ∷ used ∷ rows ∷ sides ∷ prices ∷ point ∷ []) (λ s w. omega (arith, s.le_out, s.same_out))

  bound : (point : List ℚ) → IsInBox (master_box blocks.columns box held) point
      → paired y u
      ≤ℚ (dot ys (take (length (master_rows program blocks)) u.rows) +ℚ price_total blocks ps)
      +ℚ dot (reduced_costs blocks.columns left.rests ps held) point
  bound point w =
      total_low (dot y.columns point) (dot y.columns u.columns) (dot y.rows u.rows)
      (dot ys (take (length (master_rows program blocks)) u.rows)) (price_total blocks ps)
      (dot (reduced_costs blocks.columns left.rests ps held) point)
      (all_used_low y.columns u.columns point lp.bounds uses.columns
      (subst (λ (ss : List Sides). IsInBox ss point) (sym m.bounds) w))
      (ap (λ (zs : List ℚ). dot zs point) columns_are)
      rows_sum

  pub shown : ShowsLeast program blocks box (Some held) costs ys ps (paired y u)
  shown =
      master_shows program blocks box held costs ys left.rests ps
      (dot ys (take (length (master_rows program blocks)) u.rows)) (paired y u) wide left.are
      (sides_there (length blocks.columns) blocks.columns held ys (take (length (master_rows program blocks)) u.rows)
      (master_rows program blocks) m.masters m.are_masters front)
      reduced_low bound
