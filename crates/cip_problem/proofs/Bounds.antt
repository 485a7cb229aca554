-- What an inequality implies in a box: at each point of it, and in boxes inside it.
use Rattle.std.proofs.Common.{◌≡◌, ℕ, zero, suc, ◌<◌, ◌≤◌, Bool, true, false, cond, List, [], ◌∷◌, length, Option, None, Some, IfSome, refl, sym, ap, ap₂, subst, arith, true≢false}
use Rattle.std.proofs.lemmas.Bool.{and_parts}
use Rattle.std.proofs.lemmas.Option.{none-some, same_Some}
use Rattle.cip_rational.specs.Rational.{ℚ, ◌+ℚ◌, ◌-ℚ◌, ◌*ℚ◌, negate, inverse, zeroℚ, ◌≤ℚ◌, ◌<ℚ◌, lt_test}
use Rattle.cip_rational.specs.Sums.{dot}
use Rattle.cip_rational.proofs.Rational.Ring.{+ℚ-zero, zero-+ℚ, zero-*ℚ, *ℚ-zero, negate-*ℚ}
use Rattle.cip_rational.proofs.Rational.Order.{≤ℚ_refl, ≤ℚ_of_lt, <ℚ_of_lt_of_le, lt_of_test, le_of_test, not_le_of_lt}
use Rattle.cip_rational.proofs.Rational.Monotone.{+ℚ_mono, *ℚ_mono}
use Rattle.cip_rational.proofs.Rational.Inverse.{*ℚ_antitone, divide_le, le_divide, inverse-negate}
use Rattle.cip_rational.proofs.Linear.{linear_le, linear_lt, linear_same}
use Rattle.cip_problem.specs.Program.{Sides}
use Rattle.cip_problem.specs.Activity.{value_at}
use Rattle.cip_problem.specs.Box.{Between, IsInBox, low_inside, high_inside, sides_inside, box_inside}
use Rattle.cip_problem.specs.BoxBound.{sum_if_both, product_at, least_cost, least_costs}
use Rattle.cip_problem.proofs.BoxBound.BelowCosts.{least_costs_hold}
use Rattle.cip_problem.specs.Aggregate.{Inequality, Holds, differences, bound_of, BoundsBy, Empties, only, quotient_of, implied_sides}

-- ---- differences

pub dot_differences : (costs ds xs : List ℚ) → dot (differences costs ds) xs ≡ dot costs xs -ℚ dot ds xs
dot_differences costs [] xs = linear_same (dot costs xs ∷ []) (λ s w. omega arith)
dot_differences [] (d ∷ ds) [] = linear_same [] (λ s w. omega arith)
dot_differences [] (d ∷ ds) (x ∷ xs) =
    let e = dot_differences [] ds xs in
    linear_same ((d *ℚ x) ∷ dot ds xs ∷ dot (differences [] ds) xs ∷ []) (λ s w. let m = s.products tt in omega (arith, s.same_out))
dot_differences (c ∷ cs) (d ∷ ds) [] = linear_same [] (λ s w. omega arith)
dot_differences (c ∷ cs) (d ∷ ds) (x ∷ xs) =
    let e = dot_differences cs ds xs in
    linear_same ((c *ℚ x) ∷ (d *ℚ x) ∷ dot cs xs ∷ dot ds xs ∷ dot (differences cs ds) xs ∷ []) (λ s w. let m = s.products tt in omega (arith, s.same_out))

pub length-differences : (costs ds : List ℚ) (n : ℕ) → length ds ≡ n → length costs ≤ n → length (differences costs ds) ≡ n
length-differences costs [] n e h = omega (arith, e)
length-differences [] (d ∷ ds) zero e h = absurd (omega (arith, e))
length-differences (c ∷ cs) (d ∷ ds) zero e h = absurd (omega (arith, e))
length-differences [] (d ∷ ds) (suc n) e h = ap suc (length-differences [] ds n (omega (arith, e)) (omega arith))
length-differences (c ∷ cs) (d ∷ ds) (suc n) e h = ap suc (length-differences cs ds n (omega (arith, e)) (omega (arith, h)))

-- ---- weak duality

pub sum_holds : (a b y : ℚ) (c : Option ℚ) → sum_if_both (Some a) c ≡ Some b → ((q : ℚ) → c ≡ Some q → q ≤ℚ y) → b ≤ℚ a +ℚ y
sum_holds a b y None e f = absurd (none-some b e)
sum_holds a b y (Some q) e f = subst (λ t. t ≤ℚ a +ℚ y) (same_Some _ b e) (+ℚ_mono (≤ℚ_refl a) (f q refl))

pub bound_holds : (row : Inequality) (costs : List ℚ) (box : List Sides) (point : List ℚ) (b : ℚ) → length row.coefficients ≡ length box → length costs ≤ length box → IsInBox box point → Holds row point → bound_of row costs box ≡ Some b → b ≤ℚ dot costs point
bound_holds row costs box point b fits short within holds e =
    let rest = differences costs row.coefficients in
    let long : length rest ≡ length box = length-differences costs row.coefficients (length box) fits short in
    let h : b ≤ℚ row.least +ℚ dot rest point = sum_holds row.least b (dot rest point) (least_costs rest box) e (λ q k. least_costs_hold rest box point q long within k) in
    let k : row.least ≤ℚ dot row.coefficients point = holds in
    let d : dot rest point ≡ dot costs point -ℚ dot row.coefficients point = dot_differences costs row.coefficients point in
    linear_le (b ∷ row.least ∷ dot costs point ∷ dot row.coefficients point ∷ dot rest point ∷ []) (λ s w. omega (arith, s.le_out, s.same_out))

pub empty_holds : (row : Inequality) (box : List Sides) (point : List ℚ) → length row.coefficients ≡ length box → IsInBox box point → Empties row box → ¬ Holds row point
empty_holds row box point fits within h k =
    not_le_of_lt h.positive (bound_holds row [] box point h.bound fits (omega arith) within k h.is_bound)

-- ---- single columns

pub dot-only : (column : ℕ) (cost : ℚ) (xs : List ℚ) → dot (only column cost) xs ≡ cost *ℚ value_at xs column
dot-only zero cost [] = sym (*ℚ-zero cost)
dot-only zero cost (x ∷ xs) = +ℚ-zero (cost *ℚ x)
dot-only (suc column) cost [] = sym (*ℚ-zero cost)
dot-only (suc column) cost (x ∷ xs) = rw (zero-*ℚ x, dot-only column cost xs) (zero-+ℚ (cost *ℚ value_at xs column))

pub length-only : (column : ℕ) (cost : ℚ) → length (only column cost) ≡ suc column
length-only zero cost = refl
length-only (suc column) cost = ap suc (length-only column cost)

-- a quotient by a number below 0 turns the order
pub divide_negative : (b d v : ℚ) → d <ℚ zeroℚ → b ≤ℚ d *ℚ v → v ≤ℚ b *ℚ inverse d
divide_negative b d v h k =
    let p : zeroℚ <ℚ negate d = linear_lt (d ∷ []) (λ s w. omega (arith, s.lt_out)) in
    let e = negate-*ℚ d v in
    let m : negate d *ℚ v ≤ℚ negate b = linear_le (b ∷ (d *ℚ v) ∷ (negate d *ℚ v) ∷ []) (λ s w. omega (arith, s.le_out, s.same_out)) in
    let l : v ≤ℚ negate b *ℚ inverse (negate d) = le_divide (negate b) (negate d) v p m in
    let f : negate b *ℚ negate (inverse d) ≡ b *ℚ inverse d = linear_same ((b *ℚ inverse d) ∷ []) (λ s w. let n = s.products tt in omega arith) in
    subst (λ t. v ≤ℚ t) f (subst (λ t. v ≤ℚ negate b *ℚ t) (inverse-negate d) l)

low_implied : (d v : ℚ) (b : Option ℚ) (positive : Bool) → lt_test zeroℚ d ≡ positive → ((q : ℚ) → b ≡ Some q → q ≤ℚ d *ℚ v) → IfSome (cond positive (quotient_of b d) None) (λ side. side ≤ℚ v)
low_implied d v b false p f = tt
low_implied d v None true p f = tt
low_implied d v (Some q) true p f = divide_le q d v (lt_of_test p) (f q refl)

high_implied : (d v : ℚ) (b : Option ℚ) (negative : Bool) → lt_test d zeroℚ ≡ negative → ((q : ℚ) → b ≡ Some q → q ≤ℚ d *ℚ v) → IfSome (cond negative (quotient_of b d) None) (λ side. v ≤ℚ side)
high_implied d v b false p f = tt
high_implied d v None true p f = tt
high_implied d v (Some q) true p f = divide_negative q d v (lt_of_test p) (f q refl)

pub implied_hold : (row : Inequality) (box : List Sides) (point : List ℚ) (column : ℕ) → length row.coefficients ≡ length box → column < length box → IsInBox box point → Holds row point → Between (implied_sides row box column).low (implied_sides row box column).high (value_at point column)
implied_hold row box point column fits inside within holds =
    let d = value_at row.coefficients column in
    let v = value_at point column in
    let short : length (only column d) ≤ length box = omega (arith, length-only column d) in
    let f = λ (q : ℚ) (k : bound_of row (only column d) box ≡ Some q). subst (λ t. q ≤ℚ t) (dot-only column d point) (bound_holds row (only column d) box point q fits short within holds k) in
    record {
      above = low_implied d v (bound_of row (only column d) box) (lt_test zeroℚ d) refl f;
      below = high_implied d v (bound_of row (only column d) box) (lt_test d zeroℚ) refl f;
    }

-- ---- boxes inside others

-- a number is there, and is at least another
record Reaches (b : ℚ) (number : Option ℚ) : Type 0 where
  pub value : ℚ
  pub is_value : number ≡ Some value
  pub stronger : b ≤ℚ value

reaches_some : (a b : ℚ) → b ≤ℚ a → Reaches b (Some a)
reaches_some a b h = record { value = a; is_value = refl; stronger = h }

high_reaches : (cost b : ℚ) (own outer : Option ℚ) → cost <ℚ zeroℚ → high_inside own outer ≡ true → product_at cost outer ≡ Some b → Reaches b (product_at cost own)
high_reaches cost b own None n h e = absurd (none-some b e)
high_reaches cost b None (Some outer) n h e = absurd (true≢false (sym h))
high_reaches cost b (Some own) (Some outer) n h e =
    reaches_some (cost *ℚ own) b (subst (λ t. t ≤ℚ cost *ℚ own) (same_Some _ b e) (*ℚ_antitone own outer cost (≤ℚ_of_lt n) (le_of_test h)))

low_reaches : (cost b : ℚ) (own outer : Option ℚ) → zeroℚ <ℚ cost → low_inside own outer ≡ true → product_at cost outer ≡ Some b → Reaches b (product_at cost own)
low_reaches cost b own None n h e = absurd (none-some b e)
low_reaches cost b None (Some outer) n h e = absurd (true≢false (sym h))
low_reaches cost b (Some own) (Some outer) n h e =
    reaches_some (cost *ℚ own) b (subst (λ t. t ≤ℚ cost *ℚ own) (same_Some _ b e) (*ℚ_mono outer own cost (≤ℚ_of_lt n) (le_of_test h)))

column_reaches : (cost b : ℚ) (own outer : Sides) (negative positive : Bool) → lt_test cost zeroℚ ≡ negative → lt_test zeroℚ cost ≡ positive → low_inside own.low outer.low ≡ true → high_inside own.high outer.high ≡ true → cond negative (product_at cost outer.high) (cond positive (product_at cost outer.low) (Some zeroℚ)) ≡ Some b → Reaches b (cond negative (product_at cost own.high) (cond positive (product_at cost own.low) (Some zeroℚ)))
column_reaches cost b own outer true positive n p l h e = high_reaches cost b own.high outer.high (lt_of_test n) h e
column_reaches cost b own outer false true n p l h e = low_reaches cost b own.low outer.low (lt_of_test p) l e
column_reaches cost b own outer false false n p l h e = reaches_some zeroℚ b (subst (λ t. t ≤ℚ zeroℚ) (same_Some zeroℚ b e) (≤ℚ_refl zeroℚ))

sum_reaches : (b : ℚ) (a c d f : Option ℚ) → ((p : ℚ) → a ≡ Some p → Reaches p d) → ((q : ℚ) → c ≡ Some q → Reaches q f) → sum_if_both a c ≡ Some b → Reaches b (sum_if_both d f)
sum_reaches b None c d f g h e = absurd (none-some b e)
sum_reaches b (Some p) None d f g h e = absurd (none-some b e)
sum_reaches b (Some p) (Some q) d f g h e =
    let s = g p refl in
    let t = h q refl in
    record {
      value = s.value +ℚ t.value;
      is_value = ap₂ sum_if_both s.is_value t.is_value;
      stronger = subst (λ u. u ≤ℚ s.value +ℚ t.value) (same_Some _ b e) (+ℚ_mono s.stronger t.stronger);
    }

costs_reach : (costs : List ℚ) (inner outer : List Sides) (b : ℚ) → length inner ≡ length outer → box_inside inner outer ≡ true → least_costs costs outer ≡ Some b → Reaches b (least_costs costs inner)
costs_reach [] inner outer b l h e = reaches_some zeroℚ b (subst (λ t. t ≤ℚ zeroℚ) (same_Some zeroℚ b e) (≤ℚ_refl zeroℚ))
costs_reach (c ∷ cs) [] [] b l h e = reaches_some zeroℚ b (subst (λ t. t ≤ℚ zeroℚ) (same_Some zeroℚ b e) (≤ℚ_refl zeroℚ))
costs_reach (c ∷ cs) [] (o ∷ os) b l h e = absurd (omega (arith, l))
costs_reach (c ∷ cs) (i ∷ is) [] b l h e = absurd (omega (arith, l))
costs_reach (c ∷ cs) (i ∷ is) (o ∷ os) b l h e =
    let parts = and_parts (sides_inside i o) (box_inside is os) h in
    let sides = and_parts (low_inside i.low o.low) (high_inside i.high o.high) parts.0 in
    sum_reaches b (least_cost c o) (least_costs cs os) (least_cost c i) (least_costs cs is)
    (λ p k. column_reaches c p i o (lt_test c zeroℚ) (lt_test zeroℚ c) refl refl sides.0 sides.1 k)
    (λ q k. costs_reach cs is os q (omega (arith, l)) parts.1 k)
    e

pub inner_bound : (row : Inequality) (costs : List ℚ) (inner outer : List Sides) (b : ℚ) → length inner ≡ length outer → box_inside inner outer ≡ true → bound_of row costs outer ≡ Some b → BoundsBy row costs inner b
inner_bound row costs inner outer b l h e =
    let rest = differences costs row.coefficients in
    let r = sum_reaches b (Some row.least) (least_costs rest outer) (Some row.least) (least_costs rest inner) (λ p k. reaches_some row.least p (subst (λ t. t ≤ℚ row.least) (same_Some row.least p k) (≤ℚ_refl row.least))) (λ q k. costs_reach rest inner outer q l h k) e in
    record { bound = r.value; is_bound = r.is_value; stronger = r.stronger }

pub inner_empty : (row : Inequality) (inner outer : List Sides) → length inner ≡ length outer → box_inside inner outer ≡ true → Empties row outer → Empties row inner
inner_empty row inner outer l h k =
    let b = inner_bound row [] inner outer k.bound l h k.is_bound in
    record { bound = b.bound; is_bound = b.is_bound; positive = <ℚ_of_lt_of_le k.positive b.stronger }
