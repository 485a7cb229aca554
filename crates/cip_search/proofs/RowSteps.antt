-- Steps by what one row says, or two with equal terms.
use Rattle.std.proofs.Common.{◌≡◌, ◌⊎◌, ◌≢◌, ℕ, zero, suc, ◌<◌, Bool, true, false, List, [], ◌∷◌, length, Option, None, Some, IfSome, slice_get, refl, sym, ap, ◌∙◌, subst, arith, inl, inr}
use Rattle.std.specs.Prelude.{slice_set}
use Rattle.std.proofs.lemmas.Option.{none-some}
use Rattle.cip_rational.specs.Rational.{ℚ, ◌+ℚ◌, ◌-ℚ◌, ◌*ℚ◌, zeroℚ, negate, inverse, ◌≤ℚ◌, ◌<ℚ◌, lt_test, IsWhole}
use Rattle.cip_rational.specs.Sums.{dot}
use Rattle.cip_rational.proofs.Rational.Order.{≤ℚ_trans, ≤ℚ_of_lt, lt_of_test, le_of_lt_test, eq-or-lt, not_le_of_lt, ≤ℚ_antisymm}
use Rattle.cip_rational.proofs.Rational.Ring.{*ℚ-zero, *ℚ_comm, *ℚ_assoc, *ℚ-one, +ℚ-zero, zero-*ℚ, zero-+ℚ, negate-*ℚ, *ℚ-negate, negate_negate}
use Rattle.cip_rational.proofs.Rational.Monotone.{*ℚ_mono, negate_mono}
use Rattle.cip_rational.proofs.Rational.Inverse.{*ℚ-inverse, inverse-negate, le_divide, divide_le, *ℚ_antitone}
use Rattle.cip_rational.proofs.Linear.{linear_le, linear_lt, linear_same}
use Rattle.cip_problem.specs.Program.{Term, Sides, Row, Program, no_row}
use Rattle.cip_problem.specs.Activity.{value_at, activity}
use Rattle.cip_problem.specs.Box.{Between, IsInBox, sides_at, sides_inside}
use Rattle.cip_problem.specs.Points.{IsSatisfied, IsFeasible, cost_of}
use Rattle.cip_problem.proofs.Points.AtPlaces.{in_box_at, satisfied_at, whole_at}
use Rattle.cip_problem.proofs.Choices.Meeting.{between_both, between_met}
use Rattle.cip_problem.specs.Aggregate.{quotient_of}
use Rattle.cip_problem.proofs.Bounds.{divide_negative}
use Rattle.cip_problem.specs.Cuts.{IsCrossed}
use Rattle.cip_search.specs.NarrowedPrograms.{IsExactStep, IsInfeasible, with_row, with_sides, with_cost}
use Rattle.cip_search.specs.RowSteps.{HoldsInAll, HoldsNowhere, divided_sides, side_less, IsShifted, merged_row}
use Rattle.cip_search.proofs.Pairing.{exact_after}
use Rattle.cip_search.proofs.Replacing.{row_replaced, sides_replaced, cost_replaced}

-- ---- a row that always, or never, holds

no_row_holds : (point : List ℚ) → IsSatisfied no_row point
no_row_holds point = record { above = tt; below = tt }

pub dropped : (program : Program) (number : ℕ) (row : Row) → slice_get program.rows number ≡ Some row → HoldsInAll program.bounds row → IsExactStep program (with_row program number no_row)
dropped program number row e f = row_replaced program number row no_row e (λ x h. f x h.within) (λ y h. no_row_holds y)

pub broken : (program : Program) (number : ℕ) (row : Row) → slice_get program.rows number ≡ Some row → HoldsNowhere program.bounds row → IsInfeasible program
broken program number row e f y h = f y h.within (satisfied_at program.rows y number row h.rows e)

-- ---- a row that says of one column what its new sides say

in_sides : (box : List Sides) (column : ℕ) (sides : Sides) (x : List ℚ) → column < length box → IsInBox (slice_set box column sides) x → Between sides.low sides.high (value_at x column)
in_sides [] column sides x i h = absurd (omega (arith, i))
in_sides (s ∷ ss) zero sides [] i h = absurd h
in_sides (s ∷ ss) (suc column) sides [] i h = absurd h
in_sides (s ∷ ss) zero sides (v ∷ x) i h = h.0
in_sides (s ∷ ss) (suc column) sides (v ∷ x) i h = in_sides ss column sides x (omega (arith, i)) h.1

pub single_taken : (program : Program) (number : ℕ) (row : Row) (column : ℕ) (sides : Sides) → slice_get program.rows number ≡ Some row → column < length program.bounds → sides_inside sides (sides_at program.bounds column) ≡ true → ((point : List ℚ) → IsFeasible program point → Between sides.low sides.high (value_at point column)) → ((point : List ℚ) → Between sides.low sides.high (value_at point column) → IsSatisfied row point) → IsExactStep program (with_row (with_sides program column sides) number no_row)
single_taken program number row column sides e within inside f g =
    exact_after program (with_sides program column sides) (with_row (with_sides program column sides) number no_row)
    (sides_replaced program column sides inside f)
    (dropped (with_sides program column sides) number row e (λ x h. g x (in_sides program.bounds column sides x within h)))

-- ---- quotients

multiplied_back : (c b : ℚ) → ¬ (c ≡ zeroℚ) → c *ℚ (b *ℚ inverse c) ≡ b
multiplied_back c b n =
    ap (λ t. c *ℚ t) (*ℚ_comm b (inverse c)) ∙ sym (*ℚ_assoc c (inverse c) b) ∙ ap (λ t. t *ℚ b) (*ℚ-inverse c n) ∙ *ℚ_comm _ b ∙ *ℚ-one b

divide_negative_up : (b c v : ℚ) → c <ℚ zeroℚ → c *ℚ v ≤ℚ b → b *ℚ inverse c ≤ℚ v
divide_negative_up b c v n h =
    let p : zeroℚ <ℚ negate c = linear_neg c n in
    let k : negate b ≤ℚ negate c *ℚ v = subst (λ t. negate b ≤ℚ t) (sym (negate-*ℚ c v)) (negate_mono h) in
    let d : negate b *ℚ inverse (negate c) ≤ℚ v = divide_le (negate b) (negate c) v p k in
    let e : negate b *ℚ inverse (negate c) ≡ b *ℚ inverse c =
    ap (λ t. negate b *ℚ t) (inverse-negate c) ∙ negate-*ℚ b (negate (inverse c)) ∙ ap negate (*ℚ-negate b (inverse c)) ∙ negate_negate _ in
    subst (λ t. t ≤ℚ v) e d
  where
    linear_neg : (c : ℚ) → c <ℚ zeroℚ → zeroℚ <ℚ negate c
    linear_neg c n = linear_lt (c ∷ []) (λ s w. omega (arith, s.lt_out))

quotient_low : (c v : ℚ) (low : Option ℚ) → zeroℚ <ℚ c → IfSome low (λ side. side ≤ℚ c *ℚ v) → IfSome (quotient_of low c) (λ side. side ≤ℚ v)
quotient_low c v None p h = tt
quotient_low c v (Some low) p h = divide_le low c v p h

quotient_high : (c v : ℚ) (high : Option ℚ) → zeroℚ <ℚ c → IfSome high (λ side. c *ℚ v ≤ℚ side) → IfSome (quotient_of high c) (λ side. v ≤ℚ side)
quotient_high c v None p h = tt
quotient_high c v (Some high) p h = le_divide high c v p h

quotient_low_down : (c v : ℚ) (low : Option ℚ) → c <ℚ zeroℚ → IfSome low (λ side. side ≤ℚ c *ℚ v) → IfSome (quotient_of low c) (λ side. v ≤ℚ side)
quotient_low_down c v None p h = tt
quotient_low_down c v (Some low) p h = divide_negative low c v p h

quotient_high_down : (c v : ℚ) (high : Option ℚ) → c <ℚ zeroℚ → IfSome high (λ side. c *ℚ v ≤ℚ side) → IfSome (quotient_of high c) (λ side. side ≤ℚ v)
quotient_high_down c v None p h = tt
quotient_high_down c v (Some high) p h = divide_negative_up high c v p h

above_zero : (c : ℚ) → ¬ (c ≡ zeroℚ) → lt_test c zeroℚ ≡ false → zeroℚ <ℚ c
above_zero c n e = go (eq-or-lt (le_of_lt_test e))
  where
    go : (zeroℚ ≡ c) ⊎ (zeroℚ <ℚ c) → zeroℚ <ℚ c
    go (inl h) = absurd (n (sym h))
    go (inr h) = h

-- what lies between the divided sides, and what its product lies between
pub divided : (c v : ℚ) (low high : Option ℚ) → ¬ (c ≡ zeroℚ) → Between low high (c *ℚ v) → Between (divided_sides c low high).low (divided_sides c low high).high v
divided c v low high n h = go (lt_test c zeroℚ) refl
  where
    go : (t : Bool) → lt_test c zeroℚ ≡ t → Between (divided_sides c low high).low (divided_sides c low high).high v
    go true e = rw e (record { above = quotient_high_down c v high (lt_of_test e) h.below; below = quotient_low_down c v low (lt_of_test e) h.above })
    go false e = rw e (record { above = quotient_low c v low (above_zero c n e) h.above; below = quotient_high c v high (above_zero c n e) h.below })

product_above : (c v : ℚ) (low : Option ℚ) → ¬ (c ≡ zeroℚ) → zeroℚ ≤ℚ c → IfSome (quotient_of low c) (λ side. side ≤ℚ v) → IfSome low (λ side. side ≤ℚ c *ℚ v)
product_above c v None n p h = tt
product_above c v (Some low) n p h = subst (λ t. t ≤ℚ c *ℚ v) (multiplied_back c low n) (*ℚ_mono (low *ℚ inverse c) v c p h)

product_below : (c v : ℚ) (high : Option ℚ) → ¬ (c ≡ zeroℚ) → zeroℚ ≤ℚ c → IfSome (quotient_of high c) (λ side. v ≤ℚ side) → IfSome high (λ side. c *ℚ v ≤ℚ side)
product_below c v None n p h = tt
product_below c v (Some high) n p h = subst (λ t. c *ℚ v ≤ℚ t) (multiplied_back c high n) (*ℚ_mono v (high *ℚ inverse c) c p h)

product_above_down : (c v : ℚ) (low : Option ℚ) → ¬ (c ≡ zeroℚ) → c ≤ℚ zeroℚ → IfSome (quotient_of low c) (λ side. v ≤ℚ side) → IfSome low (λ side. side ≤ℚ c *ℚ v)
product_above_down c v None n p h = tt
product_above_down c v (Some low) n p h = subst (λ t. t ≤ℚ c *ℚ v) (multiplied_back c low n) (*ℚ_antitone v (low *ℚ inverse c) c p h)

product_below_down : (c v : ℚ) (high : Option ℚ) → ¬ (c ≡ zeroℚ) → c ≤ℚ zeroℚ → IfSome (quotient_of high c) (λ side. side ≤ℚ v) → IfSome high (λ side. c *ℚ v ≤ℚ side)
product_below_down c v None n p h = tt
product_below_down c v (Some high) n p h = subst (λ t. c *ℚ v ≤ℚ t) (multiplied_back c high n) (*ℚ_antitone (high *ℚ inverse c) v c p h)

pub multiplied : (c v : ℚ) (low high : Option ℚ) → ¬ (c ≡ zeroℚ) → Between (divided_sides c low high).low (divided_sides c low high).high v → Between low high (c *ℚ v)
multiplied c v low high n h = go (lt_test c zeroℚ) refl
  where
    go : (t : Bool) → lt_test c zeroℚ ≡ t → Between low high (c *ℚ v)
    go true e =
        let k : Between (quotient_of high c) (quotient_of low c) v = rw e at h in
        record { above = product_above_down c v low n (≤ℚ_of_lt (lt_of_test e)) k.below; below = product_below_down c v high n (≤ℚ_of_lt (lt_of_test e)) k.above }
    go false e =
        let k : Between (quotient_of low c) (quotient_of high c) v = rw e at h in
        record { above = product_above c v low n (le_of_lt_test e) k.above; below = product_below c v high n (le_of_lt_test e) k.below }

-- ---- two rows with equal terms

merged_holds : (row other : Row) (x : List ℚ) → row.terms ≡ other.terms → IsSatisfied row x → IsSatisfied other x → IsSatisfied (merged_row row other) x
merged_holds row other x e h k =
    between_met (record { low = row.low; high = row.high }) (record { low = other.low; high = other.high }) (activity row.terms x) h
    (subst (λ (ts : List Term). Between other.low other.high (activity ts x)) (sym e) k)

holds_merged : (row other : Row) (x : List ℚ) → row.terms ≡ other.terms → IsSatisfied (merged_row row other) x → IsSatisfied row x × IsSatisfied other x
holds_merged row other x e h =
    let b = between_both (record { low = row.low; high = row.high }) (record { low = other.low; high = other.high }) (activity row.terms x) h in
    (b.0, subst (λ (ts : List Term). Between other.low other.high (activity ts x)) e b.1)

pub get_other : (rows : List Row) (first second : ℕ) (new row : Row) → first ≢ second → slice_get rows second ≡ Some row → slice_get (slice_set rows first new) second ≡ Some row
get_other [] first second new row n e = e
get_other (r ∷ rs) zero zero new row n e = absurd (n refl)
get_other (r ∷ rs) zero (suc second) new row n e = e
get_other (r ∷ rs) (suc first) zero new row n e = e
get_other (r ∷ rs) (suc first) (suc second) new row n e = get_other rs first second new row (λ h. n (ap (λ k. suc k) h)) e

pub get_set : (rows : List Row) (number : ℕ) (old new : Row) → slice_get rows number ≡ Some old → slice_get (slice_set rows number new) number ≡ Some new
get_set [] number old new e = absurd (none-some old e)
get_set (r ∷ rs) zero old new e = refl
get_set (r ∷ rs) (suc number) old new e = get_set rs number old new e

pub merged : (program : Program) (first second : ℕ) (row other : Row) → first ≢ second → slice_get program.rows first ≡ Some row → slice_get program.rows second ≡ Some other → row.terms ≡ other.terms → IsExactStep program (with_row (with_row program first (merged_row row other)) second no_row)
merged program first second row other n e k t =
    exact_after program (with_row program first (merged_row row other)) (with_row (with_row program first (merged_row row other)) second no_row)
    (row_replaced program first row (merged_row row other) e
    (λ x h. (holds_merged row other x t (satisfied_at (slice_set program.rows first (merged_row row other)) x first (merged_row row other) h.rows (get_set program.rows first row (merged_row row other) e))).0)
    (λ y h. merged_holds row other y t (satisfied_at program.rows y first row h.rows e) (satisfied_at program.rows y second other h.rows k)))
    (row_replaced (with_row program first (merged_row row other)) second other no_row (get_other program.rows first second (merged_row row other) other n k)
    (λ x h. (holds_merged row other x t (satisfied_at (slice_set (slice_set program.rows first (merged_row row other)) second no_row) x first (merged_row row other) h.rows
    (get_other (slice_set program.rows first (merged_row row other)) second first no_row (merged_row row other) (λ q. n (sym q)) (get_set program.rows first row (merged_row row other) e)))).1)
    (λ y h. no_row_holds y))

-- ---- a column with equal sides

pub fixed_value : (box : List Sides) (column : ℕ) (value : ℚ) (x : List ℚ) → (sides_at box column).low ≡ Some value → (sides_at box column).high ≡ Some value → IsInBox box x → value_at x column ≡ value
fixed_value box column value x l u h =
    let b = in_box_at box x column h in
    let low : IfSome (Some value) (λ side. side ≤ℚ value_at x column) = subst (λ o. IfSome o (λ side. side ≤ℚ value_at x column)) l b.above in
    let high : IfSome (Some value) (λ side. value_at x column ≤ℚ side) = subst (λ o. IfSome o (λ side. value_at x column ≤ℚ side)) u b.below in
    ≤ℚ_antisymm high low

pub less_above : (low : Option ℚ) (a s : ℚ) → IfSome (side_less low s) (λ side. side ≤ℚ a -ℚ s) → IfSome low (λ side. side ≤ℚ a)
less_above None a s h = tt
less_above (Some low) a s h = linear_le (low ∷ a ∷ s ∷ []) (λ t w. omega (arith, t.le_out))

pub less_below : (high : Option ℚ) (a s : ℚ) → IfSome (side_less high s) (λ side. a -ℚ s ≤ℚ side) → IfSome high (λ side. a ≤ℚ side)
less_below None a s h = tt
less_below (Some high) a s h = linear_le (high ∷ a ∷ s ∷ []) (λ t w. omega (arith, t.le_out))

pub above_less : (low : Option ℚ) (a s : ℚ) → IfSome low (λ side. side ≤ℚ a) → IfSome (side_less low s) (λ side. side ≤ℚ a -ℚ s)
above_less None a s h = tt
above_less (Some low) a s h = linear_le (low ∷ a ∷ s ∷ []) (λ t w. omega (arith, t.le_out))

pub below_less : (high : Option ℚ) (a s : ℚ) → IfSome high (λ side. a ≤ℚ side) → IfSome (side_less high s) (λ side. a -ℚ s ≤ℚ side)
below_less None a s h = tt
below_less (Some high) a s h = linear_le (high ∷ a ∷ s ∷ []) (λ t w. omega (arith, t.le_out))

shifted_holds : (box : List Sides) (old new : Row) (s : IsShifted box old new) (x : List ℚ) → IsInBox box x → IsSatisfied new x → IsSatisfied old x
shifted_holds box old new s x e h =
    let k : Between (side_less old.low s.shift) (side_less old.high s.shift) (activity old.terms x -ℚ s.shift) =
    subst (λ t. Between (side_less old.low s.shift) (side_less old.high s.shift) t) (s.activity x e)
    (subst (λ o. Between (side_less old.low s.shift) o (activity new.terms x)) s.high
    (subst (λ o. Between o new.high (activity new.terms x)) s.low h)) in
    record { above = less_above old.low (activity old.terms x) s.shift k.above; below = less_below old.high (activity old.terms x) s.shift k.below }

holds_shifted : (box : List Sides) (old new : Row) (s : IsShifted box old new) (x : List ℚ) → IsInBox box x → IsSatisfied old x → IsSatisfied new x
holds_shifted box old new s x e h =
    let k : Between (side_less old.low s.shift) (side_less old.high s.shift) (activity old.terms x -ℚ s.shift) =
    record { above = above_less old.low (activity old.terms x) s.shift h.above; below = below_less old.high (activity old.terms x) s.shift h.below } in
    subst (λ o. Between o new.high (activity new.terms x)) (sym s.low)
    (subst (λ o. Between (side_less old.low s.shift) o (activity new.terms x)) (sym s.high)
    (subst (λ t. Between (side_less old.low s.shift) (side_less old.high s.shift) t) (sym (s.activity x e)) k))

pub shifted : (program : Program) (number : ℕ) (old new : Row) → slice_get program.rows number ≡ Some old → IsShifted program.bounds old new → IsExactStep program (with_row program number new)
shifted program number old new e s =
    row_replaced program number old new e
    (λ x h. shifted_holds program.bounds old new s x h.within (satisfied_at (slice_set program.rows number new) x number new h.rows (get_set program.rows number old new e)))
    (λ y h. holds_shifted program.bounds old new s y h.within (satisfied_at program.rows y number old h.rows e))

-- a cost that is taken out
dot_without : (costs x : List ℚ) (column : ℕ) → dot costs x ≡ value_at costs column *ℚ value_at x column +ℚ dot (slice_set costs column zeroℚ) x
dot_without [] x column = sym (ap (λ t. t +ℚ zeroℚ) (zero-*ℚ (value_at x column)) ∙ +ℚ-zero zeroℚ)
dot_without (c ∷ costs) [] zero = sym (ap (λ t. t +ℚ zeroℚ) (*ℚ-zero c) ∙ +ℚ-zero zeroℚ)
dot_without (c ∷ costs) [] (suc column) = sym (ap (λ t. t +ℚ zeroℚ) (*ℚ-zero _) ∙ +ℚ-zero zeroℚ)
dot_without (c ∷ costs) (v ∷ x) zero = ap (λ t. c *ℚ v +ℚ t) (sym (ap (λ t. t +ℚ dot costs x) (zero-*ℚ v) ∙ zero-+ℚ (dot costs x)))
dot_without (c ∷ costs) (v ∷ x) (suc column) =
    let e = dot_without costs x column in
    linear_same ((c *ℚ v) ∷ (value_at costs column *ℚ value_at x column) ∷ dot (slice_set costs column zeroℚ) x ∷ dot costs x ∷ []) (λ s w. omega (arith, s.same_out))

pub recosted : (program : Program) (column : ℕ) (value : ℚ) → (sides_at program.bounds column).low ≡ Some value → (sides_at program.bounds column).high ≡ Some value → IsExactStep program (with_cost program column zeroℚ (program.constant +ℚ value_at program.costs column *ℚ value))
recosted program column value l u =
    cost_replaced program column zeroℚ (program.constant +ℚ value_at program.costs column *ℚ value)
    (λ x h. same_cost x (fixed_value program.bounds column value x l u h.within))
  where
    same_cost : (x : List ℚ) → value_at x column ≡ value → cost_of program x ≡ (program.constant +ℚ value_at program.costs column *ℚ value) +ℚ dot (slice_set program.costs column zeroℚ) x
    same_cost x e =
        ap (λ t. program.constant +ℚ t) (dot_without program.costs x column ∙ ap (λ t. value_at program.costs column *ℚ t +ℚ dot (slice_set program.costs column zeroℚ) x) e)
        ∙ linear_same (program.constant ∷ (value_at program.costs column *ℚ value) ∷ dot (slice_set program.costs column zeroℚ) x ∷ []) (λ s w. omega arith)

-- ---- columns without a value

pub crossed : (program : Program) (column : ℕ) → IsCrossed (sides_at program.bounds column) → IsInfeasible program
crossed program column c y h =
    let b = in_box_at program.bounds y column h.within in
    let low : c.low_side ≤ℚ value_at y column = subst (λ o. IfSome o (λ side. side ≤ℚ value_at y column)) c.low b.above in
    let high : value_at y column ≤ℚ c.high_side = subst (λ o. IfSome o (λ side. value_at y column ≤ℚ side)) c.high b.below in
    not_le_of_lt c.above (≤ℚ_trans low high)

pub not_whole : (program : Program) (column : ℕ) (value : ℚ) → slice_get program.integral column ≡ Some true → (sides_at program.bounds column).low ≡ Some value → (sides_at program.bounds column).high ≡ Some value → ¬ IsWhole value → IsInfeasible program
not_whole program column value w l u n y h =
    n (subst (λ v. IsWhole v) (fixed_value program.bounds column value y l u h.within) (whole_at program.integral y column h.whole w))
