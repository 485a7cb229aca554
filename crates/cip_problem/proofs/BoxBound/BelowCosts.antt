-- The bound of a box is at most the cost of each point of it.
use Rattle.std.proofs.Common.{◌≡◌, Bool, true, false, cond, List, [], ◌∷◌, length, Option, None, Some, IfSome, refl, sym, ap, ◌∙◌, subst, arith}
use Rattle.std.proofs.lemmas.Option.{none-some, same_Some}
use Rattle.cip_rational.specs.Rational.{ℚ, ◌+ℚ◌, ◌*ℚ◌, negate, zeroℚ, ◌≤ℚ◌, ◌<ℚ◌, lt_test}
use Rattle.cip_rational.proofs.Rational.Order.{≤ℚ_of_lt, ≤ℚ_of_eq, ≤ℚ_antisymm, lt_of_test, le_of_lt_test}
use Rattle.cip_rational.proofs.Rational.Monotone.{+ℚ_mono, *ℚ_mono}
use Rattle.cip_rational.proofs.Rational.Ring.{negate-*ℚ, zero-*ℚ}
use Rattle.cip_rational.specs.Sums.{dot}
use Rattle.cip_rational.proofs.Linear.{linear_le}
use Rattle.cip_problem.specs.Program.{Sides, Program}
use Rattle.cip_problem.specs.Box.{Between, IsInBox}
use Rattle.cip_problem.specs.BoxBound.{sum_if_both, product_at, least_cost, least_costs, box_bound}
use Rattle.cip_problem.specs.Points.{cost_of, IsLowerBound}
use Rattle.cip_problem.specs.WellFormed.{IsWellFormed}

-- ---- one column

-- a product with a negative factor is least at the greatest value
negative_product : (cost side value : ℚ) → cost <ℚ zeroℚ → value ≤ℚ side → cost *ℚ side ≤ℚ cost *ℚ value
negative_product cost side value h k =
    let p : zeroℚ ≤ℚ negate cost = linear_le (cost ∷ []) (λ s w. omega (arith, s.lt_out)) in
    let m = *ℚ_mono value side (negate cost) p k in
    let e = negate-*ℚ cost value in
    let f = negate-*ℚ cost side in
    linear_le ((cost *ℚ side) ∷ (cost *ℚ value) ∷ (negate cost *ℚ side) ∷ (negate cost *ℚ value) ∷ []) (λ s w. omega (arith, s.le_out, s.same_out))

at_high : (cost b value : ℚ) (high : Option ℚ) → product_at cost high ≡ Some b → cost <ℚ zeroℚ → IfSome high (λ side. value ≤ℚ side) → b ≤ℚ cost *ℚ value
at_high cost b value None e h k = absurd (none-some b e)
at_high cost b value (Some side) e h k = subst (λ t. t ≤ℚ cost *ℚ value) (same_Some _ b e) (negative_product cost side value h k)

at_low : (cost b value : ℚ) (low : Option ℚ) → product_at cost low ≡ Some b → zeroℚ <ℚ cost → IfSome low (λ side. side ≤ℚ value) → b ≤ℚ cost *ℚ value
at_low cost b value None e h k = absurd (none-some b e)
at_low cost b value (Some side) e h k = subst (λ t. t ≤ℚ cost *ℚ value) (same_Some _ b e) (*ℚ_mono side value cost (≤ℚ_of_lt h) k)

column_cases : (cost b value : ℚ) (sides : Sides) (negative positive : Bool) → lt_test cost zeroℚ ≡ negative → lt_test zeroℚ cost ≡ positive → cond negative (product_at cost sides.high) (cond positive (product_at cost sides.low) (Some zeroℚ)) ≡ Some b → Between sides.low sides.high value → b ≤ℚ cost *ℚ value
column_cases cost b value sides true positive n p e h = at_high cost b value sides.high e (lt_of_test n) h.below
column_cases cost b value sides false true n p e h = at_low cost b value sides.low e (lt_of_test p) h.above
column_cases cost b value sides false false n p e h =
    let z : cost ≡ zeroℚ = ≤ℚ_antisymm (le_of_lt_test p) (le_of_lt_test n) in
    ≤ℚ_of_eq (sym (same_Some zeroℚ b e) ∙ sym (zero-*ℚ value) ∙ ap (λ t. t *ℚ value) (sym z))

pub least_cost_holds : (cost b value : ℚ) (sides : Sides) → least_cost cost sides ≡ Some b → Between sides.low sides.high value → b ≤ℚ cost *ℚ value
least_cost_holds cost b value sides e h = column_cases cost b value sides (lt_test cost zeroℚ) (lt_test zeroℚ cost) refl refl e h

-- ---- all columns

pub sum_holds : (a c : Option ℚ) (b x y : ℚ) → sum_if_both a c ≡ Some b → ((p : ℚ) → a ≡ Some p → p ≤ℚ x) → ((q : ℚ) → c ≡ Some q → q ≤ℚ y) → b ≤ℚ x +ℚ y
sum_holds None c b x y e f g = absurd (none-some b e)
sum_holds (Some p) None b x y e f g = absurd (none-some b e)
sum_holds (Some p) (Some q) b x y e f g = subst (λ t. t ≤ℚ x +ℚ y) (same_Some _ b e) (+ℚ_mono (f p refl) (g q refl))

pub least_costs_hold : (costs : List ℚ) (box : List Sides) (point : List ℚ) (b : ℚ) → length costs ≡ length box → IsInBox box point → least_costs costs box ≡ Some b → b ≤ℚ dot costs point
least_costs_hold [] box point b n h e = ≤ℚ_of_eq (sym (same_Some zeroℚ b e))
least_costs_hold (c ∷ cs) [] point b n h e = absurd (omega (arith, n))
least_costs_hold (c ∷ cs) (s ∷ ss) [] b n h e = absurd h
least_costs_hold (c ∷ cs) (s ∷ ss) (v ∷ vs) b n h e =
    sum_holds (least_cost c s) (least_costs cs ss) b (c *ℚ v) (dot cs vs) e
    (λ p k. least_cost_holds c p v s k h.0)
    (λ q k. least_costs_hold cs ss vs q (omega (arith, n)) h.1 k)

pub box_bound_holds : (program : Program) (box : List Sides) (point : List ℚ) (b : ℚ) → length program.costs ≡ length box → IsInBox box point → box_bound program box ≡ Some b → b ≤ℚ cost_of program point
box_bound_holds program box point b n h e =
    sum_holds (Some program.constant) (least_costs program.costs box) b program.constant (dot program.costs point) e
    (λ p k. ≤ℚ_of_eq (sym (same_Some program.constant p k)))
    (λ q k. least_costs_hold program.costs box point q n h k)

-- the bound of the program's own box is below the cost of each feasible point
pub root_bound_holds : (program : Program) (b : ℚ) → IsWellFormed program → box_bound program program.bounds ≡ Some b → IsLowerBound program b
root_bound_holds program b formed e point h = box_bound_holds program program.bounds point b (sym formed.bounds) h.within e
