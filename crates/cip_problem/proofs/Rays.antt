-- Going from a point along a ray.
use Rattle.std.proofs.Common.{◌≡◌, ℕ, zero, suc, List, [], ◌∷◌, Option, None, Some, IfSome, refl, sym, ap, ◌∙◌, subst, arith, inl, inr}
use Rattle.std.specs.List.{AllZip, AllByRecursion}
use Rattle.cip_rational.specs.Rational.{ℚ, ◌+ℚ◌, ◌-ℚ◌, ◌*ℚ◌, negate, inverse, zeroℚ, oneℚ, ◌≤ℚ◌, ◌<ℚ◌}
use Rattle.cip_rational.specs.Sums.{dot, scale_list}
use Rattle.cip_rational.proofs.Rational.Ring.{+ℚ-zero, zero-+ℚ, *ℚ-zero, *ℚ_assoc, *ℚ_comm, *ℚ_left_comm}
use Rattle.cip_rational.proofs.Rational.Order.{le_or_lt, ≤ℚ_of_lt, ne_of_lt}
use Rattle.cip_rational.proofs.Rational.Monotone.{*ℚ_mono, *ℚ_nonneg}
use Rattle.cip_rational.proofs.Rational.Inverse.{*ℚ-inverse, inverse_pos}
use Rattle.cip_rational.proofs.Sums.{dot-add_right, dot-scale_right}
use Rattle.cip_rational.proofs.Linear.{linear_le, linear_lt, linear_same}
use Rattle.cip_problem.specs.Program.{Term, Sides, Row}
use Rattle.cip_problem.specs.Activity.{activity, value_at}
use Rattle.cip_problem.specs.Box.{Between, IsInBox}
use Rattle.cip_problem.specs.Points.{IsSatisfied}
use Rattle.cip_problem.specs.LinearProgram.{LinearProgram, IsPoint, StaysBetween, IsRay, moved, HasPointBelow}

-- ---- one value

low_kept : (low : Option ℚ) (value change far : ℚ) → zeroℚ ≤ℚ far → IfSome low (λ side. side ≤ℚ value) → IfSome low (λ _. zeroℚ ≤ℚ change) → IfSome low (λ side. side ≤ℚ value +ℚ far *ℚ change)
low_kept None value change far p h k = tt
low_kept (Some side) value change far p h k =
    let m : zeroℚ ≤ℚ far *ℚ change = *ℚ_nonneg p k in
    let l : side ≤ℚ value = h in
    linear_le (side ∷ value ∷ (far *ℚ change) ∷ []) (λ s w. omega (arith, s.le_out))

high_kept : (high : Option ℚ) (value change far : ℚ) → zeroℚ ≤ℚ far → IfSome high (λ side. value ≤ℚ side) → IfSome high (λ _. change ≤ℚ zeroℚ) → IfSome high (λ side. value +ℚ far *ℚ change ≤ℚ side)
high_kept None value change far p h k = tt
high_kept (Some side) value change far p h k =
    let m : far *ℚ change ≤ℚ far *ℚ zeroℚ = *ℚ_mono change zeroℚ far p k in
    let e = *ℚ-zero far in
    let l : value ≤ℚ side = h in
    linear_le (side ∷ value ∷ (far *ℚ change) ∷ (far *ℚ zeroℚ) ∷ []) (λ s w. omega (arith, s.le_out, s.same_out))

stays : (low high : Option ℚ) (value change far : ℚ) → zeroℚ ≤ℚ far → Between low high value → StaysBetween low high change → Between low high (value +ℚ far *ℚ change)
stays low high value change far p h k =
    record { above = low_kept low value change far p h.above k.not_down; below = high_kept high value change far p h.below k.not_up }

-- ---- the box and the rows

box_kept : (box : List Sides) (point direction : List ℚ) (far : ℚ) → zeroℚ ≤ℚ far → IsInBox box point → AllZip (λ sides change. StaysBetween sides.low sides.high change) box direction → IsInBox box (moved point far direction)
box_kept [] [] [] far p h k = tt
box_kept [] [] (d ∷ ds) far p h k = absurd k
box_kept [] (v ∷ vs) ds far p h k = absurd h
box_kept (s ∷ ss) [] ds far p h k = absurd h
box_kept (s ∷ ss) (v ∷ vs) [] far p h k = absurd k
box_kept (s ∷ ss) (v ∷ vs) (d ∷ ds) far p h k = (stays s.low s.high v d far p h.0 k.0, box_kept ss vs ds far p h.1 k.1)

value_moved : (point direction : List ℚ) (far : ℚ) (column : ℕ) → value_at (moved point far direction) column ≡ value_at point column +ℚ far *ℚ value_at direction column
value_moved [] [] far column = sym (zero-+ℚ (far *ℚ zeroℚ) ∙ *ℚ-zero far)
value_moved [] (d ∷ ds) far zero = sym (zero-+ℚ (far *ℚ d))
value_moved [] (d ∷ ds) far (suc column) = value_moved [] ds far column
value_moved (v ∷ vs) [] far column = sym (ap (λ t. value_at (v ∷ vs) column +ℚ t) (*ℚ-zero far) ∙ +ℚ-zero (value_at (v ∷ vs) column))
value_moved (v ∷ vs) (d ∷ ds) far zero = refl
value_moved (v ∷ vs) (d ∷ ds) far (suc column) = value_moved vs ds far column

activity_moved : (terms : List Term) (point direction : List ℚ) (far : ℚ) → activity terms (moved point far direction) ≡ activity terms point +ℚ far *ℚ activity terms direction
activity_moved [] point direction far = sym (zero-+ℚ (far *ℚ zeroℚ) ∙ *ℚ-zero far)
activity_moved (t ∷ ts) point direction far =
    let v = value_at point t.column in
    let d = value_at direction t.column in
    let e : t.coefficient *ℚ (far *ℚ d) ≡ far *ℚ (t.coefficient *ℚ d) = *ℚ_left_comm t.coefficient far d in
    let i = activity_moved ts point direction far in
    let m = value_moved point direction far t.column in
    ap (λ u. t.coefficient *ℚ u +ℚ activity ts (moved point far direction)) m ∙ linear_same
    ((t.coefficient *ℚ v) ∷ (t.coefficient *ℚ (far *ℚ d)) ∷ (far *ℚ (t.coefficient *ℚ d)) ∷ activity ts point ∷ (far *ℚ activity ts direction) ∷ activity ts (moved point far direction) ∷ [])
    (λ s w. let n = s.products tt in omega (arith, s.same_out))

rows_kept : (rows : List Row) (point direction : List ℚ) (far : ℚ) → zeroℚ ≤ℚ far → AllByRecursion (λ row. IsSatisfied row point) rows → AllByRecursion (λ row. StaysBetween row.low row.high (activity row.terms direction)) rows → AllByRecursion (λ row. IsSatisfied row (moved point far direction)) rows
rows_kept [] point direction far p h k = tt
rows_kept (r ∷ rs) point direction far p h k = (
  subst (Between r.low r.high) (sym (activity_moved r.terms point direction far)) (stays r.low r.high (activity r.terms point) (activity r.terms direction) far p h.0 k.0),
  rows_kept rs point direction far p h.1 k.1,
)

pub ray_points : (program : LinearProgram) (point direction : List ℚ) (far : ℚ) → IsPoint program point → IsRay program direction → zeroℚ ≤ℚ far → IsPoint program (moved point far direction)
ray_points program point direction far h k p = record {
  within = box_kept program.bounds point direction far p h.within k.within;
  rows = rows_kept program.rows point direction far p h.rows k.rows;
}

-- ---- the cost

pub ray_cost : (program : LinearProgram) (point direction : List ℚ) (far : ℚ) → dot program.costs (moved point far direction) ≡ dot program.costs point +ℚ far *ℚ dot program.costs direction
ray_cost program point direction far =
    dot-add_right program.costs point (scale_list far direction) ∙ ap (λ t. dot program.costs point +ℚ t) (dot-scale_right far program.costs direction)

-- how far to go for a cost of b - 1
abbrev far_enough : ℚ → ℚ → ℚ → ℚ
far_enough cost falls b = (cost -ℚ b +ℚ oneℚ) *ℚ inverse (negate falls)

reached : (cost falls b : ℚ) → falls <ℚ zeroℚ → cost +ℚ far_enough cost falls b *ℚ falls ≡ b -ℚ oneℚ
reached cost falls b h =
    let a = cost -ℚ b +ℚ oneℚ in
    let g = inverse (negate falls) in
    let p : zeroℚ <ℚ negate falls = linear_lt (falls ∷ []) (λ s w. omega (arith, s.lt_out)) in
    let i : negate falls *ℚ g ≡ oneℚ = *ℚ-inverse (negate falls) (λ e. ne_of_lt p (sym e)) in
    let c : g *ℚ falls ≡ falls *ℚ g = *ℚ_comm g falls in
    let n : g *ℚ falls ≡ negate oneℚ = linear_same ((g *ℚ falls) ∷ (falls *ℚ g) ∷ []) (λ s w. let m = s.products tt in omega (arith, s.same_out)) in
    let e : a *ℚ g *ℚ falls ≡ a *ℚ negate oneℚ = *ℚ_assoc a g falls ∙ ap (λ t. a *ℚ t) n in
    linear_same (cost ∷ b ∷ (a *ℚ g *ℚ falls) ∷ []) (λ s w. let m = s.products tt in omega (arith, s.same_out))

falls_below : (program : LinearProgram) (point direction : List ℚ) (b : ℚ) → IsPoint program point → IsRay program direction → b ≤ℚ dot program.costs point → HasPointBelow program b
falls_below program point direction b h k l =
    let cost = dot program.costs point in
    let falls = dot program.costs direction in
    let far = far_enough cost falls b in
    let p : zeroℚ <ℚ negate falls = (let f : falls <ℚ zeroℚ = k.falls in linear_lt (falls ∷ []) (λ s w. omega (arith, s.lt_out))) in
    let a : zeroℚ ≤ℚ cost -ℚ b +ℚ oneℚ = linear_le (cost ∷ b ∷ []) (λ s w. omega (arith, s.le_out)) in
    let e : dot program.costs (moved point far direction) ≡ b -ℚ oneℚ = ray_cost program point direction far ∙ reached cost falls b k.falls in
    record {
      point = moved point far direction;
      is_point = ray_points program point direction far h k (*ℚ_nonneg a (≤ℚ_of_lt (inverse_pos p)));
      cheaper = subst (λ t. t <ℚ b) (sym e) (linear_lt (b ∷ []) (λ s w. omega arith));
    }

pub ray_unbounded : (program : LinearProgram) (point direction : List ℚ) (b : ℚ) → IsPoint program point → IsRay program direction → HasPointBelow program b
ray_unbounded program point direction b h k = elim (le_or_lt b (dot program.costs point)) [
  | inl l ↦ falls_below program point direction b h k l
  | inr l ↦ record { point = point; is_point = h; cheaper = l }
]
