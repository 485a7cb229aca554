-- A cost that falls without end leaves no room for a lower bound.
use Rattle.std.proofs.Common.{◌≡◌, [], ◌∷◌, List, sym, ap, ◌∙◌, subst, arith, inl, inr}
use Rattle.cip_rational.specs.Rational.{ℚ, ◌+ℚ◌, ◌-ℚ◌, ◌*ℚ◌, negate, inverse, zeroℚ, oneℚ, ◌≤ℚ◌, ◌<ℚ◌}
use Rattle.cip_rational.specs.Sums.{dot}
use Rattle.cip_rational.proofs.Rational.Ring.{*ℚ_assoc, *ℚ_comm}
use Rattle.cip_rational.proofs.Rational.Order.{le_or_lt, ≤ℚ_of_lt, ≤ℚ_refl, ≤ℚ_trans, ne_of_lt, not_le_of_lt}
use Rattle.cip_rational.proofs.Rational.Monotone.{*ℚ_nonneg}
use Rattle.cip_rational.proofs.Rational.Inverse.{*ℚ-inverse, inverse_pos}
use Rattle.cip_rational.proofs.Linear.{linear_le, linear_lt, linear_same}
use Rattle.cip_problem.specs.Program.{Program}
use Rattle.cip_problem.specs.Points.{cost_of, IsLowerBound}
use Rattle.cip_search.specs.LinearProgram.{moved}
use Rattle.cip_search.specs.Falling.{FallsWithoutEnd}
use Rattle.cip_search.specs.HeadlineStatements.{RaysExcludeBounds}

-- how far to go for a cost of b - 1
abbrev far_enough : ℚ → ℚ → ℚ → ℚ
far_enough cost falls b = (cost -ℚ b +ℚ oneℚ) *ℚ inverse (negate falls)

reached : (cost falls b : ℚ) → falls <ℚ zeroℚ → cost +ℚ far_enough cost falls b *ℚ falls ≡ b -ℚ oneℚ
reached cost falls b h =
    let a = cost -ℚ b +ℚ oneℚ in
    let g = inverse (negate falls) in
    let p : zeroℚ <ℚ negate falls = linear_lt (falls ∷ []) (λ s w. omega (arith, s.lt_out)) in
    let i : negate falls *ℚ g ≡ oneℚ = *ℚ-inverse (negate falls) (λ e. ne_of_lt p (sym e)) in
    let c : g *ℚ falls ≡ falls *ℚ g = *ℚ_comm g falls in
    let n : g *ℚ falls ≡ negate oneℚ = linear_same ((g *ℚ falls) ∷ (falls *ℚ g) ∷ []) (λ s w. let m = s.products tt in omega (arith, s.same_out)) in
    let e : a *ℚ g *ℚ falls ≡ a *ℚ negate oneℚ = *ℚ_assoc a g falls ∙ ap (λ t. a *ℚ t) n in
    linear_same (cost ∷ b ∷ (a *ℚ g *ℚ falls) ∷ []) (λ s w. let m = s.products tt in omega (arith, s.same_out))

less_by_one : (b : ℚ) → b -ℚ oneℚ <ℚ b
less_by_one b = linear_lt (b ∷ []) (λ s w. omega arith)

-- a bound below the cost of the point is passed further on
passed : (program : Program) (point ray : List ℚ) (b : ℚ) → FallsWithoutEnd program point ray → b ≤ℚ cost_of program point → ¬ IsLowerBound program b
passed program point ray b r l lower =
    let cost = cost_of program point in
    let falls = dot program.costs ray in
    let far = far_enough cost falls b in
    let p : zeroℚ <ℚ negate falls = (let f : falls <ℚ zeroℚ = r.falls in linear_lt (falls ∷ []) (λ s w. omega (arith, s.lt_out))) in
    let a : zeroℚ ≤ℚ cost -ℚ b +ℚ oneℚ = linear_le (cost ∷ b ∷ []) (λ s w. omega (arith, s.le_out)) in
    let e : cost_of program (moved point far ray) ≡ b -ℚ oneℚ = r.cost far ∙ reached cost falls b r.falls in
    let f = r.points far (*ℚ_nonneg a (≤ℚ_of_lt (inverse_pos p))) in
    not_le_of_lt (less_by_one b) (subst (λ t. b ≤ℚ t) e (lower (moved point far ray) f))

-- a bound above the cost of the point makes that cost a bound, which is passed further on
pub rays_exclude_bounds : RaysExcludeBounds
rays_exclude_bounds program point ray b r lower = elim (le_or_lt b (cost_of program point)) [
  | inl l ↦ passed program point ray b r l lower
  | inr l ↦ passed program point ray (cost_of program point) r (≤ℚ_refl (cost_of program point)) (λ other f. ≤ℚ_trans (≤ℚ_of_lt l) (lower other f))
]
