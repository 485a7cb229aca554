-- Convex combinations: a point alone is one, and a linear form comes to no less at one than at its points; and feasible
-- points as mixtures.
use Rattle.std.proofs.Common.{◌≡◌, List, [], ◌∷◌, length, None, Some, refl, sym, ap, ap₂, ◌∙◌, subst, arith}
use Rattle.std.specs.List.{AllByRecursion}
use Rattle.cip_rational.specs.Rational.{ℚ, ◌+ℚ◌, ◌*ℚ◌, zeroℚ, oneℚ, ◌≤ℚ◌}
use Rattle.cip_rational.specs.Sums.{dot, scale_list, add_lists, combine, AllNonneg}
use Rattle.cip_rational.proofs.Sums.{dot-nil, dot-add_right, dot-scale_right}
use Rattle.cip_rational.proofs.Rational.Ring.{+ℚ-zero, one-*ℚ, zero-*ℚ}
use Rattle.cip_rational.proofs.Rational.Order.{≤ℚ_refl, ≤ℚ_of_lt}
use Rattle.cip_rational.proofs.Rational.Monotone.{*ℚ_mono, zero-lt-one}
use Rattle.cip_rational.proofs.Linear.{linear_le}
use Rattle.cip_problem.specs.Program.{Sides, Program}
use Rattle.cip_problem.specs.Box.{Between, IsInBox}
use Rattle.cip_problem.specs.Points.{IsFeasible}
use Rattle.cip_problem.proofs.Points.AtPlaces.{IsInBox-long}
use Rattle.cip_pricing.specs.Decomposition.{Decomposition, picked, IsDecomposed}
use Rattle.cip_pricing.specs.Mixtures.{total, IsConvex, IsPointAmong, IsMixture}
use Rattle.cip_pricing.proofs.Picked.{zip_picked, block_part}

scale-one : (xs : List ℚ) → scale_list oneℚ xs ≡ xs
scale-one [] = refl
scale-one (x ∷ xs) = ap₂ (λ y ys. y ∷ ys) (one-*ℚ x) (scale-one xs)

add-nil : (xs : List ℚ) → add_lists xs [] ≡ xs
add-nil [] = refl
add-nil (x ∷ xs) = refl

-- a point alone
pub alone : (Kind : List ℚ → Type 0) (point : List ℚ) → Kind point → IsConvex Kind point
alone Kind point h = record {
  weights = oneℚ ∷ [];
  points = point ∷ [];
  nonneg = (≤ℚ_of_lt zero-lt-one, tt);
  one = +ℚ-zero oneℚ;
  paired = refl;
  kind = (h, tt);
  mean = sym (add-nil (scale_list oneℚ point) ∙ scale-one point);
}

weights_low : (Kind : List ℚ → Type 0) (form : List ℚ) (b : ℚ) → ((p : List ℚ) → Kind p → b ≤ℚ dot form p)
    → (weights : List ℚ) (points : List (List ℚ)) → AllNonneg weights → length weights ≡ length points
    → AllByRecursion Kind points → total weights *ℚ b ≤ℚ dot form (combine weights points)
weights_low Kind form b f [] points h e k = rw (dot-nil form, zero-*ℚ b) (≤ℚ_refl zeroℚ)
weights_low Kind form b f (w ∷ ws) [] h e k = absurd (omega (arith, e))
weights_low Kind form b f (w ∷ ws) (p ∷ ps) h e k =
    let first : w *ℚ b ≤ℚ w *ℚ dot form p = *ℚ_mono b (dot form p) w h.0 (f p k.0) in
    let others : total ws *ℚ b ≤ℚ dot form (combine ws ps) = weights_low Kind form b f ws ps h.1 (omega (arith, e))
    k.1 in
    let sum : dot form (add_lists (scale_list w p) (combine ws ps)) ≡ w *ℚ dot form p +ℚ dot form (combine ws ps) =
    dot-add_right form (scale_list w p) (combine ws ps) ∙ ap (λ t. t +ℚ dot form (combine ws ps))
    (dot-scale_right w form p) in
    linear_le ((w *ℚ b) ∷ (total ws *ℚ b) ∷ (w *ℚ dot form p) ∷ dot form (combine ws ps) ∷ dot form
    (add_lists (scale_list w p) (combine ws ps)) ∷ [])
    (λ s v. let m = s.products tt in omega (arith, s.le_out, s.same_out))

-- what bounds a form at each point of a kind bounds it at each of their convex combinations
pub convex_low : (Kind : List ℚ → Type 0) (form point : List ℚ) (b : ℚ) → IsConvex Kind point
    → ((p : List ℚ) → Kind p → b ≤ℚ dot form p) → b ≤ℚ dot form point
convex_low Kind form point b c f =
    let h : total c.weights *ℚ b ≤ℚ dot form (combine c.weights c.points) = weights_low Kind form b f c.weights
    c.points c.nonneg c.paired c.kind in
    let k : oneℚ *ℚ b ≤ℚ dot form (combine c.weights c.points) = subst
    (λ t. t *ℚ b ≤ℚ dot form (combine c.weights c.points)) c.one h in
    let l : b ≤ℚ dot form (combine c.weights c.points) = subst (λ t. t ≤ℚ dot form (combine c.weights c.points))
    (one-*ℚ b) k in
    subst (λ t. b ≤ℚ dot form t) (sym c.mean) l

-- ---- feasible points

pub feasible_mixture : (program : Program) (blocks : Decomposition) (box : List Sides) (point : List ℚ)
    → IsDecomposed program blocks → length box ≡ length blocks.columns → IsFeasible program point
    → IsInBox box point → IsMixture program blocks box None point
feasible_mixture program blocks box point d e f w = record {
  long = IsInBox-long box point w ∙ e;
  convex = λ block h. alone (IsPointAmong program blocks box None block) (picked (Some block) blocks.columns point)
      (record { is_point = block_part program blocks box point block d f w; is_among = tt });
  free = zip_picked (λ sides value. Between sides.low sides.high value) None blocks.columns box point w;
}
