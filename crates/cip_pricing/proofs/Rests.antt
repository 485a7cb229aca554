-- What multipliers leave of the costs, and the sides that they use.
use Rattle.std.proofs.Common.{◌≡◌, ℕ, Bool, true, false, cond, List, [], ◌∷◌, ◌++◌, length, Option, None, Some, IfSome, refl, sym, ap, ◌∙◌, subst, arith}
use Rattle.std.specs.List.{AllByRecursion}
use Rattle.std.proofs.lemmas.Option.{none-some, same_Some}
use Rattle.cip_rational.specs.Rational.{ℚ, ◌+ℚ◌, ◌-ℚ◌, ◌*ℚ◌, zeroℚ, ◌≤ℚ◌, ◌<ℚ◌, lt_test}
use Rattle.cip_rational.specs.Sums.{dot}
use Rattle.cip_rational.proofs.Rational.Ring.{zero-*ℚ}
use Rattle.cip_rational.proofs.Rational.Order.{≤ℚ_of_lt, ≤ℚ_of_eq, ≤ℚ_antisymm, lt_of_test, le_of_lt_test}
use Rattle.cip_rational.proofs.Rational.Monotone.{*ℚ_mono}
use Rattle.cip_rational.proofs.Rational.Inverse.{*ℚ_antitone}
use Rattle.cip_rational.proofs.Linear.{linear_same}
use Rattle.cip_problem.specs.Program.{Row}
use Rattle.cip_problem.specs.Activity.{activity}
use Rattle.cip_problem.specs.BoxBound.{product_at}
use Rattle.cip_problem.specs.Box.{Between}
use Rattle.cip_problem.specs.Points.{IsSatisfied}
use Rattle.cip_problem.proofs.Aggregates.{same_form}
use Rattle.cip_problem.proofs.BoxBound.BelowCosts.{sum_holds}
use Rattle.cip_pricing.specs.LeastCosts.{side_product, side_total, row_total, AreRests}

-- ---- sides

low_product : (y value b : ℚ) (low : Option ℚ) → zeroℚ <ℚ y → product_at y low ≡ Some b
    → IfSome low (λ side. side ≤ℚ value) → b ≤ℚ y *ℚ value
low_product y value b None p e h = absurd (none-some b e)
low_product y value b (Some side) p e h = subst (λ t. t ≤ℚ y *ℚ value) (same_Some (y *ℚ side) b e)
    (*ℚ_mono side value y (≤ℚ_of_lt p) h)

high_product : (y value b : ℚ) (high : Option ℚ) → y <ℚ zeroℚ → product_at y high ≡ Some b
    → IfSome high (λ side. value ≤ℚ side) → b ≤ℚ y *ℚ value
high_product y value b None n e h = absurd (none-some b e)
high_product y value b (Some side) n e h = subst (λ t. t ≤ℚ y *ℚ value) (same_Some (y *ℚ side) b e)
    (*ℚ_antitone value side y (≤ℚ_of_lt n) h)

cases_product : (y value b : ℚ) (low high : Option ℚ) (positive negative : Bool) → lt_test zeroℚ y ≡ positive
    → lt_test y zeroℚ ≡ negative
    → cond positive (product_at y low) (cond negative (product_at y high) (Some zeroℚ)) ≡ Some b
    → Between low high value → b ≤ℚ y *ℚ value
cases_product y value b low high true negative p n e h = low_product y value b low (lt_of_test p) e h.above
cases_product y value b low high false true p n e h = high_product y value b high (lt_of_test n) e h.below
cases_product y value b low high false false p n e h =
    let none : y ≡ zeroℚ = ≤ℚ_antisymm (le_of_lt_test p) (le_of_lt_test n) in
    ≤ℚ_of_eq (sym (same_Some zeroℚ b e) ∙ sym (ap (λ t. t *ℚ value) none ∙ zero-*ℚ value))

-- where the rows are satisfied, the sides times their multipliers come to at most the activities times them
pub sides_hold : (ys : List ℚ) (rows : List Row) (point : List ℚ) (b : ℚ)
    → AllByRecursion (λ row. IsSatisfied row point) rows → side_total ys rows ≡ Some b → b ≤ℚ row_total ys rows point
sides_hold [] rows point b h e = ≤ℚ_of_eq (sym (same_Some zeroℚ b e))
sides_hold (y ∷ ys) [] point b h e = ≤ℚ_of_eq (sym (same_Some zeroℚ b e))
sides_hold (y ∷ ys) (r ∷ rs) point b h e =
    sum_holds (side_product y r) (side_total ys rs) b (y *ℚ activity r.terms point) (row_total ys rs point) e
    (λ p k. cases_product y (activity r.terms point) p r.low r.high (lt_test zeroℚ y) (lt_test y zeroℚ) refl refl k h.0)
    (λ q k. sides_hold ys rs point q h.1 k)

-- ---- what is left

pub rests_start : (columns : ℕ) (costs : List ℚ) (rows : List Row) → length costs ≡ columns
    → AreRests columns costs [] rows costs
rests_start columns costs rows e = record {
  long = e;
  form = λ point. linear_same (dot costs point ∷ []) (λ s w. omega arith);
}

row_total-push : (ys : List ℚ) (y : ℚ) (rows : List Row) (row : Row) (point : List ℚ) → length ys ≡ length rows
    → row_total (ys ++ y ∷ []) (rows ++ row ∷ []) point ≡ row_total ys rows point +ℚ y *ℚ activity row.terms point
row_total-push [] y [] row point e = linear_same ((y *ℚ activity row.terms point) ∷ []) (λ s w. omega arith)
row_total-push [] y (r ∷ rs) row point e = absurd (omega (arith, e))
row_total-push (z ∷ zs) y [] row point e = absurd (omega (arith, e))
row_total-push (z ∷ zs) y (r ∷ rs) row point e =
    let k = row_total-push zs y rs row point (omega (arith, e)) in
    linear_same ((z *ℚ activity r.terms point) ∷ row_total zs rs point ∷ (y *ℚ activity row.terms point) ∷ row_total
    (zs ++ y ∷ []) (rs ++ row ∷ []) point ∷ []) (λ s w. omega (arith, s.same_out))

pub rests_step : (columns : ℕ) (costs ys : List ℚ) (y : ℚ) (rows : List Row) (row : Row) (before after : List ℚ)
    → length ys ≡ length rows → AreRests columns costs ys rows before → length after ≡ columns
    → ((point : List ℚ) → dot after point ≡ dot before point -ℚ y *ℚ activity row.terms point)
    → AreRests columns costs (ys ++ y ∷ []) (rows ++ row ∷ []) after
rests_step columns costs ys y rows row before after e r long f = record {
  long = long;
  form = λ point. step point (f point) (r.form point) (row_total-push ys y rows row point e);
}
  where
    step : (point : List ℚ) → dot after point ≡ dot before point -ℚ y *ℚ activity row.terms point
        → dot before point ≡ dot costs point -ℚ row_total ys rows point
        → row_total (ys ++ y ∷ []) (rows ++ row ∷ []) point ≡ row_total ys rows point +ℚ y *ℚ activity row.terms point
        → dot after point ≡ dot costs point -ℚ row_total (ys ++ y ∷ []) (rows ++ row ∷ []) point
    step point h k l =
        linear_same (dot after point ∷ dot before point ∷ dot costs point ∷ (y *ℚ activity row.terms point) ∷
        row_total ys rows point ∷ row_total (ys ++ y ∷ []) (rows ++ row ∷ []) point ∷ [])
        (λ s w. omega (arith, s.same_out))

pub rests_unique : (columns : ℕ) (costs ys : List ℚ) (rows : List Row) (first second : List ℚ)
    → AreRests columns costs ys rows first → AreRests columns costs ys rows second → first ≡ second
rests_unique columns costs ys rows first second h k =
    same_form first second (h.long ∙ sym k.long) (λ xs l. h.form xs ∙ sym (k.form xs))
