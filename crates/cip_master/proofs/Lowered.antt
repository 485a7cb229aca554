-- Prices that are lowered to what is left of the costs at held points.
use Rattle.std.proofs.Common.{◌≡◌, ℕ, ◌<◌, ◌==◌, Bool, true, false, cond, List, [], ◌∷◌, length, map, Some, Ok, IfOk, refl, sym, ap, ◌∙◌, subst}
use Rattle.std.specs.List.{AllByRecursion, filter}
use Rattle.std.proofs.lemmas.Bool.{eqb-true, eqb-false}
use Rattle.std.proofs.lemmas.List.{length-set, get_or-set_same, get_or-set_other}
use Rattle.std.proofs.lemmas.List.Elements.{All-contains, All-from_recursion}
use Rattle.cip_rational.specs.Rational.{ℚ, ◌+ℚ◌, zeroℚ, minimum, ◌≤ℚ◌}
use Rattle.cip_rational.specs.Range.{sum_overflows}
use Rattle.cip_rational.specs.Sums.{dot}
use Rattle.cip_rational.proofs.Rational.Order.{≤ℚ_refl, ≤ℚ_of_eq, ≤ℚ_trans}
use Rattle.cip_rational.proofs.Rational.Extremes.{minimum_le}
use Rattle.cip_rational.proofs.Rational.Ring.{+ℚ-zero, zero-+ℚ, +ℚ_assoc}
use Rattle.cip_frac.specs.Outcomes.{sum_outcome, dot_from}
use Rattle.cip_frac.proofs.Outcomes.{dot_from-value}
use Rattle.cip_problem.specs.Program.{Sides, Program}
use Rattle.cip_problem.specs.Activity.{value_at}
use Rattle.cip_pricing.specs.Decomposition.{picked}
use Rattle.cip_pricing.specs.Mixtures.{Held, total}
use Rattle.cip_pricing.specs.LeastCosts.{ArePrices}
use Rattle.cip_columns.specs.PoolPoints.{PoolPoint, held_of}
use Rattle.cip_lagrange.specs.declared.parts.Decomposed.{Decomposed}
use Rattle.cip_lagrange.specs.Decompositions.{owners_in}
use Rattle.cip_lagrange.specs.LagrangeOutcomes.{chain, in_range}
use Rattle.cip_lagrange.proofs.Multiplied.{ok_chain, ok_weaker, in_range_value}
use Rattle.cip_lagrange.proofs.BlocksAdded.{sum_cases}
use Rattle.cip_master.specs.KeptMasters.{is_held_in, held_in}
use Rattle.cip_master.specs.ShownSums.{rest_at, lowered_to, lowered_by, lowered, prices_added}

-- ---- operations

sum_value : (a b : ℚ) → IfOk (in_range (sum_outcome a b)) (λ v. v ≡ a +ℚ b)
sum_value a b = in_range_value (a +ℚ b) (sum_outcome a b) (sum_cases (sum_overflows a b) _ (a +ℚ b))

rest_value : (kept : Decomposed) (rests : List ℚ) (held : PoolPoint) → IfOk (rest_at kept rests held)
    (λ v. v ≡ dot (picked (Some held.block) kept.column_owners.items rests) held.point)
rest_value kept rests held =
    let us : List ℚ = picked (Some held.block) kept.column_owners.items rests in
    in_range_value (dot us held.point) (dot_from zeroℚ us held.point)
    (subst (λ q. IfOk (dot_from zeroℚ us held.point) (λ v. v ≡ q)) (zero-+ℚ (dot us held.point))
    (dot_from-value zeroℚ us held.point))

-- ---- one price

-- as many prices, none of which is higher
pub record AreLowered (before after : List ℚ) : Type 0 where
  pub long : length after ≡ length before
  pub less : (block : ℕ) → value_at after block ≤ℚ value_at before block

are_same : (prices : List ℚ) → AreLowered prices prices
are_same prices = record { long = refl; less = λ block. ≤ℚ_refl (value_at prices block) }

at_set : (block : ℕ) (prices : List ℚ) (value : ℚ) → block < length prices
    → value_at (lowered_to block prices value) block ≡ minimum (value_at prices block) value
at_set block prices value l =
    get_or-set_same prices block (minimum (value_at prices block) value) zeroℚ l

one_lowered : (block : ℕ) (prices : List ℚ) (value : ℚ) → block < length prices
    → AreLowered prices (lowered_to block prices value)
one_lowered block prices value l = record {
  long = length-set prices block (minimum (value_at prices block) value);
  less = λ k. cases k (k == block) refl;
}
  where
    cases : (k : ℕ) (t : Bool) → (k == block) ≡ t
        → value_at (lowered_to block prices value) k ≤ℚ value_at prices k
    cases k true e =
        subst (λ n. value_at (lowered_to block prices value) n ≤ℚ value_at prices n) (sym (eqb-true k block e))
        (subst (λ q. q ≤ℚ value_at prices block) (sym (at_set block prices value l))
        (minimum_le (value_at prices block) value).0)
    cases k false e =
        ≤ℚ_of_eq (get_or-set_other prices block k (minimum (value_at prices block) value) zeroℚ (eqb-false k block e))

-- a price is at most what is left at a point of its block
abbrev pub IsAtMost : Decomposed → List ℚ → List ℚ → Held → Type 0
IsAtMost kept rests prices held =
    value_at prices held.block ≤ℚ dot (picked (Some held.block) kept.column_owners.items rests) held.point

record OneLowered (inside : Bool) (kept : Decomposed) (rests : List ℚ) (held : PoolPoint) (before after : List ℚ)
    : Type 0 where
  pub lower : AreLowered before after
  pub below : inside ≡ true → IsAtMost kept rests after (held_of held)

by_point : (inside : Bool) (kept : Decomposed) (rests : List ℚ) (held : PoolPoint) (prices : List ℚ)
    → held.block < length prices
    → IfOk (cond inside (chain (rest_at kept rests held) (λ value. Ok (lowered_to held.block prices value)))
    (Ok prices)) (OneLowered inside kept rests held prices)
by_point false kept rests held prices l = record { lower = are_same prices; below = λ e. cc }
by_point true kept rests held prices l =
    let left : ℚ = dot (picked (Some held.block) kept.column_owners.items rests) held.point in
    ok_chain (λ v. v ≡ left) (OneLowered true kept rests held prices) (rest_at kept rests held)
    (λ value. Ok (lowered_to held.block prices value)) (rest_value kept rests held)
    (λ value e. record {
      lower = one_lowered held.block prices value l;
      below = λ t. subst (λ q. q ≤ℚ left) (sym (at_set held.block prices value l))
          (subst (λ q. minimum (value_at prices held.block) value ≤ℚ q) e
          (minimum_le (value_at prices held.block) value).1);
    })

-- ---- all points

-- as many prices, none of which is higher, and each is at most what is left at points of its block in the box
pub record AllLowered (kept : Decomposed) (box : List Sides) (rests : List ℚ) (points : List PoolPoint)
    (before after : List ℚ) : Type 0 where
  pub lower : AreLowered before after
  pub below : AllByRecursion (λ (h : PoolPoint). is_held_in kept.column_owners.items box h ≡ true
      → IsAtMost kept rests after (held_of h)) points

all_more : (kept : Decomposed) (box : List Sides) (rests : List ℚ) (held : PoolPoint) (points : List PoolPoint)
    (before middle after : List ℚ)
    → OneLowered (is_held_in kept.column_owners.items box held) kept rests held before middle
    → AllLowered kept box rests points middle after → AllLowered kept box rests (held ∷ points) before after
all_more kept box rests held points before middle after o a = record {
  lower = record {
    long = a.lower.long ∙ o.lower.long;
    less = λ block. ≤ℚ_trans (a.lower.less block) (o.lower.less block);
  };
  below = (λ t. ≤ℚ_trans (a.lower.less held.block) (o.below t), a.below);
}

pub points_lowered : (kept : Decomposed) (box : List Sides) (rests : List ℚ) (points : List PoolPoint)
    (prices : List ℚ) → AllByRecursion (λ (h : PoolPoint). h.block < length prices) points
    → IfOk (lowered kept box rests points prices) (AllLowered kept box rests points prices)
points_lowered kept box rests [] prices h = record { lower = are_same prices; below = tt }
points_lowered kept box rests (g ∷ gs) prices h =
    let inside : Bool = is_held_in kept.column_owners.items box g in
    ok_chain (OneLowered inside kept rests g prices) (AllLowered kept box rests (g ∷ gs) prices)
    (lowered_by kept box rests g prices) (lowered kept box rests gs)
    (by_point inside kept rests g prices h.0)
    (λ middle o.
    ok_weaker (AllLowered kept box rests gs middle) (AllLowered kept box rests (g ∷ gs) prices)
    (lowered kept box rests gs middle)
    (λ after a. all_more kept box rests g gs prices middle after o a)
    (points_lowered kept box rests gs middle
    (subst (λ n. AllByRecursion (λ (h : PoolPoint). h.block < n) gs) (sym o.lower.long) h.1)))

-- ---- the points in the box

-- what holds of each held point of a list that passes a test
pub filtered : (Q : Held → Type 0) (p : PoolPoint → Bool) (points : List PoolPoint)
    → AllByRecursion (λ (h : PoolPoint). p h ≡ true → Q (held_of h)) points
    → AllByRecursion Q (map held_of (filter p points))
filtered Q p [] h = tt
filtered Q p (g ∷ gs) h = step (p g) refl (filtered Q p gs h.1)
  where
    step : (t : Bool) → p g ≡ t → AllByRecursion Q (map held_of (filter p gs))
        → AllByRecursion Q (map held_of (cond t (g ∷ filter p gs) (filter p gs)))
    step true e k = (h.0 e, k)
    step false e k = k

-- the prices are prices of the points that are held in the box
pub are_prices : (program : Program) (kept : Decomposed) (box : List Sides) (rests : List ℚ) (points : List PoolPoint)
    (before after : List ℚ) → AllLowered kept box rests points before after
    → ArePrices program (owners_in kept) box
    (Some (map held_of (held_in kept.column_owners.items box points))) rests after
are_prices program kept box rests points before after a block point l among =
    let held : List Held = map held_of (held_in kept.column_owners.items box points) in
    All-contains (IsAtMost kept rests after) held (record { block = block; point = point })
    (All-from_recursion (IsAtMost kept rests after) held
    (filtered (IsAtMost kept rests after) (is_held_in kept.column_owners.items box) points a.below))
    among.is_among

-- ---- their sum

pub prices_sum : (prices : List ℚ) (sum : ℚ) → IfOk (prices_added prices sum) (λ t. t ≡ sum +ℚ total prices)
prices_sum [] sum = sym (+ℚ-zero sum)
prices_sum (p ∷ ps) sum =
    ok_chain (λ v. v ≡ sum +ℚ p) (λ t. t ≡ sum +ℚ (p +ℚ total ps)) (in_range (sum_outcome sum p)) (prices_added ps)
    (sum_value sum p)
    (λ v e.
    ok_weaker (λ t. t ≡ v +ℚ total ps) (λ t. t ≡ sum +ℚ (p +ℚ total ps)) (prices_added ps v)
    (λ t f. f ∙ ap (λ q. q +ℚ total ps) e ∙ +ℚ_assoc sum p (total ps))
    (prices_sum ps v))
