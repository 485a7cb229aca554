-- Least and greatest activities.
use Rattle.std.proofs.Common.{◌≡◌, true, false, Bool, List, [], ◌∷◌, Option, None, Some, IfSome, IfOk, Result, Ok, Err, refl, sym, ap, ◌∙◌, subst}
use Rattle.cip_rational.specs.Rational.{ℚ, ◌+ℚ◌, ◌*ℚ◌, zeroℚ, negate, ◌≤ℚ◌, lt_test}
use Rattle.cip_rational.proofs.Rational.Order.{≤ℚ_refl, ≤ℚ_trans, ≤ℚ_of_eq, ≤ℚ_of_lt, lt_of_test, le_of_lt_test, not_le_of_lt}
use Rattle.cip_rational.proofs.Rational.Ring.{zero-+ℚ, +ℚ-zero, +ℚ_assoc, negate-*ℚ, negate-add, negate_zero, negate_negate}
use Rattle.cip_rational.proofs.Rational.Monotone.{+ℚ_mono, *ℚ_mono, negate_mono}
use Rattle.cip_rational.proofs.Rational.Inverse.{*ℚ_antitone}
use Rattle.cip_problem.specs.Program.{Term, Sides, Row}
use Rattle.cip_problem.specs.Activity.{activity, value_at}
use Rattle.cip_problem.specs.Box.{Between, IsInBox, sides_at, sides_inside}
use Rattle.cip_problem.proofs.Points.AtPlaces.{in_box_at}
use Rattle.cip_problem.proofs.Box.SideTests.{sides_inside_holds}
use Rattle.cip_lin.specs.Outcomes.{product_added}
use Rattle.cip_lin.specs.Wide.{Wide}
use Rattle.cip_lin.proofs.PassedOn.{product_added-value}
use Rattle.cip_lin.specs.declared.outcomes.Least.{Least}
use Rattle.cip_lin.specs.declared.outcomes.Least.TheVariants.{Value, NoBound, Wide as TooWide}
use Rattle.cip_lin.specs.RowSums.{least_side, least_of, least_at, least_added, least_then, least_from}
use Rattle.cip_lin.specs.MetSides.{is_past}
use Rattle.cip_search.specs.RowSteps.{HoldsInAll, HoldsNowhere, IsBelow, IsAbove}
use Rattle.cip_presolve.specs.RowReading.{negated, Encloses}

-- a sum with a least product is at most the sum with the product
product_least : (sum c side m : ℚ) (r : Result ℚ Wide) → IfOk r (λ v. v ≡ sum +ℚ c *ℚ side) → least_of r ≡ Value m → m ≡ sum +ℚ c *ℚ side
product_least sum c side m (Ok v) h e = let k : v ≡ m = cc in sym k ∙ h
product_least sum c side m (Err w) h e = cc

side_least : (sum c v m : ℚ) (o : Option ℚ) → IfSome o (λ side. c *ℚ side ≤ℚ c *ℚ v) → least_at sum c o ≡ Value m → m ≤ℚ sum +ℚ c *ℚ v
side_least sum c v m None h e = cc
side_least sum c v m (Some side) h e =
    let k : m ≡ sum +ℚ c *ℚ side = product_least sum c side m (product_added sum c side) (product_added-value sum c side) e in
    ≤ℚ_trans (≤ℚ_of_eq k) (+ℚ_mono (≤ℚ_refl sum) h)

high_least : (c v : ℚ) (high : Option ℚ) → c ≤ℚ zeroℚ → IfSome high (λ side. v ≤ℚ side) → IfSome high (λ side. c *ℚ side ≤ℚ c *ℚ v)
high_least c v None n h = tt
high_least c v (Some side) n h = *ℚ_antitone v side c n h

low_least : (c v : ℚ) (low : Option ℚ) → zeroℚ ≤ℚ c → IfSome low (λ side. side ≤ℚ v) → IfSome low (λ side. c *ℚ side ≤ℚ c *ℚ v)
low_least c v None n h = tt
low_least c v (Some side) n h = *ℚ_mono side v c n h

least_product : (c v : ℚ) (sides : Sides) → Between sides.low sides.high v → IfSome (least_side c sides) (λ side. c *ℚ side ≤ℚ c *ℚ v)
least_product c v sides h = go (lt_test c zeroℚ) refl
  where
    go : (t : Bool) → lt_test c zeroℚ ≡ t → IfSome (least_side c sides) (λ side. c *ℚ side ≤ℚ c *ℚ v)
    go true e = rw e (high_least c v sides.high (≤ℚ_of_lt (lt_of_test e)) h.below)
    go false e = rw e (low_least c v sides.low (le_of_lt_test e) h.above)

pub least_sum_below : (sum : ℚ) (terms : List Term) (box : List Sides) (q : ℚ) (x : List ℚ) → IsInBox box x → least_from sum terms box ≡ Value q → q ≤ℚ sum +ℚ activity terms x
least_sum_below sum [] box q x h e = let k : sum ≡ q = cc in ≤ℚ_of_eq (sym k ∙ sym (+ℚ-zero sum))
least_sum_below sum (t ∷ ts) box q x h e = go (λ m f. least_sum_below m ts box q x h f) (least_added sum t.coefficient (sides_at box t.column)) refl e
  where
    added : (m : ℚ) → least_added sum t.coefficient (sides_at box t.column) ≡ Value m → m ≤ℚ sum +ℚ t.coefficient *ℚ value_at x t.column
    added m k = side_least sum t.coefficient (value_at x t.column) m (least_side t.coefficient (sides_at box t.column)) (least_product t.coefficient (value_at x t.column) (sides_at box t.column) (in_box_at box x t.column h)) k

    go : ((m : ℚ) → least_from m ts box ≡ Value q → q ≤ℚ m +ℚ activity ts x) → (r : Least) → least_added sum t.coefficient (sides_at box t.column) ≡ r → least_then r (λ more. least_from more ts box) ≡ Value q → q ≤ℚ sum +ℚ (t.coefficient *ℚ value_at x t.column +ℚ activity ts x)
    go rest (Value m) k f =
        subst (λ t. q ≤ℚ t) (+ℚ_assoc sum (t.coefficient *ℚ value_at x t.column) (activity ts x))
        (≤ℚ_trans (rest m f) (+ℚ_mono (added m k) (≤ℚ_refl (activity ts x))))
    go rest NoBound k f = cc
    go rest TooWide k f = cc

pub least_below : (terms : List Term) (box : List Sides) (q : ℚ) → least_from zeroℚ terms box ≡ Value q → IsBelow box terms q
least_below terms box q e x h = subst (λ t. q ≤ℚ t) (zero-+ℚ (activity terms x)) (least_sum_below zeroℚ terms box q x h e)

negated_activity : (terms : List Term) (x : List ℚ) → activity (negated terms) x ≡ negate (activity terms x)
negated_activity [] x = sym negate_zero
negated_activity (t ∷ ts) x =
    ap (λ s. s +ℚ activity (negated ts) x) (negate-*ℚ t.coefficient (value_at x t.column))
    ∙ ap (λ s. negate (t.coefficient *ℚ value_at x t.column) +ℚ s) (negated_activity ts x)
    ∙ sym (negate-add (t.coefficient *ℚ value_at x t.column) (activity ts x))

pub greatest_above : (terms : List Term) (box : List Sides) (q : ℚ) → least_from zeroℚ (negated terms) box ≡ Value q → IsAbove box terms (negate q)
greatest_above terms box q e x h =
    subst (λ t. t ≤ℚ negate q) (negate_negate (activity terms x))
    (negate_mono (subst (λ t. q ≤ℚ t) (negated_activity terms x) (least_below (negated terms) box q e x h)))

-- a value that is the other sign's other sign
pub negated_back : (least : Least) (value : ℚ) → least ≡ Value value → least ≡ Value (negate (negate value))
negated_back least value e = e ∙ ap Value (sym (negate_negate value))

pub ruleset other_sign = (negated_back)

-- least and greatest activity, where they are in range
pub least_low : (box : List Sides) (terms : List Term) (low : Option ℚ) (l : Least) → IfSome low (λ v. l ≡ Value v) → l ≡ least_from zeroℚ terms box → IfSome low (IsBelow box terms)
least_low box terms None l h e = tt
least_low box terms (Some v) l h e = least_below terms box v (sym e ∙ h)

pub greatest_high : (box : List Sides) (terms : List Term) (high : Option ℚ) (g : Least) → IfSome high (λ v. g ≡ Value (negate v)) → g ≡ least_from zeroℚ (negated terms) box → IfSome high (IsAbove box terms)
greatest_high box terms None g h e = tt
greatest_high box terms (Some v) g h e = subst (λ q. IsAbove box terms q) (negate_negate v) (greatest_above terms box (negate v) (sym e ∙ h))

-- ---- what the extent says

pub always : (box : List Sides) (row : Row) (extent : Sides) (low high : Option ℚ) → low ≡ row.low → high ≡ row.high → Encloses box row.terms extent → sides_inside extent (record { low = low; high = high }) ≡ true → HoldsInAll box row
always box row extent low high e f h k x w =
    let b : Between low high (activity row.terms x) = sides_inside_holds extent (record { low = low; high = high }) (activity row.terms x) k (h x w) in
    record {
      above = subst (λ o. IfSome o (λ side. side ≤ℚ activity row.terms x)) e b.above;
      below = subst (λ o. IfSome o (λ side. activity row.terms x ≤ℚ side)) f b.below;
    }

pub past_below : (low high : Option ℚ) (v : ℚ) → is_past low high ≡ true → IfSome low (λ side. side ≤ℚ v) → IfSome high (λ side. v ≤ℚ side) → ⊥
past_below None high v e h k = cc
past_below (Some low) None v e h k = cc
past_below (Some low) (Some high) v e h k = not_le_of_lt (lt_of_test e) (≤ℚ_trans h k)

pub never_high : (box : List Sides) (row : Row) (extent : Sides) (high : Option ℚ) → high ≡ row.high → Encloses box row.terms extent → is_past extent.low high ≡ true → HoldsNowhere box row
never_high box row extent high e h k x w s =
    past_below extent.low high (activity row.terms x) k (h x w).above (subst (λ o. IfSome o (λ side. activity row.terms x ≤ℚ side)) (sym e) s.below)

pub never_low : (box : List Sides) (row : Row) (extent : Sides) (low : Option ℚ) → low ≡ row.low → Encloses box row.terms extent → is_past low extent.high ≡ true → HoldsNowhere box row
never_low box row extent low e h k x w s =
    past_below low extent.high (activity row.terms x) k (subst (λ o. IfSome o (λ side. side ≤ℚ activity row.terms x)) (sym e) s.above) (h x w).below

-- least and greatest activity as sides
pub enclosed : (box : List Sides) (terms : List Term) (low high : Option ℚ) → IfSome low (IsBelow box terms) → IfSome high (IsAbove box terms) → Encloses box terms (record { low = low; high = high })
enclosed box terms low high h k x w = record { above = lower low h; below = upper high k }
  where
    lower : (low : Option ℚ) → IfSome low (IsBelow box terms) → IfSome low (λ side. side ≤ℚ activity terms x)
    lower None h = tt
    lower (Some low) h = h x w

    upper : (high : Option ℚ) → IfSome high (IsAbove box terms) → IfSome high (λ side. activity terms x ≤ℚ side)
    upper None k = tt
    upper (Some high) k = k x w

pub ruleset extents_say = (always, never_high, never_low)
