-- Activities without one term.
use Rattle.std.proofs.Common.{◌≡◌, ◌≢◌, ℕ, zero, suc, ◌+◌, ◌<◌, Bool, true, false, List, [], ◌∷◌, length, Option, None, Some, IfSome, IfOk, Result, Ok, Err, slice_get, refl, sym, ap, ◌∙◌, subst, arith}
use Rattle.std.specs.Prelude.{slice_set, slice_index_or, if◌then◌else◌}
use Rattle.std.specs.List.{AllByRecursion, remove}
use Rattle.std.proofs.lemmas.Option.{none-some, same_Some, get_or_from_slice_get, slice_get-get_or}
use Rattle.cip_rational.specs.Rational.{ℚ, ◌+ℚ◌, ◌-ℚ◌, ◌*ℚ◌, zeroℚ, negate, ◌≤ℚ◌, lt_test}
use Rattle.cip_rational.proofs.Rational.Order.{≤ℚ_refl, ≤ℚ_trans}
use Rattle.cip_rational.proofs.Rational.Ring.{zero-+ℚ, negate-*ℚ, negate_negate}
use Rattle.cip_rational.proofs.Linear.{linear_le, linear_same}
use Rattle.cip_problem.specs.Program.{Term, Sides, Row}
use Rattle.cip_problem.specs.Activity.{activity, value_at, StandsBelow}
use Rattle.cip_problem.specs.Box.{Between, IsInBox, sides_at}
use Rattle.cip_problem.specs.RowTerms.{column_at, coefficient_at, no_term, AreTerms}
use Rattle.cip_problem.proofs.Points.AtPlaces.{in_box_at, IsInBox-long}
use Rattle.cip_frac.specs.Outcomes.{product_added}
use Rattle.cip_frac.specs.declared.operations.Wide.{Wide}
use Rattle.cip_frac.proofs.Outcomes.{product_added-value}
use Rattle.cip_presolve.specs.Least.{Least}
use Rattle.cip_presolve.specs.Least.TheVariants.{Value}
use Rattle.cip_presolve.specs.RowSums.{least_side, least_of, least_at, least_added}
use Rattle.cip_presolve.specs.RowReading.{Encloses}
use Rattle.cip_presolve.proofs.FixedColumns.{from_rec, to_rec}
use Rattle.cip_presolve.specs.Rests.{IsLeastProduct, IsGreatestProduct, product_at, IsDifference, IsRestBelow, IsRestAbove, AreRests}
use Rattle.cip_search.proofs.Moving.{set_same, set_other}

-- ---- products at one side

least_value : (c side m : ℚ) (r : Result ℚ Wide) → IfOk r (λ v. v ≡ zeroℚ +ℚ c *ℚ side) → least_of r ≡ Value m → m ≡ c *ℚ side
least_value c side m (Ok v) h e = let k : v ≡ m = cc in sym k ∙ h ∙ zero-+ℚ (c *ℚ side)
least_value c side m (Err w) h e = cc

-- the side at which a product stands, and the product
record AtSide (c : ℚ) (o : Option ℚ) (m : ℚ) : Type 0 where
  side : ℚ
  is : o ≡ Some side
  value : m ≡ c *ℚ side

at_side : (c m : ℚ) (o : Option ℚ) → least_at zeroℚ c o ≡ Value m → AtSide c o m
at_side c m None e = let f : ⊥ = cc in absurd f
at_side c m (Some side) e = record { side = side; is = refl; value = least_value c side m (product_added zeroℚ c side) (product_added-value zeroℚ c side) e }

least_product_is : (c m : ℚ) (sides : Sides) → least_added zeroℚ c sides ≡ Value m → IsLeastProduct c sides m
least_product_is c m sides e =
    let p = at_side c m (least_side c sides) e in
    record { side = p.side; is = p.is; value = p.value }

greatest_product_is : (c m : ℚ) (sides : Sides) → least_added zeroℚ (negate c) sides ≡ Value m → IsGreatestProduct c sides (negate m)
greatest_product_is c m sides e =
    let p = at_side (negate c) m (least_side (negate c) sides) e in
    record { side = p.side; is = p.is; value = ap negate (p.value ∙ negate-*ℚ c p.side) ∙ negate_negate (c *ℚ p.side) }

least_product_of : (c : ℚ) (sides : Sides) (own : Option ℚ) (l : Least) → IfSome own (λ v. l ≡ Value v) → l ≡ least_added zeroℚ c sides → IfSome own (IsLeastProduct c sides)
least_product_of c sides None l h e = tt
least_product_of c sides (Some m) l h e = least_product_is c m sides (sym e ∙ h)

greatest_product_of : (c : ℚ) (sides : Sides) (own : Option ℚ) (g : Least) → IfSome own (λ v. g ≡ Value (negate v)) → g ≡ least_added zeroℚ (negate c) sides → IfSome own (IsGreatestProduct c sides)
greatest_product_of c sides None g h e = tt
greatest_product_of c sides (Some m) g h e = subst (λ q. IsGreatestProduct c sides q) (negate_negate m) (greatest_product_is c (negate m) sides (sym e ∙ h))

pub difference_is : (minuend subtrahend difference : ℚ) → difference ≡ minuend -ℚ subtrahend → IsDifference (Some minuend) (Some subtrahend) difference
difference_is minuend subtrahend difference h = record { minuend = minuend; subtrahend = subtrahend; is_side = refl; is_rest = refl; value = h }

-- ---- a point with the value of one column replaced by a side

box_with : (box : List Sides) (x : List ℚ) (column : ℕ) (v : ℚ) → IsInBox box x → Between (sides_at box column).low (sides_at box column).high v → IsInBox box (slice_set x column v)
box_with [] [] column v h b = tt
box_with [] (w ∷ x) column v h b = absurd h
box_with (s ∷ ss) [] column v h b = absurd h
box_with (s ∷ ss) (w ∷ x) zero v h b = (b, h.1)
box_with (s ∷ ss) (w ∷ x) (suc column) v h b = (h.0, box_with ss x column v h.1 b)

low_to : (low : Option ℚ) (v s : ℚ) → v ≤ℚ s → IfSome low (λ side. side ≤ℚ v) → IfSome low (λ side. side ≤ℚ s)
low_to None v s l h = tt
low_to (Some low) v s l h = ≤ℚ_trans h l

high_to : (high : Option ℚ) (v s : ℚ) → s ≤ℚ v → IfSome high (λ side. v ≤ℚ side) → IfSome high (λ side. s ≤ℚ side)
high_to None v s l h = tt
high_to (Some high) v s l h = ≤ℚ_trans l h

-- a side that is there lies between the sides, where some value does
picked : (t : Bool) (sides : Sides) (s v : ℚ) → (if t then sides.high else sides.low) ≡ Some s → Between sides.low sides.high v → Between sides.low sides.high s
picked true sides s v e b =
    let l : v ≤ℚ s = subst (λ o. IfSome o (λ side. v ≤ℚ side)) e b.below in
    record { above = low_to sides.low v s l b.above; below = subst (λ o. IfSome o (λ side. s ≤ℚ side)) (sym e) (≤ℚ_refl s) }
picked false sides s v e b =
    let l : s ≤ℚ v = subst (λ o. IfSome o (λ side. side ≤ℚ v)) e b.above in
    record { above = subst (λ o. IfSome o (λ side. side ≤ℚ s)) (sym e) (≤ℚ_refl s); below = high_to sides.high v s l b.below }

side_between : (c : ℚ) (sides : Sides) (s v : ℚ) → least_side c sides ≡ Some s → Between sides.low sides.high v → Between sides.low sides.high s
side_between c sides s v e b = picked (lt_test c zeroℚ) sides s v e b

-- ---- the place of a column

-- a column stands at this place of a row alone
abbrev OnlyAt : ℕ → ℕ → List Term → Type 0
OnlyAt column place [] = Unit {0}
OnlyAt column zero (t ∷ ts) = (t.column ≡ column) × AllByRecursion (λ u. u.column ≢ column) ts
OnlyAt column (suc place) (t ∷ ts) = (t.column ≢ column) × OnlyAt column place ts

other_terms : (t : Term) (ts : List Term) → AreTerms (t ∷ ts) → AreTerms ts
other_terms t ts a = record {
  rising = λ k l.
      let e : suc k + 1 ≡ suc (k + 1) = omega arith in
      let r : column_at (t ∷ ts) (suc k) < column_at (t ∷ ts) (suc k + 1) = a.rising (suc k) (omega (arith, l)) in
      subst (λ n. column_at ts k < column_at (t ∷ ts) n) e r;
  nonzero = λ k l. a.nonzero (suc k) (omega (arith, l));
}

above_all : (n m : ℕ) (ts : List Term) → n < m → AllByRecursion (λ u. m < u.column) ts → AllByRecursion (λ u. n < u.column) ts
above_all n m [] l h = tt
above_all n m (t ∷ ts) l h = let k = h.0 in (omega (arith, l, k), above_all n m ts l h.1)

first_below : (t : Term) (ts : List Term) → AreTerms (t ∷ ts) → AllByRecursion (λ u. t.column < u.column) ts
first_below t [] a = tt
first_below t (u ∷ us) a =
    let l : t.column < u.column = a.rising 0 (omega arith) in
    (l, above_all t.column u.column us l (first_below u us (other_terms t (u ∷ us) a)))

none_there : (n : ℕ) (ts : List Term) → AllByRecursion (λ u. n < u.column) ts → AllByRecursion (λ u. u.column ≢ n) ts
none_there n [] h = tt
none_there n (t ∷ ts) h = let k = h.0 in ((λ e. omega (arith, k, e)), none_there n ts h.1)

below_at : (n : ℕ) (ts : List Term) (k : ℕ) → AllByRecursion (λ u. n < u.column) ts → k < length ts → n < column_at ts k
below_at n [] k h l = absurd (omega (arith, l))
below_at n (t ∷ ts) zero h l = h.0
below_at n (t ∷ ts) (suc k) h l = below_at n ts k h.1 (omega (arith, l))

only_at : (ts : List Term) (k : ℕ) → AreTerms ts → k < length ts → OnlyAt (column_at ts k) k ts
only_at [] k a l = tt
only_at (t ∷ ts) zero a l = (refl, none_there t.column ts (first_below t ts a))
only_at (t ∷ ts) (suc k) a l =
    let inside : k < length ts = omega (arith, l) in
    let b = below_at t.column ts k (first_below t ts a) inside in
    ((λ e. omega (arith, b, e)), only_at ts k (other_terms t ts a) inside)

-- ---- the activity where the value at a place is replaced

absent : (ts : List Term) (x : List ℚ) (column : ℕ) (v : ℚ) → AllByRecursion (λ u. u.column ≢ column) ts → activity ts (slice_set x column v) ≡ activity ts x
absent [] x column v h = refl
absent (t ∷ ts) x column v h =
    ap (λ w. t.coefficient *ℚ w +ℚ activity ts (slice_set x column v)) (set_other x column t.column v h.0)
    ∙ ap (λ w. t.coefficient *ℚ value_at x t.column +ℚ w) (absent ts x column v h.1)

replaced : (ts : List Term) (k : ℕ) (x : List ℚ) (column : ℕ) (v : ℚ) → column < length x → k < length ts → OnlyAt column k ts → activity ts (slice_set x column v) +ℚ product_at ts k x ≡ activity ts x +ℚ coefficient_at ts k *ℚ v
replaced [] k x column v i l o = absurd (omega (arith, l))
replaced (t ∷ ts) zero x column v i l o =
    let p : t.coefficient *ℚ value_at (slice_set x column v) t.column ≡ t.coefficient *ℚ v = ap (λ w. t.coefficient *ℚ w) (ap (value_at (slice_set x column v)) o.0 ∙ set_same x column v i) in
    let q = absent ts x column v o.1 in
    linear_same ((t.coefficient *ℚ value_at (slice_set x column v) t.column) ∷ (t.coefficient *ℚ v) ∷ (t.coefficient *ℚ value_at x t.column) ∷ activity ts (slice_set x column v) ∷ activity ts x ∷ []) (λ s w. omega (arith, s.same_out))
replaced (t ∷ ts) (suc k) x column v i l o =
    let p : t.coefficient *ℚ value_at (slice_set x column v) t.column ≡ t.coefficient *ℚ value_at x t.column = ap (λ w. t.coefficient *ℚ w) (set_other x column t.column v o.0) in
    let q : activity ts (slice_set x column v) +ℚ product_at ts k x ≡ activity ts x +ℚ coefficient_at ts k *ℚ v = replaced ts k x column v i (omega (arith, l)) o.1 in
    linear_same ((t.coefficient *ℚ value_at (slice_set x column v) t.column) ∷ (t.coefficient *ℚ value_at x t.column) ∷ activity ts (slice_set x column v) ∷ activity ts x ∷ product_at ts k x ∷ (coefficient_at ts k *ℚ v) ∷ []) (λ s w. omega (arith, s.same_out))

-- ---- without a term

pub removed_activity : (terms : List Term) (at : ℕ) (own : Term) (x : List ℚ) → slice_get terms at ≡ Some own → activity (remove terms at) x ≡ activity terms x -ℚ own.coefficient *ℚ value_at x own.column
removed_activity [] at own x g = absurd (none-some own g)
removed_activity (t ∷ ts) zero own x g =
    let e : t.coefficient *ℚ value_at x t.column ≡ own.coefficient *ℚ value_at x own.column = ap (λ (u : Term). u.coefficient *ℚ value_at x u.column) (same_Some t own g) in
    linear_same ((t.coefficient *ℚ value_at x t.column) ∷ (own.coefficient *ℚ value_at x own.column) ∷ activity ts x ∷ []) (λ s w. omega (arith, s.same_out))
removed_activity (t ∷ ts) (suc at) own x g =
    let e : activity (remove ts at) x ≡ activity ts x -ℚ own.coefficient *ℚ value_at x own.column = removed_activity ts at own x g in
    linear_same ((t.coefficient *ℚ value_at x t.column) ∷ (own.coefficient *ℚ value_at x own.column) ∷ activity ts x ∷ activity (remove ts at) x ∷ []) (λ s w. omega (arith, s.same_out))

removed_all : (P : Term → Type 0) (terms : List Term) (at : ℕ) → AllByRecursion P terms → AllByRecursion P (remove terms at)
removed_all P [] zero h = tt
removed_all P [] (suc at) h = tt
removed_all P (t ∷ ts) zero h = h.1
removed_all P (t ∷ ts) (suc at) h = (h.0, removed_all P ts at h.1)

pub removed_stands : (n : ℕ) (terms : List Term) (at : ℕ) → StandsBelow n terms → StandsBelow n (remove terms at)
removed_stands n terms at h = from_rec (λ t. t.column < n) (remove terms at) (removed_all (λ t. t.column < n) terms at (to_rec (λ t. t.column < n) terms h))

pub made_without : (terms less : List Term) (at : ℕ) (rest : Row) → less ≡ remove terms at → rest ≡ record { terms = less; low = None; high = None } → rest.terms ≡ remove terms at
made_without terms less at rest e k = ap (λ (r : Row). r.terms) k ∙ e

pub ruleset without = (made_without)

product_is : (terms : List Term) (at : ℕ) (x : List ℚ) → at < length terms → activity (remove terms at) x ≡ activity terms x -ℚ product_at terms at x
product_is terms at x l =
    let g : slice_get terms at ≡ Some (slice_index_or terms at no_term) = slice_get-get_or terms at no_term l in
    removed_activity terms at (slice_index_or terms at no_term) x g

pub rests_by : (box : List Sides) (terms less : List Term) (at : ℕ) (sides : Sides) → at < length terms → less ≡ remove terms at → Encloses box less sides → AreRests box terms at sides
rests_by box terms less at sides l e h = record { below = lower sides.low (λ x w. (h x w).above); above = upper sides.high (λ x w. (h x w).below) }
  where
    less_is : (x : List ℚ) → activity less x ≡ activity terms x -ℚ product_at terms at x
    less_is x = ap (λ (ts : List Term). activity ts x) e ∙ product_is terms at x l

    lower : (low : Option ℚ) → ((x : List ℚ) → IsInBox box x → IfSome low (λ side. side ≤ℚ activity less x)) → IfSome low (IsRestBelow box terms at)
    lower None f = tt
    lower (Some low) f = λ x w.
        let k : low ≤ℚ activity less x = f x w in
        let m = less_is x in
        linear_le (low ∷ activity less x ∷ activity terms x ∷ product_at terms at x ∷ []) (λ s u. omega (arith, s.le_out, s.same_out))

    upper : (high : Option ℚ) → ((x : List ℚ) → IsInBox box x → IfSome high (λ side. activity less x ≤ℚ side)) → IfSome high (IsRestAbove box terms at)
    upper None f = tt
    upper (Some high) f = λ x w.
        let k : activity less x ≤ℚ high = f x w in
        let m = less_is x in
        linear_le (high ∷ activity less x ∷ activity terms x ∷ product_at terms at x ∷ []) (λ s u. omega (arith, s.le_out, s.same_out))

pub none_known : (box : List Sides) (terms : List Term) (at : ℕ) (sides : Sides) → sides.low ≡ None → sides.high ≡ None → AreRests box terms at sides
none_known box terms at sides l h = record {
  below = subst (λ o. IfSome o (IsRestBelow box terms at)) (sym l) tt;
  above = subst (λ o. IfSome o (IsRestAbove box terms at)) (sym h) tt;
}

pub less_stands : (n : ℕ) (terms less : List Term) (at : ℕ) → less ≡ remove terms at → StandsBelow n terms → StandsBelow n less
less_stands n terms less at e h = subst (λ (ts : List Term). StandsBelow n ts) (sym e) (removed_stands n terms at h)

pub ruleset summed = (rests_by, none_known, less_stands)

-- ---- the rest

module _ (box : List Sides) (terms : List Term) (k : ℕ) (are : AreTerms terms) (stands : StandsBelow (length box) terms) (inside : k < length terms) where
  column_inside : (x : List ℚ) → IsInBox box x → column_at terms k < length x
  column_inside x w =
      let long = IsInBox-long box x w in
      let below : column_at terms k < length box = stands k no_term inside in
      omega (arith, long, below)

  moved : (x : List ℚ) (s : ℚ) → IsInBox box x → activity terms (slice_set x (column_at terms k) s) +ℚ product_at terms k x ≡ activity terms x +ℚ coefficient_at terms k *ℚ s
  moved x s w = replaced terms k x (column_at terms k) s (column_inside x w) inside (only_at terms k are inside)

  moved_in : (c s : ℚ) (x : List ℚ) → least_side c (sides_at box (column_at terms k)) ≡ Some s → IsInBox box x → IsInBox box (slice_set x (column_at terms k) s)
  moved_in c s x e w =
      box_with box x (column_at terms k) s w
      (side_between c (sides_at box (column_at terms k)) s (value_at x (column_at terms k)) e (in_box_at box x (column_at terms k) w))

  below_rest : (least p r : ℚ) → ((x : List ℚ) → IsInBox box x → least ≤ℚ activity terms x) → IsLeastProduct (coefficient_at terms k) (sides_at box (column_at terms k)) p → r ≡ least -ℚ p → IsRestBelow box terms k r
  below_rest least p r f q e x w =
      let a : least ≤ℚ activity terms (slice_set x (column_at terms k) q.side) = f (slice_set x (column_at terms k) q.side) (moved_in (coefficient_at terms k) q.side x q.is w) in
      let m = moved x q.side w in
      let v = q.value in
      linear_le (r ∷ least ∷ p ∷ (coefficient_at terms k *ℚ q.side) ∷ product_at terms k x ∷ activity terms x ∷ activity terms (slice_set x (column_at terms k) q.side) ∷ []) (λ s w. omega (arith, s.le_out, s.same_out))

  above_rest : (greatest p r : ℚ) → ((x : List ℚ) → IsInBox box x → activity terms x ≤ℚ greatest) → IsGreatestProduct (coefficient_at terms k) (sides_at box (column_at terms k)) p → r ≡ greatest -ℚ p → IsRestAbove box terms k r
  above_rest greatest p r f q e x w =
      let a : activity terms (slice_set x (column_at terms k) q.side) ≤ℚ greatest = f (slice_set x (column_at terms k) q.side) (moved_in (negate (coefficient_at terms k)) q.side x q.is w) in
      let m = moved x q.side w in
      let v = q.value in
      linear_le (r ∷ greatest ∷ p ∷ (coefficient_at terms k *ℚ q.side) ∷ product_at terms k x ∷ activity terms x ∷ activity terms (slice_set x (column_at terms k) q.side) ∷ []) (λ s w. omega (arith, s.le_out, s.same_out))

  rested_below : (term : Term) (extent : Sides) (own found : Option ℚ) → slice_get terms k ≡ Some term → Encloses box terms extent → IfSome own (IsLeastProduct term.coefficient (sides_at box term.column)) → IfSome found (IsDifference extent.low own) → IfSome found (IsRestBelow box terms k)
  rested_below term extent own None g h o d = tt
  rested_below term extent own (Some r) g h o d =
      let t : slice_index_or terms k no_term ≡ term = get_or_from_slice_get terms k term no_term g in
      let q : IsLeastProduct term.coefficient (sides_at box term.column) d.subtrahend = subst (λ z. IfSome z (IsLeastProduct term.coefficient (sides_at box term.column))) d.is_rest o in
      below_rest d.minuend d.subtrahend r
      (λ x w. subst (λ z. IfSome z (λ side. side ≤ℚ activity terms x)) d.is_side (h x w).above)
      (subst (λ (u : Term). IsLeastProduct u.coefficient (sides_at box u.column) d.subtrahend) (sym t) q) d.value

  rested_above : (term : Term) (extent : Sides) (own found : Option ℚ) → slice_get terms k ≡ Some term → Encloses box terms extent → IfSome own (IsGreatestProduct term.coefficient (sides_at box term.column)) → IfSome found (IsDifference extent.high own) → IfSome found (IsRestAbove box terms k)
  rested_above term extent own None g h o d = tt
  rested_above term extent own (Some r) g h o d =
      let t : slice_index_or terms k no_term ≡ term = get_or_from_slice_get terms k term no_term g in
      let q : IsGreatestProduct term.coefficient (sides_at box term.column) d.subtrahend = subst (λ z. IfSome z (IsGreatestProduct term.coefficient (sides_at box term.column))) d.is_rest o in
      above_rest d.minuend d.subtrahend r
      (λ x w. subst (λ z. IfSome z (λ side. activity terms x ≤ℚ side)) d.is_side (h x w).below)
      (subst (λ (u : Term). IsGreatestProduct u.coefficient (sides_at box u.column) d.subtrahend) (sym t) q) d.value

  -- what is left of the sides of an activity, by the least and the greatest product of the term
  pub rested : (term : Term) (extent : Sides) (own more low high : Option ℚ) (l g : Least) → slice_get terms k ≡ Some term → Encloses box terms extent → IfSome own (λ v. l ≡ Value v) → IfSome more (λ v. g ≡ Value (negate v)) → l ≡ least_added zeroℚ term.coefficient (sides_at box term.column) → g ≡ least_added zeroℚ (negate term.coefficient) (sides_at box term.column) → IfSome low (IsDifference extent.low own) → IfSome high (IsDifference extent.high more) → AreRests box terms k (record { low = low; high = high })
  rested term extent own more low high l g s h a b e f d u = record {
    below = rested_below term extent own low s h (least_product_of term.coefficient (sides_at box term.column) own l a e) d;
    above = rested_above term extent more high s h (greatest_product_of term.coefficient (sides_at box term.column) more g b f) u;
  }
