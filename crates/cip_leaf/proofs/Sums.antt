-- Sums that overflow in code, and the places that they make wide.
use Rattle.std.proofs.Common.{◌≡◌, ℕ, zero, suc, ◌<◌, Bool, true, false, List, [], ◌∷◌, map, length, Option, None, Some, Result, Ok, Err, All, refl, sym, ap, ◌∙◌, subst, arith, true≢false, cond}
use Rattle.std.specs.Prelude.{IsErr, slice_get, slice_index_or}
use Rattle.std.proofs.lemmas.List.Elements.{All-head, All-tail}
use Rattle.std.proofs.lemmas.Option.{none-some, same_Some}
use Rattle.cip_rational.specs.Rational.{ℚ, zeroℚ, ◌+ℚ◌, ◌*ℚ◌}
use Rattle.cip_rational.specs.Range.{fits_range, sum_overflows, product_overflows}
use Rattle.cip_rational.proofs.Range.InRange.{sum_fits, fits-zero}
use Rattle.cip_rational.proofs.Rational.Ring.{*ℚ-zero, +ℚ-zero}
use Rattle.cip_rational.proofs.WithZero.{sum_overflows-zero, product_overflows-zero}
use Rattle.cip_problem.specs.Program.{Term, Sides, Row, Program}
use Rattle.cip_problem.specs.WellFormed.{IsWellFormed, columns}
use Rattle.cip_problem.specs.Activity.{StandsBelow, value_at}
use Rattle.cip_frac.specs.declared.operations.Wide.{Wide as Overflow}
use Rattle.cip_frac.specs.declared.operations.Operation.TheVariants.{Sum}
use Rattle.cip_frac.specs.Outcomes.{and_then, product_added, dot_from}
use Rattle.cip_lin.specs.RowSums.{activity_from}
use Rattle.cip_search.specs.Leaf.{IsLeaf, IsLeafIn}
use Rattle.cip_search.specs.Wide.{InRow, fixed_values, added, then_sum, row_part, cost_part, is_wide_row, IsWideAt}
use Rattle.cip_search.specs.LeafProgram.{is_continuous, merged}
use Rattle.cip_search.specs.WideLeaf.{SumOverflows}
use Rattle.cip_search.proofs.Merged.{continuous_value}
use Rattle.cip_model.specs.Meaning.{Overflows, RowOverflows}
use Rattle.cip_model.specs.Rays.{RayOverflows}
use Rattle.cip_model.specs.declared.verdicts.Place.{Place}
use Rattle.cip_model.specs.declared.verdicts.Place.TheVariants.{Row as AtRow, Cost}
use Rattle.cip_leaf.specs.Building.{is_too_wide, IsTooWideAt}
use Rattle.cip_leaf.specs.LeafAnswers.{place_of}

-- the value of an outcome, none where an operation overflows
abbrev pub outcome_of : Result ℚ Overflow → Option ℚ
outcome_of (Ok q) = Some q
outcome_of (Err wide) = None

err_none : (result : Result ℚ Overflow) → IsErr result → outcome_of result ≡ None
err_none (Ok q) h = absurd (cc)
err_none (Err wide) h = refl

-- a sum with a product added
added_by : (sum a b : ℚ) (p s : Bool) → product_overflows a b ≡ p → sum_overflows sum (a *ℚ b) ≡ s → added sum a b ≡ outcome_of (product_added sum a b)
added_by sum a b true s e f = rw e refl
added_by sum a b false true e f = rw (e, f) refl
added_by sum a b false false e f = rw (e, f) refl

added_same : (sum a b : ℚ) → added sum a b ≡ outcome_of (product_added sum a b)
added_same sum a b = added_by sum a b (product_overflows a b) (sum_overflows sum (a *ℚ b)) refl refl

value_there : (point : List ℚ) (column : ℕ) → column < length point → slice_index_or (map Some point) column None ≡ Some (value_at point column)
value_there [] column l = absurd (omega (arith, l))
value_there (v ∷ vs) zero l = refl
value_there (v ∷ vs) (suc column) l = value_there vs column (omega (arith, l))

-- ---- at a point

row_then : (result : Result ℚ Overflow) (ts : List Term) (point : List ℚ) → ((sum : ℚ) → row_part sum ts (map Some point) ≡ outcome_of (activity_from sum ts point)) → then_sum (outcome_of result) (λ more. row_part more ts (map Some point)) ≡ outcome_of (and_then result (λ more. activity_from more ts point))
row_then (Ok q) ts point h = h q
row_then (Err wide) ts point h = refl

row_same : (sum : ℚ) (terms : List Term) (point : List ℚ) → StandsBelow (length point) terms → row_part sum terms (map Some point) ≡ outcome_of (activity_from sum terms point)
row_same sum [] point h = refl
row_same sum (t ∷ ts) point h =
    let value = value_there point t.column (All-head (λ t. t.column < length point) t ts h) in
    let same = added_same sum t.coefficient (value_at point t.column) in
    rw (value, same)
    (row_then (product_added sum t.coefficient (value_at point t.column)) ts point (λ more. row_same more ts point (All-tail (λ t. t.column < length point) t ts h)))

cost_then : (result : Result ℚ Overflow) (costs point : List ℚ) → ((sum : ℚ) → cost_part sum costs (map Some point) ≡ outcome_of (dot_from sum costs point)) → then_sum (outcome_of result) (λ more. cost_part more costs (map Some point)) ≡ outcome_of (and_then result (λ more. dot_from more costs point))
cost_then (Ok q) costs point h = h q
cost_then (Err wide) costs point h = refl

cost_same : (sum : ℚ) (costs point : List ℚ) → cost_part sum costs (map Some point) ≡ outcome_of (dot_from sum costs point)
cost_same sum [] point = refl
cost_same sum (c ∷ cs) [] = refl
cost_same sum (c ∷ cs) (v ∷ vs) =
    rw (added_same sum c v) (cost_then (product_added sum c v) cs vs (λ more. cost_same more cs vs))

row_at : (P : Row → Type 0) (rows : List Row) (number : ℕ) (row : Row) → All P rows → slice_get rows number ≡ Some row → P row
row_at P [] number row h e = absurd (none-some row e)
row_at P (r ∷ rs) zero row h e = subst P (same_Some r row e) (All-head P r rs h)
row_at P (r ∷ rs) (suc number) row h e = row_at P rs number row (All-tail P r rs h) e

module _ (program : Program) (formed : IsWellFormed program) (point : List ℚ) (long : length point ≡ columns program) where
  row_overflows : (number : ℕ) (start : ℚ) → RowOverflows program.rows point number → SumOverflows program start point (InRow number)
  row_overflows number start h =
      let stands = row_at (λ row. StandsBelow (columns program) row.terms) program.rows number h.row formed.rows h.is_row in
      record {
        row = h.row;
        is_row = h.is_row;
        overflows = row_same zeroℚ h.row.terms point (subst (λ n. StandsBelow n h.row.terms) (sym long) stands) ∙ err_none _ h.overflows;
      }

  -- a sum that overflows in the test of a point, and in that of a ray
  pub point_overflows : (place : Place) → Overflows program point place → SumOverflows program program.constant point (place_of place)
  point_overflows (AtRow number) h = row_overflows number program.constant h
  point_overflows Cost h = cost_same program.constant program.costs point ∙ err_none _ h

  pub ray_overflows : (place : Place) → RayOverflows program point place → SumOverflows program zeroℚ point (place_of place)
  ray_overflows (AtRow number) h = row_overflows number zeroℚ h
  ray_overflows Cost h = cost_same zeroℚ program.costs point ∙ err_none _ h

-- ---- fixed parts

-- a continuous column has no value in a leaf, and a whole one its own
no_value : (integral : List Bool) (leaf : List ℚ) (column : ℕ) → is_continuous integral column ≡ true → slice_index_or (fixed_values integral leaf) column None ≡ None
no_value [] leaf column e = absurd (true≢false (sym e))
no_value (true ∷ ws) leaf zero e = absurd (true≢false (sym e))
no_value (true ∷ ws) [] (suc column) e = no_value ws [] column e
no_value (true ∷ ws) (v ∷ vs) (suc column) e = no_value ws vs column e
no_value (false ∷ ws) leaf zero e = refl
no_value (false ∷ ws) leaf (suc column) e = no_value ws leaf column e

own_value : (integral : List Bool) (box : List Sides) (leaf : List ℚ) (column : ℕ) → length integral ≡ length box → IsLeafIn integral box leaf → column < length integral → is_continuous integral column ≡ false → slice_index_or (fixed_values integral leaf) column None ≡ Some (value_at (merged integral leaf []) column)
own_value [] box leaf column e h l f = absurd (omega (arith, l))
own_value (w ∷ ws) [] leaf column e h l f = absurd (omega (arith, e))
own_value (true ∷ ws) (s ∷ ss) [] column e h l f = absurd h
own_value (true ∷ ws) (s ∷ ss) (v ∷ vs) zero e h l f = refl
own_value (true ∷ ws) (s ∷ ss) (v ∷ vs) (suc column) e h l f = own_value ws ss vs column (omega (arith, e)) h.1 (omega (arith, l)) f
own_value (false ∷ ws) (s ∷ ss) leaf zero e h l f = absurd (true≢false f)
own_value (false ∷ ws) (s ∷ ss) leaf (suc column) e h l f = own_value ws ss leaf column (omega (arith, e)) h (omega (arith, l)) f

-- a product with 0 leaves a sum as it is
zero_added : (sum c : ℚ) → fits_range sum ≡ true → product_added sum c zeroℚ ≡ Ok sum
zero_added sum c h =
    let p = product_overflows-zero c in
    let z : c *ℚ zeroℚ ≡ zeroℚ = *ℚ-zero c in
    let s : sum_overflows sum (c *ℚ zeroℚ) ≡ false = rw z (sum_overflows-zero sum h) in
    let e : sum +ℚ c *ℚ zeroℚ ≡ sum = ap (λ t. sum +ℚ t) z ∙ +ℚ-zero sum in
    rw (p, s) (ap Ok e)

ok_fits : (sum p : ℚ) (test : Bool) (wide : Overflow) (q : ℚ) → sum_overflows sum p ≡ test → cond test (Err wide) (Ok (sum +ℚ p)) ≡ Ok q → fits_range q ≡ true
ok_fits sum p true wide q e f = absurd (cc)
ok_fits sum p false wide q e f = let g : sum +ℚ p ≡ q = cc in subst (λ t. fits_range t ≡ true) g (sum_fits sum p e)

next_fits : (sum a b q : ℚ) (test : Bool) → product_overflows a b ≡ test → product_added sum a b ≡ Ok q → fits_range q ≡ true
next_fits sum a b q true e f = absurd (let g = rw e at f in cc)
next_fits sum a b q false e f = ok_fits sum (a *ℚ b) (sum_overflows sum (a *ℚ b)) (record { op = Sum; left = sum; right = a *ℚ b }) q refl (rw e at f)

-- the sum of a row at the leaf's values, with 0 on continuous columns
fixed_then : (result : Result ℚ Overflow) (ts : List Term) (values : List (Option ℚ)) (point : List ℚ) → ((q : ℚ) → result ≡ Ok q → row_part q ts values ≡ outcome_of (activity_from q ts point)) → then_sum (outcome_of result) (λ more. row_part more ts values) ≡ outcome_of (and_then result (λ more. activity_from more ts point))
fixed_then (Ok q) ts values point h = h q refl
fixed_then (Err wide) ts values point h = refl

module _ (integral : List Bool) (box : List Sides) (leaf : List ℚ) (long : length integral ≡ length box) (is_leaf : IsLeafIn integral box leaf) where
  fixed_step : (sum : ℚ) (t : Term) (ts : List Term) (test : Bool) → is_continuous integral t.column ≡ test → fits_range sum ≡ true → t.column < length integral → ((q : ℚ) → fits_range q ≡ true → row_part q ts (fixed_values integral leaf) ≡ outcome_of (activity_from q ts (merged integral leaf []))) → row_part sum (t ∷ ts) (fixed_values integral leaf) ≡ outcome_of (activity_from sum (t ∷ ts) (merged integral leaf []))
  fixed_step sum t ts true e f l h =
      let none = no_value integral leaf t.column e in
      let zero_there : value_at (merged integral leaf []) t.column ≡ zeroℚ = continuous_value integral leaf [] t.column e in
      let kept = zero_added sum t.coefficient f in
      rw (none, zero_there, kept) (h sum f)
  fixed_step sum t ts false e f l h =
      let v = value_at (merged integral leaf []) t.column in
      let own = own_value integral box leaf t.column long is_leaf l e in
      let same = added_same sum t.coefficient v in
      rw (own, same) (fixed_then (product_added sum t.coefficient v) ts (fixed_values integral leaf) (merged integral leaf []) (λ q g. h q (next_fits sum t.coefficient v q (product_overflows t.coefficient v) refl g)))

  fixed_same : (sum : ℚ) (terms : List Term) → fits_range sum ≡ true → StandsBelow (length integral) terms → row_part sum terms (fixed_values integral leaf) ≡ outcome_of (activity_from sum terms (merged integral leaf []))
  fixed_same sum [] f h = refl
  fixed_same sum (t ∷ ts) f h =
      fixed_step sum t ts (is_continuous integral t.column) refl f (All-head (λ t. t.column < length integral) t ts h)
      (λ q g. fixed_same q ts g (All-tail (λ t. t.column < length integral) t ts h))

too_wide : (row : Row) (result : Result ℚ Overflow) → is_too_wide row result ≡ true → is_wide_row row (outcome_of result) ≡ true
too_wide row (Ok part) h = h
too_wide row (Err wide) h = refl

-- a row of which nothing is left in the range makes the leaf wide
pub part_overflows : (program : Program) (leaf : List ℚ) (number : ℕ) → IsWellFormed program → IsLeaf program leaf → IsTooWideAt program.rows (merged program.integral leaf []) number → IsWideAt program leaf (InRow number)
part_overflows program leaf number formed h k =
    let stands = row_at (λ row. StandsBelow (columns program) row.terms) program.rows number k.row formed.rows k.is_row in
    let same = fixed_same program.integral program.bounds leaf (formed.integral ∙ sym formed.bounds) h zeroℚ k.row.terms fits-zero (subst (λ n. StandsBelow n k.row.terms) (sym formed.integral) stands) in
    record {
      row = k.row;
      is_row = k.is_row;
      wide = ap (is_wide_row k.row) same ∙ too_wide k.row (activity_from zeroℚ k.row.terms (merged program.integral leaf [])) k.wide;
    }
