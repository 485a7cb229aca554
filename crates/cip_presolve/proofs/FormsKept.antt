-- What the ends of a form's source say of its value.
use Rattle.std.proofs.Common.{◌≡◌, ◌≤◌, ℤ, true, false, Bool, true≢false, [], ◌∷◌, Option, None, Some, IfSome, Result, Ok, Err, refl, sym, ap, ◌∙◌, subst, arith}
use Rattle.std.specs.Prelude.{pos, not, cond}
use Rattle.cip_rational.specs.Rational.{ℚ, ◌+ℚ◌, ◌*ℚ◌, zeroℚ, negate, ◌≤ℚ◌, IsWhole, numerator, denominator}
use Rattle.cip_rational.specs.Range.{fits_range, magnitude, largest, product_overflows}
use Rattle.cip_rational.proofs.Range.InRange.{fits_in}
use Rattle.cip_rational.proofs.Rational.Order.{≤ℚ_refl, le_of_lt_test}
use Rattle.cip_rational.proofs.Rational.Ring.{+ℚ-zero, zero-+ℚ, negate-*ℚ}
use Rattle.cip_rational.proofs.Rational.Whole.{IsWhole-zero}
use Rattle.cip_rational.proofs.Linear.{linear_le}
use Rattle.cip_problem.specs.Program.{Term, Sides}
use Rattle.cip_problem.specs.Box.{Between, sides_inside, no_sides}
use Rattle.cip_problem.proofs.Box.SideTests.{sides_inside_holds}
use Rattle.cip_frac.specs.declared.operations.Wide.{Wide}
use Rattle.cip_frac.specs.Outcomes.{and_then, sum_outcome, product_added}
use Rattle.cip_frac.proofs.Outcomes.{product_added-value}
use Rattle.std.specs.Bool.{OnTrue}
use Rattle.cip_lin.specs.declared.outcomes.Least.{Least}
use Rattle.cip_lin.specs.declared.outcomes.Least.TheVariants.{Value}
use Rattle.cip_lin.specs.RowSums.{least_added, least_then, least_from}
use Rattle.cip_lin.specs.MetSides.{is_past}
use Rattle.cip_presolve.specs.Forms.{Form}
use Rattle.cip_presolve.specs.Equalities.{EndsAssign}
use Rattle.cip_search.proofs.Equalities.{ends_assign}
use Rattle.cip_presolve.proofs.Enclosing.{least_sum_below}
use Rattle.cip_presolve.specs.FormEnds.{FormKeeps, IsLeastOf, IsGreatestOf, FormAssigns}

-- a least value of a sum with one product
least_one : (sum factor q v : ℚ) (own : Sides) → least_added sum factor own ≡ Value q → Between own.low own.high v → q ≤ℚ sum +ℚ factor *ℚ v
least_one sum factor q v own e h =
    let term : Term = record { column = 0; coefficient = factor } in
    let k : least_from sum (term ∷ []) (own ∷ []) ≡ Value q = ap (λ r. least_then r (λ more. Value more)) e in
    subst (λ t. q ≤ℚ sum +ℚ t) (+ℚ-zero (factor *ℚ v)) (least_sum_below sum (term ∷ []) (own ∷ []) q (v ∷ []) (h, tt) k)

least_is : (form : Form) (own : Sides) (low : Option ℚ) (l : Least) → IfSome low (λ v. l ≡ Value v) → l ≡ least_added form.constant form.factor own → IfSome low (IsLeastOf form own)
least_is form own None l h e = tt
least_is form own (Some q) l h e = λ v b. least_one form.constant form.factor q v own (sym e ∙ h) b

greatest_by : (form : Form) (own : Sides) (q : ℚ) → least_added (negate form.constant) (negate form.factor) own ≡ Value (negate q) → IsGreatestOf form own q
greatest_by form own q e v b =
    let k : negate q ≤ℚ negate form.constant +ℚ negate form.factor *ℚ v = least_one (negate form.constant) (negate form.factor) (negate q) v own e b in
    let p : negate form.factor *ℚ v ≡ negate (form.factor *ℚ v) = negate-*ℚ form.factor v in
    linear_le (q ∷ form.constant ∷ (form.factor *ℚ v) ∷ (negate form.factor *ℚ v) ∷ []) (λ s w. omega (arith, s.le_out, s.same_out))

greatest_is : (form : Form) (own : Sides) (high : Option ℚ) (g : Least) → IfSome high (λ v. g ≡ Value (negate v)) → g ≡ least_added (negate form.constant) (negate form.factor) own → IfSome high (IsGreatestOf form own)
greatest_is form own None g h e = tt
greatest_is form own (Some q) g h e = greatest_by form own q (sym e ∙ h)

extent_keeps : (form : Form) (own : Sides) (low high : Option ℚ) → IfSome low (IsLeastOf form own) → IfSome high (IsGreatestOf form own) → FormKeeps form own (record { low = low; high = high })
extent_keeps form own low high h k v b = record { above = lower low h; below = upper high k }
  where
    lower : (low : Option ℚ) → IfSome low (IsLeastOf form own) → IfSome low (λ side. side ≤ℚ form.constant +ℚ form.factor *ℚ v)
    lower None h = tt
    lower (Some low) h = h v b

    upper : (high : Option ℚ) → IfSome high (IsGreatestOf form own) → IfSome high (λ side. form.constant +ℚ form.factor *ℚ v ≤ℚ side)
    upper None k = tt
    upper (Some high) k = k v b

-- a form keeps sides where its least and its greatest value lie between them
pub kept_by : (form : Form) (own outer : Sides) (low high : Option ℚ) (l g : Least) (r : Bool) → IfSome low (λ v. l ≡ Value v) → IfSome high (λ v. g ≡ Value (negate v)) → l ≡ least_added form.constant form.factor own → g ≡ least_added (negate form.constant) (negate form.factor) own → r ≡ sides_inside (record { low = low; high = high }) outer → OnTrue r (FormKeeps form own outer)
kept_by form own outer low high l g false h k e f i = tt
kept_by form own outer low high l g true h k e f i = λ v b.
    sides_inside_holds (record { low = low; high = high }) outer (form.constant +ℚ form.factor *ℚ v) (sym i)
    (extent_keeps form own low high (least_is form own low l h e) (greatest_is form own high g k f) v b)

-- a number whose parts are small is in range
pub fits_by : (q : ℚ) (n d : ℤ) → n ≡ numerator q → magnitude n ≤ largest → d ≡ pos (denominator q) → magnitude d ≤ largest → fits_range q ≡ true
fits_by q n d e h k l = fits_in q (record { top = subst (λ t. magnitude t ≤ largest) e h; bottom = subst (λ t. magnitude t ≤ largest) k l })

pub end_fits : (constant factor value sum : ℚ) (n d : ℤ) → product_added constant factor value ≡ Ok sum → n ≡ numerator sum → magnitude n ≤ largest → d ≡ pos (denominator sum) → magnitude d ≤ largest → fits_range (constant +ℚ factor *ℚ value) ≡ true
end_fits constant factor value sum n d e a b k l =
    let v : sum ≡ constant +ℚ factor *ℚ value = rw e at (product_added-value constant factor value) in
    subst (λ t. fits_range t ≡ true) v (fits_by sum n d a b k l)

-- where the sum with a product came to a value, the product was in range
formed : (overflows : Bool) (wide : Wide) (product sum : ℚ) (next : ℚ → Result ℚ Wide) → and_then (cond overflows (Err wide) (Ok product)) next ≡ Ok sum → overflows ≡ false
formed true wide product sum next e = cc
formed false wide product sum next e = refl

not_out : (b : Bool) → not b ≡ false → b ≡ true
not_out true e = refl
not_out false e = absurd (true≢false e)

in_range : (a b : ℚ) → product_overflows a b ≡ false → fits_range (a *ℚ b) ≡ true
unfolding product_overflows
in_range a b e = not_out (fits_range (a *ℚ b)) e

pub product_fits : (constant factor value sum : ℚ) → product_added constant factor value ≡ Ok sum → fits_range (factor *ℚ value) ≡ true
product_fits constant factor value sum e =
    in_range factor value (formed (product_overflows factor value) _ (factor *ℚ value) sum (λ product. sum_outcome constant product) e)

pub ruleset ends = (end_fits, product_fits)

not_past : (low high : ℚ) → is_past (Some low) (Some high) ≡ false → low ≤ℚ high
not_past low high e = le_of_lt_test e

pub assigned_by : (form : Form) (own : Sides) (low high : ℚ) → own.low ≡ Some low → own.high ≡ Some high → is_past own.low own.high ≡ false → IsWhole form.constant → IsWhole form.factor → IsWhole low → fits_range (form.constant +ℚ form.factor *ℚ low) ≡ true → fits_range (form.factor *ℚ low) ≡ true → IsWhole high → fits_range (form.constant +ℚ form.factor *ℚ high) ≡ true → fits_range (form.factor *ℚ high) ≡ true → FormAssigns form own
assigned_by form own low high l u p c f wl fl pl wh fh ph = record {
  constant = c;
  factor = f;
  values = λ v w b. let a = ends_assign form own no_sides v ends w b in record { whole = a.whole; in_range = a.in_range };
  products = λ v w b. subst (λ t. fits_range t ≡ true) (zero-+ℚ (form.factor *ℚ v)) (ends_assign product own no_sides v product_ends w b).in_range;
  start = low;
  start_whole = wl;
  start_between = record {
    above = subst (λ o. IfSome o (λ side. side ≤ℚ low)) (sym l) (≤ℚ_refl low);
    below = subst (λ o. IfSome o (λ side. low ≤ℚ side)) (sym u) (not_past low high (ap (λ o. is_past o (Some high)) (sym l) ∙ ap (λ o. is_past own.low o) (sym u) ∙ p));
  };
}
  where
    ends : EndsAssign form own no_sides
    ends = record {
      keep = record { low = low; high = high; is_low = l; is_high = u; at_low = record { above = tt; below = tt }; at_high = record { above = tt; below = tt } };
      constant = c;
      factor = f;
      low_whole = wl;
      high_whole = wh;
      low_fits = fl;
      high_fits = fh;
    }

    product : Form
    product = record { constant = zeroℚ; factor = form.factor; source = form.source }

    product_ends : EndsAssign product own no_sides
    product_ends = record {
      keep = record { low = low; high = high; is_low = l; is_high = u; at_low = record { above = tt; below = tt }; at_high = record { above = tt; below = tt } };
      constant = IsWhole-zero;
      factor = f;
      low_whole = wl;
      high_whole = wh;
      low_fits = subst (λ t. fits_range t ≡ true) (sym (zero-+ℚ (form.factor *ℚ low))) pl;
      high_fits = subst (λ t. fits_range t ≡ true) (sym (zero-+ℚ (form.factor *ℚ high))) ph;
    }

pub ruleset assigning = (assigned_by)
