-- Whole values come back without overflow.
use Rattle.std.proofs.Common.{◌≡◌, ◌⊎◌, ℕ, ◌/◌, ◌≤◌, ℤ, Bool, true, false, cond, List, Option, Some, Result, Ok, Err, slice_get, refl, sym, ap, ◌∙◌, subst, arith, inl, inr, true≢false}
use Rattle.std.specs.Prelude.{pos, ◌+ℤ◌, ◌*ℤ◌, IsOk}
use Rattle.cip_rational.specs.Gcd.{gcd}
use Rattle.cip_rational.proofs.Integers.{times_one}
use Rattle.cip_rational.specs.Rational.{ℚ, ◌+ℚ◌, ◌*ℚ◌, zeroℚ, IsWhole, integer, numerator, denominator}
use Rattle.cip_rational.specs.Range.{largest, magnitude, fits_range, raised, sum_overflows, product_overflows}
use Rattle.cip_rational.proofs.Range.InRange.{fits_out, least_common, sum_in, fits_product}
use Rattle.cip_rational.proofs.WithZero.{sum_overflows-zero, zero-product_overflows, gcd_left}
use Rattle.cip_rational.proofs.Rational.Lowest.{numerator-integer}
use Rattle.cip_rational.proofs.Rational.Ring.{zero-*ℚ}
use Rattle.cip_rational.proofs.Rational.Rounding.{integer-add}
use Rattle.cip_rational.proofs.Rational.Whole.{is_whole-denominator, whole_is, IsWhole-mul}
use Rattle.cip_problem.specs.Program.{Program}
use Rattle.cip_problem.specs.Activity.{value_at}
use Rattle.cip_frac.specs.declared.operations.Wide.{Wide}
use Rattle.cip_frac.specs.Outcomes.{and_then, sum_outcome, product_added}
use Rattle.cip_presolve.specs.Forms.{Form, placed, gathered}
use Rattle.cip_presolve.specs.Pairs.{IsAssignment}
use Rattle.cip_presolve.specs.WholeParts.{with_wholes}
use Rattle.cip_presolve.specs.Compacting.{Stays}
use Rattle.cip_presolve.specs.ColumnsOut.{GoesAtValue, GoesByForm, MayGo, MayAllGo, SourcesStay}
use Rattle.cip_presolve.specs.StepsBack.{form_outcome, WholesFit}
use Rattle.cip_presolve.specs.EntriesLeft.{gone_of}
use Rattle.cip_presolve.specs.LeftProgram.{left_program}
use Rattle.cip_presolve.proofs.Gone.{left_gathered, placed_whole}

-- ---- operations that don't overflow

product_then : (overflows : Bool) (wide : Wide) (product : ℚ) (next : ℚ → Result ℚ Wide) → overflows ≡ false → IsOk (next product) → IsOk (and_then (cond overflows (Err wide) (Ok product)) next)
product_then true wide product next e h = absurd (true≢false e)
product_then false wide product next e h = h

sum_ok : (overflows : Bool) (wide : Wide) (sum : ℚ) → overflows ≡ false → IsOk (cond overflows (Err wide) (Ok sum))
sum_ok true wide sum e = absurd (true≢false e)
sum_ok false wide sum e = refl

added_ok : (constant factor value : ℚ) → product_overflows factor value ≡ false → sum_overflows constant (factor *ℚ value) ≡ false → IsOk (product_added constant factor value)
added_ok constant factor value p s =
    product_then (product_overflows factor value) _ (factor *ℚ value) (λ product. sum_outcome constant product) p
    (sum_ok (sum_overflows constant (factor *ℚ value)) _ (constant +ℚ factor *ℚ value) s)

whole_gcd : (a b : ℚ) → IsWhole a → gcd (denominator a) (denominator b) ≡ 1
whole_gcd a b w = ap (λ d. gcd d (denominator b)) (is_whole-denominator a w) ∙ gcd_left (denominator b)

raised_whole : (a b : ℚ) → IsWhole b → raised 1 a b ≡ numerator a
raised_whole a b w = ap (λ (d : ℕ). numerator a *ℤ pos (d / 1)) (is_whole-denominator b w) ∙ times_one (numerator a)

whole_total : (a b : ℚ) → IsWhole a → IsWhole b → numerator (a +ℚ b) ≡ numerator a +ℤ numerator b
whole_total a b v w =
    ap numerator (ap (λ t. t +ℚ b) (whole_is a v) ∙ ap (λ t. integer (numerator a) +ℚ t) (whole_is b w) ∙ sym (integer-add (numerator a) (numerator b)))
    ∙ numerator-integer (numerator a +ℤ numerator b)

whole_common : (a b : ℚ) → IsWhole a → IsWhole b → least_common a b ≡ 1
whole_common a b v w = rw (whole_gcd a b v, is_whole-denominator a v, is_whole-denominator b w) refl

-- a sum of whole numbers in range doesn't overflow where it is in range
whole_sum : (a b : ℚ) → IsWhole a → IsWhole b → fits_range a ≡ true → fits_range b ≡ true → fits_range (a +ℚ b) ≡ true → sum_overflows a b ≡ false
whole_sum a b v w f g h =
    let e = whole_gcd a b v in
    let left : raised (gcd (denominator a) (denominator b)) a b ≡ numerator a = ap (λ (d : ℕ). raised d a b) e ∙ raised_whole a b w in
    let right : raised (gcd (denominator a) (denominator b)) b a ≡ numerator b = ap (λ (d : ℕ). raised d b a) e ∙ raised_whole b a v in
    let total : raised (gcd (denominator a) (denominator b)) a b +ℤ raised (gcd (denominator a) (denominator b)) b a ≡ numerator (a +ℚ b) =
    ap (λ (z : ℤ). z +ℤ raised (gcd (denominator a) (denominator b)) b a) left ∙ ap (λ (z : ℤ). numerator a +ℤ z) right ∙ sym (whole_total a b v w) in
    sum_in a b (record {
      left = subst (λ (z : ℤ). magnitude z ≤ largest) (sym left) (fits_out a f).top;
      right = subst (λ (z : ℤ). magnitude z ≤ largest) (sym right) (fits_out b g).top;
      total = subst (λ (z : ℤ). magnitude z ≤ largest) (sym total) (fits_out (a +ℚ b) h).top;
      bottom = subst (λ (n : ℕ). n ≤ largest) (sym (whole_common a b v w)) (omega arith);
    })

pub whole_added : (constant factor value : ℚ) → IsWhole constant → IsWhole factor → IsWhole value → fits_range constant ≡ true → fits_range (factor *ℚ value) ≡ true → fits_range (constant +ℚ factor *ℚ value) ≡ true → IsOk (product_added constant factor value)
whole_added constant factor value c f v r p s =
    added_ok constant factor value (fits_product factor value p) (whole_sum constant (factor *ℚ value) c (IsWhole-mul factor value f v) r p s)

constant_added : (constant value : ℚ) → fits_range constant ≡ true → IsOk (product_added constant zeroℚ value)
constant_added constant value r =
    added_ok constant zeroℚ value (zero-product_overflows value) (ap (λ q. sum_overflows constant q) (zero-*ℚ value) ∙ sum_overflows-zero constant r)

-- ---- whole values

module _ (program draft : Program) (forms : List (Option Form)) (may : MayAllGo draft forms) (sources : SourcesStay forms) where
  at_value_fits : (column : ℕ) (form : Form) (point : List ℚ) → GoesAtValue draft column form → IsOk (form_outcome form point)
  at_value_fits column form point g = subst (λ f. IsOk (form_outcome f point)) (sym g.is) (constant_added g.value (value_at point 0) g.in_range)

  by_form_fits : (column : ℕ) (form : Form) (point : List ℚ) → GoesByForm draft column form → slice_get draft.integral column ≡ Some true → (form.factor ≡ zeroℚ) ⊎ Stays forms form.source → IsAssignment (left_program program draft (gone_of forms)) point → IsOk (form_outcome form (placed forms point))
  by_form_fits column form point g w (inl e) a = absurd (g.nonzero e)
  by_form_fits column form point g w (inr s) a =
      let k = g.whole w in
      let v = placed_whole draft (left_program program draft (gone_of forms)) forms may.long (left_gathered forms draft.bounds) (left_gathered forms draft.integral) form.source point s k.source a in
      let r = k.assigns.values (value_at (placed forms point) form.source) v.whole v.between in
      whole_added form.constant form.factor (value_at (placed forms point) form.source) k.assigns.constant k.assigns.factor v.whole k.in_range (k.assigns.products (value_at (placed forms point) form.source) v.whole v.between) r.in_range

  fits_by : (column : ℕ) (form : Form) (point : List ℚ) → MayGo draft column form → slice_get draft.integral column ≡ Some true → (form.factor ≡ zeroℚ) ⊎ Stays forms form.source → IsAssignment (left_program program draft (gone_of forms)) point → IsOk (form_outcome form (placed forms point))
  fits_by column form point (inl g) w s a = at_value_fits column form (placed forms point) g
  fits_by column form point (inr g) w s a = by_form_fits column form point g w s a

  pub all_fit : (point : List ℚ) → IsAssignment (left_program program draft (gone_of forms)) point → WholesFit forms draft.integral (placed forms point)
  all_fit point a column form h w = fits_by column form point (may.each column form h) w (sources column form h) a

-- of the reduced program, by what it is
pub leaves_fit : (program draft reduced : Program) (forms : List (Option Form)) (gone whole : List Bool) → MayAllGo draft forms → SourcesStay forms → gone ≡ gone_of forms → reduced ≡ left_program program draft gone → whole ≡ program.integral → draft.integral ≡ program.integral → (wholes : List ℚ) → IsAssignment reduced (with_wholes (gathered forms whole) wholes) → WholesFit forms whole (placed forms (with_wholes (gathered forms whole) wholes))
leaves_fit program draft reduced forms gone whole m s e k w i wholes a =
    let point : List ℚ = with_wholes (gathered forms whole) wholes in
    subst (λ (ws : List Bool). WholesFit forms ws (placed forms point)) (i ∙ sym w)
    (all_fit program draft forms m s point
    (subst (λ (p : Program). IsAssignment p point) (k ∙ ap (λ g. left_program program draft g) e) a))
