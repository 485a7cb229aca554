-- Columns that are gone and their forms, and the numbers of those that stay.
use Rattle.std.proofs.Common.{◌≡◌, ◌⊎◌, ℕ, zero, suc, ◌+◌, ◌<◌, Bool, true, false, List, [], ◌∷◌, length, Option, None, Some, IfSome, slice_get, refl, sym, ap, ◌∙◌, subst, arith, inl, inr, true≢false}
use Rattle.std.specs.Prelude.{slice_index_or, map}
use Rattle.std.proofs.lemmas.Option.{none-some, same_Some}
use Rattle.cip_rational.specs.Rational.{ℚ, ◌+ℚ◌, ◌*ℚ◌, zeroℚ, ◌≤ℚ◌, IsWhole, integer, numerator}
use Rattle.cip_rational.specs.Range.{fits_range}
use Rattle.cip_rational.proofs.Rational.Order.{≤ℚ_refl, ≤ℚ_antisymm}
use Rattle.cip_rational.proofs.Rational.Ring.{zero-*ℚ, +ℚ-zero}
use Rattle.cip_rational.proofs.Rational.Whole.{IsWhole-zero, whole_is}
use Rattle.cip_problem.specs.Program.{Term, Sides, Row, Program}
use Rattle.cip_problem.specs.Activity.{value_at}
use Rattle.cip_problem.specs.Box.{Between, IsInBox, sides_at}
use Rattle.cip_problem.specs.RowTerms.{column_at, coefficient_at, AreTerms}
use Rattle.cip_problem.proofs.Points.AtPlaces.{in_box_at}
use Rattle.cip_presolve.specs.Reduced.{IsRelaxed}
use Rattle.cip_presolve.specs.Forms.{Form, form_value, constant_form, placed, spread, gathered, kept_from, number_in, renumbered_term}
use Rattle.cip_presolve.specs.Pairs.{IsWholeIn, IsAssignment}
use Rattle.cip_presolve.specs.Compacting.{Stays, IsGone, HoldsBack}
use Rattle.cip_search.proofs.Spreading.{placed_value, spread_value, spread_gone, same_form, gathered_at}
use Rattle.cip_search.proofs.CompactPairs.{sides_number}
use Rattle.cip_presolve.specs.ColumnsOut.{GoesAtValue, GoesByForm, MayGo, MayAllGo, IsIn, TermsIn, SourcesStay}
use Rattle.cip_presolve.specs.SpentRows.{IsSpent}
use Rattle.cip_presolve.specs.EntriesLeft.{gone_of, entries_left, old_numbers, new_numbers}
use Rattle.cip_presolve.specs.LeftProgram.{moved_term}

-- ---- forms and flags

pub length-gone : (forms : List (Option Form)) → length (gone_of forms) ≡ length forms
length-gone [] = refl
length-gone (None ∷ forms) = ap (λ n. suc n) (length-gone forms)
length-gone (Some v ∷ forms) = ap (λ n. suc n) (length-gone forms)

pub left_gathered : {X : Type 0} (forms : List (Option Form)) (xs : List X) → entries_left (gone_of forms) xs ≡ gathered forms xs
left_gathered [] xs = refl
left_gathered (None ∷ forms) [] = refl
left_gathered (Some v ∷ forms) [] = refl
left_gathered (None ∷ forms) (x ∷ xs) = ap (λ t. x ∷ t) (left_gathered forms xs)
left_gathered (Some v ∷ forms) (x ∷ xs) = left_gathered forms xs

pub old_numbers_kept : (first : ℕ) (forms : List (Option Form)) → old_numbers first (gone_of forms) ≡ kept_from first forms
old_numbers_kept first [] = refl
old_numbers_kept first (None ∷ forms) =
    let e : first + 1 ≡ suc first = omega arith in
    ap (λ t. first ∷ t) (old_numbers_kept (first + 1) forms ∙ ap (λ k. kept_from k forms) e)
old_numbers_kept first (Some v ∷ forms) =
    let e : first + 1 ≡ suc first = omega arith in
    old_numbers_kept (first + 1) forms ∙ ap (λ k. kept_from k forms) e

-- a column that isn't gone stays
pub in_by_flag : (forms : List (Option Form)) (column : ℕ) → column < length forms → slice_index_or (gone_of forms) column false ≡ false → IsIn forms column
in_by_flag [] column l e = absurd (omega (arith, l))
in_by_flag (None ∷ forms) zero l e = refl
in_by_flag (Some f ∷ forms) zero l e = absurd (true≢false e)
in_by_flag (None ∷ forms) (suc column) l e = in_by_flag forms column (omega (arith, l)) e
in_by_flag (Some f ∷ forms) (suc column) l e = in_by_flag forms column (omega (arith, l)) e

pub flag_of_in : (forms : List (Option Form)) (column : ℕ) → IsIn forms column → slice_index_or (gone_of forms) column false ≡ false
flag_of_in [] column h = refl
flag_of_in (None ∷ forms) zero h = refl
flag_of_in (Some f ∷ forms) zero h = absurd (none-some f (sym (same_Some (Some f) None h)))
flag_of_in (None ∷ forms) (suc column) h = flag_of_in forms column h
flag_of_in (Some f ∷ forms) (suc column) h = flag_of_in forms column h

-- ---- a column that is gone

pub constant_value : (v : ℚ) (at : List ℚ) → form_value (constant_form v) at ≡ v
constant_value v at = ap (λ t. v +ℚ t) (zero-*ℚ (value_at at 0)) ∙ +ℚ-zero v

value_is : (program : Program) (column : ℕ) (form : Form) (g : GoesAtValue program column form) (point : List ℚ) → IsRelaxed program point → value_at point column ≡ g.value
value_is program column form g point r =
    let b = in_box_at program.bounds point column r.within in
    let above : g.value ≤ℚ value_at point column = subst (λ o. IfSome o (λ side. side ≤ℚ value_at point column)) g.fixed.low b.above in
    let below : value_at point column ≤ℚ g.value = subst (λ o. IfSome o (λ side. value_at point column ≤ℚ side)) g.fixed.high b.below in
    ≤ℚ_antisymm below above

pub forced_of : (program : Program) (column : ℕ) (form : Form) → MayGo program column form → (point : List ℚ) → IsRelaxed program point → value_at point column ≡ form_value form point
forced_of program column form (inl g) point r = value_is program column form g point r ∙ sym (ap (λ f. form_value f point) g.is ∙ constant_value g.value point)
forced_of program column form (inr g) point r = g.forced point r

source_in : (program : Program) (forms : List (Option Form)) (column : ℕ) (form : Form) → GoesByForm program column form → (form.factor ≡ zeroℚ) ⊎ Stays forms form.source → Stays forms form.source
source_in program forms column form g (inl e) = absurd (g.nonzero e)
source_in program forms column form g (inr h) = h

module _ (program compacted : Program) (forms : List (Option Form)) (long : length forms ≡ length program.bounds) (bounds : compacted.bounds ≡ gathered forms program.bounds) (integral : compacted.integral ≡ gathered forms program.integral) where
  sides_are : (column : ℕ) → Stays forms column → sides_at compacted.bounds (number_in forms column) ≡ sides_at program.bounds column
  sides_are column h = ap (λ (b : List Sides). sides_at b (number_in forms column)) bounds ∙ sides_number forms program.bounds column long h

  -- the value of a column that stays keeps the column's sides
  placed_between : (column : ℕ) (point : List ℚ) → Stays forms column → IsInBox compacted.bounds point → Between (sides_at program.bounds column).low (sides_at program.bounds column).high (value_at (placed forms point) column)
  placed_between column point h b =
      subst (λ v. Between (sides_at program.bounds column).low (sides_at program.bounds column).high v) (sym (placed_value forms point column h))
      (subst (λ (s : Sides). Between s.low s.high (value_at point (number_in forms column))) (sides_are column h) (in_box_at compacted.bounds point (number_in forms column) b))

  -- and is whole and in range where the column is whole and the point's whole values are so
  pub placed_whole : (column : ℕ) (point : List ℚ) → Stays forms column → slice_get program.integral column ≡ Some true → IsAssignment compacted point → IsWholeIn (sides_at program.bounds column) (value_at (placed forms point) column)
  placed_whole column point h w a =
      subst (λ v. IsWholeIn (sides_at program.bounds column) v) (sym (placed_value forms point column h))
      (subst (λ (s : Sides). IsWholeIn s (value_at point (number_in forms column))) (sides_are column h)
      (a.values (number_in forms column) (subst (λ (ws : List Bool). slice_get ws (number_in forms column) ≡ Some true) (sym integral) (gathered_at forms program.integral column true h w))))

  value_between : (column : ℕ) (form : Form) (g : GoesAtValue program column form) (u : ℚ) → u ≡ g.value → Between (sides_at program.bounds column).low (sides_at program.bounds column).high u
  value_between column form g u e = record {
    above = subst (λ o. IfSome o (λ side. side ≤ℚ u)) (sym g.fixed.low) (subst (λ t. g.value ≤ℚ t) (sym e) (≤ℚ_refl g.value));
    below = subst (λ o. IfSome o (λ side. u ≤ℚ side)) (sym g.fixed.high) (subst (λ t. t ≤ℚ g.value) (sym e) (≤ℚ_refl g.value));
  }

  at_value_gone : (column : ℕ) (form : Form) (g : GoesAtValue program column form) → IsGone program compacted forms column (constant_form g.value)
  at_value_gone column form g = record {
    plain = g.free.plain;
    free = g.free.free;
    source = inl refl;
    within = λ point h. value_between column form g (form_value (constant_form g.value) (placed forms point)) (constant_value g.value (placed forms point));
    forced = λ point r. value_is program column form g point r ∙ sym (constant_value g.value point);
    whole = λ w. record {
      constant = g.whole w;
      factor = IsWhole-zero;
      source = inl refl;
      assigned = λ point a.
          let e : form_value (constant_form g.value) (placed forms point) ≡ g.value = constant_value g.value (placed forms point) in
          record {
            whole = subst IsWhole (sym e) (g.whole w);
            in_range = ap fits_range e ∙ g.in_range;
            between = value_between column form g (form_value (constant_form g.value) (placed forms point)) e;
          };
      some_whole = record { number = numerator g.value; between = value_between column form g (integer (numerator g.value)) (sym (whole_is g.value (g.whole w))) };
    };
  }

  by_form_gone : (column : ℕ) (form : Form) → Stays forms form.source → GoesByForm program column form → IsGone program compacted forms column form
  by_form_gone column form s g = record {
    plain = g.free.plain;
    free = g.free.free;
    source = inr s;
    within = λ point h. g.keeps (value_at (placed forms point) form.source) (placed_between form.source point s h);
    forced = g.forced;
    whole = λ w.
        let k = g.whole w in
        let u : ℚ = form.constant +ℚ form.factor *ℚ k.assigns.start in
        let first = k.assigns.values k.assigns.start k.assigns.start_whole k.assigns.start_between in
        record {
          constant = k.assigns.constant;
          factor = k.assigns.factor;
          source = inr k.source;
          assigned = λ point a.
              let v = placed_whole form.source point s k.source a in
              let r = k.assigns.values (value_at (placed forms point) form.source) v.whole v.between in
              record { whole = r.whole; in_range = r.in_range; between = g.keeps (value_at (placed forms point) form.source) v.between };
          some_whole = record {
            number = numerator u;
            between = subst (λ t. Between (sides_at program.bounds column).low (sides_at program.bounds column).high t) (whole_is u first.whole) (g.keeps k.assigns.start k.assigns.start_between);
          };
        };
  }

  gone_by : (column : ℕ) (form : Form) → (form.factor ≡ zeroℚ) ⊎ Stays forms form.source → MayGo program column form → IsGone program compacted forms column form
  gone_by column form s (inl g) = subst (λ f. IsGone program compacted forms column f) (sym g.is) (at_value_gone column form g)
  gone_by column form s (inr g) = by_form_gone column form (source_in program forms column form g s) g

  pub gone_column : (column : ℕ) (form : Form) → MayAllGo program forms → SourcesStay forms → slice_get forms column ≡ Some (Some form) → IsGone program compacted forms column form
  gone_column column form m s h = gone_by column form (s column form h) (m.each column form h)

-- the value of the form of a column that is gone is the column's
pub gone_value : (program : Program) (forms : List (Option Form)) (column : ℕ) (form : Form) (point : List ℚ) → length point ≡ length forms → MayAllGo program forms → SourcesStay forms → slice_get forms column ≡ Some (Some form) → IsRelaxed program point → form_value form (placed forms (gathered forms point)) ≡ value_at point column
gone_value program forms column form point l m s h r = same_form forms form point l (s column form h) ∙ sym (forced_of program column form (m.each column form h) point r)

-- ---- a row that gives a column that is gone its form

same_placed : (forms : List (Option Form)) (form : Form) (point : List ℚ) → (form.factor ≡ zeroℚ) ⊎ Stays forms form.source → form_value form (placed forms point) ≡ form_value form (spread forms point)
same_placed forms form point (inl e) =
    ap (λ t. form.constant +ℚ t)
    (ap (λ t. t *ℚ value_at (placed forms point) form.source) e ∙ zero-*ℚ _
    ∙ sym (ap (λ t. t *ℚ value_at (spread forms point) form.source) e ∙ zero-*ℚ _))
same_placed forms form point (inr h) = ap (λ t. form.constant +ℚ form.factor *ℚ t) (placed_value forms point form.source h ∙ sym (spread_value forms point form.source h))

pub spent_holds : (compacted : Program) (forms : List (Option Form)) (row : Row) → SourcesStay forms → IsSpent forms row → HoldsBack compacted forms row
spent_holds compacted forms row s h point r =
    h.by.gives.holds (spread forms point) (spread_gone forms point h.column h.by.form h.by.gone ∙ same_placed forms h.by.form point (s h.column h.by.form h.by.gone))

-- ---- new numbers

number_at : (before : ℕ) (forms : List (Option Form)) (column : ℕ) → IsIn forms column → slice_index_or (new_numbers before (gone_of forms)) column 0 ≡ before + number_in forms column
number_at before [] column h = absurd (none-some None h)
number_at before (None ∷ forms) zero h = omega arith
number_at before (Some v ∷ forms) zero h = absurd (none-some v (sym (same_Some (Some v) None h)))
number_at before (None ∷ forms) (suc column) h = let k = number_at (before + 1) forms column h in omega (arith, k)
number_at before (Some v ∷ forms) (suc column) h = number_at before forms column h

pub new_number : (forms : List (Option Form)) (column : ℕ) → IsIn forms column → slice_index_or (new_numbers 0 (gone_of forms)) column 0 ≡ number_in forms column
new_number forms column h = let k = number_at 0 forms column h in omega (arith, k)

pub length-numbers : (before : ℕ) (forms : List (Option Form)) → length (new_numbers before (gone_of forms)) ≡ length forms
length-numbers before [] = refl
length-numbers before (None ∷ forms) = ap (λ n. suc n) (length-numbers (before + 1) forms)
length-numbers before (Some v ∷ forms) = ap (λ n. suc n) (length-numbers before forms)

pub moved_terms : (forms : List (Option Form)) (terms : List Term) → TermsIn forms terms → map (moved_term (new_numbers 0 (gone_of forms))) terms ≡ map (renumbered_term forms) terms
moved_terms forms [] h = refl
moved_terms forms (t ∷ ts) h =
    ap (λ n. record t { column = n } ∷ map (moved_term (new_numbers 0 (gone_of forms))) ts) (new_number forms t.column h.0)
    ∙ ap (λ others. record t { column = number_in forms t.column } ∷ others) (moved_terms forms ts h.1)

-- they rise
numbers_rise : (forms : List (Option Form)) (first second : ℕ) → Stays forms first → first < second → number_in forms first < number_in forms second
numbers_rise [] first second h l = absurd (none-some None h)
numbers_rise (f ∷ forms) first zero h l = absurd (omega (arith, l))
numbers_rise (None ∷ forms) zero (suc second) h l = omega arith
numbers_rise (Some f ∷ forms) zero (suc second) h l = absurd (none-some f (sym (same_Some (Some f) None h)))
numbers_rise (None ∷ forms) (suc first) (suc second) h l = let k = numbers_rise forms first second h (omega (arith, l)) in omega (arith, k)
numbers_rise (Some f ∷ forms) (suc first) (suc second) h l = numbers_rise forms first second h (omega (arith, l))

term_in : (forms : List (Option Form)) (terms : List Term) (k : ℕ) → TermsIn forms terms → k < length terms → IsIn forms (column_at terms k)
term_in forms [] k h l = absurd (omega (arith, l))
term_in forms (t ∷ ts) zero h l = h.0
term_in forms (t ∷ ts) (suc k) h l = term_in forms ts k h.1 (omega (arith, l))

column_moved : (numbers : List ℕ) (terms : List Term) (k : ℕ) → k < length terms → column_at (map (moved_term numbers) terms) k ≡ slice_index_or numbers (column_at terms k) 0
column_moved numbers [] k l = absurd (omega (arith, l))
column_moved numbers (t ∷ ts) zero l = refl
column_moved numbers (t ∷ ts) (suc k) l = column_moved numbers ts k (omega (arith, l))

coefficient_moved : (numbers : List ℕ) (terms : List Term) (k : ℕ) → coefficient_at (map (moved_term numbers) terms) k ≡ coefficient_at terms k
coefficient_moved numbers [] k = refl
coefficient_moved numbers (t ∷ ts) zero = refl
coefficient_moved numbers (t ∷ ts) (suc k) = coefficient_moved numbers ts k

length-moved : (numbers : List ℕ) (terms : List Term) → length (map (moved_term numbers) terms) ≡ length terms
length-moved numbers [] = refl
length-moved numbers (t ∷ ts) = ap (λ n. suc n) (length-moved numbers ts)

pub terms_rise : (forms : List (Option Form)) (terms : List Term) → TermsIn forms terms → AreTerms terms → AreTerms (map (moved_term (new_numbers 0 (gone_of forms))) terms)
terms_rise forms terms h a = record {
  rising = λ k l.
      let n = length-moved (new_numbers 0 (gone_of forms)) terms in
      let inside : k + 1 < length terms = omega (arith, l, n) in
      let here : k < length terms = omega (arith, inside) in
      let r : column_at terms k < column_at terms (k + 1) = a.rising k inside in
      let s : number_in forms (column_at terms k) < number_in forms (column_at terms (k + 1)) = numbers_rise forms (column_at terms k) (column_at terms (k + 1)) (term_in forms terms k h here) r in
      let p = column_moved (new_numbers 0 (gone_of forms)) terms k here ∙ new_number forms (column_at terms k) (term_in forms terms k h here) in
      let q = column_moved (new_numbers 0 (gone_of forms)) terms (k + 1) inside ∙ new_number forms (column_at terms (k + 1)) (term_in forms terms (k + 1) h inside) in
      omega (arith, s, p, q);
  nonzero = λ k l e.
      let n = length-moved (new_numbers 0 (gone_of forms)) terms in
      a.nonzero k (omega (arith, l, n)) (sym (coefficient_moved (new_numbers 0 (gone_of forms)) terms k) ∙ e);
}
