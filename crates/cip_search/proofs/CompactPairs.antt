-- A compacted program and the program that it was are an exact pair.
use borrow.Author.Differences.{le_out}
use Rattle.std.proofs.Common.{◌≡◌, ◌⊎◌, ℕ, zero, suc, ◌*◌, ◌<◌, ◌≤◌, ℤ, Bool, true, false, List, [], ◌∷◌, length, Option, None, Some, slice_get, refl, sym, ap, ◌∙◌, subst, arith, inl, inr, true≢false, add-mul}
use Rattle.std.proofs.lemmas.Option.{none-some, same_Some, slice_get_within, slice_get-get_or, slice_get_past}
use Rattle.cip_rational.specs.Rational.{ℚ, ◌+ℚ◌, ◌*ℚ◌, zeroℚ, oneℚ, integer, floor, ceil}
use Rattle.cip_rational.specs.Sums.{dot}
use Rattle.cip_rational.proofs.Rational.Order.{≤ℚ_of_eq}
use Rattle.cip_rational.proofs.Rational.Ring.{zero-+ℚ, one-*ℚ, zero-*ℚ}
use Rattle.cip_rational.proofs.Rational.Whole.{IsWhole-zero, IsWhole-one}
use Rattle.cip_problem.specs.Program.{Sides, Choice, Plain, Open, Off, On, Program}
use Rattle.cip_problem.specs.WellFormed.{IsWellFormed, IsChoice}
use Rattle.cip_problem.specs.Activity.{value_at}
use Rattle.cip_problem.specs.Box.{Between, IsInBox, no_sides, sides_at, sides_inside}
use Rattle.cip_problem.specs.Points.{AreWhole, IsFeasible, cost_of}
use Rattle.cip_problem.specs.Choices.{choice_at, KeepsChoices, is_open}
use Rattle.cip_problem.specs.Wholes.{wholes_between, times, assignments, AtMost, HasWhole}
use Rattle.cip_problem.proofs.Points.AtPlaces.{IsInBox-long}
use Rattle.cip_problem.proofs.Wholes.Counts.{IsPositive, wholes_count, above_ceil, below_floor}
use Rattle.cip_problem.specs.Reduced.{IsRelaxed}
use Rattle.cip_search.specs.Forms.{Form, form_value, placed, filled, spread, gathered, kept_at, number_in}
use Rattle.cip_search.specs.Pairs.{IsLong, HasSource, IsKept, HasForm, IsWholeIn, IsAssignment, own_sides, other_values, semi_values, IsPair, IsExactPair}
use Rattle.cip_search.specs.Compacting.{Stays, IsCompacted}
use Rattle.cip_search.proofs.Inside.{inside_self, at_most_self, fewer_times}
use Rattle.cip_search.proofs.Spreading.{length-spread, placed_value, spread_value, spread_gone, in_box_spread, in_box_gathered, length-gathered_same, dot_spread, same_form, spread_gathered, kept_value, kept_stays, number_kept, gathered_at}

-- ---- counts

positive : (low high : Option ℚ) (z : ℤ) → Between low high (integer z) → IsPositive (wholes_between low high)
positive None high z h = tt
positive (Some low) None z h = tt
positive (Some low) (Some high) z h =
    rw (wholes_count (ceil low) (floor high)) (omega (arith, le_out _ _ (above_ceil low (Some high) z h), le_out _ _ (below_floor (Some low) high z h)))

more_than : (m a b : ℕ) → a ≤ b → a ≤ suc m * b
more_than m a b k = omega (arith, add-mul 1 m b, k)

-- with a column more that has a value there are no fewer
positive_times : (m a b : Option ℕ) → IsPositive m → AtMost a b → AtMost a (times m b)
positive_times None a None h k = tt
positive_times None a (Some zero) h k = k
positive_times None a (Some (suc b)) h k = tt
positive_times (Some zero) a b h k = absurd (omega (arith, h))
positive_times (Some (suc m)) a None h k = tt
positive_times (Some (suc m)) None (Some b) h k = absurd k
positive_times (Some (suc m)) (Some a) (Some b) h k = more_than m a b k

fewer_gathered : (forms : List (Option Form)) (integral : List Bool) (box : List Sides) → length forms ≡ length box → length integral ≡ length box → ((column : ℕ) (form : Form) → slice_get forms column ≡ Some (Some form) → slice_get integral column ≡ Some true → HasWhole (sides_at box column)) → AtMost (assignments (gathered forms integral) (gathered forms box)) (assignments integral box)
fewer_gathered [] [] box e l f = omega arith
fewer_gathered [] (w ∷ ws) [] e l f = absurd (omega (arith, l))
fewer_gathered [] (w ∷ ws) (s ∷ ss) e l f = absurd (omega (arith, e))
fewer_gathered (g ∷ forms) [] [] e l f = absurd (omega (arith, e))
fewer_gathered (g ∷ forms) [] (s ∷ ss) e l f = absurd (omega (arith, l))
fewer_gathered (g ∷ forms) (w ∷ ws) [] e l f = absurd (omega (arith, e))
fewer_gathered (None ∷ forms) (true ∷ ws) (s ∷ ss) e l f = fewer_times _ _ _ _ (at_most_self _) (fewer_gathered forms ws ss (omega (arith, e)) (omega (arith, l)) (λ column. f (suc column)))
fewer_gathered (None ∷ forms) (false ∷ ws) (s ∷ ss) e l f = fewer_gathered forms ws ss (omega (arith, e)) (omega (arith, l)) (λ column. f (suc column))
fewer_gathered (Some g ∷ forms) (true ∷ ws) (s ∷ ss) e l f =
    let w = f 0 g refl refl in
    positive_times _ _ _ (positive s.low s.high w.number w.between) (fewer_gathered forms ws ss (omega (arith, e)) (omega (arith, l)) (λ column. f (suc column)))
fewer_gathered (Some g ∷ forms) (false ∷ ws) (s ∷ ss) e l f = fewer_gathered forms ws ss (omega (arith, e)) (omega (arith, l)) (λ column. f (suc column))

-- ---- sides and whole values

sides_kept : (forms : List (Option Form)) (box : List Sides) (number : ℕ) → number < length (gathered forms box) → sides_at (gathered forms box) number ≡ sides_at box (kept_at forms number)
sides_kept [] box number h = absurd (omega (arith, h))
sides_kept (f ∷ forms) [] number h = absurd (omega (arith, h))
sides_kept (None ∷ forms) (s ∷ ss) zero h = refl
sides_kept (None ∷ forms) (s ∷ ss) (suc number) h = sides_kept forms ss number (omega (arith, h))
sides_kept (Some f ∷ forms) (s ∷ ss) number h = sides_kept forms ss number h

choice_kept : (forms : List (Option Form)) (box : List Sides) (choices : List Choice) (number : ℕ) → number < length (gathered forms box) → choice_at choices (kept_at forms number) ≡ choice_at (gathered forms choices) number
choice_kept [] box cs number h = absurd (omega (arith, h))
choice_kept (f ∷ forms) [] cs number h = absurd (omega (arith, h))
choice_kept (f ∷ forms) (s ∷ ss) [] number h = refl
choice_kept (None ∷ forms) (s ∷ ss) (c ∷ cs) zero h = refl
choice_kept (None ∷ forms) (s ∷ ss) (c ∷ cs) (suc number) h = choice_kept forms ss cs number (omega (arith, h))
choice_kept (Some f ∷ forms) (s ∷ ss) (c ∷ cs) number h = choice_kept forms ss cs number h

whole_kept : (forms : List (Option Form)) (integral : List Bool) (number : ℕ) → number < length (gathered forms integral) → slice_get integral (kept_at forms number) ≡ slice_get (gathered forms integral) number
whole_kept [] integral number h = absurd (omega (arith, h))
whole_kept (f ∷ forms) [] number h = absurd (omega (arith, h))
whole_kept (None ∷ forms) (w ∷ ws) zero h = refl
whole_kept (None ∷ forms) (w ∷ ws) (suc number) h = whole_kept forms ws number (omega (arith, h))
whole_kept (Some f ∷ forms) (w ∷ ws) number h = whole_kept forms ws number h

pub sides_number : (forms : List (Option Form)) (box : List Sides) (column : ℕ) → length forms ≡ length box → Stays forms column → sides_at (gathered forms box) (number_in forms column) ≡ sides_at box column
sides_number [] box column e h = absurd (none-some None h)
sides_number (f ∷ forms) [] column e h = absurd (omega (arith, e))
sides_number (None ∷ forms) (s ∷ ss) zero e h = refl
sides_number (Some f ∷ forms) (s ∷ ss) zero e h = absurd (none-some f (sym (same_Some (Some f) None h)))
sides_number (None ∷ forms) (s ∷ ss) (suc column) e h = sides_number forms ss column (omega (arith, e)) h
sides_number (Some f ∷ forms) (s ∷ ss) (suc column) e h = sides_number forms ss column (omega (arith, e)) h

whole_gathered : (forms : List (Option Form)) (integral : List Bool) (y : List ℚ) → AreWhole integral y → AreWhole (gathered forms integral) (gathered forms y)
whole_gathered [] integral y h = tt
whole_gathered (f ∷ forms) [] [] h = tt
whole_gathered (f ∷ forms) [] (v ∷ y) h = absurd h
whole_gathered (f ∷ forms) (w ∷ ws) [] h = absurd h
whole_gathered (None ∷ forms) (w ∷ ws) (v ∷ y) h = (h.0, whole_gathered forms ws y h.1)
whole_gathered (Some f ∷ forms) (w ∷ ws) (v ∷ y) h = whole_gathered forms ws y h.1

-- ---- choices

choices_gathered : (forms : List (Option Form)) (choices : List Choice) (y : List ℚ) → length y ≡ length forms → KeepsChoices choices y → KeepsChoices (gathered forms choices) (gathered forms y)
choices_gathered [] choices y e k column = tt
choices_gathered (f ∷ forms) [] y e k column = tt
choices_gathered (f ∷ forms) (c ∷ cs) [] e k column = absurd (omega (arith, e))
choices_gathered (None ∷ forms) (c ∷ cs) (v ∷ y) e k zero = k 0
choices_gathered (None ∷ forms) (c ∷ cs) (v ∷ y) e k (suc column) = choices_gathered forms cs y (omega (arith, e)) (λ column. k (suc column)) column
choices_gathered (Some f ∷ forms) (c ∷ cs) (v ∷ y) e k column = choices_gathered forms cs y (omega (arith, e)) (λ column. k (suc column)) column

-- no open choice has no own sides and no values
none_own : (choices : List Choice) → ((column : ℕ) → is_open (choice_at choices column) ≡ false) → own_sides choices ≡ []
none_own [] f = refl
none_own (Plain ∷ cs) f = none_own cs (λ column. f (suc column))
none_own (Open own ∷ cs) f = absurd (true≢false (f 0))
none_own (Off ∷ cs) f = none_own cs (λ column. f (suc column))
none_own (On ∷ cs) f = none_own cs (λ column. f (suc column))

none_values : (choices : List Choice) (point : List ℚ) → ((column : ℕ) → is_open (choice_at choices column) ≡ false) → semi_values choices point ≡ []
none_values [] point f = refl
none_values (Plain ∷ cs) point f = none_values cs (other_values point) (λ column. f (suc column))
none_values (Open own ∷ cs) point f = absurd (true≢false (f 0))
none_values (Off ∷ cs) point f = none_values cs (other_values point) (λ column. f (suc column))
none_values (On ∷ cs) point f = none_values cs (other_values point) (λ column. f (suc column))

-- only columns that stay have an open choice
abbrev OnlyLeftOpen : List (Option Form) → List Choice → Type 0
OnlyLeftOpen forms choices = (column : ℕ) → ¬ Stays forms column → is_open (choice_at choices column) ≡ false

past_end : (column : ℕ) → ¬ Stays [] column
past_end column h = none-some None h

own_gathered : (forms : List (Option Form)) (choices : List Choice) → OnlyLeftOpen forms choices → own_sides choices ≡ own_sides (gathered forms choices)
own_gathered [] choices f = none_own choices (λ column. f column (past_end column))
own_gathered (g ∷ forms) [] f = refl
own_gathered (None ∷ forms) (Plain ∷ cs) f = own_gathered forms cs (λ column. f (suc column))
own_gathered (None ∷ forms) (Open own ∷ cs) f = ap (λ t. own ∷ t) (own_gathered forms cs (λ column. f (suc column)))
own_gathered (None ∷ forms) (Off ∷ cs) f = own_gathered forms cs (λ column. f (suc column))
own_gathered (None ∷ forms) (On ∷ cs) f = own_gathered forms cs (λ column. f (suc column))
own_gathered (Some g ∷ forms) (Plain ∷ cs) f = own_gathered forms cs (λ column. f (suc column))
own_gathered (Some g ∷ forms) (Open own ∷ cs) f = absurd (true≢false (f 0 (λ h. none-some g (sym (same_Some (Some g) None h)))))
own_gathered (Some g ∷ forms) (Off ∷ cs) f = own_gathered forms cs (λ column. f (suc column))
own_gathered (Some g ∷ forms) (On ∷ cs) f = own_gathered forms cs (λ column. f (suc column))

values_gathered : (forms : List (Option Form)) (choices : List Choice) (at x : List ℚ) → OnlyLeftOpen forms choices → semi_values choices (filled forms at (placed forms x)) ≡ semi_values (gathered forms choices) x
values_gathered [] choices at x f = none_values choices [] (λ column. f column (past_end column))
values_gathered (g ∷ forms) [] at x f = refl
values_gathered (None ∷ forms) (Plain ∷ cs) at [] f = values_gathered forms cs at [] (λ column. f (suc column))
values_gathered (None ∷ forms) (Plain ∷ cs) at (v ∷ x) f = values_gathered forms cs at x (λ column. f (suc column))
values_gathered (None ∷ forms) (Open own ∷ cs) at [] f = ap (λ t. zeroℚ ∷ t) (values_gathered forms cs at [] (λ column. f (suc column)))
values_gathered (None ∷ forms) (Open own ∷ cs) at (v ∷ x) f = ap (λ t. v ∷ t) (values_gathered forms cs at x (λ column. f (suc column)))
values_gathered (None ∷ forms) (Off ∷ cs) at [] f = values_gathered forms cs at [] (λ column. f (suc column))
values_gathered (None ∷ forms) (Off ∷ cs) at (v ∷ x) f = values_gathered forms cs at x (λ column. f (suc column))
values_gathered (None ∷ forms) (On ∷ cs) at [] f = values_gathered forms cs at [] (λ column. f (suc column))
values_gathered (None ∷ forms) (On ∷ cs) at (v ∷ x) f = values_gathered forms cs at x (λ column. f (suc column))
values_gathered (Some g ∷ forms) (Plain ∷ cs) at x f = values_gathered forms cs at x (λ column. f (suc column))
values_gathered (Some g ∷ forms) (Open own ∷ cs) at x f = absurd (true≢false (f 0 (λ h. none-some g (sym (same_Some (Some g) None h)))))
values_gathered (Some g ∷ forms) (Off ∷ cs) at x f = values_gathered forms cs at x (λ column. f (suc column))
values_gathered (Some g ∷ forms) (On ∷ cs) at x f = values_gathered forms cs at x (λ column. f (suc column))

-- ---- an entry of the forms

data Entry (forms : List (Option Form)) (column : ℕ) : Type 0 where
  stays : Stays forms column → Entry forms column
  gone : (form : Form) → slice_get forms column ≡ Some (Some form) → Entry forms column
  past : slice_get forms column ≡ None → Entry forms column

entry_of : (forms : List (Option Form)) (column : ℕ) (o : Option (Option Form)) → slice_get forms column ≡ o → Entry forms column
entry_of forms column None e = past e
entry_of forms column (Some None) e = stays e
entry_of forms column (Some (Some form)) e = gone form e

past_end_of : (forms : List (Option Form)) (column : ℕ) → slice_get forms column ≡ None → length forms ≤ column
past_end_of [] column e = omega arith
past_end_of (f ∷ forms) zero e = absurd (none-some f (sym e))
past_end_of (f ∷ forms) (suc column) e = omega (arith, past_end_of forms column e)

-- ---- the pair

module _ (program reduced : Program) (forms : List (Option Form)) (formed : IsWellFormed program) (c : IsCompacted program reduced forms) where
  wholes_long : length program.integral ≡ length program.bounds
  wholes_long = formed.integral ∙ sym formed.bounds

  costs_long : length program.costs ≡ length forms
  costs_long = sym (c.long ∙ formed.bounds)

  long_at : (x : List ℚ) → IsLong reduced x → length x ≡ length (gathered forms program.costs)
  long_at x h = h ∙ ap (λ (b : List Sides). length b) c.bounds ∙ length-gathered_same forms program.bounds program.costs formed.bounds

  relaxed_back : (x : List ℚ) → IsRelaxed reduced x → IsRelaxed program (spread forms x)
  relaxed_back x h = record {
    within = in_box_spread forms program.bounds x c.long (λ column form e. (c.gone column form e).within x h.within) (subst (λ (b : List Sides). IsInBox b x) c.bounds h.within);
    rows = c.back x h;
  }

  cost_same : (x : List ℚ) → IsLong reduced x → cost_of program (spread forms x) ≡ cost_of reduced x
  cost_same x h =
      ap (λ t. program.constant +ℚ t) (dot_spread forms program.costs x (λ column form e. (c.gone column form e).free) costs_long (long_at x h))
      ∙ ap (λ (t : List ℚ). program.constant +ℚ dot t x) (sym c.costs)
      ∙ ap (λ t. t +ℚ dot reduced.costs x) (sym c.constant)

  feasible_onward : (y : List ℚ) → IsFeasible program y → IsFeasible reduced (gathered forms y)
  feasible_onward y h = record {
    within = subst (λ (b : List Sides). IsInBox b (gathered forms y)) (sym c.bounds) (in_box_gathered forms program.bounds y h.within);
    whole = subst (λ (ws : List Bool). AreWhole ws (gathered forms y)) (sym c.integral) (whole_gathered forms program.integral y h.whole);
    choices = subst (λ (cs : List Choice). KeepsChoices cs (gathered forms y)) (sym c.choices) (choices_gathered forms program.choices y (IsInBox-long program.bounds y h.within ∙ sym c.long) h.choices);
    rows = c.onward y (record { within = h.within; rows = h.rows });
  }

  comes_back : (y : List ℚ) → IsFeasible program y → spread forms (gathered forms y) ≡ y
  comes_back y h =
      spread_gathered forms y (IsInBox-long program.bounds y h.within ∙ sym c.long)
      (λ column form e. let g = c.gone column form e in same_form forms form y (IsInBox-long program.bounds y h.within ∙ sym c.long) g.source ∙ sym (g.forced y (record { within = h.within; rows = h.rows })))

  feasible_long : (x : List ℚ) → IsFeasible reduced x → IsLong reduced x
  feasible_long x h = IsInBox-long reduced.bounds x h.within

  cost_onward : (y : List ℚ) → IsFeasible program y → cost_of reduced (gathered forms y) ≡ cost_of program y
  cost_onward y h = sym (cost_same (gathered forms y) (feasible_long (gathered forms y) (feasible_onward y h))) ∙ ap (cost_of program) (comes_back y h)

  whole_onward : (column : ℕ) → Stays forms column → slice_get program.integral column ≡ Some true → slice_get reduced.integral (number_in forms column) ≡ Some true
  whole_onward column h k = subst (λ (ws : List Bool). slice_get ws (number_in forms column) ≡ Some true) (sym c.integral) (gathered_at forms program.integral column true h k)

  among : (number : ℕ) → number < length reduced.bounds → number < length (gathered forms program.bounds)
  among number h = subst (λ (b : List Sides). number < length b) c.bounds h

  among_wholes : (number : ℕ) → number < length reduced.bounds → number < length (gathered forms program.integral)
  among_wholes number h = subst (λ n. number < n) (length-gathered_same forms program.bounds program.integral (sym wholes_long)) (among number h)

  kept_column : (number : ℕ) → number < length reduced.bounds → IsKept program reduced (spread forms) (kept_at forms) number
  kept_column number h =
      let k = slice_get-get_or (gathered forms program.bounds) number no_sides (among number h) in
      record {
        within = slice_get_within program.bounds (kept_at forms number) _ (kept_value forms program.bounds number _ k);
        whole = whole_kept forms program.integral number (among_wholes number h) ∙ ap (λ (ws : List Bool). slice_get ws number) (sym c.integral);
        choice = choice_kept forms program.bounds program.choices number (among number h) ∙ ap (λ (cs : List Choice). choice_at cs number) (sym c.choices);
        inside = subst (λ (s : Sides). sides_inside s (sides_at program.bounds (kept_at forms number)) ≡ true)
            (sym (ap (λ (b : List Sides). sides_at b number) c.bounds ∙ sides_kept forms program.bounds number (among number h)))
            (inside_self (sides_at program.bounds (kept_at forms number)));
        value = λ x l.
            spread_value forms x (kept_at forms number) (kept_stays forms program.bounds number _ k)
            ∙ ap (value_at x) (number_kept forms program.bounds number _ k);
      }

  -- the values of columns that stay are the same
  value_onward : (y : List ℚ) (number : ℕ) → IsFeasible program y → number < length reduced.bounds → value_at (gathered forms y) number ≡ value_at y (kept_at forms number)
  value_onward y number h l =
      sym ((kept_column number l).value (gathered forms y) (feasible_long (gathered forms y) (feasible_onward y h)))
      ∙ ap (λ (t : List ℚ). value_at t (kept_at forms number)) (comes_back y h)

  form_left : (column : ℕ) → Stays forms column → slice_get program.integral column ≡ Some true → HasForm reduced (spread forms) column
  form_left column h k = record {
    form = record { constant = zeroℚ; factor = oneℚ; source = number_in forms column };
    constant = IsWhole-zero;
    factor = IsWhole-one;
    source = inr (whole_onward column h k);
    value = λ x l. spread_value forms x column h ∙ sym (zero-+ℚ _ ∙ one-*ℚ _);
  }

  renumbered_form : (form : Form) (x : List ℚ) → (form.factor ≡ zeroℚ) ⊎ Stays forms form.source → form_value form (placed forms x) ≡ form.constant +ℚ form.factor *ℚ value_at x (number_in forms form.source)
  renumbered_form form x (inl e) =
      ap (λ t. form.constant +ℚ t)
      (ap (λ t. t *ℚ value_at (placed forms x) form.source) e ∙ zero-*ℚ _
      ∙ sym (ap (λ t. t *ℚ value_at x (number_in forms form.source)) e ∙ zero-*ℚ _))
  renumbered_form form x (inr h) = ap (λ t. form.constant +ℚ form.factor *ℚ t) (placed_value forms x form.source h)

  source_onward : (form : Form) → (form.factor ≡ zeroℚ) ⊎ Stays forms form.source → HasSource program.integral form → HasSource reduced.integral (record { constant = form.constant; factor = form.factor; source = number_in forms form.source })
  source_onward form h (inl e) = inl e
  source_onward form (inl e) (inr k) = inl e
  source_onward form (inr h) (inr k) = inr (whole_onward form.source h k)

  form_gone : (column : ℕ) (form : Form) → slice_get forms column ≡ Some (Some form) → slice_get program.integral column ≡ Some true → HasForm reduced (spread forms) column
  form_gone column form e k =
      let g = c.gone column form e in
      let w = g.whole k in
      record {
        form = record { constant = form.constant; factor = form.factor; source = number_in forms form.source };
        constant = w.constant;
        factor = w.factor;
        source = source_onward form g.source w.source;
        value = λ x l. spread_gone forms x column form e ∙ renumbered_form form x g.source;
      }

  not_past : (column : ℕ) → slice_get program.integral column ≡ Some true → slice_get forms column ≡ None → ⊥
  not_past column k e =
      let h = slice_get_within program.integral column true k in
      none-some _ (sym e ∙ slice_get-get_or forms column None (omega (arith, h, wholes_long, c.long)))

  form_of : (column : ℕ) → slice_get program.integral column ≡ Some true → Entry forms column → HasForm reduced (spread forms) column
  form_of column k (stays h) = form_left column h k
  form_of column k (gone form e) = form_gone column form e k
  form_of column k (past e) = absurd (not_past column k e)

  assigned_left : (x : List ℚ) (column : ℕ) → Stays forms column → slice_get program.integral column ≡ Some true → IsAssignment reduced x → IsWholeIn (sides_at program.bounds column) (value_at (spread forms x) column)
  assigned_left x column h k a =
      subst (λ v. IsWholeIn (sides_at program.bounds column) v) (sym (spread_value forms x column h))
      (subst (λ (s : Sides). IsWholeIn s (value_at x (number_in forms column)))
      (ap (λ (b : List Sides). sides_at b (number_in forms column)) c.bounds ∙ sides_number forms program.bounds column c.long h)
      (a.values (number_in forms column) (whole_onward column h k)))

  assigned_at : (x : List ℚ) (column : ℕ) → slice_get program.integral column ≡ Some true → IsAssignment reduced x → Entry forms column → IsWholeIn (sides_at program.bounds column) (value_at (spread forms x) column)
  assigned_at x column k a (stays h) = assigned_left x column h k a
  assigned_at x column k a (gone form e) =
      subst (λ v. IsWholeIn (sides_at program.bounds column) v) (sym (spread_gone forms x column form e)) (((c.gone column form e).whole k).assigned x a)
  assigned_at x column k a (past e) = absurd (not_past column k e)

  choice_past : (column : ℕ) (choice : Choice) → IsChoice choice None (sides_at program.bounds column) → is_open choice ≡ false
  choice_past column Plain h = refl
  choice_past column (Open own) h = absurd (none-some false h.continuous)
  choice_past column Off h = refl
  choice_past column On h = refl

  past_wholes : (column : ℕ) → length forms ≤ column → length program.integral ≤ column
  past_wholes column h = omega (arith, h, wholes_long, c.long)

  not_open : (column : ℕ) → Entry forms column → ¬ Stays forms column → is_open (choice_at program.choices column) ≡ false
  not_open column (stays h) n = absurd (n h)
  not_open column (gone form e) n = (c.gone column form e).plain
  not_open column (past e) n =
      choice_past column (choice_at program.choices column)
      (subst (λ (o : Option Bool). IsChoice (choice_at program.choices column) o (sides_at program.bounds column)) (slice_get_past program.integral column (past_wholes column (past_end_of forms column e))) (formed.choices column))

  only_left : OnlyLeftOpen forms program.choices
  only_left column n = not_open column (entry_of forms column (slice_get forms column) refl) n

  own_left : own_sides program.choices ≡ own_sides reduced.choices
  own_left = own_gathered forms program.choices only_left ∙ ap own_sides (sym c.choices)

  values_left : (x : List ℚ) → IsLong reduced x → semi_values program.choices (spread forms x) ≡ semi_values reduced.choices x
  values_left x h = values_gathered forms program.choices (placed forms x) x only_left ∙ ap (λ (cs : List Choice). semi_values cs x) (sym c.choices)

  fewer_left : AtMost (assignments reduced.integral reduced.bounds) (assignments program.integral program.bounds)
  fewer_left =
      subst (λ (b : List Sides). AtMost (assignments reduced.integral b) (assignments program.integral program.bounds)) (sym c.bounds)
      (subst (λ (ws : List Bool). AtMost (assignments ws (gathered forms program.bounds)) (assignments program.integral program.bounds)) (sym c.integral)
      (fewer_gathered forms program.integral program.bounds c.long wholes_long (λ column form e k. ((c.gone column form e).whole k).some_whole)))

  pub compacted_pair : IsPair program reduced (spread forms) (kept_at forms)
  compacted_pair = record {
    long = λ x h. length-spread forms x ∙ c.long;
    relaxed = relaxed_back;
    cost = λ x h. cost_same x (IsInBox-long reduced.bounds x h.within);
    none_lost = λ y h. record {
      other = gathered forms y;
      feasible = feasible_onward y h;
      no_dearer = ≤ℚ_of_eq (cost_onward y h);
      near = λ number l. inl (value_onward y number h l);
      semi = λ number l o. value_onward y number h l;
    };
    columns = kept_column;
    forms = λ column k. form_of column k (entry_of forms column (slice_get forms column) refl);
    assigned = λ x a. record {
      long = length-spread forms x ∙ c.long;
      values = λ column k. assigned_at x column k a (entry_of forms column (slice_get forms column) refl);
    };
    fewer = fewer_left;
    semi = record { own = own_left; values = values_left };
  }

  pub compacted_exact : IsExactPair program reduced (spread forms) (kept_at forms)
  compacted_exact = record {
    pair = compacted_pair;
    back = λ y h. record { other = gathered forms y; feasible = feasible_onward y h; same = comes_back y h; cost = cost_onward y h };
  }
