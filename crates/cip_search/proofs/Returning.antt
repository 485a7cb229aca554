-- A pair is a reduction, and a way back for a search.
use Rattle.std.proofs.Common.{◌≡◌, ℕ, zero, suc, Bool, true, false, List, [], ◌∷◌, length, Option, Some, slice_get, refl, sym, ap, ◌∙◌, subst, arith, inl, inr, true≢false}
use Rattle.std.specs.Prelude.{if◌then◌else◌, ⊤}
use Rattle.std.specs.List.{AllZip}
use Rattle.std.proofs.lemmas.Option.{none-some, same_Some}
use Rattle.cip_rational.specs.Rational.{ℚ, ◌+ℚ◌, ◌*ℚ◌, zeroℚ, IsWhole}
use Rattle.cip_rational.proofs.Rational.Ring.{zero-*ℚ}
use Rattle.cip_rational.proofs.Rational.Whole.{IsWhole-zero, IsWhole-add, IsWhole-mul}
use Rattle.cip_problem.specs.Program.{Sides, Choice, Plain, Open, Off, On, Program}
use Rattle.cip_problem.specs.WellFormed.{IsWellFormed, IsChoice, IsSemi}
use Rattle.cip_problem.specs.Activity.{value_at}
use Rattle.cip_problem.specs.Box.{Between, IsInBox, sides_at}
use Rattle.cip_problem.specs.Points.{AreWhole, IsFeasible}
use Rattle.cip_problem.specs.Choices.{choice_at, Allows, KeepsChoices, zero_sides, decided_box, decided}
use Rattle.cip_problem.proofs.Points.AtPlaces.{IsInBox-long, whole_at}
use Rattle.cip_problem.proofs.Choices.Meeting.{zero_of_between}
use Rattle.cip_problem.proofs.Choices.Decided.{own_open, zero_open}
use Rattle.cip_problem.specs.Reduced.{IsRelaxed, IsReduction}
use Rattle.cip_search.specs.Leaf.{at_wholes}
use Rattle.cip_search.specs.SearchState.{IsWayBack}
use Rattle.cip_search.specs.Forms.{Form, form_value}
use Rattle.cip_search.specs.Pairs.{IsLong, HasSource, HasForm, own_sides, semi_values, IsPair}
use Rattle.cip_search.specs.WholeParts.{with_wholes, whole_part, way_of}

-- ---- semi-continuous columns

-- each value is one that an open choice allows
abbrev AllAllowed : List Sides → List ℚ → Type 0
AllAllowed own values = AllZip (λ own value. Allows (Open own) value) own values

choices_allowed : (choices : List Choice) (point : List ℚ) → KeepsChoices choices point → AllAllowed (own_sides choices) (semi_values choices point)
choices_allowed [] point k = tt
choices_allowed (Plain ∷ cs) [] k = choices_allowed cs [] (λ column. k (suc column))
choices_allowed (Plain ∷ cs) (v ∷ p) k = choices_allowed cs p (λ column. k (suc column))
choices_allowed (Open own ∷ cs) [] k = (k 0, choices_allowed cs [] (λ column. k (suc column)))
choices_allowed (Open own ∷ cs) (v ∷ p) k = (k 0, choices_allowed cs p (λ column. k (suc column)))
choices_allowed (Off ∷ cs) [] k = choices_allowed cs [] (λ column. k (suc column))
choices_allowed (Off ∷ cs) (v ∷ p) k = choices_allowed cs p (λ column. k (suc column))
choices_allowed (On ∷ cs) [] k = choices_allowed cs [] (λ column. k (suc column))
choices_allowed (On ∷ cs) (v ∷ p) k = choices_allowed cs p (λ column. k (suc column))

allowed_choices : (choices : List Choice) (point : List ℚ) → AllAllowed (own_sides choices) (semi_values choices point) → KeepsChoices choices point
allowed_choices [] point h column = tt
allowed_choices (Plain ∷ cs) point h zero = tt
allowed_choices (Plain ∷ cs) [] h (suc column) = allowed_choices cs [] h column
allowed_choices (Plain ∷ cs) (v ∷ p) h (suc column) = allowed_choices cs p h column
allowed_choices (Open own ∷ cs) [] h zero = h.0
allowed_choices (Open own ∷ cs) (v ∷ p) h zero = h.0
allowed_choices (Open own ∷ cs) [] h (suc column) = allowed_choices cs [] h.1 column
allowed_choices (Open own ∷ cs) (v ∷ p) h (suc column) = allowed_choices cs p h.1 column
allowed_choices (Off ∷ cs) point h zero = tt
allowed_choices (Off ∷ cs) [] h (suc column) = allowed_choices cs [] h column
allowed_choices (Off ∷ cs) (v ∷ p) h (suc column) = allowed_choices cs p h column
allowed_choices (On ∷ cs) point h zero = tt
allowed_choices (On ∷ cs) [] h (suc column) = allowed_choices cs [] h column
allowed_choices (On ∷ cs) (v ∷ p) h (suc column) = allowed_choices cs p h column

-- the values are as the choices are made
abbrev AsMade : List Sides → List ℚ → List Bool → Type 0
AsMade [] values on = ⊤
AsMade (own ∷ others) [] on = ⊤
AsMade (own ∷ others) (value ∷ values) [] = ⊤
AsMade (own ∷ others) (value ∷ values) (is_on ∷ on) =
    Between (if is_on then own else zero_sides).low (if is_on then own else zero_sides).high value × AsMade others values on

-- none is made
none_made : (own : List Sides) (values : List ℚ) → AsMade own values []
none_made [] values = tt
none_made (o ∷ own) [] = tt
none_made (o ∷ own) (v ∷ values) = tt

made_open : (own sides : Sides) (whole : Option Bool) (value : ℚ) (is_on : Bool) → IsSemi own whole sides → Between (if is_on then own else zero_sides).low (if is_on then own else zero_sides).high value → Between sides.low sides.high value
made_open own sides whole value true semi h = own_open own sides whole value semi h
made_open own sides whole value false semi h = zero_open own sides whole value semi (zero_of_between value h)

-- past the end of a box no choice is open, as its sides would be there
none_past : (own : Sides) (whole : Option Bool) → ¬ IsSemi own whole (sides_at [] 0)
none_past own whole semi = none-some zeroℚ (ap (λ (s : Sides). s.low) semi.open_)

past_made : (choices : List Choice) (wholes : ℕ → Option Bool) (on : List Bool) → ((column : ℕ) → IsChoice (choice_at choices column) (wholes column) (sides_at [] column)) → AsMade (own_sides choices) (semi_values choices []) on
past_made [] wholes on f = tt
past_made (Plain ∷ cs) wholes on f = past_made cs (λ column. wholes (suc column)) on (λ column. f (suc column))
past_made (Open own ∷ cs) wholes on f = absurd (none_past own (wholes 0) (f 0))
past_made (Off ∷ cs) wholes on f = absurd (f 0)
past_made (On ∷ cs) wholes on f = absurd (f 0)

-- a point of the box in which choices are made lies in the box of all, with values as they are made
decided_out : (choices : List Choice) (wholes : ℕ → Option Bool) (box : List Sides) (on : List Bool) (p : List ℚ) → ((column : ℕ) → IsChoice (choice_at choices column) (wholes column) (sides_at box column)) → IsInBox (decided_box choices box on) p → IsInBox box p × AsMade (own_sides choices) (semi_values choices p) on
decided_out [] wholes box on p f h = (h, tt)
decided_out (c ∷ cs) wholes [] on [] f h = (tt, past_made (c ∷ cs) wholes on f)
decided_out (c ∷ cs) wholes [] on (v ∷ p) f h = absurd h
decided_out (Plain ∷ cs) wholes (s ∷ ss) on [] f h = absurd h
decided_out (Plain ∷ cs) wholes (s ∷ ss) on (v ∷ p) f h =
    let k = decided_out cs (λ column. wholes (suc column)) ss on p (λ column. f (suc column)) h.1 in
    ((h.0, k.0), k.1)
decided_out (Open own ∷ cs) wholes (s ∷ ss) [] [] f h = absurd h
decided_out (Open own ∷ cs) wholes (s ∷ ss) [] (v ∷ p) f h =
    let k = decided_out cs (λ column. wholes (suc column)) ss [] p (λ column. f (suc column)) h.1 in
    ((h.0, k.0), tt)
decided_out (Open own ∷ cs) wholes (s ∷ ss) (o ∷ on) [] f h = absurd h
decided_out (Open own ∷ cs) wholes (s ∷ ss) (o ∷ on) (v ∷ p) f h =
    let k = decided_out cs (λ column. wholes (suc column)) ss on p (λ column. f (suc column)) h.1 in
    ((made_open own s (wholes 0) v o (f 0) h.0, k.0), (h.0, k.1))
decided_out (Off ∷ cs) wholes (s ∷ ss) on p f h = absurd (f 0)
decided_out (On ∷ cs) wholes (s ∷ ss) on p f h = absurd (f 0)

decided_in : (choices : List Choice) (box : List Sides) (on : List Bool) (p : List ℚ) → IsInBox box p → AsMade (own_sides choices) (semi_values choices p) on → IsInBox (decided_box choices box on) p
decided_in [] box on p h m = h
decided_in (c ∷ cs) [] on p h m = h
decided_in (c ∷ cs) (s ∷ ss) on [] h m = absurd h
decided_in (Plain ∷ cs) (s ∷ ss) on (v ∷ p) h m = (h.0, decided_in cs ss on p h.1 m)
decided_in (Open own ∷ cs) (s ∷ ss) [] (v ∷ p) h m = (h.0, decided_in cs ss [] p h.1 (none_made (own_sides cs) (semi_values cs p)))
decided_in (Open own ∷ cs) (s ∷ ss) (o ∷ on) (v ∷ p) h m = (m.0, decided_in cs ss on p h.1 m.1)
decided_in (Off ∷ cs) (s ∷ ss) on (v ∷ p) h m = (h.0, decided_in cs ss on p h.1 m)
decided_in (On ∷ cs) (s ∷ ss) on (v ∷ p) h m = (h.0, decided_in cs ss on p h.1 m)

-- ---- whole values

pub all_whole : (integral : List Bool) (p : List ℚ) → length p ≡ length integral → ((column : ℕ) → slice_get integral column ≡ Some true → IsWhole (value_at p column)) → AreWhole integral p
all_whole [] [] e f = tt
all_whole [] (v ∷ p) e f = absurd (omega (arith, e))
all_whole (w ∷ ws) [] e f = absurd (omega (arith, e))
all_whole (w ∷ ws) (v ∷ p) e f = ((λ h. f 0 (ap Some h)), all_whole ws p (omega (arith, e)) (λ column. f (suc column)))

same_wholes : (integral : List Bool) (p q : List ℚ) → length p ≡ length integral → length q ≡ length integral → ((column : ℕ) → slice_get integral column ≡ Some true → value_at p column ≡ value_at q column) → at_wholes integral p ≡ at_wholes integral q
same_wholes [] p q d e f = refl
same_wholes (w ∷ ws) [] q d e f = absurd (omega (arith, d))
same_wholes (w ∷ ws) (v ∷ p) [] d e f = absurd (omega (arith, e))
same_wholes (true ∷ ws) (v ∷ p) (u ∷ q) d e f =
    ap (λ t. t ∷ at_wholes ws p) (f 0 refl) ∙ ap (λ t. u ∷ t) (same_wholes ws p q (omega (arith, d)) (omega (arith, e)) (λ column. f (suc column)))
same_wholes (false ∷ ws) (v ∷ p) (u ∷ q) d e f = same_wholes ws p q (omega (arith, d)) (omega (arith, e)) (λ column. f (suc column))

pub length-with_wholes : (integral : List Bool) (values : List ℚ) → length (with_wholes integral values) ≡ length integral
length-with_wholes [] values = refl
length-with_wholes (false ∷ ws) values = ap (λ n. suc n) (length-with_wholes ws values)
length-with_wholes (true ∷ ws) [] = ap (λ n. suc n) (length-with_wholes ws [])
length-with_wholes (true ∷ ws) (v ∷ values) = ap (λ n. suc n) (length-with_wholes ws values)

whole_value : (integral : List Bool) (x : List ℚ) (column : ℕ) → length x ≡ length integral → slice_get integral column ≡ Some true → value_at x column ≡ value_at (with_wholes integral (at_wholes integral x)) column
whole_value [] x column e h = absurd (none-some true h)
whole_value (w ∷ ws) [] column e h = absurd (omega (arith, e))
whole_value (true ∷ ws) (v ∷ x) zero e h = refl
whole_value (false ∷ ws) (v ∷ x) zero e h = absurd (true≢false (sym (same_Some false true h)))
whole_value (true ∷ ws) (v ∷ x) (suc column) e h = whole_value ws x column (omega (arith, e)) h
whole_value (false ∷ ws) (v ∷ x) (suc column) e h = whole_value ws x column (omega (arith, e)) h

-- ---- a pair

module _ (program reduced : Program) (post : List ℚ → List ℚ) (kept : ℕ → ℕ) (formed : IsWellFormed program) (inner : IsWellFormed reduced) (pair : IsPair program reduced post kept) where
  form_whole : (f : Form) (x : List ℚ) → IsWhole f.constant → IsWhole f.factor → AreWhole reduced.integral x → HasSource reduced.integral f → IsWhole (form_value f x)
  form_whole f x c k h (inl e) = IsWhole-add _ _ c (subst (λ t. IsWhole t) (sym (ap (λ t. t *ℚ value_at x f.source) e ∙ zero-*ℚ _)) IsWhole-zero)
  form_whole f x c k h (inr s) = IsWhole-add _ _ c (IsWhole-mul _ _ k (whole_at reduced.integral x f.source h s))

  whole_back : (x : List ℚ) (column : ℕ) → IsLong reduced x → AreWhole reduced.integral x → HasForm reduced post column → IsWhole (value_at (post x) column)
  whole_back x column l h f = subst (λ t. IsWhole t) (sym (f.value x l)) (form_whole f.form x f.constant f.factor h f.source)

  long_wholes : (x : List ℚ) → IsLong reduced x → length (post x) ≡ length program.integral
  long_wholes x l = pair.long x l ∙ formed.bounds ∙ sym formed.integral

  wholes_back : (x : List ℚ) → IsLong reduced x → AreWhole reduced.integral x → AreWhole program.integral (post x)
  wholes_back x l h = all_whole program.integral (post x) (long_wholes x l) (λ column e. whole_back x column l h (pair.forms column e))

  choices_back : (x : List ℚ) → IsLong reduced x → KeepsChoices reduced.choices x → KeepsChoices program.choices (post x)
  choices_back x l h =
      allowed_choices program.choices (post x)
      (subst (λ (vs : List ℚ). AllAllowed (own_sides program.choices) vs) (sym (pair.semi.values x l))
      (subst (λ (own : List Sides). AllAllowed own (semi_values reduced.choices x)) (sym pair.semi.own) (choices_allowed reduced.choices x h)))

  relaxed_of : (x : List ℚ) → IsFeasible reduced x → IsRelaxed reduced x
  relaxed_of x h = record { within = h.within; rows = h.rows }

  feasible_back : (x : List ℚ) → IsFeasible reduced x → IsFeasible program (post x)
  feasible_back x h =
      let l : IsLong reduced x = IsInBox-long reduced.bounds x h.within in
      let r = pair.relaxed x (relaxed_of x h) in
      record { within = r.within; whole = wholes_back x l h.whole; choices = choices_back x l h.choices; rows = r.rows }

  pub pair_reduction : IsReduction program reduced post
  pair_reduction = record {
    feasible = feasible_back;
    relaxed = pair.relaxed;
    cost = pair.cost;
    none_lost = λ y h. let n = pair.none_lost y h in record { point = n.other; feasible = n.feasible; no_dearer = n.no_dearer };
  }

  decided_back : (on : List Bool) (x : List ℚ) → IsFeasible (decided reduced on) x → IsFeasible (decided program on) (post x)
  decided_back on x h =
      let d = decided_out reduced.choices (λ column. slice_get reduced.integral column) reduced.bounds on x inner.choices h.within in
      let l : IsLong reduced x = IsInBox-long reduced.bounds x d.0 in
      let r = pair.relaxed x (record { within = d.0; rows = h.rows }) in
      record {
        within = decided_in program.choices program.bounds on (post x) r.within
            (subst (λ (vs : List ℚ). AsMade (own_sides program.choices) vs on) (sym (pair.semi.values x l))
            (subst (λ (own : List Sides). AsMade own (semi_values reduced.choices x) on) (sym pair.semi.own) d.1));
        whole = wholes_back x l h.whole;
        choices = λ column. tt;
        rows = r.rows;
      }

  form_same : (f : Form) (x z : List ℚ) → ((column : ℕ) → slice_get reduced.integral column ≡ Some true → value_at x column ≡ value_at z column) → HasSource reduced.integral f → form_value f x ≡ form_value f z
  form_same f x z g (inl e) = ap (λ t. f.constant +ℚ t) (ap (λ t. t *ℚ value_at x f.source) e ∙ zero-*ℚ _ ∙ sym (ap (λ t. t *ℚ value_at z f.source) e ∙ zero-*ℚ _))
  form_same f x z g (inr s) = ap (λ t. f.constant +ℚ f.factor *ℚ t) (g f.source s)

  leaf_back : (x : List ℚ) → IsLong reduced x → at_wholes program.integral (post x) ≡ whole_part program reduced post (at_wholes reduced.integral x)
  leaf_back x l =
      let e : length x ≡ length reduced.integral = l ∙ inner.bounds ∙ sym inner.integral in
      let m : IsLong reduced (with_wholes reduced.integral (at_wholes reduced.integral x)) = length-with_wholes reduced.integral (at_wholes reduced.integral x) ∙ inner.integral ∙ sym inner.bounds in
      same_wholes program.integral (post x) (post (with_wholes reduced.integral (at_wholes reduced.integral x))) (long_wholes x l) (long_wholes _ m)
      (λ column h. let f = pair.forms column h in
      f.value x l ∙ form_same f.form x (with_wholes reduced.integral (at_wholes reduced.integral x)) (λ c k. whole_value reduced.integral x c e k) f.source ∙ sym (f.value _ m))

  pub pair_way_back : IsWayBack program reduced (way_of program reduced post)
  pair_way_back = record {
    reduction = pair_reduction;
    leaves = λ x h. leaf_back x (IsInBox-long reduced.bounds x h.within);
    choices = decided_back;
  }
