-- Columns that go where they cost least, with those that follow them, all at once: a step.
use Rattle.std.proofs.Common.{◌≡◌, ◌⊎◌, ℕ, zero, suc, ◌<◌, ◌≤◌, Bool, true, false, List, [], ◌∷◌, length, Option, None, Some, IfSome, slice_get, refl, sym, ap, ◌∙◌, subst, arith, inl, inr, true≢false}
use Rattle.std.proofs.lemmas.Option.{none-some, same_Some}
use Rattle.std.proofs.lemmas.Bool.{and_from}
use Rattle.cip_rational.specs.Rational.{ℚ, ◌+ℚ◌, ◌*ℚ◌, negate, zeroℚ, ◌≤ℚ◌, IsWhole}
use Rattle.cip_rational.specs.Sums.{dot}
use Rattle.cip_rational.proofs.Rational.Order.{≤ℚ_refl, ≤ℚ_trans, ≤ℚ_of_eq, test_of_le}
use Rattle.cip_rational.proofs.Rational.Ring.{negate_negate, negate-*ℚ, *ℚ-negate}
use Rattle.cip_rational.proofs.Rational.Monotone.{+ℚ_mono, *ℚ_mono}
use Rattle.cip_rational.proofs.Rational.Inverse.{*ℚ_antitone}
use Rattle.cip_problem.specs.Program.{Term, Sides, Row, Program}
use Rattle.cip_problem.specs.Activity.{value_at, activity}
use Rattle.cip_problem.specs.Box.{Between, sides_at, low_inside, high_inside, sides_inside}
use Rattle.cip_problem.specs.Choices.{choice_at, Allows, is_open}
use Rattle.cip_problem.specs.Points.{AreWhole, IsSatisfied, IsFeasible, cost_of}
use Rattle.cip_problem.proofs.Box.SideTests.{sides_inside_holds}
use Rattle.cip_problem.proofs.Points.AtPlaces.{IsInBox-long, in_box_at, whole_at}
use Rattle.cip_search.specs.NarrowedPrograms.{AllSatisfied, IsStep}
use Rattle.cip_search.specs.Forms.{Form, form_value}
use Rattle.cip_search.specs.Moving.{LetsFall, fixed_sides}
use Rattle.cip_search.specs.Pairs.{IsHeldFast, HasNear}
use Rattle.cip_search.proofs.Inside.{AllInside, inside_self}
use Rattle.cip_search.proofs.Pairing.{exact_self, exact_step, no_factor}
use Rattle.cip_search.proofs.SeenColumns.{in_box}
use Rattle.cip_search.proofs.Moving.{not_open_allows}
use Rattle.cip_presolve.specs.ColumnsOut.{IsIn, GoesByForm, MayGo, MayAllGo, TermsIn, SourcesStay}
use Rattle.cip_presolve.specs.SpentRows.{IsSpent, RowGoes, RowsGo}
use Rattle.cip_presolve.specs.FreeColumns.{turned, TermsFree, RowFree, RowsFree}
use Rattle.cip_presolve.specs.Moves.{CanBe, MovesTo, target_at, Follows, IsPlan, IsPlanned, IsTaken}

-- ---- a point whose columns move

-- a value, or the one that it goes to
abbrev moved_value : Option ℚ → ℚ → ℚ
moved_value None value = value
moved_value (Some target) value = target

abbrev moved : List (Option ℚ) → List ℚ → List ℚ
moved [] y = y
moved (p ∷ plan) [] = []
moved (p ∷ plan) (v ∷ y) = moved_value p v ∷ moved plan y

length-moved : (plan : List (Option ℚ)) (y : List ℚ) → length (moved plan y) ≡ length y
length-moved [] y = refl
length-moved (p ∷ plan) [] = refl
length-moved (p ∷ plan) (v ∷ y) = ap (λ n. suc n) (length-moved plan y)

value_moved : (plan : List (Option ℚ)) (y : List ℚ) (column : ℕ) → column < length y → value_at (moved plan y) column ≡ moved_value (target_at plan column) (value_at y column)
value_moved [] y column h = refl
value_moved (p ∷ plan) [] column h = absurd (omega (arith, h))
value_moved (p ∷ plan) (v ∷ y) zero h = refl
value_moved (p ∷ plan) (v ∷ y) (suc column) h = value_moved plan y column (omega (arith, h))

value_stays : (plan : List (Option ℚ)) (y : List ℚ) (column : ℕ) → target_at plan column ≡ None → value_at (moved plan y) column ≡ value_at y column
value_stays [] y column e = refl
value_stays (p ∷ plan) [] column e = refl
value_stays (p ∷ plan) (v ∷ y) zero e = ap (λ o. moved_value o v) e
value_stays (p ∷ plan) (v ∷ y) (suc column) e = value_stays plan y column e

target_within : (plan : List (Option ℚ)) (column : ℕ) (v : ℚ) → target_at plan column ≡ Some v → column < length plan
target_within [] column v e = absurd (none-some v e)
target_within (p ∷ plan) zero v e = omega arith
target_within (p ∷ plan) (suc column) v e = let k = target_within plan column v e in omega (arith, k)

-- ---- columnwise

inside_of : (inner outer : List Sides) → length inner ≡ length outer → ((column : ℕ) → column < length outer → sides_inside (sides_at inner column) (sides_at outer column) ≡ true) → AllInside inner outer
inside_of [] [] e f = tt
inside_of [] (s ∷ ss) e f = absurd (omega (arith, e))
inside_of (t ∷ ts) [] e f = absurd (omega (arith, e))
inside_of (t ∷ ts) (s ∷ ss) e f = (f 0 (omega arith), inside_of ts ss (omega (arith, e)) (λ column h. f (suc column) (omega (arith, h))))

wholes_of : (integral : List Bool) (old new : List ℚ) → AreWhole integral old → length new ≡ length old → ((column : ℕ) → column < length new → slice_get integral column ≡ Some true → IsWhole (value_at new column)) → AreWhole integral new
wholes_of [] [] [] h e f = tt
wholes_of [] [] (v ∷ new) h e f = absurd (omega (arith, e))
wholes_of [] (u ∷ old) new h e f = absurd h
wholes_of (w ∷ ws) [] new h e f = absurd h
wholes_of (w ∷ ws) (u ∷ old) [] h e f = absurd (omega (arith, e))
wholes_of (w ∷ ws) (u ∷ old) (v ∷ new) h e f = ((λ k. f 0 (omega arith) (ap Some k)), wholes_of ws old new h.1 (omega (arith, e)) (λ column l. f (suc column) (omega (arith, l))))

dot_of : (costs new old : List ℚ) → length new ≡ length old → ((column : ℕ) → column < length new → value_at costs column *ℚ value_at new column ≤ℚ value_at costs column *ℚ value_at old column) → dot costs new ≤ℚ dot costs old
dot_of [] new old e f = ≤ℚ_refl zeroℚ
dot_of (c ∷ costs) [] [] e f = ≤ℚ_refl zeroℚ
dot_of (c ∷ costs) [] (u ∷ old) e f = absurd (omega (arith, e))
dot_of (c ∷ costs) (v ∷ new) [] e f = absurd (omega (arith, e))
dot_of (c ∷ costs) (v ∷ new) (u ∷ old) e f = +ℚ_mono (f 0 (omega arith)) (dot_of costs new old (omega (arith, e)) (λ column h. f (suc column) (omega (arith, h))))

-- ---- signs

turned_product : (rising : Bool) (a b : ℚ) → turned rising a *ℚ turned rising b ≡ a *ℚ b
turned_product true a b = negate-*ℚ a (negate b) ∙ ap negate (*ℚ-negate a b) ∙ negate_negate (a *ℚ b)
turned_product false a b = refl

-- a product with a number that isn't below 0, or above 0, in its turned sense
product_less : (rising : Bool) (c v u : ℚ) → zeroℚ ≤ℚ turned rising c → turned rising v ≤ℚ turned rising u → c *ℚ v ≤ℚ c *ℚ u
product_less rising c v u h k =
    subst (λ t. t ≤ℚ c *ℚ u) (turned_product rising c v)
    (subst (λ t. turned rising c *ℚ turned rising v ≤ℚ t) (turned_product rising c u)
    (*ℚ_mono (turned rising v) (turned rising u) (turned rising c) h k))

product_more : (rising : Bool) (c v u : ℚ) → turned rising c ≤ℚ zeroℚ → turned rising v ≤ℚ turned rising u → c *ℚ u ≤ℚ c *ℚ v
product_more rising c v u h k =
    subst (λ t. t ≤ℚ c *ℚ v) (turned_product rising c u)
    (subst (λ t. turned rising c *ℚ turned rising u ≤ℚ t) (turned_product rising c v)
    (*ℚ_antitone (turned rising v) (turned rising u) (turned rising c) h k))

-- ---- sides of one value

low_fixed : (low : Option ℚ) (v : ℚ) → IfSome low (λ side. side ≤ℚ v) → low_inside (Some v) low ≡ true
low_fixed None v h = refl
low_fixed (Some low) v h = test_of_le h

high_fixed : (high : Option ℚ) (v : ℚ) → IfSome high (λ side. v ≤ℚ side) → high_inside (Some v) high ≡ true
high_fixed None v h = refl
high_fixed (Some high) v h = test_of_le h

fixed_inside : (sides : Sides) (v : ℚ) → Between sides.low sides.high v → sides_inside (fixed_sides v) sides ≡ true
fixed_inside sides v h = and_from _ _ (low_fixed sides.low v h.above) (high_fixed sides.high v h.below)

fixed_holds : (v : ℚ) → Between (fixed_sides v).low (fixed_sides v).high v
fixed_holds v = record { above = ≤ℚ_refl v; below = ≤ℚ_refl v }

-- ---- cases

data Target (plan : List (Option ℚ)) (column : ℕ) : Type 0 where
  stays : target_at plan column ≡ None → Target plan column
  goes : (value : ℚ) → target_at plan column ≡ Some value → Target plan column

target_of : (plan : List (Option ℚ)) (column : ℕ) (o : Option ℚ) → target_at plan column ≡ o → Target plan column
target_of plan column None e = stays e
target_of plan column (Some v) e = goes v e

data Entry (forms : List (Option Form)) (column : ℕ) : Type 0 where
  own : IsIn forms column → Entry forms column
  gone : (form : Form) → slice_get forms column ≡ Some (Some form) → Entry forms column
  past : length forms ≤ column → Entry forms column

entry_of : (forms : List (Option Form)) (column : ℕ) → Entry forms column
entry_of [] column = past (omega arith)
entry_of (None ∷ forms) zero = own refl
entry_of (Some f ∷ forms) zero = gone f refl
entry_of (f ∷ forms) (suc column) = next (entry_of forms column)
  where
    next : Entry forms column → Entry (f ∷ forms) (suc column)
    next (own h) = own h
    next (gone g h) = gone g h
    next (past h) = past (omega (arith, h))

-- ---- what a column that moves keeps

record Goes (program : Program) (column : ℕ) (value : ℚ) : Type 0 where
  plain : is_open (choice_at program.choices column) ≡ false
  whole : slice_get program.integral column ≡ Some true → IsWhole value
  between : Between (sides_at program.bounds column).low (sides_at program.bounds column).high value
  cost : (other : ℚ) → CanBe program column other → value_at program.costs column *ℚ value ≤ℚ value_at program.costs column *ℚ other

free_cost : (cost a b : ℚ) → cost ≡ zeroℚ → cost *ℚ a ≤ℚ cost *ℚ b
free_cost cost a b e = ≤ℚ_of_eq (no_factor cost a b e)

module _ (rising : Bool) (free : List Bool) (program : Program) where
  target_between : (column : ℕ) (v : ℚ) → MovesTo rising free program column v → Between (sides_at program.bounds column).low (sides_at program.bounds column).high v
  target_between column v m = sides_inside_holds (fixed_sides v) (sides_at program.bounds column) v m.takes.inside (fixed_holds v)

  own_goes : (column : ℕ) (v : ℚ) → MovesTo rising free program column v → Goes program column v
  own_goes column v m = record {
    plain = m.takes.plain;
    whole = m.takes.whole;
    between = target_between column v m;
    cost = λ other k. product_less rising (value_at program.costs column) v other m.cost (m.last other k);
  }

  carried_by : (column : ℕ) (form : Form) (v : ℚ) → GoesByForm program column form → MovesTo rising free program form.source v → Goes program column (form.constant +ℚ form.factor *ℚ v)
  carried_by column form v g m = record {
    plain = g.free.plain;
    whole = λ w. let k = g.whole w in (k.assigns.values v (m.takes.whole k.source) (target_between form.source v m)).whole;
    between = g.keeps v (target_between form.source v m);
    cost = λ other k. free_cost (value_at program.costs column) (form.constant +ℚ form.factor *ℚ v) other g.free.free;
  }

  carried_may : (column : ℕ) (form : Form) (v : ℚ) → ¬ (form.factor ≡ zeroℚ) → MayGo program column form → MovesTo rising free program form.source v → Goes program column (form.constant +ℚ form.factor *ℚ v)
  carried_may column form v n (inl g) m = absurd (n (ap (λ (f : Form). f.factor) g.is))
  carried_may column form v n (inr g) m = carried_by column form v g m

module _ (rising : Bool) (free : List Bool) (program : Program) (forms : List (Option Form)) (plan : List (Option ℚ)) (may : MayAllGo program forms) (sources : SourcesStay forms) (p : IsPlan rising free program forms plan) where
  source_moves : (form : Form) (v : ℚ) → target_at plan form.source ≡ Some v → ¬ (form.factor ≡ zeroℚ) → (form.factor ≡ zeroℚ) ⊎ IsIn forms form.source → MovesTo rising free program form.source v
  source_moves form v e n (inl z) = absurd (n z)
  source_moves form v e n (inr s) = p.moves form.source v s e

  follower_goes : (column : ℕ) (form : Form) (v : ℚ) → slice_get forms column ≡ Some (Some form) → target_at plan column ≡ Some v → Follows plan form (target_at plan column) → Goes program column v
  follower_goes column form v e t (inl f) = absurd (none-some v (sym f.stays ∙ t))
  follower_goes column form v e t (inr f) =
      subst (λ u. Goes program column u) (same_Some _ v (sym f.is ∙ t))
      (carried_may rising free program column form f.value f.nonzero (may.each column form e) (source_moves form f.value f.source f.nonzero (sources column form e)))

  goes_at : (column : ℕ) (v : ℚ) → target_at plan column ≡ Some v → Entry forms column → Goes program column v
  goes_at column v t (own s) = own_goes rising free program column v (p.moves column v s t)
  goes_at column v t (gone f e) = follower_goes column f v e t (p.follows column f e)
  goes_at column v t (past l) = let w = target_within plan column v t in absurd (omega (arith, w, l, p.long, may.long))

  goes_to : (column : ℕ) (v : ℚ) → target_at plan column ≡ Some v → Goes program column v
  goes_to column v t = goes_at column v t (entry_of forms column)

  -- sides are inside the program's
  inside_at : (changed : Program) (column : ℕ) → column < length program.bounds → IsTaken plan program changed → Target plan column → sides_inside (sides_at changed.bounds column) (sides_at program.bounds column) ≡ true
  inside_at changed column l k (stays e) =
      subst (λ (s : Sides). sides_inside s (sides_at program.bounds column) ≡ true) (sym (k.stays column e)) (inside_self (sides_at program.bounds column))
  inside_at changed column l k (goes v e) =
      subst (λ (s : Sides). sides_inside s (sides_at program.bounds column) ≡ true) (sym (k.moved column v l e)) (fixed_inside (sides_at program.bounds column) v (goes_to column v e).between)

  all_inside : (changed : Program) → IsTaken plan program changed → AllInside changed.bounds program.bounds
  all_inside changed k = inside_of changed.bounds program.bounds k.long (λ column l. inside_at changed column l k (target_of plan column (target_at plan column) refl))

-- ---- a point

module _ (rising : Bool) (free : List Bool) (program : Program) (forms : List (Option Form)) (plan : List (Option ℚ)) (may : MayAllGo program forms) (sources : SourcesStay forms) (p : IsPlan rising free program forms plan) (y : List ℚ) (h : IsFeasible program y) where
  can_be : (column : ℕ) → CanBe program column (value_at y column)
  can_be column = record {
    between = in_box_at program.bounds y column h.within;
    whole = λ e. whole_at program.integral y column h.whole e;
  }

  last_of : (column : ℕ) (v : ℚ) → MovesTo rising free program column v → turned rising v ≤ℚ turned rising (value_at y column)
  last_of column v m = m.last (value_at y column) (can_be column)

  goes_y : (column : ℕ) (v : ℚ) → target_at plan column ≡ Some v → Goes program column v
  goes_y column v t = goes_to rising free program forms plan may sources p column v t

  abbrev new : List ℚ
  new = moved plan y

  y_long : length y ≡ length program.bounds
  y_long = IsInBox-long program.bounds y h.within

  new_at : (column : ℕ) (v : ℚ) → target_at plan column ≡ Some v → value_at new column ≡ v
  new_at column v t =
      let w = target_within plan column v t in
      value_moved plan y column (omega (arith, w, p.long, y_long)) ∙ ap (λ o. moved_value o (value_at y column)) t

  -- ---- columns

  in_changed : (changed : Program) (column : ℕ) → column < length program.bounds → IsTaken plan program changed → Target plan column → Between (sides_at changed.bounds column).low (sides_at changed.bounds column).high (value_at new column)
  in_changed changed column l k (stays e) =
      subst (λ (s : Sides). Between s.low s.high (value_at new column)) (sym (k.stays column e))
      (subst (λ t. Between (sides_at program.bounds column).low (sides_at program.bounds column).high t) (sym (value_stays plan y column e)) (in_box_at program.bounds y column h.within))
  in_changed changed column l k (goes v e) =
      subst (λ (s : Sides). Between s.low s.high (value_at new column)) (sym (k.moved column v l e))
      (subst (λ t. Between (fixed_sides v).low (fixed_sides v).high t) (sym (new_at column v e)) (fixed_holds v))

  whole_new : (column : ℕ) → slice_get program.integral column ≡ Some true → Target plan column → IsWhole (value_at new column)
  whole_new column w (stays e) = subst (λ t. IsWhole t) (sym (value_stays plan y column e)) (whole_at program.integral y column h.whole w)
  whole_new column w (goes v e) = subst (λ t. IsWhole t) (sym (new_at column v e)) ((goes_y column v e).whole w)

  allowed_new : (column : ℕ) → Target plan column → Allows (choice_at program.choices column) (value_at new column)
  allowed_new column (stays e) = subst (λ t. Allows (choice_at program.choices column) t) (sym (value_stays plan y column e)) (h.choices column)
  allowed_new column (goes v e) = not_open_allows (choice_at program.choices column) (value_at new column) (goes_y column v e).plain

  cost_new : (column : ℕ) → Target plan column → value_at program.costs column *ℚ value_at new column ≤ℚ value_at program.costs column *ℚ value_at y column
  cost_new column (stays e) = ≤ℚ_of_eq (ap (λ t. value_at program.costs column *ℚ t) (value_stays plan y column e))
  cost_new column (goes v e) = subst (λ t. value_at program.costs column *ℚ t ≤ℚ value_at program.costs column *ℚ value_at y column) (sym (new_at column v e)) ((goes_y column v e).cost (value_at y column) (can_be column))

  near_new : (changed : Program) (column : ℕ) → column < length program.bounds → IsTaken plan program changed → Target plan column → (value_at new column ≡ value_at y column) ⊎ IsHeldFast changed column
  near_new changed column l k (stays e) = inl (value_stays plan y column e)
  near_new changed column l k (goes v e) = inr (record {
    value = v;
    inside = subst (λ (s : Sides). sides_inside s (fixed_sides v) ≡ true) (sym (k.moved column v l e)) (inside_self (fixed_sides v));
  })

  open_new : (column : ℕ) → is_open (choice_at program.choices column) ≡ true → Target plan column → value_at new column ≡ value_at y column
  open_new column o (stays e) = value_stays plan y column e
  open_new column o (goes v e) = absurd (true≢false (sym o ∙ (goes_y column v e).plain))

  -- ---- rows that give a column its form

  form_kept : (column : ℕ) (form : Form) → value_at y column ≡ form_value form y → target_at plan column ≡ None → (form.factor ≡ zeroℚ) ⊎ (target_at plan form.source ≡ None) → value_at new column ≡ form_value form new
  form_kept column form k e (inl z) = value_stays plan y column e ∙ k ∙ ap (λ t. form.constant +ℚ t) (no_factor form.factor (value_at y form.source) (value_at new form.source) z)
  form_kept column form k e (inr s) = value_stays plan y column e ∙ k ∙ ap (λ t. form.constant +ℚ form.factor *ℚ t) (sym (value_stays plan y form.source s))

  form_new : (column : ℕ) (form : Form) → value_at y column ≡ form_value form y → Follows plan form (target_at plan column) → value_at new column ≡ form_value form new
  form_new column form k (inl f) = form_kept column form k f.stays f.source
  form_new column form k (inr f) =
      new_at column (form.constant +ℚ form.factor *ℚ f.value) f.is
      ∙ ap (λ t. form.constant +ℚ form.factor *ℚ t) (sym (new_at form.source f.value f.source))

  spent_new : (row : Row) → IsSpent forms row → IsSatisfied row y → IsSatisfied row new
  spent_new row s k =
      s.by.gives.holds new (form_new s.column s.by.form (s.by.gives.follows y k) (p.follows s.column s.by.form s.by.gone))

  -- ---- other rows

  term_up : (low high : Option ℚ) (side : ℚ) (t : Term) → low ≡ Some side → IsIn forms t.column → (slice_get free t.column ≡ Some true → LetsFall low high (turned rising t.coefficient)) → Target plan t.column → t.coefficient *ℚ value_at y t.column ≤ℚ t.coefficient *ℚ value_at new t.column
  term_up low high side t l s f (stays e) = ≤ℚ_of_eq (ap (λ v. t.coefficient *ℚ v) (sym (value_stays plan y t.column e)))
  term_up low high side t l s f (goes v e) =
      let m = p.moves t.column v s e in
      subst (λ u. t.coefficient *ℚ value_at y t.column ≤ℚ t.coefficient *ℚ u) (sym (new_at t.column v e))
      (product_more rising t.coefficient v (value_at y t.column) (subst (λ o. IfSome o (λ side. turned rising t.coefficient ≤ℚ zeroℚ)) l (f m.lets).low) (last_of t.column v m))

  term_down : (low high : Option ℚ) (side : ℚ) (t : Term) → high ≡ Some side → IsIn forms t.column → (slice_get free t.column ≡ Some true → LetsFall low high (turned rising t.coefficient)) → Target plan t.column → t.coefficient *ℚ value_at new t.column ≤ℚ t.coefficient *ℚ value_at y t.column
  term_down low high side t l s f (stays e) = ≤ℚ_of_eq (ap (λ v. t.coefficient *ℚ v) (value_stays plan y t.column e))
  term_down low high side t l s f (goes v e) =
      let m = p.moves t.column v s e in
      subst (λ u. t.coefficient *ℚ u ≤ℚ t.coefficient *ℚ value_at y t.column) (sym (new_at t.column v e))
      (product_less rising t.coefficient v (value_at y t.column) (subst (λ o. IfSome o (λ side. zeroℚ ≤ℚ turned rising t.coefficient)) l (f m.lets).high) (last_of t.column v m))

  activity_up : (low high : Option ℚ) (side : ℚ) (terms : List Term) → low ≡ Some side → TermsIn forms terms → TermsFree rising free low high terms → activity terms y ≤ℚ activity terms new
  activity_up low high side [] l s f = ≤ℚ_refl zeroℚ
  activity_up low high side (t ∷ ts) l s f = +ℚ_mono (term_up low high side t l s.0 f.0 (target_of plan t.column (target_at plan t.column) refl)) (activity_up low high side ts l s.1 f.1)

  activity_down : (low high : Option ℚ) (side : ℚ) (terms : List Term) → high ≡ Some side → TermsIn forms terms → TermsFree rising free low high terms → activity terms new ≤ℚ activity terms y
  activity_down low high side [] l s f = ≤ℚ_refl zeroℚ
  activity_down low high side (t ∷ ts) l s f = +ℚ_mono (term_down low high side t l s.0 f.0 (target_of plan t.column (target_at plan t.column) refl)) (activity_down low high side ts l s.1 f.1)

  above_new : (low high : Option ℚ) (terms : List Term) → TermsIn forms terms → TermsFree rising free low high terms → IfSome low (λ side. side ≤ℚ activity terms y) → IfSome low (λ side. side ≤ℚ activity terms new)
  above_new None high terms s f k = tt
  above_new (Some side) high terms s f k = ≤ℚ_trans k (activity_up (Some side) high side terms refl s f)

  below_new : (low high : Option ℚ) (terms : List Term) → TermsIn forms terms → TermsFree rising free low high terms → IfSome high (λ side. activity terms y ≤ℚ side) → IfSome high (λ side. activity terms new ≤ℚ side)
  below_new low None terms s f k = tt
  below_new low (Some side) terms s f k = ≤ℚ_trans (activity_down low (Some side) side terms refl s f) k

  row_new : (row : Row) → RowGoes forms row → RowFree rising free forms row → IsSatisfied row y → IsSatisfied row new
  row_new row (inr s) f k = spent_new row s k
  row_new row (inl s) (inl e) k = spent_new row e k
  row_new row (inl s) (inr f) k = record { above = above_new row.low row.high row.terms s f k.above; below = below_new row.low row.high row.terms s f k.below }

  rows_new : (rs : List Row) → RowsGo forms rs → RowsFree rising free forms rs → AllSatisfied rs y → AllSatisfied rs new
  rows_new [] g f k = tt
  rows_new (r ∷ rs) g f k = (row_new r g.0 f.0 k.0, rows_new rs g.1 f.1 k.1)

  feasible_new : (changed : Program) → RowsGo forms program.rows → RowsFree rising free forms program.rows → IsTaken plan program changed → IsFeasible (record program { bounds = changed.bounds }) new
  feasible_new changed rows lets k = record {
    within = in_box changed.bounds new (length-moved plan y ∙ y_long ∙ sym k.long)
        (λ column l. in_changed changed column (omega (arith, l, k.long)) k (target_of plan column (target_at plan column) refl));
    whole = wholes_of program.integral y new h.whole (length-moved plan y) (λ column l w. whole_new column w (target_of plan column (target_at plan column) refl));
    choices = λ column. allowed_new column (target_of plan column (target_at plan column) refl);
    rows = rows_new program.rows rows lets h.rows;
  }

  cost_less : cost_of program new ≤ℚ cost_of program y
  cost_less = +ℚ_mono (≤ℚ_refl program.constant) (dot_of program.costs new y (length-moved plan y) (λ column l. cost_new column (target_of plan column (target_at plan column) refl)))

  held_same : (changed : Program) (column : ℕ) → (value_at new column ≡ value_at y column) ⊎ IsHeldFast changed column → (value_at new column ≡ value_at y column) ⊎ IsHeldFast (record program { bounds = changed.bounds }) column
  held_same changed column (inl e) = inl e
  held_same changed column (inr g) = inr (record { value = g.value; inside = g.inside })

  near_all : (changed : Program) → RowsGo forms program.rows → RowsFree rising free forms program.rows → IsTaken plan program changed → HasNear program (record program { bounds = changed.bounds }) (λ column. column) y
  near_all changed rows lets k = record {
    other = new;
    feasible = feasible_new changed rows lets k;
    no_dearer = cost_less;
    near = λ column l. held_same changed column (near_new changed column (omega (arith, l, k.long)) k (target_of plan column (target_at plan column) refl));
    semi = λ column l o. open_new column o (target_of plan column (target_at plan column) refl);
  }

-- ---- the step

planned_step : (rising : Bool) (free : List Bool) (program changed : Program) (forms : List (Option Form)) (plan : List (Option ℚ)) → MayAllGo program forms → SourcesStay forms → RowsGo forms program.rows → RowsFree rising free forms program.rows → IsPlan rising free program forms plan → IsTaken plan program changed → IsStep program (record program { bounds = changed.bounds })
planned_step rising free program changed forms plan may sources rows lets p k = record {
  narrowed = record {
    integral = refl;
    choices = refl;
    inside = all_inside rising free program forms plan may sources p changed k;
    rows = λ point h. h.rows;
    cost = λ point h. refl;
  };
  none_lost = λ y h. near_all rising free program forms plan may sources p y h changed rows lets k;
}

pub taken_step : (rising : Bool) (program changed : Program) (forms : List (Option Form)) (plan : List (Option ℚ)) → MayAllGo program forms → SourcesStay forms → RowsGo forms program.rows → IsPlanned rising program forms plan → IsTaken plan program changed → IsStep program changed
taken_step rising program changed forms plan may sources rows p k =
    subst (λ q. IsStep program q) (sym k.same) (planned_step rising p.free program changed forms plan may sources rows p.rows p.is k)

pub plan_plain : (rising : Bool) (program : Program) (forms : List (Option Form)) (plan : List (Option ℚ)) → MayAllGo program forms → SourcesStay forms → IsPlanned rising program forms plan → (column : ℕ) (value : ℚ) → target_at plan column ≡ Some value → is_open (choice_at program.choices column) ≡ false
plan_plain rising program forms plan may sources p column value t = (goes_to rising p.free program forms plan may sources p.is column value t).plain

pub taken_rows : (plan : List (Option ℚ)) (program changed : Program) → IsTaken plan program changed → changed.rows ≡ program.rows
taken_rows plan program changed k = ap (λ (q : Program). q.rows) k.same

pub stays_step : (program : Program) → IsStep program program
stays_step program = exact_step program program (exact_self program)

pub ruleset taking = (taken_step, taken_rows, stays_step)
