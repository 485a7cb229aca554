-- Equalities of two terms.
use borrow.Author.Differences.{abs_is, le_out}
use Rattle.std.proofs.Common.{◌≡◌, ◌≤◌, ℤ, ◌≤ℤ◌, unsigned_abs, ◌⊎◌, ◌≢◌, ℕ, true, List, [], ◌∷◌, Option, None, Some, IfSome, slice_get, sym, ap, ◌∙◌, subst, arith, inl, inr}
use Rattle.std.specs.Prelude.{slice_set}
use Rattle.cip_rational.specs.Rational.{ℚ, ◌+ℚ◌, ◌-ℚ◌, ◌*ℚ◌, negate, inverse, zeroℚ, ◌≤ℚ◌, integer, numerator, IsWhole}
use Rattle.cip_rational.specs.Range.{largest, fits_range}
use Rattle.cip_rational.specs.OnFractions.{parts_apart}
use Rattle.cip_rational.proofs.Range.InRange.{fits_out, fits-integer}
use Rattle.cip_rational.proofs.Rational.Rounding.{le_integer}
use Rattle.cip_rational.proofs.Rational.Whole.{whole_is, IsWhole-add, IsWhole-mul}
use Rattle.cip_rational.proofs.Rational.Order.{≤ℚ_refl, ≤ℚ_trans, ≤ℚ_of_eq, ≤ℚ_antisymm, ≤ℚ_total}
use Rattle.cip_rational.proofs.Rational.Ring.{*ℚ_comm, *ℚ_assoc, *ℚ-one, one-*ℚ, +ℚ-zero, *ℚ-add, negate-*ℚ}
use Rattle.cip_rational.proofs.Rational.Monotone.{+ℚ_mono, *ℚ_mono}
use Rattle.cip_rational.proofs.Rational.Inverse.{*ℚ-inverse, *ℚ_antitone}
use Rattle.cip_rational.proofs.Linear.{linear_same}
use Rattle.cip_problem.specs.Program.{Term, Sides, Row, Program}
use Rattle.cip_problem.specs.Activity.{activity, value_at}
use Rattle.cip_problem.specs.Box.{Between}
use Rattle.cip_problem.specs.Points.{IsSatisfied}
use Rattle.cip_problem.proofs.Points.AtPlaces.{satisfied_at}
use Rattle.cip_search.specs.NarrowedPrograms.{IsExactStep, with_row}
use Rattle.cip_search.specs.Forms.{Form, form_value}
use Rattle.cip_search.specs.Pairs.{IsWholeIn}
use Rattle.cip_search.specs.RowSteps.{side_less}
use Rattle.cip_search.specs.Equalities.{two_terms, equality_form, IsEquality, IsLessMultiple, EndsKeep, EndsAssign}
use Rattle.cip_search.proofs.Replacing.{row_replaced}
use Rattle.cip_search.proofs.RowSteps.{less_above, less_below, above_less, below_less, get_set, get_other}

-- ---- what an equality says

equal_activity : (row : Row) (value : ℚ) (x : List ℚ) → IsEquality row value → IsSatisfied row x → activity row.terms x ≡ value
equal_activity row value x e h =
    let low : IfSome (Some value) (λ side. side ≤ℚ activity row.terms x) = subst (λ o. IfSome o (λ side. side ≤ℚ activity row.terms x)) e.low h.above in
    let high : IfSome (Some value) (λ side. activity row.terms x ≤ℚ side) = subst (λ o. IfSome o (λ side. activity row.terms x ≤ℚ side)) e.high h.below in
    ≤ℚ_antisymm high low

equal_satisfied : (row : Row) (value : ℚ) (x : List ℚ) → IsEquality row value → activity row.terms x ≡ value → IsSatisfied row x
equal_satisfied row value x e h = record {
  above = subst (λ o. IfSome o (λ side. side ≤ℚ activity row.terms x)) (sym e.low) (≤ℚ_of_eq (sym h));
  below = subst (λ o. IfSome o (λ side. activity row.terms x ≤ℚ side)) (sym e.high) (≤ℚ_of_eq h);
}

-- a x + b y = d as x = d / a - b / a y
module _ (a b d : ℚ) (n : ¬ (a ≡ zeroℚ)) where
  times_back : (q : ℚ) → a *ℚ (q *ℚ inverse a) ≡ q
  times_back q = ap (λ t. a *ℚ t) (*ℚ_comm q (inverse a)) ∙ sym (*ℚ_assoc a (inverse a) q) ∙ ap (λ t. t *ℚ q) (*ℚ-inverse a n) ∙ one-*ℚ q

  divided_back : (q : ℚ) → (a *ℚ q) *ℚ inverse a ≡ q
  divided_back q = ap (λ t. t *ℚ inverse a) (*ℚ_comm a q) ∙ *ℚ_assoc q a (inverse a) ∙ ap (λ t. q *ℚ t) (*ℚ-inverse a n) ∙ *ℚ-one q

  form_times : (y : ℚ) → a *ℚ (d *ℚ inverse a +ℚ (negate b *ℚ inverse a) *ℚ y) ≡ d -ℚ b *ℚ y
  form_times y =
      let e : a *ℚ ((negate b *ℚ inverse a) *ℚ y) ≡ negate (b *ℚ y) = sym (*ℚ_assoc a (negate b *ℚ inverse a) y) ∙ ap (λ t. t *ℚ y) (times_back (negate b)) ∙ negate-*ℚ b y in
      *ℚ-add a (d *ℚ inverse a) ((negate b *ℚ inverse a) *ℚ y)
      ∙ ap (λ t. t +ℚ a *ℚ ((negate b *ℚ inverse a) *ℚ y)) (times_back d)
      ∙ ap (λ t. d +ℚ t) e
      ∙ linear_same (d ∷ (b *ℚ y) ∷ []) (λ s w. omega arith)

  solved : (x y : ℚ) → a *ℚ x +ℚ b *ℚ y ≡ d → x ≡ d *ℚ inverse a +ℚ (negate b *ℚ inverse a) *ℚ y
  solved x y e =
      let k : a *ℚ x ≡ d -ℚ b *ℚ y = linear_same ((a *ℚ x) ∷ (b *ℚ y) ∷ d ∷ []) (λ s w. omega (arith, s.same_out)) in
      sym (divided_back x) ∙ ap (λ t. t *ℚ inverse a) (k ∙ sym (form_times y)) ∙ divided_back _

  unsolved : (x y : ℚ) → x ≡ d *ℚ inverse a +ℚ (negate b *ℚ inverse a) *ℚ y → a *ℚ x +ℚ b *ℚ y ≡ d
  unsolved x y e =
      let k : a *ℚ x ≡ d -ℚ b *ℚ y = ap (λ t. a *ℚ t) e ∙ form_times y in
      linear_same ((a *ℚ x) ∷ (b *ℚ y) ∷ d ∷ []) (λ s w. omega (arith, s.same_out))

first_sum : (i s : ℕ) (a b : ℚ) (x : List ℚ) → activity (two_terms i a s b) x ≡ a *ℚ value_at x i +ℚ b *ℚ value_at x s
first_sum i s a b x = ap (λ t. a *ℚ value_at x i +ℚ t) (+ℚ-zero (b *ℚ value_at x s))

-- the first column by the second, and the second by the first
pub first_follows : (row : Row) (i s : ℕ) (a b d : ℚ) (x : List ℚ) → row.terms ≡ two_terms i a s b → IsEquality row d → ¬ (a ≡ zeroℚ) → IsSatisfied row x → value_at x i ≡ form_value (equality_form a b d s) x
first_follows row i s a b d x t e n h =
    solved a b d n (value_at x i) (value_at x s) (sym (first_sum i s a b x) ∙ ap (λ (ts : List Term). activity ts x) (sym t) ∙ equal_activity row d x e h)

pub first_holds : (row : Row) (i s : ℕ) (a b d : ℚ) (x : List ℚ) → row.terms ≡ two_terms i a s b → IsEquality row d → ¬ (a ≡ zeroℚ) → value_at x i ≡ form_value (equality_form a b d s) x → IsSatisfied row x
first_holds row i s a b d x t e n h =
    equal_satisfied row d x e (ap (λ (ts : List Term). activity ts x) t ∙ first_sum i s a b x ∙ unsolved a b d n (value_at x i) (value_at x s) h)

turned_sum : (i s : ℕ) (a b d : ℚ) (x : List ℚ) → a *ℚ value_at x i +ℚ b *ℚ value_at x s ≡ d → b *ℚ value_at x s +ℚ a *ℚ value_at x i ≡ d
turned_sum i s a b d x e = linear_same ((a *ℚ value_at x i) ∷ (b *ℚ value_at x s) ∷ d ∷ []) (λ t w. omega (arith, t.same_out))

pub second_follows : (row : Row) (i s : ℕ) (a b d : ℚ) (x : List ℚ) → row.terms ≡ two_terms i a s b → IsEquality row d → ¬ (b ≡ zeroℚ) → IsSatisfied row x → value_at x s ≡ form_value (equality_form b a d i) x
second_follows row i s a b d x t e n h =
    solved b a d n (value_at x s) (value_at x i) (turned_sum i s a b d x (sym (first_sum i s a b x) ∙ ap (λ (ts : List Term). activity ts x) (sym t) ∙ equal_activity row d x e h))

pub second_holds : (row : Row) (i s : ℕ) (a b d : ℚ) (x : List ℚ) → row.terms ≡ two_terms i a s b → IsEquality row d → ¬ (b ≡ zeroℚ) → value_at x s ≡ form_value (equality_form b a d i) x → IsSatisfied row x
second_holds row i s a b d x t e n h =
    equal_satisfied row d x e (ap (λ (ts : List Term). activity ts x) t ∙ first_sum i s a b x ∙ turned_sum s i b a d x (unsolved b a d n (value_at x s) (value_at x i) h))

-- ---- another row less a multiple of it

module _ (row equality new : Row) (value multiple : ℚ) (e : IsEquality equality value) (l : IsLessMultiple row equality value multiple new) where
  less_activity : (x : List ℚ) → IsSatisfied equality x → activity new.terms x ≡ activity row.terms x -ℚ multiple *ℚ value
  less_activity x h = l.activity x ∙ ap (λ t. activity row.terms x -ℚ multiple *ℚ t) (equal_activity equality value x e h)

  multiple_back : (x : List ℚ) → IsSatisfied equality x → IsSatisfied new x → IsSatisfied row x
  multiple_back x h k =
      let shift : ℚ = multiple *ℚ value in
      let m : Between (side_less row.low shift) (side_less row.high shift) (activity row.terms x -ℚ shift) =
      subst (λ t. Between (side_less row.low shift) (side_less row.high shift) t) (less_activity x h)
      (subst (λ o. Between (side_less row.low shift) o (activity new.terms x)) l.high
      (subst (λ o. Between o new.high (activity new.terms x)) l.low k)) in
      record { above = less_above row.low (activity row.terms x) shift m.above; below = less_below row.high (activity row.terms x) shift m.below }

  multiple_onward : (x : List ℚ) → IsSatisfied equality x → IsSatisfied row x → IsSatisfied new x
  multiple_onward x h k =
      let shift : ℚ = multiple *ℚ value in
      let m : Between (side_less row.low shift) (side_less row.high shift) (activity row.terms x -ℚ shift) =
      record { above = above_less row.low (activity row.terms x) shift k.above; below = below_less row.high (activity row.terms x) shift k.below } in
      subst (λ o. Between o new.high (activity new.terms x)) (sym l.low)
      (subst (λ o. Between (side_less row.low shift) o (activity new.terms x)) (sym l.high)
      (subst (λ t. Between (side_less row.low shift) (side_less row.high shift) t) (sym (less_activity x h)) m))

pub substituted : (program : Program) (number place : ℕ) (row equality new : Row) (value multiple : ℚ) → number ≢ place → slice_get program.rows number ≡ Some row → slice_get program.rows place ≡ Some equality → IsEquality equality value → IsLessMultiple row equality value multiple new → IsExactStep program (with_row program number new)
substituted program number place row equality new value multiple n e f q l =
    row_replaced program number row new e
    (λ x h. multiple_back row equality new value multiple q l x
    (satisfied_at (slice_set program.rows number new) x place equality h.rows (get_other program.rows number place new equality n f))
    (satisfied_at (slice_set program.rows number new) x number new h.rows (get_set program.rows number row new e)))
    (λ y h. multiple_onward row equality new value multiple q l y (satisfied_at program.rows y place equality h.rows f) (satisfied_at program.rows y number row h.rows e))

-- ---- ends

above_ends : (side a v b : ℚ) → side ≤ℚ a → side ≤ℚ b → (a ≤ℚ v) ⊎ (b ≤ℚ v) → side ≤ℚ v
above_ends side a v b h k (inl m) = ≤ℚ_trans h m
above_ends side a v b h k (inr m) = ≤ℚ_trans k m

below_ends : (side a v b : ℚ) → a ≤ℚ side → b ≤ℚ side → (v ≤ℚ a) ⊎ (v ≤ℚ b) → v ≤ℚ side
below_ends side a v b h k (inl m) = ≤ℚ_trans m h
below_ends side a v b h k (inr m) = ≤ℚ_trans m k

ends_above : (low : Option ℚ) (a v b : ℚ) → IfSome low (λ side. side ≤ℚ a) → IfSome low (λ side. side ≤ℚ b) → (a ≤ℚ v) ⊎ (b ≤ℚ v) → IfSome low (λ side. side ≤ℚ v)
ends_above None a v b h k m = tt
ends_above (Some side) a v b h k m = above_ends side a v b h k m

ends_below : (high : Option ℚ) (a v b : ℚ) → IfSome high (λ side. a ≤ℚ side) → IfSome high (λ side. b ≤ℚ side) → (v ≤ℚ a) ⊎ (v ≤ℚ b) → IfSome high (λ side. v ≤ℚ side)
ends_below None a v b h k m = tt
ends_below (Some side) a v b h k m = below_ends side a v b h k m

one_end_below : (c k low high v : ℚ) → low ≤ℚ v → v ≤ℚ high → (zeroℚ ≤ℚ k) ⊎ (k ≤ℚ zeroℚ) → (c +ℚ k *ℚ low ≤ℚ c +ℚ k *ℚ v) ⊎ (c +ℚ k *ℚ high ≤ℚ c +ℚ k *ℚ v)
one_end_below c k low high v l h (inl p) = inl (+ℚ_mono (≤ℚ_refl c) (*ℚ_mono low v k p l))
one_end_below c k low high v l h (inr p) = inr (+ℚ_mono (≤ℚ_refl c) (*ℚ_antitone v high k p h))

one_end_above : (c k low high v : ℚ) → low ≤ℚ v → v ≤ℚ high → (zeroℚ ≤ℚ k) ⊎ (k ≤ℚ zeroℚ) → (c +ℚ k *ℚ v ≤ℚ c +ℚ k *ℚ low) ⊎ (c +ℚ k *ℚ v ≤ℚ c +ℚ k *ℚ high)
one_end_above c k low high v l h (inl p) = inr (+ℚ_mono (≤ℚ_refl c) (*ℚ_mono v high k p h))
one_end_above c k low high v l h (inr p) = inl (+ℚ_mono (≤ℚ_refl c) (*ℚ_antitone low v k p l))

-- between the ends the form's value lies between what it is at them
pub ends_keep : (form : Form) (own outer : Sides) (v : ℚ) → EndsKeep form own outer → Between own.low own.high v → Between outer.low outer.high (form.constant +ℚ form.factor *ℚ v)
ends_keep form own outer v e h =
    let l : IfSome (Some e.low) (λ side. side ≤ℚ v) = subst (λ o. IfSome o (λ side. side ≤ℚ v)) e.is_low h.above in
    let u : IfSome (Some e.high) (λ side. v ≤ℚ side) = subst (λ o. IfSome o (λ side. v ≤ℚ side)) e.is_high h.below in
    let t = ≤ℚ_total zeroℚ form.factor in
    record {
      above = ends_above outer.low (form.constant +ℚ form.factor *ℚ e.low) (form.constant +ℚ form.factor *ℚ v) (form.constant +ℚ form.factor *ℚ e.high) e.at_low.above e.at_high.above (one_end_below form.constant form.factor e.low e.high v l u t);
      below = ends_below outer.high (form.constant +ℚ form.factor *ℚ e.low) (form.constant +ℚ form.factor *ℚ v) (form.constant +ℚ form.factor *ℚ e.high) e.at_low.below e.at_high.below (one_end_above form.constant form.factor e.low e.high v l u t);
    }

-- ---- whole values in range

size_between : (a q b : ℤ) (m : ℕ) → unsigned_abs a ≤ m → unsigned_abs b ≤ m → a ≤ℤ q → q ≤ℤ b → unsigned_abs q ≤ m
size_between a q b m h k l u =
    omega (arith, h, k, abs_is a, abs_is q, abs_is b, parts_apart a, parts_apart q, parts_apart b, le_out _ _ l, le_out _ _ u)

numerators_le : (a q : ℚ) → IsWhole a → IsWhole q → a ≤ℚ q → numerator a ≤ℤ numerator q
numerators_le a q w v h =
    le_integer (numerator a) (numerator q) (subst (λ t. t ≤ℚ integer (numerator q)) (whole_is a w) (subst (λ t. a ≤ℚ t) (whole_is q v) h))

-- a whole number between whole numbers in range is in range
pub between_fits : (a q b : ℚ) → IsWhole a → IsWhole q → IsWhole b → fits_range a ≡ true → fits_range b ≡ true → a ≤ℚ q → q ≤ℚ b → fits_range q ≡ true
between_fits a q b wa wq wb fa fb l u =
    subst (λ t. fits_range t ≡ true) (sym (whole_is q wq))
    (fits-integer (numerator q) (size_between (numerator a) (numerator q) (numerator b) largest (fits_out a fa).top (fits_out b fb).top (numerators_le a q wa wq l) (numerators_le q b wq wb u)))

pub ends_assign : (form : Form) (own outer : Sides) (v : ℚ) → EndsAssign form own outer → IsWhole v → Between own.low own.high v → IsWholeIn outer (form.constant +ℚ form.factor *ℚ v)
ends_assign form own outer v e w h = record {
  whole = at v w;
  in_range = go (≤ℚ_total zeroℚ form.factor);
  between = ends_keep form own outer v e.keep h;
}
  where
    at : (u : ℚ) → IsWhole u → IsWhole (form.constant +ℚ form.factor *ℚ u)
    at u k = IsWhole-add _ _ e.constant (IsWhole-mul _ _ e.factor k)

    low_le : e.keep.low ≤ℚ v
    low_le = let l : IfSome (Some e.keep.low) (λ side. side ≤ℚ v) = subst (λ o. IfSome o (λ side. side ≤ℚ v)) e.keep.is_low h.above in l

    le_high : v ≤ℚ e.keep.high
    le_high = let u : IfSome (Some e.keep.high) (λ side. v ≤ℚ side) = subst (λ o. IfSome o (λ side. v ≤ℚ side)) e.keep.is_high h.below in u

    go : (zeroℚ ≤ℚ form.factor) ⊎ (form.factor ≤ℚ zeroℚ) → fits_range (form.constant +ℚ form.factor *ℚ v) ≡ true
    go (inl p) =
        between_fits (form.constant +ℚ form.factor *ℚ e.keep.low) (form.constant +ℚ form.factor *ℚ v) (form.constant +ℚ form.factor *ℚ e.keep.high)
        (at e.keep.low e.low_whole) (at v w) (at e.keep.high e.high_whole) e.low_fits e.high_fits
        (+ℚ_mono (≤ℚ_refl form.constant) (*ℚ_mono e.keep.low v form.factor p low_le)) (+ℚ_mono (≤ℚ_refl form.constant) (*ℚ_mono v e.keep.high form.factor p le_high))
    go (inr p) =
        between_fits (form.constant +ℚ form.factor *ℚ e.keep.high) (form.constant +ℚ form.factor *ℚ v) (form.constant +ℚ form.factor *ℚ e.keep.low)
        (at e.keep.high e.high_whole) (at v w) (at e.keep.low e.low_whole) e.high_fits e.low_fits
        (+ℚ_mono (≤ℚ_refl form.constant) (*ℚ_antitone v e.keep.high form.factor p le_high)) (+ℚ_mono (≤ℚ_refl form.constant) (*ℚ_antitone e.keep.low v form.factor p low_le))
