-- What is read of a draft's lists, and what a test of parts says.
use Rattle.std.proofs.Common.{◌≡◌, ℕ, zero, suc, ◌+◌, ◌-◌, ◌<◌, ◌≤◌, true, false, Bool, List, [], ◌∷◌, ◌++◌, length, drop, Option, None, Some, Ok, slice_get, refl, sym, ap, ◌∙◌, subst, arith, true≢false, append-nil, add-one, drop-cons}
use Rattle.std.specs.Prelude.{All, slice_set}
use Rattle.std.specs.Bool.{OnTrue}
use Rattle.std.specs.Option.{option_eq}
use Rattle.std.proofs.Math.ListN.{get_or}
use Rattle.std.proofs.Math.Dec.{eqb}
use Rattle.std.proofs.lemmas.Bool.{eqb-true}
use Rattle.std.proofs.lemmas.Option.{slice_get_read, get_or_from_slice_get}
use Rattle.cip_rational.specs.Rational.{ℚ, zeroℚ, ◌+ℚ◌, ◌*ℚ◌, IsWhole}
use Rattle.cip_rational.specs.Range.{fits_range}
use Rattle.cip_frac.specs.Outcomes.{product_added}
use Rattle.cip_frac.proofs.Outcomes.{product_added-value}
use Rattle.cip_lin.specs.MetSides.{is_past}
use Rattle.cip_problem.specs.Program.{Term, Sides, Choice, Plain, Open, Off, On, Program}
use Rattle.cip_problem.specs.Activity.{value_at, StandsBelow}
use Rattle.cip_problem.specs.Box.{sides_at}
use Rattle.cip_problem.specs.Choices.{choice_at, is_open}
use Rattle.cip_problem.specs.Limits.{most_columns}
use Rattle.cip_problem.specs.WellFormed.{IsChoice}
use Rattle.cip_problem.specs.RowTerms.{AreTermsTo, no_term}
use Rattle.cip_presolve.specs.Forms.{Form}
use Rattle.cip_presolve.specs.FormEnds.{FormAssigns}
use Rattle.cip_presolve.specs.PresolvedPrograms.{counted}
use Rattle.cip_presolve.specs.RowReading.{only_value, with_value, fixed_from}
use Rattle.cip_presolve.specs.DraftParts.{IsDraft}
use Rattle.cip_presolve.specs.NarrowedPrograms.{with_sides}
use Rattle.cip_presolve.proofs.FormsKept.{assigned_by}
use Rattle.cip_presolve.proofs.ImpliedSides.{columns_same}

-- the item of a list that is shown as another
pub item_shown : {X : Type 0} (own shown : List X) (n : ℕ) (x : X) → own ≡ shown → n < length shown
    → x ≡ get_or own n x → slice_get shown n ≡ Some x
item_shown {X = X} own shown n x e h g = slice_get_read shown (length shown) n x refl h
    (g ∙ ap (λ (xs : List X). get_or xs n x) e)

-- the item of a list with one for each column
pub column_shown : {X : Type 0} (own shown : List X) (box sides : List Sides) (n : ℕ) (x : X) → own ≡ shown
    → box ≡ sides → length own ≡ length box → n < length sides → x ≡ get_or own n x → slice_get shown n ≡ Some x
column_shown {X = X} own shown box sides n x e b l h g =
    let long : length shown ≡ length sides = ap (λ (xs : List X). length xs) (sym e) ∙ l
    ∙ ap (λ (s : List Sides). length s) b in
    item_shown own shown n x e (subst (λ m. n < m) (sym long) h) g

pub value_shown : (own shown : List ℚ) (box sides : List Sides) (n : ℕ) (x : ℚ) → own ≡ shown → box ≡ sides
    → length own ≡ length box → n < length sides → x ≡ get_or own n x → x ≡ value_at shown n
value_shown own shown box sides n x e b l h g = sym
    (get_or_from_slice_get shown n x zeroℚ (column_shown own shown box sides n x e b l h g))

pub term_nonzero : (own shown : List Term) (n : ℕ) (t : Term) → own ≡ shown → AreTermsTo (length shown) shown
    → n < length shown → t ≡ get_or own n t → ¬ (t.coefficient ≡ zeroℚ)
term_nonzero own shown n t e a h g z =
    a.nonzero n h (ap (λ (u : Term). u.coefficient)
    (get_or_from_slice_get shown n t no_term (item_shown own shown n t e h g)) ∙ z)

-- an option that is said to be one of a number
pub same_number : (o : Option ℕ) (n : ℕ) (r : Bool) → r ≡ option_eq eqb o (Some n) → r ≡ true → o ≡ Some n
same_number None n r e t = absurd (true≢false (sym t ∙ e))
same_number (Some m) n r e t = ap Some (eqb-true m n (sym e ∙ t))

-- all numbers are counted
pub all_counted : (all total : List ℕ) (k n : ℕ) → n ≤ k → all ++ counted k (n - k) ≡ total → all ≡ total
all_counted all total k n h e =
    let z : n - k ≡ 0 = omega (arith, h) in
    sym (append-nil all) ∙ subst (λ m. all ++ counted k m ≡ total) z e

-- one term more of a sum of values
pub sum_next : (sum new value total : ℚ) (terms : List Term) (box : List Sides) (n : ℕ) (t : Term)
    → n < length terms → t ≡ get_or terms n t → Some value ≡ only_value (sides_at box t.column)
    → product_added sum t.coefficient value ≡ Ok new → fixed_from sum (drop n terms) box ≡ total
    → fixed_from new (drop (n + 1) terms) box ≡ total
sum_next sum new value total terms box n t h g o p e =
    let v : new ≡ sum +ℚ t.coefficient *ℚ value = rw p at (product_added-value sum t.coefficient value) in
    let d : drop n terms ≡ t ∷ drop (n + 1) terms = rw add-one
    (drop-cons terms n t h ∙ ap (λ u. u ∷ drop (suc n) terms) (sym g)) in
    ap (λ s. fixed_from s (drop (n + 1) terms) box) (v ∙ ap (λ o. with_value sum t.coefficient o) o)
    ∙ ap (λ (ts : List Term). fixed_from sum ts box) (sym d)
    ∙ e

-- a form that assigns, where the second test says so
pub assigned_on : (form : Form) (own : Sides) (low high : ℚ) (r : Bool) → own.low ≡ Some low
    → own.high ≡ Some high → is_past own.low own.high ≡ false → IsWhole form.constant → IsWhole form.factor
    → IsWhole low → fits_range (form.constant +ℚ form.factor *ℚ low) ≡ true
    → fits_range (form.factor *ℚ low) ≡ true → OnTrue r (IsWhole high)
    → OnTrue r (fits_range (form.constant +ℚ form.factor *ℚ high) ≡ true)
    → OnTrue r (fits_range (form.factor *ℚ high) ≡ true) → OnTrue r (FormAssigns form own)
assigned_on form own low high false l u p c f wl fl pl wh fh ph = tt
assigned_on form own low high true l u p c f wl fl pl wh fh ph = assigned_by form own low high l u p c f wl fl pl
    wh fh ph

-- ---- a draft with other sides of a column that isn't semi-continuous

-- what holds of each column and its sides, where it holds of any sides of the column
each_put : (P : ℕ → Sides → Type 0) (box : List Sides) (n : ℕ) (sides : Sides) → ((k : ℕ) → P k (sides_at box k))
    → ((own other : Sides) → P n own → P n other) → (k : ℕ) → P k (sides_at (slice_set box n sides) k)
each_put P [] n sides f g k = f k
each_put P (s ∷ box) zero sides f g zero = g s sides (f zero)
each_put P (s ∷ box) zero sides f g (suc k) = f (suc k)
each_put P (s ∷ box) (suc n) sides f g zero = f zero
each_put P (s ∷ box) (suc n) sides f g (suc k) = each_put (λ m t. P (suc m) t) box n sides (λ m. f (suc m)) g k

any_sides : (choice : Choice) (whole : Option Bool) (own other : Sides) → is_open choice ≡ false
    → IsChoice choice whole own → IsChoice choice whole other
any_sides Plain whole own other e h = tt
any_sides (Open held) whole own other e h = absurd (true≢false e)
any_sides Off whole own other e h = h
any_sides On whole own other e h = h

pub sides_put : (draft : Program) (column : ℕ) (sides : Sides) → IsDraft draft
    → is_open (choice_at draft.choices column) ≡ false → IsDraft (with_sides draft column sides)
sides_put draft column sides d e =
    let long = columns_same draft.bounds column sides in
    record {
      integral = d.integral ∙ sym long;
      costs = d.costs ∙ sym long;
      few = subst (λ n. n ≤ most_columns) (sym long) d.few;
      rows = subst (λ n. All (λ row. StandsBelow n row.terms) draft.rows) (sym long) d.rows;
      choices = each_put (λ k t. IsChoice (choice_at draft.choices k) (slice_get draft.integral k) t) draft.bounds
          column sides d.choices
          (λ own other h. any_sides (choice_at draft.choices column) (slice_get draft.integral column) own other e h);
    }

-- ---- a program by its parts

pub same_program : (one other : Program) → one.column_names ≡ other.column_names → one.row_names ≡ other.row_names
    → one.rows ≡ other.rows → one.costs ≡ other.costs → one.constant ≡ other.constant
    → one.maximized ≡ other.maximized → one.integral ≡ other.integral → one.bounds ≡ other.bounds
    → one.choices ≡ other.choices → one ≡ other
same_program one other names others rows costs constant sense integral bounds choices = λ i. record {
  column_names = names i;
  row_names = others i;
  rows = rows i;
  costs = costs i;
  constant = constant i;
  maximized = sense i;
  integral = integral i;
  bounds = bounds i;
  choices = choices i;
}
