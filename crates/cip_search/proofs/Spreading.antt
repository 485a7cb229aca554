-- From the columns that stay to all columns and back.
use Rattle.std.proofs.Common.{◌≡◌, ◌⊎◌, ℕ, zero, suc, ◌+◌, Bool, true, false, List, [], ◌∷◌, length, Option, None, Some, slice_get, refl, sym, ap, ◌∙◌, subst, arith, inl, inr}
use Rattle.std.specs.Prelude.{map}
use Rattle.std.proofs.lemmas.Option.{none-some, same_Some}
use Rattle.cip_rational.specs.Rational.{ℚ, ◌+ℚ◌, ◌*ℚ◌, zeroℚ}
use Rattle.cip_rational.specs.Sums.{dot}
use Rattle.cip_rational.proofs.Rational.Ring.{zero-+ℚ, zero-*ℚ}
use Rattle.cip_problem.specs.Program.{Term, Sides, Row, Program}
use Rattle.cip_problem.specs.Activity.{value_at, activity}
use Rattle.cip_problem.specs.Box.{Between, IsInBox, sides_at}
use Rattle.cip_problem.specs.Reduced.{IsRelaxed}
use Rattle.cip_search.specs.NarrowedPrograms.{AllSatisfied}
use Rattle.cip_search.specs.Forms.{Form, form_value, placed, filled, spread, gathered, kept_at, kept_from, number_in, renumbered_term}
use Rattle.cip_search.specs.Compacting.{Stays, StandsOnLeft, AreLeft, rows_left}

-- ---- lengths

pub length-placed : (forms : List (Option Form)) (values : List ℚ) → length (placed forms values) ≡ length forms
length-placed [] values = refl
length-placed (None ∷ forms) [] = ap (λ n. suc n) (length-placed forms [])
length-placed (None ∷ forms) (v ∷ values) = ap (λ n. suc n) (length-placed forms values)
length-placed (Some f ∷ forms) values = ap (λ n. suc n) (length-placed forms values)

length-filled : (forms : List (Option Form)) (at values : List ℚ) → length values ≡ length forms → length (filled forms at values) ≡ length forms
length-filled [] at values e = refl
length-filled (f ∷ forms) at [] e = absurd (omega (arith, e))
length-filled (None ∷ forms) at (v ∷ values) e = ap (λ n. suc n) (length-filled forms at values (omega (arith, e)))
length-filled (Some f ∷ forms) at (v ∷ values) e = ap (λ n. suc n) (length-filled forms at values (omega (arith, e)))

pub length-spread : (forms : List (Option Form)) (values : List ℚ) → length (spread forms values) ≡ length forms
length-spread forms values = length-filled forms (placed forms values) (placed forms values) (length-placed forms values)

-- ---- values

filled_stays : (forms : List (Option Form)) (at values : List ℚ) (column : ℕ) → Stays forms column → value_at (filled forms at values) column ≡ value_at values column
filled_stays [] at values column h = absurd (none-some None h)
filled_stays (f ∷ forms) at [] column h = refl
filled_stays (None ∷ forms) at (v ∷ values) zero h = refl
filled_stays (Some f ∷ forms) at (v ∷ values) zero h = absurd (none-some f (sym (same_Some (Some f) None h)))
filled_stays (None ∷ forms) at (v ∷ values) (suc column) h = filled_stays forms at values column h
filled_stays (Some f ∷ forms) at (v ∷ values) (suc column) h = filled_stays forms at values column h

-- a column that stays has the value of its new number
pub placed_value : (forms : List (Option Form)) (values : List ℚ) (column : ℕ) → Stays forms column → value_at (placed forms values) column ≡ value_at values (number_in forms column)
placed_value [] values column h = absurd (none-some None h)
placed_value (None ∷ forms) [] zero h = refl
placed_value (None ∷ forms) (v ∷ values) zero h = refl
placed_value (Some f ∷ forms) values zero h = absurd (none-some f (sym (same_Some (Some f) None h)))
placed_value (None ∷ forms) [] (suc column) h = placed_value forms [] column h
placed_value (None ∷ forms) (v ∷ values) (suc column) h = placed_value forms values column h
placed_value (Some f ∷ forms) values (suc column) h = placed_value forms values column h

pub spread_value : (forms : List (Option Form)) (values : List ℚ) (column : ℕ) → Stays forms column → value_at (spread forms values) column ≡ value_at values (number_in forms column)
spread_value forms values column h = filled_stays forms (placed forms values) (placed forms values) column h ∙ placed_value forms values column h

filled_gone : (forms : List (Option Form)) (at values : List ℚ) (column : ℕ) (form : Form) → length values ≡ length forms → slice_get forms column ≡ Some (Some form) → value_at (filled forms at values) column ≡ form_value form at
filled_gone [] at values column form e h = absurd (none-some (Some form) h)
filled_gone (f ∷ forms) at [] column form e h = absurd (omega (arith, e))
filled_gone (None ∷ forms) at (v ∷ values) zero form e h = absurd (none-some form (same_Some None (Some form) h))
filled_gone (Some f ∷ forms) at (v ∷ values) zero form e h = ap (λ g. form_value g at) (same_Some f form (same_Some (Some f) (Some form) h))
filled_gone (None ∷ forms) at (v ∷ values) (suc column) form e h = filled_gone forms at values column form (omega (arith, e)) h
filled_gone (Some f ∷ forms) at (v ∷ values) (suc column) form e h = filled_gone forms at values column form (omega (arith, e)) h

-- a column that is gone has the value of its form
pub spread_gone : (forms : List (Option Form)) (values : List ℚ) (column : ℕ) (form : Form) → slice_get forms column ≡ Some (Some form) → value_at (spread forms values) column ≡ form_value form (placed forms values)
spread_gone forms values column form h = filled_gone forms (placed forms values) (placed forms values) column form (length-placed forms values) h

-- ---- boxes

in_box_filled : (forms : List (Option Form)) (box : List Sides) (at x : List ℚ) → length forms ≡ length box → ((column : ℕ) (form : Form) → slice_get forms column ≡ Some (Some form) → Between (sides_at box column).low (sides_at box column).high (form_value form at)) → IsInBox (gathered forms box) x → IsInBox box (filled forms at (placed forms x))
in_box_filled [] [] at x e f h = tt
in_box_filled [] (s ∷ ss) at x e f h = absurd (omega (arith, e))
in_box_filled (g ∷ forms) [] at x e f h = absurd (omega (arith, e))
in_box_filled (None ∷ forms) (s ∷ ss) at [] e f h = absurd h
in_box_filled (None ∷ forms) (s ∷ ss) at (v ∷ x) e f h = (h.0, in_box_filled forms ss at x (omega (arith, e)) (λ column. f (suc column)) h.1)
in_box_filled (Some g ∷ forms) (s ∷ ss) at x e f h = (f 0 g refl, in_box_filled forms ss at x (omega (arith, e)) (λ column. f (suc column)) h)

pub in_box_spread : (forms : List (Option Form)) (box : List Sides) (x : List ℚ) → length forms ≡ length box → ((column : ℕ) (form : Form) → slice_get forms column ≡ Some (Some form) → Between (sides_at box column).low (sides_at box column).high (form_value form (placed forms x))) → IsInBox (gathered forms box) x → IsInBox box (spread forms x)
in_box_spread forms box x e f h = in_box_filled forms box (placed forms x) x e f h

pub in_box_gathered : (forms : List (Option Form)) (box : List Sides) (y : List ℚ) → IsInBox box y → IsInBox (gathered forms box) (gathered forms y)
in_box_gathered [] box y h = tt
in_box_gathered (f ∷ forms) [] [] h = tt
in_box_gathered (f ∷ forms) [] (v ∷ y) h = absurd h
in_box_gathered (f ∷ forms) (s ∷ ss) [] h = absurd h
in_box_gathered (None ∷ forms) (s ∷ ss) (v ∷ y) h = (h.0, in_box_gathered forms ss y h.1)
in_box_gathered (Some f ∷ forms) (s ∷ ss) (v ∷ y) h = in_box_gathered forms ss y h.1

pub length-gathered_same : {X Y : Type 0} (forms : List (Option Form)) (xs : List X) (ys : List Y) → length xs ≡ length ys → length (gathered forms xs) ≡ length (gathered forms ys)
length-gathered_same [] xs ys e = refl
length-gathered_same (f ∷ forms) [] [] e = refl
length-gathered_same (f ∷ forms) [] (y ∷ ys) e = absurd (omega (arith, e))
length-gathered_same (f ∷ forms) (x ∷ xs) [] e = absurd (omega (arith, e))
length-gathered_same (None ∷ forms) (x ∷ xs) (y ∷ ys) e = ap (λ n. suc n) (length-gathered_same forms xs ys (omega (arith, e)))
length-gathered_same (Some f ∷ forms) (x ∷ xs) (y ∷ ys) e = length-gathered_same forms xs ys (omega (arith, e))

-- ---- costs

dot_filled : (forms : List (Option Form)) (costs at x : List ℚ) → ((column : ℕ) (form : Form) → slice_get forms column ≡ Some (Some form) → value_at costs column ≡ zeroℚ) → length costs ≡ length forms → length x ≡ length (gathered forms costs) → dot costs (filled forms at (placed forms x)) ≡ dot (gathered forms costs) x
dot_filled [] [] at x f e l = refl
dot_filled [] (c ∷ costs) at x f e l = absurd (omega (arith, e))
dot_filled (g ∷ forms) [] at x f e l = absurd (omega (arith, e))
dot_filled (None ∷ forms) (c ∷ costs) at [] f e l = absurd (omega (arith, l))
dot_filled (None ∷ forms) (c ∷ costs) at (v ∷ x) f e l = ap (λ t. c *ℚ v +ℚ t) (dot_filled forms costs at x (λ column. f (suc column)) (omega (arith, e)) (omega (arith, l)))
dot_filled (Some g ∷ forms) (c ∷ costs) at x f e l =
    ap (λ t. t *ℚ form_value g at +ℚ dot costs (filled forms at (placed forms x))) (f 0 g refl)
    ∙ ap (λ t. t +ℚ dot costs (filled forms at (placed forms x))) (zero-*ℚ (form_value g at))
    ∙ zero-+ℚ _
    ∙ dot_filled forms costs at x (λ column. f (suc column)) (omega (arith, e)) l

pub dot_spread : (forms : List (Option Form)) (costs x : List ℚ) → ((column : ℕ) (form : Form) → slice_get forms column ≡ Some (Some form) → value_at costs column ≡ zeroℚ) → length costs ≡ length forms → length x ≡ length (gathered forms costs) → dot costs (spread forms x) ≡ dot (gathered forms costs) x
dot_spread forms costs x f e l = dot_filled forms costs (placed forms x) x f e l

-- ---- back and forth

-- the values of the columns that stay, put back at their places
placed_gathered : (forms : List (Option Form)) (y : List ℚ) (column : ℕ) → length y ≡ length forms → Stays forms column → value_at (placed forms (gathered forms y)) column ≡ value_at y column
placed_gathered [] y column e h = absurd (none-some None h)
placed_gathered (f ∷ forms) [] column e h = absurd (omega (arith, e))
placed_gathered (None ∷ forms) (v ∷ y) zero e h = refl
placed_gathered (Some f ∷ forms) (v ∷ y) zero e h = absurd (none-some f (sym (same_Some (Some f) None h)))
placed_gathered (None ∷ forms) (v ∷ y) (suc column) e h = placed_gathered forms y column (omega (arith, e)) h
placed_gathered (Some f ∷ forms) (v ∷ y) (suc column) e h = placed_gathered forms y column (omega (arith, e)) h

filled_same : (forms : List (Option Form)) (at y : List ℚ) → length y ≡ length forms → ((column : ℕ) (form : Form) → slice_get forms column ≡ Some (Some form) → form_value form at ≡ value_at y column) → filled forms at (placed forms (gathered forms y)) ≡ y
filled_same [] at [] e f = refl
filled_same [] at (v ∷ y) e f = absurd (omega (arith, e))
filled_same (g ∷ forms) at [] e f = absurd (omega (arith, e))
filled_same (None ∷ forms) at (v ∷ y) e f = ap (λ t. v ∷ t) (filled_same forms at y (omega (arith, e)) (λ column. f (suc column)))
filled_same (Some g ∷ forms) at (v ∷ y) e f =
    ap (λ t. t ∷ filled forms at (placed forms (gathered forms y))) (f 0 g refl)
    ∙ ap (λ t. v ∷ t) (filled_same forms at y (omega (arith, e)) (λ column. f (suc column)))

-- a form with a source that stays, or with none, has the same value there
pub same_form : (forms : List (Option Form)) (form : Form) (y : List ℚ) → length y ≡ length forms → (form.factor ≡ zeroℚ) ⊎ Stays forms form.source → form_value form (placed forms (gathered forms y)) ≡ form_value form y
same_form forms form y l (inl e) =
    ap (λ t. form.constant +ℚ t)
    (ap (λ t. t *ℚ value_at (placed forms (gathered forms y)) form.source) e ∙ zero-*ℚ _
    ∙ sym (ap (λ t. t *ℚ value_at y form.source) e ∙ zero-*ℚ _))
same_form forms form y l (inr h) = ap (λ t. form.constant +ℚ form.factor *ℚ t) (placed_gathered forms y form.source l h)

-- a point whose gone columns have the values of their forms is what its values come back as
pub spread_gathered : (forms : List (Option Form)) (y : List ℚ) → length y ≡ length forms → ((column : ℕ) (form : Form) → slice_get forms column ≡ Some (Some form) → form_value form (placed forms (gathered forms y)) ≡ value_at y column) → spread forms (gathered forms y) ≡ y
spread_gathered forms y e f = filled_same forms (placed forms (gathered forms y)) y e f

-- ---- old numbers

pub kept_value : {X : Type 0} (forms : List (Option Form)) (xs : List X) (number : ℕ) (x : X) → slice_get (gathered forms xs) number ≡ Some x → slice_get xs (kept_at forms number) ≡ Some x
kept_value [] xs number x h = absurd (none-some x h)
kept_value (f ∷ forms) [] number x h = absurd (none-some x h)
kept_value (None ∷ forms) (y ∷ xs) zero x h = h
kept_value (None ∷ forms) (y ∷ xs) (suc number) x h = kept_value forms xs number x h
kept_value (Some f ∷ forms) (y ∷ xs) number x h = kept_value forms xs number x h

-- a number of a column that stays
pub kept_stays : {X : Type 0} (forms : List (Option Form)) (xs : List X) (number : ℕ) (x : X) → slice_get (gathered forms xs) number ≡ Some x → Stays forms (kept_at forms number)
kept_stays [] xs number x h = absurd (none-some x h)
kept_stays (f ∷ forms) [] number x h = absurd (none-some x h)
kept_stays (None ∷ forms) (y ∷ xs) zero x h = refl
kept_stays (None ∷ forms) (y ∷ xs) (suc number) x h = kept_stays forms xs number x h
kept_stays (Some f ∷ forms) (y ∷ xs) number x h = kept_stays forms xs number x h

pub number_kept : {X : Type 0} (forms : List (Option Form)) (xs : List X) (number : ℕ) (x : X) → slice_get (gathered forms xs) number ≡ Some x → number_in forms (kept_at forms number) ≡ number
number_kept [] xs number x h = absurd (none-some x h)
number_kept (f ∷ forms) [] number x h = absurd (none-some x h)
number_kept (None ∷ forms) (y ∷ xs) zero x h = refl
number_kept (None ∷ forms) (y ∷ xs) (suc number) x h = ap (λ n. suc n) (number_kept forms xs number x h)
number_kept (Some f ∷ forms) (y ∷ xs) number x h = number_kept forms xs number x h

-- a column that stays is among those that do
pub gathered_at : {X : Type 0} (forms : List (Option Form)) (xs : List X) (column : ℕ) (x : X) → Stays forms column → slice_get xs column ≡ Some x → slice_get (gathered forms xs) (number_in forms column) ≡ Some x
gathered_at [] xs column x h k = absurd (none-some None h)
gathered_at (f ∷ forms) [] column x h k = absurd (none-some x k)
gathered_at (None ∷ forms) (y ∷ xs) zero x h k = k
gathered_at (Some f ∷ forms) (y ∷ xs) zero x h k = absurd (none-some f (sym (same_Some (Some f) None h)))
gathered_at (None ∷ forms) (y ∷ xs) (suc column) x h k = gathered_at forms xs column x h k
gathered_at (Some f ∷ forms) (y ∷ xs) (suc column) x h k = gathered_at forms xs column x h k

-- ---- rows

pub renumbered_activity : (forms : List (Option Form)) (terms : List Term) (x : List ℚ) → StandsOnLeft forms terms → activity (map (renumbered_term forms) terms) x ≡ activity terms (spread forms x)
renumbered_activity forms [] x h = refl
renumbered_activity forms (t ∷ ts) x h =
    ap (λ v. t.coefficient *ℚ v +ℚ activity (map (renumbered_term forms) ts) x) (sym (spread_value forms x t.column h.0))
    ∙ ap (λ s. t.coefficient *ℚ value_at (spread forms x) t.column +ℚ s) (renumbered_activity forms ts x h.1)

-- rows that stay hold at a point where those numbered anew do
module _ (compacted : Program) (forms : List (Option Form)) where
  pub left_back : (stays : List Bool) (rows : List Row) (x : List ℚ) → AreLeft compacted forms stays rows → IsRelaxed compacted x → AllSatisfied (rows_left forms stays rows) x → AllSatisfied rows (spread forms x)
  left_back [] [] x a r h = tt
  left_back [] (row ∷ rows) x a r h = absurd a
  left_back (s ∷ stays) [] x a r h = absurd a
  left_back (true ∷ stays) (row ∷ rows) x a r h =
      (subst (λ t. Between row.low row.high t) (renumbered_activity forms row.terms x a.0) h.0, left_back stays rows x a.1 r h.1)
  left_back (false ∷ stays) (row ∷ rows) x a r h = (a.0 x r, left_back stays rows x a.1 r h)

  pub left_onward : (stays : List Bool) (rows : List Row) (x y : List ℚ) → spread forms x ≡ y → AreLeft compacted forms stays rows → AllSatisfied rows y → AllSatisfied (rows_left forms stays rows) x
  left_onward [] [] x y e a h = tt
  left_onward [] (row ∷ rows) x y e a h = absurd a
  left_onward (s ∷ stays) [] x y e a h = absurd a
  left_onward (true ∷ stays) (row ∷ rows) x y e a h =
      (subst (λ t. Between row.low row.high t) (sym (renumbered_activity forms row.terms x a.0 ∙ ap (activity row.terms) e)) h.0, left_onward stays rows x y e a.1 h.1)
  left_onward (false ∷ stays) (row ∷ rows) x y e a h = left_onward stays rows x y e a.1 h.1

-- ---- the list of old numbers

numbers_from : {X : Type 0} (first : ℕ) (forms : List (Option Form)) (xs : List X) (number : ℕ) (x : X) → slice_get (gathered forms xs) number ≡ Some x → slice_get (kept_from first forms) number ≡ Some (first + kept_at forms number)
numbers_from first [] xs number x h = absurd (none-some x h)
numbers_from first (f ∷ forms) [] number x h = absurd (none-some x h)
numbers_from first (None ∷ forms) (y ∷ xs) zero x h = ap Some (omega arith)
numbers_from first (None ∷ forms) (y ∷ xs) (suc number) x h = numbers_from (suc first) forms xs number x h ∙ ap Some (omega arith)
numbers_from first (Some f ∷ forms) (y ∷ xs) number x h = numbers_from (suc first) forms xs number x h ∙ ap Some (omega arith)

pub numbers_listed : {X : Type 0} (forms : List (Option Form)) (xs : List X) (number : ℕ) (x : X) → slice_get (gathered forms xs) number ≡ Some x → slice_get (kept_from 0 forms) number ≡ Some (kept_at forms number)
numbers_listed forms xs number x h = numbers_from 0 forms xs number x h ∙ ap Some (omega arith)
