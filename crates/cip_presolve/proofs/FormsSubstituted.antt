-- Steps by an equality of two terms.
use Rattle.std.proofs.Common.{◌≡◌, ◌≢◌, ℕ, zero, suc, ◌<◌, List, [], ◌∷◌, length, Some, Ok, slice_get, refl, sym, ap, ◌∙◌, subst, arith}
use Rattle.std.specs.Prelude.{slice_set}
use Rattle.std.proofs.lemmas.Option.{same_Some}
use Rattle.cip_rational.specs.Rational.{ℚ, ◌+ℚ◌, ◌-ℚ◌, ◌*ℚ◌, zeroℚ, negate}
use Rattle.cip_rational.specs.Sums.{dot}
use Rattle.cip_rational.proofs.Rational.Ring.{zero-*ℚ, zero-+ℚ, +ℚ-zero, *ℚ-zero, *ℚ-add, add-*ℚ, *ℚ_assoc, negate-*ℚ}
use Rattle.cip_rational.proofs.Linear.{linear_same}
use Rattle.cip_problem.specs.Program.{Row, Program}
use Rattle.cip_problem.specs.Activity.{activity, value_at, StandsBelow}
use Rattle.cip_problem.specs.Box.{Between}
use Rattle.cip_problem.specs.Points.{IsSatisfied}
use Rattle.cip_problem.proofs.Points.AtPlaces.{satisfied_at}
use Rattle.cip_frac.specs.Outcomes.{product_added}
use Rattle.cip_frac.proofs.Outcomes.{product_added-value}
use Rattle.cip_presolve.specs.Reduced.{IsRelaxed}
use Rattle.cip_presolve.specs.NarrowedPrograms.{IsExactStep, with_row, with_cost}
use Rattle.cip_presolve.specs.Forms.{Form, form_value}
use Rattle.cip_presolve.specs.RowSteps.{side_less}
use Rattle.cip_search.proofs.Inside.{all_self}
use Rattle.cip_search.proofs.Replacing.{row_replaced}
use Rattle.cip_search.proofs.RowSteps.{less_above, less_below, above_less, below_less, get_set, get_other}
use Rattle.cip_search.proofs.Apart.{long_set}
use Rattle.cip_search.proofs.Pairing.{feasible_relaxed, exact_self}
use Rattle.cip_presolve.proofs.Merged.{count_same}
use Rattle.cip_presolve.specs.ColumnForms.{RowGives, IsSubstitute, IsReplaced, IsReplacedIn}
use Rattle.cip_presolve.proofs.Ruled.{some_row}

-- ---- a row

shift_of : (a new k c f v s : ℚ) → v ≡ c +ℚ f *ℚ s → new ≡ a +ℚ (negate k *ℚ v +ℚ (k *ℚ f) *ℚ s) → new ≡ a -ℚ k *ℚ c
shift_of a new k c f v s e h =
    let n : negate k *ℚ v ≡ negate (k *ℚ c +ℚ k *ℚ (f *ℚ s)) = negate-*ℚ k v ∙ ap (λ t. negate (k *ℚ t)) e ∙ ap negate (*ℚ-add k c (f *ℚ s)) in
    let m : (k *ℚ f) *ℚ s ≡ k *ℚ (f *ℚ s) = *ℚ_assoc k f s in
    linear_same (a ∷ new ∷ (negate k *ℚ v) ∷ (k *ℚ c) ∷ (k *ℚ (f *ℚ s)) ∷ ((k *ℚ f) *ℚ s) ∷ []) (λ t w. omega (arith, t.same_out))

module _ (old new : Row) (column : ℕ) (form : Form) (r : IsReplaced old column form new) where
  abbrev shift : ℚ
  shift = r.coefficient *ℚ form.constant

  new_activity : (x : List ℚ) → value_at x column ≡ form_value form x → activity new.terms x ≡ activity old.terms x -ℚ shift
  new_activity x e = shift_of (activity old.terms x) (activity new.terms x) r.coefficient form.constant form.factor (value_at x column) (value_at x form.source) e (r.activity x)

  old_holds : (x : List ℚ) → value_at x column ≡ form_value form x → IsSatisfied new x → IsSatisfied old x
  old_holds x e h =
      let m : Between (side_less old.low shift) (side_less old.high shift) (activity old.terms x -ℚ shift) =
      subst (λ t. Between (side_less old.low shift) (side_less old.high shift) t) (new_activity x e)
      (subst (λ o. Between (side_less old.low shift) o (activity new.terms x)) r.high
      (subst (λ o. Between o new.high (activity new.terms x)) r.low h)) in
      record { above = less_above old.low (activity old.terms x) shift m.above; below = less_below old.high (activity old.terms x) shift m.below }

  new_holds : (x : List ℚ) → value_at x column ≡ form_value form x → IsSatisfied old x → IsSatisfied new x
  new_holds x e h =
      let m : Between (side_less old.low shift) (side_less old.high shift) (activity old.terms x -ℚ shift) =
      record { above = above_less old.low (activity old.terms x) shift h.above; below = below_less old.high (activity old.terms x) shift h.below } in
      subst (λ o. Between o new.high (activity new.terms x)) (sym r.low)
      (subst (λ o. Between (side_less old.low shift) o (activity new.terms x)) (sym r.high)
      (subst (λ t. Between (side_less old.low shift) (side_less old.high shift) t) (sym (new_activity x e)) m))

-- the value of the column wherever the row that gives the form holds
pub value_given : (program : Program) (place column : ℕ) (form : Form) (x : List ℚ) → place < length program.rows → RowGives program place column form → IsRelaxed program x → value_at x column ≡ form_value form x
value_given program place column form x i g h =
    let e = some_row program.rows place i in
    (g e.0 e.1).follows x (satisfied_at program.rows x place e.0 h.rows e.1)

place_kept : (program : Program) (number place : ℕ) (new row : Row) → number ≢ place → place < length program.rows → slice_get (slice_set program.rows number new) place ≡ Some row → slice_get program.rows place ≡ Some row
place_kept program number place new row n i e =
    let s = some_row program.rows place i in
    s.1 ∙ ap Some (same_Some s.0 row (sym (get_other program.rows number place new s.0 n s.1) ∙ e))

gives_there : (program : Program) (number place column : ℕ) (form : Form) (new : Row) → number ≢ place → place < length program.rows → RowGives program place column form → RowGives (with_row program number new) place column form
gives_there program number place column form new n i g row e = g row (place_kept program number place new row n i e)

pub replaced_by : (program changed : Program) (number place column : ℕ) (form : Form) (old new : Row) → number ≢ place → place < length program.rows → slice_get program.rows number ≡ Some old → RowGives program place column form → IsReplacedIn old column form new → changed ≡ with_row program number new → IsExactStep program changed
replaced_by program changed number place column form old new n i e g r k =
    subst (λ p. IsExactStep program p) (sym k)
    (row_replaced program number old new e
    (λ x h. old_holds old new column form r.replaced x
    (value_given (with_row program number new) place column form x (let c = count_same program.rows number new in omega (arith, i, c)) (gives_there program number place column form new n i g) h)
    (satisfied_at (slice_set program.rows number new) x number new h.rows (get_set program.rows number old new e)))
    (λ y h. new_holds old new column form r.replaced y (value_given program place column form y i g (feasible_relaxed program y h)) (satisfied_at program.rows y number old h.rows e)))

pub still_gives : (program changed : Program) (number place column : ℕ) (form : Form) (new : Row) → number ≢ place → place < length program.rows → RowGives program place column form → changed ≡ with_row program number new → RowGives changed place column form
still_gives program changed number place column form new n i g k = subst (λ p. RowGives p place column form) (sym k) (gives_there program number place column form new n i g)

pub still_substitute : (program changed : Program) (number column : ℕ) (form : Form) (new : Row) → IsSubstitute program column form → changed ≡ with_row program number new → IsSubstitute changed column form
still_substitute program changed number column form new s k = subst (λ p. IsSubstitute p column form) (sym k) (record {
  inside = s.inside;
  source = s.source;
  apart = s.apart;
  plain = s.plain;
  source_plain = s.source_plain;
})

pub new_stands : (program : Program) (column : ℕ) (form : Form) (old new : Row) → IsReplacedIn old column form new → StandsBelow (length program.bounds) old.terms → IsSubstitute program column form → StandsBelow (length program.bounds) new.terms
new_stands program column form old new r h s = r.stands (length program.bounds) h s.inside s.source

pub rows_same : (program changed : Program) (number : ℕ) (new : Row) → changed ≡ with_row program number new → length changed.rows ≡ length program.rows
rows_same program changed number new k = ap (λ (p : Program). length p.rows) k ∙ count_same program.rows number new

pub ruleset row_steps = (exact_self, replaced_by, still_gives, still_substitute, new_stands, rows_same)

-- ---- the cost

dot_set : (costs x : List ℚ) (k : ℕ) (v : ℚ) → k < length costs → dot (slice_set costs k v) x ≡ v *ℚ value_at x k +ℚ dot (slice_set costs k zeroℚ) x
dot_set [] x k v h = absurd (omega (arith, h))
dot_set (c ∷ costs) [] zero v h = sym (ap (λ t. t +ℚ zeroℚ) (*ℚ-zero v) ∙ +ℚ-zero zeroℚ)
dot_set (c ∷ costs) [] (suc k) v h = sym (ap (λ t. t +ℚ zeroℚ) (*ℚ-zero v) ∙ +ℚ-zero zeroℚ)
dot_set (c ∷ costs) (u ∷ x) zero v h = ap (λ t. v *ℚ u +ℚ t) (sym (ap (λ t. t +ℚ dot costs x) (zero-*ℚ u) ∙ zero-+ℚ (dot costs x)))
dot_set (c ∷ costs) (u ∷ x) (suc k) v h =
    let e = dot_set costs x k v (omega (arith, h)) in
    linear_same ((c *ℚ u) ∷ (v *ℚ value_at x k) ∷ dot (slice_set costs k v) x ∷ dot (slice_set costs k zeroℚ) x ∷ []) (λ s w. omega (arith, s.same_out))

set_own : (costs : List ℚ) (k : ℕ) → slice_set costs k (value_at costs k) ≡ costs
set_own [] k = refl
set_own (c ∷ costs) zero = refl
set_own (c ∷ costs) (suc k) = ap (λ t. c ∷ t) (set_own costs k)

-- a cost and the others
dot_parts : (costs x : List ℚ) (k : ℕ) → k < length costs → dot costs x ≡ value_at costs k *ℚ value_at x k +ℚ dot (slice_set costs k zeroℚ) x
dot_parts costs x k h = ap (λ t. dot t x) (sym (set_own costs k)) ∙ dot_set costs x k (value_at costs k) h

value_other : (costs : List ℚ) (k n : ℕ) (v : ℚ) → k ≢ n → value_at (slice_set costs k v) n ≡ value_at costs n
value_other [] k n v h = refl
value_other (c ∷ costs) zero zero v h = absurd (h refl)
value_other (c ∷ costs) zero (suc n) v h = refl
value_other (c ∷ costs) (suc k) zero v h = refl
value_other (c ∷ costs) (suc k) (suc n) v h = value_other costs k n v (λ e. h (ap (λ m. suc m) e))

module _ (costs x : List ℚ) (i s : ℕ) (c f : ℚ) (within : i < length costs) (source : s < length costs) (apart : i ≢ s) (is : value_at x i ≡ c +ℚ f *ℚ value_at x s) where
  abbrev own : ℚ
  own = value_at costs i

  abbrev other : ℚ
  other = value_at costs s

  abbrev without : List ℚ
  without = slice_set costs i zeroℚ

  abbrev rest : ℚ
  rest = dot (slice_set without s zeroℚ) x

  s_within : s < length without
  s_within = let l = long_set costs i zeroℚ in omega (arith, source, l)

  old_dot : dot costs x ≡ own *ℚ value_at x i +ℚ (other *ℚ value_at x s +ℚ rest)
  old_dot =
      dot_parts costs x i within
      ∙ ap (λ t. own *ℚ value_at x i +ℚ t) (dot_parts without x s s_within ∙ ap (λ t. t *ℚ value_at x s +ℚ rest) (value_other costs i s zeroℚ apart))

  moved_dot : (constant : ℚ) → constant +ℚ dot costs x ≡ (constant +ℚ own *ℚ c) +ℚ dot (slice_set without s (other +ℚ own *ℚ f)) x
  moved_dot constant =
      let a = old_dot in
      let b = dot_set without x s (other +ℚ own *ℚ f) s_within in
      let p : own *ℚ value_at x i ≡ own *ℚ c +ℚ own *ℚ (f *ℚ value_at x s) = ap (λ t. own *ℚ t) is ∙ *ℚ-add own c (f *ℚ value_at x s) in
      let q : (other +ℚ own *ℚ f) *ℚ value_at x s ≡ other *ℚ value_at x s +ℚ own *ℚ (f *ℚ value_at x s) = add-*ℚ other (own *ℚ f) (value_at x s) ∙ ap (λ t. other *ℚ value_at x s +ℚ t) (*ℚ_assoc own f (value_at x s)) in
      linear_same (constant ∷ dot costs x ∷ (own *ℚ value_at x i) ∷ (other *ℚ value_at x s) ∷ rest ∷ dot (slice_set without s (other +ℚ own *ℚ f)) x ∷ ((other +ℚ own *ℚ f) *ℚ value_at x s) ∷ (own *ℚ c) ∷ (own *ℚ (f *ℚ value_at x s)) ∷ []) (λ t w. omega (arith, t.same_out))

cost_moved : (program : Program) (place column : ℕ) (form : Form) → place < length program.rows → length program.costs ≡ length program.bounds → RowGives program place column form → IsSubstitute program column form → IsExactStep program (with_cost (with_cost program column zeroℚ (program.constant +ℚ value_at program.costs column *ℚ form.constant)) form.source (value_at program.costs form.source +ℚ value_at program.costs column *ℚ form.factor) (program.constant +ℚ value_at program.costs column *ℚ form.constant))
cost_moved program place column form i l g s = record {
  narrowed = record {
    integral = refl;
    choices = refl;
    inside = all_self program.bounds;
    rows = λ x h. h.rows;
    cost = λ x h.
        let inside = s.inside in
        let source = s.source in
        moved_dot program.costs x column form.source form.constant form.factor (omega (arith, inside, l)) (omega (arith, source, l)) s.apart
        (value_given program place column form x i g (record { within = h.within; rows = h.rows })) program.constant;
  };
  keeps = λ x h. record { within = h.within; whole = h.whole; choices = h.choices; rows = h.rows };
}

pub cost_moved_by : (program first changed : Program) (place column : ℕ) (form : Form) (cost none constant given more : ℚ) → place < length program.rows → length program.costs ≡ length program.bounds → RowGives program place column form → IsSubstitute program column form → cost ≡ value_at program.costs column → given ≡ value_at program.costs form.source → none ≡ zeroℚ → product_added program.constant cost form.constant ≡ Ok constant → product_added given cost form.factor ≡ Ok more → first ≡ with_cost program column none constant → changed ≡ with_cost first form.source more constant → IsExactStep program changed
cost_moved_by program first changed place column form cost none constant given more i l g s c o z a b e k =
    let v : constant ≡ program.constant +ℚ cost *ℚ form.constant = rw a at (product_added-value program.constant cost form.constant) in
    let w : more ≡ given +ℚ cost *ℚ form.factor = rw b at (product_added-value given cost form.factor) in
    let both : constant ≡ program.constant +ℚ value_at program.costs column *ℚ form.constant = v ∙ ap (λ t. program.constant +ℚ t *ℚ form.constant) c in
    let sum : more ≡ value_at program.costs form.source +ℚ value_at program.costs column *ℚ form.factor = w ∙ ap (λ t. t +ℚ cost *ℚ form.factor) o ∙ ap (λ t. value_at program.costs form.source +ℚ t *ℚ form.factor) c in
    subst (λ p. IsExactStep program p)
    (sym (k
    ∙ ap (λ p. with_cost p form.source more constant) e
    ∙ ap (λ t. with_cost (with_cost program column t constant) form.source more constant) z
    ∙ ap (λ t. with_cost (with_cost program column zeroℚ t) form.source more t) both
    ∙ ap (λ t. with_cost (with_cost program column zeroℚ (program.constant +ℚ value_at program.costs column *ℚ form.constant)) form.source t (program.constant +ℚ value_at program.costs column *ℚ form.constant)) sum))
    (cost_moved program place column form i l g s)

pub ruleset cost_steps = (exact_self, cost_moved_by)
