-- What the first state says.
use Rattle.std.proofs.Common.{◌≡◌, ℕ, zero, suc, ◌+◌, ◌<◌, ◌≤◌, true, false, cond, not, is_some, List, [], length, get_or, Option, None, Some, refl, sym, ap, ◌∙◌, inl, inr, arith, length-append, add-zero, add-suc}
use Rattle.std.proofs.lemmas.Bool.{lt-ltb, le-ltb, cases_lt, true≢false}
use Rattle.std.proofs.lemmas.List.{get_or_append_left}
use Rattle.cip_rational.specs.Rational.{ℚ, ◌+ℚ◌, ◌*ℚ◌, zeroℚ}
use Rattle.cip_rational.proofs.Rational.Ring.{zero-*ℚ, +ℚ-zero}
use Rattle.cip_problem.specs.Activity.{value_at}
use Rattle.cip_problem.specs.Box.{sides_at, no_sides}
use Rattle.cip_bland.specs.Tables.{table, form}
use Rattle.cip_bland.specs.Dictionary.{size, stand, is_basic, entry, cost_entry, value, CanStand, Solves, Stands, IsConsistent}
use Rattle.cip_bland.specs.FirstState.{System, stand_with, first_stand, first_value, columns_of, variables_of, is_column, row_number, on_columns, first, AreActivities, extended}
use Rattle.cip_bland.specs.DictionaryStatements.{FirstStatesTell}
use Rattle.cip_bland.specs.declared.moves.Stand.{Stand}
use Rattle.cip_bland.proofs.Tables.{at_table, form_same, form_at_same}

-- a column can stand where it does at first
can_begin : (low high : Option ℚ) → CanStand (record { low = low; high = high }) (stand_with low high)
can_begin (Some low) high = refl
can_begin None (Some high) = refl
can_begin None None = (refl, refl)

module _ (p : System) where
  -- ---- columns and rows

  column : (v : ℕ) → v < columns_of p → is_column p v ≡ true
  column v l = lt-ltb v (columns_of p) l

  no_column : (v : ℕ) → columns_of p ≤ v → is_column p v ≡ false
  no_column v l = le-ltb v (columns_of p) l

  on_column : (f : ℕ → ℚ) (k : ℕ) → k < columns_of p → on_columns p f k ≡ f k
  on_column f k l = rw (column k l) refl

  on_row : (f : ℕ → ℚ) (k : ℕ) → columns_of p ≤ k → on_columns p f k ≡ zeroℚ
  on_row f k l = rw (no_column k l) refl

  -- a form on the columns alone
  form_on_columns : (m : ℕ) (f x : ℕ → ℚ) → form (columns_of p + m) (on_columns p f) x ≡ form (columns_of p) f x
  form_on_columns zero f x = rw add-zero (form_same (columns_of p) _ _ x (λ k l. on_column f k l))
  form_on_columns (suc m) f x =
      let none : on_columns p f (columns_of p + m) ≡ zeroℚ = on_row f (columns_of p + m) (omega arith) in
      let last : form (columns_of p + suc m) (on_columns p f) x ≡ form (columns_of p + m) (on_columns p f) x +ℚ on_columns p f (columns_of p + m) *ℚ x (columns_of p + m) = rw add-suc refl in
      last
      ∙ ap (λ t. form (columns_of p + m) (on_columns p f) x +ℚ t) (ap (λ t. t *ℚ x (columns_of p + m)) none ∙ zero-*ℚ (x (columns_of p + m)))
      ∙ +ℚ-zero _ ∙ form_on_columns m f x

  -- ---- what is read of the state

  pub first-size : size (first p) ≡ variables_of p
  unfolding first
  first-size = length-append p.columns p.rows

  pub first-stand : (v : ℕ) → v < variables_of p → stand (first p) v ≡ cond (is_column p v) (Some (first_stand (sides_at p.columns v))) None
  unfolding first
  first-stand v l = at_table (variables_of p) (λ v. cond (is_column p v) (Some (first_stand (sides_at p.columns v))) None) v None l

  first-row : (v : ℕ) → v < variables_of p → get_or (first p).rows v [] ≡ cond (is_column p v) [] (table (variables_of p) (on_columns p (p.coefficient (row_number p v))))
  unfolding first
  first-row v l = at_table (variables_of p) (λ v. cond (is_column p v) [] (table (variables_of p) (on_columns p (p.coefficient (row_number p v))))) v [] l

  pub first-cost_entry : (k : ℕ) → k < variables_of p → cost_entry (first p) k ≡ on_columns p p.costs k
  unfolding first
  first-cost_entry k l = at_table (variables_of p) (on_columns p p.costs) k zeroℚ l

  pub first-value : (v : ℕ) → v < variables_of p → value (first p) v ≡ cond (is_column p v) (first_value p v) (form (columns_of p) (p.coefficient (row_number p v)) (first_value p))
  unfolding first
  first-value v l = at_table (variables_of p) (λ v. cond (is_column p v) (first_value p v) (form (columns_of p) (p.coefficient (row_number p v)) (first_value p))) v zeroℚ l

  -- ---- its lines

  basic_row : (v : ℕ) → v < variables_of p → is_basic (first p) v ≡ true → columns_of p ≤ v
  basic_row v l b =
      elim (cases_lt v (columns_of p)) [
        | inl low ↦ absurd (true≢false (sym b ∙ ap (λ s. not (is_some s)) (first-stand v l) ∙ ap (λ t. not (is_some (cond t (Some (first_stand (sides_at p.columns v))) None))) (column v low)))
        | inr high ↦ high
      ]

  row_basic : (v : ℕ) → v < variables_of p → columns_of p ≤ v → is_basic (first p) v ≡ true
  row_basic v l high =
      ap (λ s. not (is_some s)) (first-stand v l) ∙ ap (λ t. not (is_some (cond t (Some (first_stand (sides_at p.columns v))) None))) (no_column v high)

  pub first-entry : (v k : ℕ) → v < variables_of p → columns_of p ≤ v → k < variables_of p → entry (first p) v k ≡ on_columns p (p.coefficient (row_number p v)) k
  first-entry v k lv high lk =
      ap (λ r. value_at r k) (first-row v lv ∙ ap (λ t. cond t [] (table (variables_of p) (on_columns p (p.coefficient (row_number p v))))) (no_column v high))
      ∙ at_table (variables_of p) (on_columns p (p.coefficient (row_number p v))) k zeroℚ lk

  line : (v : ℕ) (x : ℕ → ℚ) → v < variables_of p → columns_of p ≤ v → form (variables_of p) (entry (first p) v) x ≡ form (columns_of p) (p.coefficient (row_number p v)) x
  line v x lv high =
      form_same (variables_of p) _ _ x (λ k lk. first-entry v k lv high lk)
      ∙ form_on_columns (length p.rows) (p.coefficient (row_number p v)) x

  cost_line : (x : ℕ → ℚ) → form (variables_of p) (cost_entry (first p)) x ≡ form (columns_of p) p.costs x
  cost_line x = form_same (variables_of p) _ _ x (λ k lk. first-cost_entry k lk) ∙ form_on_columns (length p.rows) p.costs x

  column_value : (k : ℕ) → k < columns_of p → value (first p) k ≡ first_value p k
  column_value k l =
      first-value k (omega (arith, l))
      ∙ ap (λ t. cond t (first_value p k) (form (columns_of p) (p.coefficient (row_number p k)) (first_value p))) (column k l)

  row_value : (v : ℕ) → v < variables_of p → columns_of p ≤ v → value (first p) v ≡ form (columns_of p) (p.coefficient (row_number p v)) (first_value p)
  row_value v l high =
      first-value v l
      ∙ ap (λ t. cond t (first_value p v) (form (columns_of p) (p.coefficient (row_number p v)) (first_value p))) (no_column v high)

  -- ---- solutions

  solves_at : (x : ℕ → ℚ) (v : ℕ) → v < variables_of p → columns_of p ≤ v → AreActivities p x → x v ≡ form (variables_of p) (entry (first p) v) x
  solves_at x v l high h =
      let e : columns_of p + row_number p v ≡ v = omega (arith, high) in
      ap x (sym e) ∙ h (row_number p v) (omega (arith, l, high)) ∙ sym (line v x l high)

  activities_solve : (x : ℕ → ℚ) → AreActivities p x → Solves (first p) x
  activities_solve x h v l b =
      let l' : v < variables_of p = rw first-size at l in
      rw first-size (solves_at x v l' (basic_row v l' b) h)

  solved_activities : (x : ℕ → ℚ) → Solves (first p) x → AreActivities p x
  solved_activities x s r l =
      let lv : columns_of p + r < variables_of p = omega (arith, l) in
      let lv' : columns_of p + r < size (first p) = rw first-size lv in
      let e : row_number p (columns_of p + r) ≡ r = omega arith in
      let here = s (columns_of p + r) lv' (row_basic (columns_of p + r) lv (omega arith)) in
      let here' : x (columns_of p + r) ≡ form (variables_of p) (entry (first p) (columns_of p + r)) x = rw first-size at here in
      here' ∙ line (columns_of p + r) x lv (omega arith) ∙ ap (λ t. form (columns_of p) (p.coefficient t) x) e

  extended_activities : (x : List ℚ) → AreActivities p (extended p x)
  extended_activities x r l =
      let e : row_number p (columns_of p + r) ≡ r = omega arith in
      ap (λ t. cond t (value_at x (columns_of p + r)) (form (columns_of p) (p.coefficient (row_number p (columns_of p + r))) (value_at x))) (no_column (columns_of p + r) (omega arith))
      ∙ ap (λ t. form (columns_of p) (p.coefficient t) (value_at x)) e
      ∙ form_at_same (columns_of p) (p.coefficient r) (value_at x) (extended p x) (λ k lk. sym (ap (λ t. cond t (value_at x k) (form (columns_of p) (p.coefficient (row_number p k)) (value_at x))) (column k lk)))

  point_at : (x : ℕ → ℚ) (k : ℕ) → k < columns_of p → value_at (table (columns_of p) x) k ≡ x k
  point_at x k l = at_table (columns_of p) x k zeroℚ l

  extension : (x : ℕ → ℚ) → Solves (first p) x → (v : ℕ) → v < variables_of p → x v ≡ extended p (table (columns_of p) x) v
  extension x s v l =
      elim (cases_lt v (columns_of p)) [
        | inl low ↦ sym (ap (λ t. cond t (value_at (table (columns_of p) x) v) (form (columns_of p) (p.coefficient (row_number p v)) (value_at (table (columns_of p) x)))) (column v low) ∙ point_at x v low)
        | inr high ↦ (let e : columns_of p + row_number p v ≡ v = omega (arith, high) in
            ap x (sym e) ∙ solved_activities x s (row_number p v) (omega (arith, l, high))
            ∙ form_at_same (columns_of p) (p.coefficient (row_number p v)) x (value_at (table (columns_of p) x)) (λ k lk. sym (point_at x k lk))
            ∙ sym (ap (λ t. cond t (value_at (table (columns_of p) x) v) (form (columns_of p) (p.coefficient (row_number p v)) (value_at (table (columns_of p) x)))) (no_column v high)))
      ]

  -- ---- it is consistent

  first_value_solves : AreActivities p (value (first p))
  first_value_solves r l =
      let e : row_number p (columns_of p + r) ≡ r = omega arith in
      row_value (columns_of p + r) (omega (arith, l)) (omega arith)
      ∙ ap (λ t. form (columns_of p) (p.coefficient t) (first_value p)) e
      ∙ form_at_same (columns_of p) (p.coefficient r) (first_value p) (value (first p)) (λ k lk. sym (column_value k lk))

  first_cost : (first p).cost ≡ form (variables_of p) (cost_entry (first p)) (value (first p))
  unfolding first
  first_cost =
      form_at_same (columns_of p) p.costs (first_value p) (value (first p)) (λ k lk. sym (column_value k lk))
      ∙ sym (cost_line (value (first p)))

  first_sides : (v : ℕ) → v < columns_of p → sides_at (first p).sides v ≡ sides_at p.columns v
  unfolding first
  first_sides v l = get_or_append_left p.columns p.rows no_sides v l

  standing : (v : ℕ) (at : Stand) → v < variables_of p → stand (first p) v ≡ Some at → Stands (first p) v at
  standing v at l e =
      elim (cases_lt v (columns_of p)) [
        | inl low ↦ (let is : Some (first_stand (sides_at p.columns v)) ≡ Some at = sym (first-stand v l ∙ ap (λ t. cond t (Some (first_stand (sides_at p.columns v))) None) (column v low)) ∙ e in
            let is' : first_stand (sides_at p.columns v) ≡ at = cc in
            rw (← is') (record {
              can_stand = rw (first_sides v low) (can_begin (sides_at p.columns v).low (sides_at p.columns v).high);
              has_value = rw (first_sides v low) (column_value v low);
            }))
        | inr high ↦ (let none : None ≡ Some at = sym (first-stand v l ∙ ap (λ t. cond t (Some (first_stand (sides_at p.columns v))) None) (no_column v high)) ∙ e in
            absurd (cc))
      ]

  entry_free : (v k : ℕ) → v < size (first p) → is_basic (first p) v ≡ true → k < size (first p) → is_basic (first p) k ≡ true → entry (first p) v k ≡ zeroℚ
  entry_free v k lv bv lk bk =
      let lv' : v < variables_of p = rw first-size at lv in
      let lk' : k < variables_of p = rw first-size at lk in
      first-entry v k lv' (basic_row v lv' bv) lk' ∙ on_row (p.coefficient (row_number p v)) k (basic_row k lk' bk)

  cost_free : (k : ℕ) → k < size (first p) → is_basic (first p) k ≡ true → cost_entry (first p) k ≡ zeroℚ
  cost_free k lk bk =
      let lk' : k < variables_of p = rw first-size at lk in
      first-cost_entry k lk' ∙ on_row p.costs k (basic_row k lk' bk)

  first_consistent : IsConsistent (first p)
  first_consistent = record {
    rows_free = entry_free;
    costs_free = cost_free;
    solved = activities_solve (value (first p)) first_value_solves;
    cost_value = rw first-size first_cost;
    stands = λ v at l e. standing v at (rw first-size at l) e;
  }

pub first_states_tell : FirstStatesTell
first_states_tell p = record {
  consistent = first_consistent p;
  solutions = λ x. (solved_activities p x, activities_solve p x);
  points = λ x. activities_solve p (extended p x) (extended_activities p x);
  extensions = extension p;
  costs = λ x. rw first-size (cost_line p x);
}
