-- What is written and taken over makes the state after the exchange.
use Rattle.std.proofs.Common.{◌≡◌, ℕ, ◌<◌, ◌==◌, Bool, true, false, cond, not, ◌&&◌, List, [], ◌∷◌, ◌++◌, length, get_or, set, Option, None, Some, refl, sym, ap, ◌∙◌, inl, inr, arith, append_assoc, length-set}
use Rattle.std.proofs.lemmas.Bool.{eq-eqb, ne_eqb, eqb-true, cases_eq, cases_Bool, and_parts, or_cases, true≢false}
use Rattle.std.proofs.lemmas.List.{get_or-set_same, get_or-set_other}
use Rattle.cip_rational.specs.Rational.{ℚ, ◌+ℚ◌, ◌*ℚ◌, zeroℚ, is_zero}
use Rattle.cip_rational.proofs.Rational.Ring.{+ℚ-zero, zero-*ℚ}
use Rattle.cip_problem.specs.Program.{Sides}
use Rattle.cip_problem.specs.Activity.{value_at}
use Rattle.cip_problem.specs.Box.{sides_at}
use Rattle.cip_problem.proofs.Rows.{zero_of_test}
use Rattle.cip_bland.specs.Tables.{table, each}
use Rattle.cip_bland.specs.Dictionary.{Dictionary, size, stand, is_basic, entry, cost_entry, standing_value, IsConsistent}
use Rattle.cip_bland.specs.Exchange.{is_absent, substituted, pivot, entering, exchanged_row, exchanged_rows, exchanged_stand, CanExchange, moved, step}
use Rattle.cip_bland.specs.Operations.{Placed, first_overflow}
use Rattle.cip_bland.specs.MoveOperations.{exchange_operations, solved_operations, substituted_operations, step_operations, moved_operations, cost_operations}
use Rattle.cip_bland.specs.declared.places.Line.TheVariants.{Row, Cost}
use Rattle.cip_bland.specs.declared.places.EntryPlace.{EntryPlace}
use Rattle.cip_bland.specs.declared.moves.Stand.{Stand}
use Rattle.cip_bland.proofs.Tables.{same_table, at_table}
use Rattle.cip_bland.proofs.Forms.{IsFree, substituted_leaving, substituted_absent, substituted_kept}
use Rattle.cip_dict.specs.declared.lists.Lists.{Lists}
use Rattle.cip_dict.specs.Row.{form_changes, row_in, HasRows, taken_form, written_form}
use Rattle.cip_dict.specs.State.{state}
use Rattle.cip_dict.specs.Values.{taken_value}
use Rattle.cip_dict.specs.declared.lists.Room.{Room}
use Rattle.cip_dict.specs.Written.{lines_operations, values_operations, entered_form, LinesWritten, MovesWritten, step_in, IsPlanned}

-- ---- the operations

pub exchange_split : (sides : List Sides) (standing : List (Option Stand)) (lists : Lists) (i j : ℕ) (to : Stand) → length sides ≡ length standing → exchange_operations (state sides standing lists) i j to ≡ lines_operations standing i j (pivot (state sides standing lists) i j) lists ++ values_operations standing i j (standing_value (sides_at sides i) to) (pivot (state sides standing lists) i j) lists
exchange_split sides standing lists i j to e =
    let d : Dictionary = state sides standing lists in
    let f : ℕ → List Placed = λ n. each n (solved_operations (Row j) (is_basic d) i j (pivot d i j) (entry d i))
    ++ (each n (λ h. cond (is_basic d h && not (h == i)) (each n (substituted_operations (Row h) (is_basic d) i j (pivot d i j) (entering d i j) (entry d h))) [])
    ++ (each n (substituted_operations Cost (is_basic d) i j (pivot d i j) (entering d i j) (cost_entry d))
    ++ (step_operations d i j to ++ (each n (moved_operations d j (step d i j to)) ++ cost_operations d j (step d i j to))))) in
    let same : f (length sides) ≡ f (length standing) = ap f e in
    same ∙ (rw (append_assoc, append_assoc) refl)

-- ---- rows

nil_of : {X : Type 0} (xs : List X) → length xs ≡ 0 → xs ≡ []
nil_of [] e = refl
nil_of (x ∷ xs) e = absurd (omega (arith, e))

-- a row without an entry on j is as it was
module _ (n : ℕ) (basic : ℕ → Bool) (i j : ℕ) (q : ℚ) (new : ℕ → ℚ) (row : List ℚ) (bi : basic i ≡ true) (li : i < n) (free : IsFree n basic (value_at row)) (none : value_at row j ≡ zeroℚ) where
  same_entry : (k : ℕ) → k < n → (b : Bool) → is_absent basic j k ≡ b → ¬ (k ≡ i) → value_at row k ≡ substituted basic i j q new (value_at row) k
  same_entry k l true e ni =
      elim (or_cases (basic k) (k == j) e) [
        | inl basic_k ↦ free k l basic_k ∙ sym (substituted_absent basic i j q new (value_at row) k ni e)
        | inr is_j ↦ ap (value_at row) (eqb-true k j is_j) ∙ none ∙ sym (substituted_absent basic i j q new (value_at row) k ni e)
      ]
  same_entry k l false e ni =
      sym (substituted_kept basic i j q new (value_at row) k ni e
      ∙ ap (λ b. value_at row k +ℚ b *ℚ new k) none
      ∙ ap (λ b. value_at row k +ℚ b) (zero-*ℚ (new k)) ∙ +ℚ-zero (value_at row k))

  pub unchanged_row : length row ≡ n → row ≡ table n (substituted basic i j q new (value_at row))
  unchanged_row e =
      same_table n _ row zeroℚ e (λ k l. elim (cases_eq k i) [
        | inl same ↦ ap (value_at row) same ∙ free i li bi ∙ sym (ap (substituted basic i j q new (value_at row)) same ∙ substituted_leaving basic i j q new (value_at row) ∙ ap (λ b. b *ℚ q) none ∙ zero-*ℚ q)
        | inr ni ↦ same_entry k l (is_absent basic j k) refl ni
      ])

-- a row that isn't changed, of a basic variable that stays, has no entry on j
no_entry : (basic leaves none : Bool) → (basic && (not leaves && not none)) ≡ false → basic ≡ true → leaves ≡ false → none ≡ true
no_entry true false true e p q = refl
no_entry true false false e p q = absurd (cc)
no_entry true true none e p q = absurd (cc)
no_entry false leaves none e p q = absurd (cc)

not_changed : (basic leaves none : Bool) → basic ≡ false → (basic && (not leaves && not none)) ≡ false
not_changed basic leaves none e = rw e refl

module _ (d : Dictionary) (i j : ℕ) (to : Stand) (c : IsConsistent d) (h : CanExchange d i j to) (m : length d.standing ≡ size d) (rows : HasRows d.standing d.rows) where
  apart : ¬ (j ≡ i)
  apart e = true≢false (sym h.basic ∙ sym (ap (is_basic d) e) ∙ h.nonbasic)

  row_long : (v : ℕ) → v < size d → is_basic d v ≡ true → length (row_in d.rows v) ≡ size d
  row_long v l b = rows.long v (omega (arith, m, l)) ∙ ap (λ t. cond t (length d.standing) 0) b ∙ m

  row_none : (v : ℕ) → v < size d → is_basic d v ≡ false → row_in d.rows v ≡ []
  row_none v l b = nil_of (row_in d.rows v) (rows.long v (omega (arith, m, l)) ∙ ap (λ t. cond t (length d.standing) 0) b)

  -- what stands there after the exchange
  after_leaving : (v : ℕ) → v ≡ i → exchanged_rows d i j v ≡ []
  after_leaving v e = rw (eq-eqb v i e) refl

  after_entering : (v : ℕ) → ¬ (v ≡ i) → v ≡ j → exchanged_rows d i j v ≡ table (size d) (entering d i j)
  after_entering v ni e = rw (ne_eqb v i ni, eq-eqb v j e) refl

  after_basic : (v : ℕ) → ¬ (v ≡ i) → ¬ (v ≡ j) → is_basic d v ≡ true → exchanged_rows d i j v ≡ table (size d) (exchanged_row d i j (entry d v))
  after_basic v ni nj b = rw (ne_eqb v i ni, ne_eqb v j nj, b) refl

  after_nonbasic : (v : ℕ) → ¬ (v ≡ i) → ¬ (v ≡ j) → is_basic d v ≡ false → exchanged_rows d i j v ≡ []
  after_nonbasic v ni nj b = rw (ne_eqb v i ni, ne_eqb v j nj, b) refl

  module _ (room : List (List ℚ)) (written : (v : ℕ) → v < size d → form_changes d.standing i j v (row_in d.rows v) ≡ true → row_in room v ≡ table (size d) (exchanged_row d i j (entry d v))) where
    taken_is : (v : ℕ) → v < size d → ¬ (v ≡ i) → ¬ (v ≡ j) → taken_form d.standing i j d.rows room v ≡ exchanged_rows d i j v
    taken_is v l ni nj =
        elim (cases_Bool (form_changes d.standing i j v (row_in d.rows v))) [
          | inl yes' ↦ ap (λ t. cond t (row_in room v) (row_in d.rows v)) yes' ∙ written v l yes' ∙ sym (after_basic v ni nj (and_parts (is_basic d v) _ yes').0)
          | inr no' ↦ ap (λ t. cond t (row_in room v) (row_in d.rows v)) no' ∙ elim (cases_Bool (is_basic d v)) [
            | inl b ↦ unchanged_row (size d) (is_basic d) i j (pivot d i j) (entering d i j) (row_in d.rows v) h.basic h.leaving (λ k lk bk. c.rows_free v k l b lk bk) (zero_of_test _ (no_entry (is_basic d v) (v == i) (is_zero (value_at (row_in d.rows v) j)) no' b (ne_eqb v i ni))) (row_long v l b) ∙ sym (after_basic v ni nj b)
            | inr b ↦ row_none v l b ∙ sym (after_nonbasic v ni nj b)
          ]
        ]

    pub rows_after : (new : List ℚ) (taken final : List (List ℚ)) → new ≡ table (size d) (entering d i j) → taken ≡ table (length d.standing) (taken_form d.standing i j d.rows room) → length final ≡ size d → ((v : ℕ) → v < size d → row_in final v ≡ entered_form i j taken new v) → final ≡ table (size d) (exchanged_rows d i j)
    rows_after new taken final is_new is_taken long at =
        let read : (v : ℕ) → v < size d → row_in taken v ≡ taken_form d.standing i j d.rows room v = λ v l. ap (λ xs. row_in xs v) is_taken ∙ at_table (length d.standing) (taken_form d.standing i j d.rows room) v [] (omega (arith, m, l)) in
        same_table (size d) (exchanged_rows d i j) final [] long (λ v l. at v l ∙ elim (cases_eq v i) [
          | inl e ↦ ap (λ t. cond t (row_in taken j) (cond (v == j) new (row_in taken v))) (eq-eqb v i e)
              ∙ read j h.entering
              ∙ ap (λ t. cond t (row_in room j) (row_in d.rows j)) (not_changed (is_basic d j) (j == i) _ h.nonbasic)
              ∙ row_none j h.entering h.nonbasic
              ∙ sym (after_leaving v e)
          | inr ni ↦ ap (λ t. cond t (row_in taken j) (cond (v == j) new (row_in taken v))) (ne_eqb v i ni) ∙ elim (cases_eq v j) [
            | inl e ↦ ap (λ t. cond t new (row_in taken v)) (eq-eqb v j e) ∙ is_new ∙ sym (after_entering v ni e)
            | inr nj ↦ ap (λ t. cond t new (row_in taken v)) (ne_eqb v j nj) ∙ read v l ∙ taken_is v l ni nj
          ]
        ])

  -- ---- where variables stand

  pub stands_after : set (set d.standing i (Some to)) j None ≡ table (size d) (λ v. exchanged_stand (v == i) (v == j) to (stand d v))
  stands_after =
      same_table (size d) _ _ None (length-set (set d.standing i (Some to)) j None ∙ length-set d.standing i (Some to) ∙ m)
      (λ v l. elim (cases_eq v i) [
        | inl e ↦ (let other : ¬ (v ≡ j) = λ (e' : v ≡ j). apart (sym e' ∙ e) in
            get_or-set_other (set d.standing i (Some to)) j v None None other
            ∙ ap (λ u. get_or (set d.standing i (Some to)) u None) e
            ∙ get_or-set_same d.standing i (Some to) None (omega (arith, m, h.leaving))
            ∙ sym (ap (λ t. exchanged_stand t (v == j) to (stand d v)) (eq-eqb v i e)))
        | inr ni ↦ elim (cases_eq v j) [
          | inl e ↦ ap (λ u. get_or (set (set d.standing i (Some to)) j None) u None) e
              ∙ get_or-set_same (set d.standing i (Some to)) j None None (omega (arith, m, h.entering, length-set d.standing i (Some to)))
              ∙ sym (ap (λ t. exchanged_stand t (v == j) to (stand d v)) (ne_eqb v i ni) ∙ ap (λ t. exchanged_stand false t to (stand d v)) (eq-eqb v j e))
          | inr nj ↦ get_or-set_other (set d.standing i (Some to)) j v None None nj
              ∙ get_or-set_other d.standing i v (Some to) None ni
              ∙ sym (ap (λ t. exchanged_stand t (v == j) to (stand d v)) (ne_eqb v i ni) ∙ ap (λ t. exchanged_stand false t to (stand d v)) (ne_eqb v j nj))
        ]
      ])

-- ---- what is written is planned

pub planned : (sides : List Sides) (standing : List (Option Stand)) (lists : Lists) (i j : ℕ) (to : Stand) (before between later : Room) (cost : ℚ) → length sides ≡ length standing → LinesWritten standing i j (pivot (state sides standing lists) i j) lists before between → MovesWritten standing j (step_in i (standing_value (sides_at sides i) to) (pivot (state sides standing lists) i j) lists) lists between later cost → IsPlanned (state sides standing lists) i j to later cost
planned sides standing lists i j to before between later cost e l m =
    let d : Dictionary = state sides standing lists in
    record {
      entering = m.entering ∙ l.entering ∙ ap (λ n. table n (entering d i j)) (sym e);
      rows = λ v lv changes.
          ap (λ xs. row_in xs v) (m.rows ∙ l.rows)
          ∙ at_table (length standing) (λ v. written_form standing i j (pivot d i j) (entering d i j) v (row_in lists.rows.items v) (row_in before.rows.items v)) v [] (omega (arith, lv, e))
          ∙ ap (λ t. cond t (table (length standing) (exchanged_row d i j (entry d v))) (row_in before.rows.items v)) changes
          ∙ ap (λ n. table n (exchanged_row d i j (entry d v))) (sym e);
      changed = rw m.changed l.changed;
      costs = m.costs ∙ l.costs ∙ ap (λ n. table n (exchanged_row d i j (cost_entry d))) (sym e);
      values = ap (λ n. table n (taken_value standing j lists.values.items later.values.items)) e ∙ m.values ∙ ap (λ n. table n (moved d j (step d i j to))) (sym e);
      cost_is = m.cost_is;
    }

-- the values after an exchange, by what its pivot and its side are
pub values_as : (standing : List (Option Stand)) (i j : ℕ) (side side' q q' : ℚ) (lists : Lists) (old new : Room) (cost : ℚ) → side' ≡ side → q' ≡ q → (first_overflow (values_operations standing i j side' q' lists) ≡ None) × MovesWritten standing j (step_in i side' q' lists) lists old new cost → (first_overflow (values_operations standing i j side q lists) ≡ None) × MovesWritten standing j (step_in i side q lists) lists old new cost
values_as standing i j side side' q q' lists old new cost es eq h = rw (sym es, sym eq) h

pub values_fault_as : (standing : List (Option Stand)) (i j : ℕ) (side side' q q' : ℚ) (lists : Lists) (place : EntryPlace) → side' ≡ side → q' ≡ q → first_overflow (values_operations standing i j side' q' lists) ≡ Some place → first_overflow (values_operations standing i j side q lists) ≡ Some place
values_fault_as standing i j side side' q q' lists place es eq h = rw (sym es, sym eq) h
