-- The lists that are begun with are those of the first state.
use Rattle.std.proofs.Common.{◌≡◌, ℕ, ◌+◌, ◌-◌, ◌<◌, ◌≤◌, ◌==◌, true, false, cond, not, is_some, List, [], ◌∷◌, ◌++◌, length, get_or, replicate, Option, None, Some, refl, sym, ap, ap₂, ◌∙◌, inl, inr, arith, length-append, Result, Ok, Err, IsErrAnd, MatchResult}
use Rattle.std.specs.Prelude.{nat_lt}
use Rattle.std.specs.List.{AllByRecursion}
use Rattle.std.proofs.lemmas.Bool.{lt-ltb, le-ltb, cases_lt, ne_eqb, and_right}
use Rattle.std.proofs.lemmas.List.{length-replicate, get_or-replicate, get_or_append_left, get_or-append_right}
use Rattle.std.proofs.lemmas.List.Elements.{recursion_from_All}
use Rattle.cip_rational.specs.Rational.{ℚ, zeroℚ}
use Rattle.cip_problem.specs.Program.{Sides}
use Rattle.cip_problem.specs.Activity.{value_at}
use Rattle.cip_problem.specs.Box.{sides_at}
use Rattle.cip_bland.specs.Tables.{table, form}
use Rattle.cip_bland.specs.FirstState.{System, first, first_stand, first_value, is_column, row_number, form_operations, first_operations}
use Rattle.cip_bland.specs.Operations.{Placed, value_place, sum_at}
use Rattle.cip_bland.specs.declared.places.Line.{Line}
use Rattle.cip_bland.specs.declared.places.Line.TheVariants.{Row, Cost}
use Rattle.cip_bland.specs.declared.moves.Stand.{Stand}
use Rattle.cip_bland.proofs.Tables.{same_table, length-table, at_table, form_same, form_at_same}
use Rattle.cip_dict.specs.declared.lists.Lists.{Lists}
use Rattle.cip_dict.specs.Lists.{basic_in}
use Rattle.cip_dict.specs.Row.{row_in, row_length, HasRows}
use Rattle.cip_dict.specs.State.{state}
use Rattle.cip_dict.specs.declared.fault.FirstFault.{FirstFault}
use Rattle.cip_dict.specs.declared.fault.FirstFault.TheVariants.{OutOfRange, NoMemory}
use Rattle.cip_bland.proofs.Overflow.{overflow-found}
use Rattle.cip_dict.specs.Entries.{Entry, entry_from, AreWithin, system_in, IsRowFault}
use Rattle.cip_dict.specs.FirstLists.{stand_in, cost_in, column_value, column_values_of, row_form, row_of_entries, value_operations}
use Rattle.cip_dict.proofs.Chains.{each_same}

-- no entry is past the columns
entry_past : (rows columns : ℕ) (q : ℚ) (es : List Entry) (r k : ℕ) → AllByRecursion (λ (e : Entry). (e.0 < rows) × (e.1 < columns)) es → columns ≤ k → entry_from q es r k ≡ q
entry_past rows columns q [] r k h l = refl
entry_past rows columns q (e ∷ es) r k h l =
    ap (λ t. entry_from (cond t e.2 q) es r k) (and_right (e.0 == r) (e.1 == k) (ne_eqb e.1 k (λ (same : e.1 ≡ k). omega (arith, same, h.0, l))))
    ∙ entry_past rows columns q es r k h.1 l

module _ (columns : List Sides) (m : ℕ) (standing : List (Option Stand)) (stands : standing ≡ table (length columns + m) (stand_in columns)) where
  pub standing_long : length standing ≡ length columns + m
  standing_long = ap length stands ∙ length-table (length columns + m) (stand_in columns)

  basic_low : (v : ℕ) → v < length columns → basic_in standing v ≡ false
  basic_low v l =
      ap (λ (s : List (Option Stand)). not (is_some (get_or s v None))) stands
      ∙ ap (λ (o : Option Stand). not (is_some o)) (at_table (length columns + m) (stand_in columns) v None (omega (arith, l)) ∙ ap (λ t. cond t (Some (first_stand (sides_at columns v))) None) (lt-ltb v (length columns) l))

  basic_high : (v : ℕ) → length columns ≤ v → v < length columns + m → basic_in standing v ≡ true
  basic_high v h l =
      ap (λ (s : List (Option Stand)). not (is_some (get_or s v None))) stands
      ∙ ap (λ (o : Option Stand). not (is_some o)) (at_table (length columns + m) (stand_in columns) v None l ∙ ap (λ t. cond t (Some (first_stand (sides_at columns v))) None) (le-ltb v (length columns) h))

  module _ (begun : List (List ℚ)) (z : begun ≡ table (length standing) (λ v. replicate (row_length standing v) zeroℚ)) where
    begun_row : (v : ℕ) → v < length columns + m → row_in begun v ≡ replicate (row_length standing v) zeroℚ
    begun_row v l = ap (λ rs. row_in rs v) z ∙ at_table (length standing) (λ v. replicate (row_length standing v) zeroℚ) v [] (omega (arith, l, standing_long))

    begun_low : (v : ℕ) → v < length columns → row_in begun v ≡ []
    begun_low v l = begun_row v (omega (arith, l)) ∙ ap (λ b. replicate (cond b (length standing) 0) zeroℚ) (basic_low v l)

    pub begun_high : (v : ℕ) → length columns ≤ v → v < length columns + m → row_in begun v ≡ replicate (length columns + m) zeroℚ
    begun_high v h l = begun_row v l ∙ ap (λ b. replicate (cond b (length standing) 0) zeroℚ) (basic_high v h l) ∙ ap (λ n. replicate n zeroℚ) standing_long

    pub begun_count : length begun ≡ length columns + m
    begun_count = ap length z ∙ length-table (length standing) (λ v. replicate (row_length standing v) zeroℚ) ∙ standing_long

    pub begun_long : (v : ℕ) → length columns ≤ v → v < length begun → length columns ≤ length (row_in begun v)
    begun_long v h l =
        let long : length (row_in begun v) ≡ length columns + m = ap length (begun_high v h (omega (arith, l, begun_count))) ∙ length-replicate (length columns + m) zeroℚ in
        omega (arith, long)

    pub filled : (entries : List Entry) (rows : List (List ℚ)) → AreWithin m (length columns) entries → length rows ≡ length begun → ((v k : ℕ) → length columns ≤ v → v < length begun → value_at (row_in rows v) k ≡ entry_from (value_at (row_in begun v) k) entries (v - length columns) k) → ((v : ℕ) → v < length columns → row_in rows v ≡ row_in begun v) → ((v : ℕ) → length (row_in rows v) ≡ length (row_in begun v)) → rows ≡ table (length columns + m) (row_of_entries (length columns) m entries)
    filled entries rows within count put rest long =
        same_table (length columns + m) (row_of_entries (length columns) m entries) rows [] (count ∙ begun_count) (λ v l. elim (cases_lt v (length columns)) [
          | inl low ↦ rest v low ∙ begun_low v low ∙ sym (ap (λ t. cond t [] (table (length columns + m) (λ k. cond (nat_lt k (length columns)) (entry_from zeroℚ entries (v - length columns) k) zeroℚ))) (lt-ltb v (length columns) low))
          | inr high ↦ same_table (length columns + m) (λ k. cond (nat_lt k (length columns)) (entry_from zeroℚ entries (v - length columns) k) zeroℚ) (row_in rows v) zeroℚ
              (long v ∙ ap length (begun_high v high l) ∙ length-replicate (length columns + m) zeroℚ)
              (λ k lk.
              let here : value_at (row_in rows v) k ≡ entry_from zeroℚ entries (v - length columns) k = put v k high (omega (arith, l, begun_count)) ∙ ap (λ q. entry_from q entries (v - length columns) k) (ap (λ r. value_at r k) (begun_high v high l) ∙ get_or-replicate (length columns + m) k zeroℚ zeroℚ lk) in
              elim (cases_lt k (length columns)) [
                | inl kl ↦ here ∙ sym (ap (λ t. cond t (entry_from zeroℚ entries (v - length columns) k) zeroℚ) (lt-ltb k (length columns) kl))
                | inr kh ↦ here ∙ entry_past m (length columns) zeroℚ entries (v - length columns) k (recursion_from_All _ entries within) kh ∙ sym (ap (λ t. cond t (entry_from zeroℚ entries (v - length columns) k) zeroℚ) (le-ltb k (length columns) kh))
              ])
              ∙ sym (ap (λ t. cond t [] (table (length columns + m) (λ k. cond (nat_lt k (length columns)) (entry_from zeroℚ entries (v - length columns) k) zeroℚ))) (le-ltb v (length columns) high))
        ])

-- ---- forms that agree

pub form_operations_same : (line : Line) (n : ℕ) (f g x y : ℕ → ℚ) → ((k : ℕ) → k < n → f k ≡ g k) → ((k : ℕ) → k < n → x k ≡ y k) → form_operations line n f x ≡ form_operations line n g y
form_operations_same line n f g x y h e =
    each_same n _ _ (λ k l.
    ap (λ t. sum_at (value_place line) t (f k) (x k)) (form_same k f g x (λ i li. h i (omega (arith, li, l))) ∙ form_at_same k g x y (λ i li. e i (omega (arith, li, l))))
    ∙ ap (λ t. sum_at (value_place line) (form k g y) t (x k)) (h k l)
    ∙ ap (λ t. sum_at (value_place line) (form k g y) (g k) t) (e k l))

both_same : (n : ℕ) (f g x y : ℕ → ℚ) → ((k : ℕ) → k < n → f k ≡ g k) → ((k : ℕ) → k < n → x k ≡ y k) → form n f x ≡ form n g y
both_same n f g x y h e = form_same n f g x h ∙ form_at_same n g x y e

-- ---- the first state
module _ (columns rows : List Sides) (entries : List Entry) (costs : List ℚ) (costs_long : length costs ≡ length columns) (filled_rows : List (List ℚ)) (all_costs : List ℚ) (is_filled : filled_rows ≡ table (length columns + length rows) (row_of_entries (length columns) (length rows) entries)) (is_costs : all_costs ≡ table (length columns + length rows) (cost_in costs)) where
  row_same : (r k : ℕ) → r < length rows → k < length columns → value_at (row_in filled_rows (length columns + r)) k ≡ entry_from zeroℚ entries r k
  row_same r k lr lk =
      ap (λ rs. value_at (row_in rs (length columns + r)) k) is_filled
      ∙ ap (λ row. value_at row k) (at_table (length columns + length rows) (row_of_entries (length columns) (length rows) entries) (length columns + r) [] (omega (arith, lr))
      ∙ ap (λ t. cond t [] (table (length columns + length rows) (λ k. cond (nat_lt k (length columns)) (entry_from zeroℚ entries (length columns + r - length columns) k) zeroℚ))) (le-ltb (length columns + r) (length columns) (omega arith)))
      ∙ at_table (length columns + length rows) (λ k. cond (nat_lt k (length columns)) (entry_from zeroℚ entries (length columns + r - length columns) k) zeroℚ) k zeroℚ (omega (arith, lk))
      ∙ ap (λ t. cond t (entry_from zeroℚ entries (length columns + r - length columns) k) zeroℚ) (lt-ltb k (length columns) lk)
      ∙ (let back : length columns + r - length columns ≡ r = omega arith in ap (λ u. entry_from zeroℚ entries u k) back)

  at_same : (k : ℕ) → k < length columns → value_at (column_values_of columns) k ≡ first_value (system_in entries rows columns costs) k
  at_same k lk = at_table (length columns) (column_value columns) k zeroℚ lk

  cost_same : (k : ℕ) → k < length columns → value_at all_costs k ≡ value_at costs k
  cost_same k lk =
      ap (λ xs. value_at xs k) is_costs ∙ at_table (length columns + length rows) (cost_in costs) k zeroℚ (omega (arith, lk))
      ∙ ap (λ t. cond t (value_at costs k) zeroℚ) (lt-ltb k (length costs) (omega (arith, lk, costs_long)))

  row_form_same : (r : ℕ) → r < length rows → row_form (length columns) filled_rows (column_values_of columns) r ≡ form (length columns) (entry_from zeroℚ entries r) (first_value (system_in entries rows columns costs))
  row_form_same r lr = both_same (length columns) _ _ _ _ (λ k lk. row_same r k lr lk) at_same

  pub operations_same : value_operations columns (length rows) filled_rows all_costs ≡ first_operations (system_in entries rows columns costs)
  operations_same =
      ap₂ (λ xs ys. xs ++ ys)
      (each_same (length rows) _ _ (λ r lr. form_operations_same (Row (length columns + r)) (length columns) _ _ _ _ (λ k lk. row_same r k lr lk) at_same))
      (form_operations_same Cost (length columns) _ _ _ _ cost_same at_same)

  pub first_is : (lists : Lists) (standing : List (Option Stand)) → standing ≡ table (length columns + length rows) (stand_in columns) → lists.rows.items ≡ filled_rows → lists.costs ≡ all_costs → lists.values.items ≡ table (length columns) (column_value columns) ++ table (length rows) (row_form (length columns) filled_rows (column_values_of columns)) → lists.cost ≡ form (length columns) (value_at all_costs) (value_at (column_values_of columns)) → state (columns ++ rows) standing lists ≡ first (system_in entries rows columns costs)
  unfolding first
  first_is lists standing s r c v e =
      let p : System = system_in entries rows columns costs in
      let n : ℕ = length columns + length rows in
      let is_rows = r ∙ is_filled in
      let is_all_costs = c ∙ is_costs ∙ ap (λ k. table n (λ v. cond (nat_lt v k) (value_at costs v) zeroℚ)) costs_long in
      let is_cost = e ∙ both_same (length columns) _ _ _ _ cost_same at_same in
      let values : lists.values.items ≡ table n (λ v. cond (is_column p v) (first_value p v) (form (length columns) (p.coefficient (row_number p v)) (first_value p))) =
      same_table n _ lists.values.items zeroℚ
      (ap length v ∙ length-append (table (length columns) (column_value columns)) _ ∙ ap₂ (λ a b. a + b) (length-table (length columns) (column_value columns)) (length-table (length rows) (row_form (length columns) filled_rows (column_values_of columns))))
      (λ k l. ap (λ xs. value_at xs k) v ∙ elim (cases_lt k (length columns)) [
        | inl low ↦ get_or_append_left (table (length columns) (column_value columns)) _ zeroℚ k (omega (arith, low, length-table (length columns) (column_value columns)))
            ∙ at_table (length columns) (column_value columns) k zeroℚ low
            ∙ sym (ap (λ t. cond t (first_value p k) (form (length columns) (p.coefficient (row_number p k)) (first_value p))) (lt-ltb k (length columns) low))
        | inr high ↦ get_or-append_right (table (length columns) (column_value columns)) _ (length columns) k zeroℚ (length-table (length columns) (column_value columns)) high
            ∙ at_table (length rows) (row_form (length columns) filled_rows (column_values_of columns)) (k - length columns) zeroℚ (omega (arith, high, l))
            ∙ row_form_same (k - length columns) (omega (arith, high, l))
            ∙ sym (ap (λ t. cond t (first_value p k) (form (length columns) (p.coefficient (row_number p k)) (first_value p))) (le-ltb k (length columns) high))
      ]) in
      λ i. record { sides = columns ++ rows; standing = s i; rows = is_rows i; costs = is_all_costs i; values = values i; cost = is_cost i }

-- ---- lengths

-- rows of zeros have the right lengths
pub empty_has_rows : (standing : List (Option Stand)) (rows : List (List ℚ)) → rows ≡ table (length standing) (λ v. replicate (row_length standing v) zeroℚ) → HasRows standing rows
empty_has_rows standing rows z = record {
  each_one = ap length z ∙ length-table (length standing) (λ v. replicate (row_length standing v) zeroℚ);
  long = λ v l. ap (λ rs. length (row_in rs v)) z ∙ ap length (at_table (length standing) (λ v. replicate (row_length standing v) zeroℚ) v [] l) ∙ length-replicate (row_length standing v) zeroℚ;
}

module _ (columns : List Sides) (m : ℕ) (standing : List (Option Stand)) (stands : standing ≡ table (length columns + m) (stand_in columns)) where
  -- the rows with entries have the right lengths
  entries_long : (entries : List Entry) (v : ℕ) → v < length columns + m → length (row_of_entries (length columns) m entries v) ≡ row_length standing v
  entries_long entries v l =
      elim (cases_lt v (length columns)) [
        | inl low ↦ ap (λ t. length (cond t [] (table (length columns + m) (λ k. cond (nat_lt k (length columns)) (entry_from zeroℚ entries (v - length columns) k) zeroℚ)))) (lt-ltb v (length columns) low)
            ∙ sym (ap (λ b. cond b (length standing) 0) (basic_low columns m standing stands v low))
        | inr high ↦ ap (λ t. length (cond t [] (table (length columns + m) (λ k. cond (nat_lt k (length columns)) (entry_from zeroℚ entries (v - length columns) k) zeroℚ)))) (le-ltb v (length columns) high)
            ∙ length-table (length columns + m) _ ∙ sym (standing_long columns m standing stands) ∙ sym (ap (λ b. cond b (length standing) 0) (basic_high columns m standing stands v high l))
      ]

  pub filled_has_rows : (entries : List Entry) (rows : List (List ℚ)) → rows ≡ table (length columns + m) (row_of_entries (length columns) m entries) → HasRows standing rows
  filled_has_rows entries rows z = record {
    each_one = ap length z ∙ length-table (length columns + m) (row_of_entries (length columns) m entries) ∙ sym (standing_long columns m standing stands);
    long = λ v l.
        let l' : v < length columns + m = omega (arith, l, standing_long columns m standing stands) in
        ap (λ rs. length (row_in rs v)) z ∙ ap length (at_table (length columns + m) (row_of_entries (length columns) m entries) v [] l') ∙ entries_long entries v l';
  }

  pub filled_long : (entries : List Entry) (rows : List (List ℚ)) → rows ≡ table (length columns + m) (row_of_entries (length columns) m entries) → (r : ℕ) → r < m → length columns ≤ length (row_in rows (length columns + r))
  filled_long entries rows z r l =
      let h = filled_has_rows entries rows z in
      let n : length standing ≡ length columns + m = standing_long columns m standing stands in
      let here : length (row_in rows (length columns + r)) ≡ length standing = h.long (length columns + r) (omega (arith, l, n)) ∙ ap (λ b. cond b (length standing) 0) (basic_high columns m standing stands (length columns + r) (omega arith) (omega (arith, l))) in
      omega (arith, here, n)

pub row_fault_more : (xs ys : List Placed) (fault : FirstFault) → IsRowFault xs fault → IsRowFault (xs ++ ys) fault
row_fault_more xs ys (OutOfRange place) h = overflow-found xs ys place h
row_fault_more xs ys NoMemory h = tt

-- memory was refused
pub row_fault_memory : {X : Type 0} (r : Result X FirstFault) (P : X → Type 0) (xs : List Placed) → IsErrAnd r (λ fault. fault ≡ NoMemory) → MatchResult r P (IsRowFault xs)
row_fault_memory (Ok x) P xs h = absurd h
row_fault_memory (Err fault) P xs h = rw h tt
