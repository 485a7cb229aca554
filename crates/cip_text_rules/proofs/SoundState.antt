-- States stay sound: each row keeps its numbers by rising column.
use Rattle.std.proofs.Common.{◌≡◌, ◌≢◌, ℕ, zero, suc, ◌+◌, ◌==◌, ◌<◌, ◌≤◌, Bool, true, false, not, cond, ◌&&◌, List, [], ◌∷◌, ◌++◌, length, Option, None, Some, refl, sym, ap, subst, ◌∙◌, arith, lit≤}
use Rattle.std.specs.Prelude.{nat_lt, nat_le, slice_index_or, slice_set, unwrap_or}
use Rattle.std.specs.Str.{bytes_eq}
use Rattle.std.specs.List.{AllByRecursion, list_all, list_any}
use Rattle.std.proofs.lemmas.List.{length-append, length-set, get_or-set_other}
use Rattle.std.proofs.lemmas.List.Folds.{list_all-append}
use Rattle.std.proofs.lemmas.Bool.{and_from, and_parts, lt-ltb, ltb-true, ltb-false, eq-eqb}
use Rattle.cip_rational.specs.Rational.{ℚ}
use Rattle.cip_problem.specs.Limits.{most_rows, most_columns, most_entries}
use Rattle.cip_text_rules.specs.MpsWords.{number_in, is_in}
use Rattle.cip_text_rules.specs.MpsSayings.{Value, Saying, RowLine, ColumnLine, RightSideLine, RangeLine, BoundLine, no_place}
use Rattle.cip_text_rules.specs.MpsFacts.{coefficients_in, no_facts}
use Rattle.cip_text_rules.specs.MpsBounds.{Bounded, unbounded, with_bound}
use Rattle.cip_text_rules.specs.MpsProgram.{number, is_free}
use Rattle.cip_text_rules.specs.MpsRules.{least, has_twins, is_before_last, entry_count, is_column_too_many, is_entry_too_many}
use Rattle.cip_text_rules.proofs.Quiet.{kept, left_false, right_false}
use Rattle.cip_text_rules.proofs.MpsNames.{same_bytes, number_below, number_same}
use Rattle.cip_text_rules.specs.MpsState.{Held, RowRead, State, no_row, item_at, row_at, state_of}
use Rattle.cip_text_rules.specs.MpsSteps.{changed, holds, tests, with_held, with_right_side, with_range, put_values, new_row, with_name, number_or_next, taken}
use Rattle.cip_text_rules.specs.MpsSoundState.{held_below, rises, is_sound_row, IsSoundState}
use Rattle.cip_text_rules.proofs.LookUps.{number_none, number_some}
use Rattle.cip_text_rules.proofs.Few.{one_more}

-- ---- tests of all

pub all_set : {X : Type 0} (p : X → Bool) (xs : List X) (k : ℕ) (v : X) → list_all p xs ≡ true → p v ≡ true → list_all p (slice_set xs k v) ≡ true
all_set p [] k v h e = refl
all_set p (x ∷ xs) zero v h e = and_from (p v) (list_all p xs) e (and_parts (p x) (list_all p xs) h).1
all_set p (x ∷ xs) (suc k) v h e =
    let a = and_parts (p x) (list_all p xs) h in
    and_from (p x) (list_all p (slice_set xs k v)) a.0 (all_set p xs k v a.1 e)

pub all_at : {X : Type 0} (p : X → Bool) (xs : List X) (k : ℕ) (d : X) → list_all p xs ≡ true → p d ≡ true → p (slice_index_or xs k d) ≡ true
all_at p [] k d h e = e
all_at p (x ∷ xs) zero d h e = (and_parts (p x) (list_all p xs) h).0
all_at p (x ∷ xs) (suc k) d h e = all_at p xs k d (and_parts (p x) (list_all p xs) h).1 e

pub all_more : {X : Type 0} (p q : X → Bool) → ((x : X) → p x ≡ true → q x ≡ true) → (xs : List X) → list_all p xs ≡ true → list_all q xs ≡ true
all_more p q f [] h = refl
all_more p q f (x ∷ xs) h = let a = and_parts (p x) (list_all p xs) h in and_from (q x) (list_all q xs) (f x a.0) (all_more p q f xs a.1)

pub all_push : {X : Type 0} (p : X → Bool) (xs : List X) (v : X) → list_all p xs ≡ true → p v ≡ true → list_all p (xs ++ v ∷ []) ≡ true
all_push p xs v h e = list_all-append p xs (v ∷ []) ∙ and_from (list_all p xs) (p v && true) h (and_from (p v) true e refl)

changed_all : {X : Type 0} (d : X) (p : X → Bool) (xs : List X) (o : Option ℕ) (f : X → X) → p d ≡ true → ((x : X) → p x ≡ true → p (f x) ≡ true) → list_all p xs ≡ true → list_all p (changed d xs o f) ≡ true
changed_all d p xs None f e g h = h
changed_all d p xs (Some k) f e g h = all_set p xs k (f (slice_index_or xs k d)) h (g _ (all_at p xs k d h e))

changed_length : {X : Type 0} (d : X) (xs : List X) (o : Option ℕ) (f : X → X) → length (changed d xs o f) ≡ length xs
changed_length d xs None f = refl
changed_length d xs (Some k) f = length-set xs k (f (slice_index_or xs k d))

put_length : (put : ℚ → RowRead → RowRead) (names : List (List ℕ)) (rows : List RowRead) (values : List Value) → length (put_values put names rows values) ≡ length rows
put_length put names rows [] = refl
put_length put names rows (v ∷ vs) =
    put_length put names (changed no_row rows (number_in names v.row) (put (number v.number))) vs
    ∙ changed_length no_row rows (number_in names v.row) (put (number v.number))

-- values of RHS and RANGES leave the numbers of rows
put_all : (n : ℕ) (put : ℚ → RowRead → RowRead) → ((x : ℚ) (row : RowRead) → is_sound_row n row ≡ true → is_sound_row n (put x row) ≡ true) → (names : List (List ℕ)) (rows : List RowRead) (values : List Value) → list_all (is_sound_row n) rows ≡ true → list_all (is_sound_row n) (put_values put names rows values) ≡ true
put_all n put g names rows [] h = h
put_all n put g names rows (v ∷ vs) h =
    put_all n put g names (changed no_row rows (number_in names v.row) (put (number v.number))) vs
    (changed_all no_row (is_sound_row n) rows (number_in names v.row) (put (number v.number)) refl (g (number v.number)) h)

-- ---- one number more

held_push : (k : ℕ) (x : ℚ) (held : List Held) → held_below k held ≡ true → rises held ≡ true → rises (held ++ record { column = k; value = x } ∷ []) ≡ true
held_push k x [] b r = refl
held_push k x (h ∷ hs) b r =
    let below = and_parts (nat_lt h.column k) (held_below k hs) b in
    let up = and_parts (list_all (λ o. nat_lt h.column o.column) hs) (rises hs) r in
    and_from (list_all (λ o. nat_lt h.column o.column) (hs ++ record { column = k; value = x } ∷ [])) (rises (hs ++ record { column = k; value = x } ∷ []))
    (all_push (λ o. nat_lt h.column o.column) hs (record { column = k; value = x }) up.0 below.0) (held_push k x hs below.1 up.1)

sound_push : (n k : ℕ) (x : ℚ) (row : RowRead) → k < n → held_below k row.held ≡ true → is_sound_row n row ≡ true → is_sound_row n (with_held k x row) ≡ true
sound_push n k x row l b s =
    let a = and_parts (held_below n row.held) (rises row.held) s in
    and_from (held_below n (row.held ++ record { column = k; value = x } ∷ [])) (rises (row.held ++ record { column = k; value = x } ∷ []))
    (all_push (λ h. nat_lt h.column n) row.held (record { column = k; value = x }) a.0 (lt-ltb k n l)) (held_push k x row.held b a.1)

-- the row of a value has no number on this column or behind it
abbrev IsOpen : ℕ → List (List ℕ) → List RowRead → Value → Type 0
IsOpen k names rows value = (j : ℕ) → number_in names value.row ≡ Some j → held_below k (slice_index_or rows j no_row).held ≡ true

others_open : (k : ℕ) (names : List (List ℕ)) (rows : List RowRead) (v : Value) (i : ℕ) (row : RowRead) (vs : List Value) → number_in names v.row ≡ Some i → list_any (λ o. bytes_eq v.row o.row) vs ≡ false → AllByRecursion (IsOpen k names rows) vs → AllByRecursion (IsOpen k names (slice_set rows i row)) vs
others_open k names rows v i row [] e t a = tt
others_open k names rows v i row (w ∷ ws) e t a = (open_at, others_open k names rows v i row ws e (right_false _ _ t) a.1)
  where
    open_at : IsOpen k names (slice_set rows i row) w
    open_at j d =
        let ne : j ≢ i = λ p.
        let same : v.row ≡ w.row = number_same names v.row w.row i e (d ∙ ap Some p) in
        let yes : bytes_eq v.row w.row ≡ true = same_bytes v.row w.row same in
        let no : bytes_eq v.row w.row ≡ false = left_false _ (list_any (λ o. bytes_eq v.row o.row) ws) t in cc in
        ap (λ r. held_below k r.held) (get_or-set_other rows i j row no_row ne) ∙ a.0 j d

put_held : (n k : ℕ) (names : List (List ℕ)) (rows : List RowRead) (values : List Value) → k < n → has_twins values ≡ false → AllByRecursion (IsOpen k names rows) values → list_all (is_sound_row n) rows ≡ true → list_all (is_sound_row n) (put_values (with_held k) names rows values) ≡ true
put_held n k names rows [] l t a h = h
put_held n k names rows (v ∷ vs) l t a h = go (number_in names v.row) refl (λ rs b s. put_held n k names rs vs l (right_false _ _ t) b s)
  where
    go : (o : Option ℕ) → number_in names v.row ≡ o → ((rs : List RowRead) → AllByRecursion (IsOpen k names rs) vs → list_all (is_sound_row n) rs ≡ true → list_all (is_sound_row n) (put_values (with_held k) names rs vs) ≡ true)
        → list_all (is_sound_row n) (put_values (with_held k) names (changed no_row rows o (with_held k (number v.number))) vs) ≡ true
    go None e rest = rest rows a.1 h
    go (Some i) e rest =
        rest (slice_set rows i (with_held k (number v.number) (slice_index_or rows i no_row)))
        (others_open k names rows v i _ vs e (left_false _ (has_twins vs) t) a.1)
        (all_set (is_sound_row n) rows i _ h (sound_push n k (number v.number) (slice_index_or rows i no_row) l (a.0 i e) (all_at (is_sound_row n) rows i no_row h refl)))

-- ---- the rows of a line of COLUMNS are open

-- the last column that a row may have, and hasn't
pub below_last : (n c : ℕ) (held : List Held) → n ≤ c + 1 → held_below n held ≡ true → list_any (λ h. h.column == c) held ≡ false → held_below c held ≡ true
below_last n c [] l b e = refl
below_last n c (h ∷ hs) l b e =
    let a = and_parts (nat_lt h.column n) (held_below n hs) b in
    let less : h.column < n = ltb-true h.column n a.0 in
    let no : (h.column == c) ≡ false = left_false _ (list_any (λ x. x.column == c) hs) e in
    let other : ¬ (h.column ≡ c) = λ p. let yes : (h.column == c) ≡ true = eq-eqb h.column c p in cc in
    and_from (nat_lt h.column c) (held_below c hs) (lt-ltb h.column c (omega (arith, less, l, other))) (below_last n c hs l a.1 (right_false _ _ e))

rows_open : (state : State) (column : List ℕ) (values : List Value) → IsSoundState state → list_any (λ value. holds (number_in state.column_names column) (row_at state value.row)) values ≡ false → is_before_last (number_in state.column_names column) (length state.column_names) ≡ false → AllByRecursion (IsOpen (number_or_next state.column_names column) state.row_names state.rows) values
rows_open state column [] s e b = tt
rows_open state column (v ∷ vs) s e b = (open_at, rows_open state column vs s (right_false _ _ e) b)
  where
    sound : (j : ℕ) → held_below (length state.column_names) (slice_index_or state.rows j no_row).held ≡ true
    sound j = (and_parts _ (rises (slice_index_or state.rows j no_row).held) (all_at (is_sound_row (length state.column_names)) state.rows j no_row s.rows refl)).0

    open_with : (o : Option ℕ) → number_in state.column_names column ≡ o → (j : ℕ) → number_in state.row_names v.row ≡ Some j → holds o (Some (slice_index_or state.rows j no_row)) ≡ false → is_before_last o (length state.column_names) ≡ false → held_below (unwrap_or o (length state.column_names)) (slice_index_or state.rows j no_row).held ≡ true
    open_with None d j f h l = sound j
    open_with (Some c) d j f h l = below_last (length state.column_names) c (slice_index_or state.rows j no_row).held (ltb-false (c + 1) (length state.column_names) l) (sound j) h

    open_at : IsOpen (number_or_next state.column_names column) state.row_names state.rows v
    open_at j d =
        open_with (number_in state.column_names column) refl j d
        (ap (λ o. holds (number_in state.column_names column) (item_at no_row state.rows o)) (sym d) ∙ left_false _ _ e) b

-- ---- names of columns

name_known : (names : List (List ℕ)) (name : List ℕ) → (number_or_next names name < length (with_name names name)) × (length names ≤ length (with_name names name))
name_known names name = go (is_in names name) refl
  where
    go : (b : Bool) → is_in names name ≡ b → (number_or_next names name < length (cond b names (names ++ name ∷ []))) × (length names ≤ length (cond b names (names ++ name ∷ [])))
    go true e =
        let k = number_some names name e in
        let l : k.0 < length names = number_below names name k.0 k.1 in
        let p : number_or_next names name ≡ k.0 = ap (λ o. unwrap_or o (length names)) k.1 in
        (omega (arith, l, p), omega arith)
    go false e =
        let p : number_or_next names name ≡ length names = ap (λ o. unwrap_or o (length names)) (number_none names name e) in
        let l : length (names ++ name ∷ []) ≡ length names + 1 = length-append names (name ∷ []) in
        (omega (arith, l, p), omega (arith, l))

more_columns : (m n : ℕ) → m ≤ n → (row : RowRead) → is_sound_row m row ≡ true → is_sound_row n row ≡ true
more_columns m n l row s =
    let a = and_parts (held_below m row.held) (rises row.held) s in
    and_from (held_below n row.held) (rises row.held)
    (all_more (λ h. nat_lt h.column m) (λ h. nat_lt h.column n) (λ h e. let d : h.column < m = ltb-true h.column m e in lt-ltb h.column n (omega (arith, d, l))) row.held a.0) a.1

-- ---- one line more

none_added : (n : ℕ) → n + 0 ≡ n
none_added n = omega arith

pub row_limit : (b : Bool) (n most : ℕ) → n ≤ most → (not b && nat_le most n) ≡ false → cond b n (n + 1) ≤ most
row_limit true n most h e = h
row_limit false n most h e = one_more true n most h e

column_limit : (b : Bool) (names : List (List ℕ)) (name : List ℕ) (most : ℕ) → length names ≤ most → (not b && nat_le most (length names)) ≡ false → length (cond b names (names ++ name ∷ [])) ≤ most
column_limit true names name most h e = h
column_limit false names name most h e = let l = length-append names (name ∷ []) in let k = one_more true (length names) most h e in omega (arith, l, k)

column_lengths : (b : Bool) (names : List (List ℕ)) (columns : List Bounded) (name : List ℕ) (whole : Bool) → length columns ≡ length names → length (cond b columns (columns ++ unbounded whole ∷ [])) ≡ length (cond b names (names ++ name ∷ []))
column_lengths true names columns name whole e = e
column_lengths false names columns name whole e = length-append columns (unbounded whole ∷ []) ∙ ap (λ n. n + 1) e ∙ sym (length-append names (name ∷ []))

idle_entries : (state : State) → state.entries ≤ most_entries → state.entries + 0 ≤ most_entries
idle_entries state h = subst (λ (n : ℕ). n ≤ most_entries) (sym (none_added state.entries)) h

pub sound_taken : (state : State) (now : Saying) → IsSoundState state → least (tests state now) ≡ None → IsSoundState (taken state now)
sound_taken state (RowLine (Some kind) name) s e =
    let t = kept (tests state (RowLine (Some kind) name)) e in
    let full = t.1.1.1.1.1.1.1.1.1.1.1.1.1.1.1.1.0 in
    record {
      as_many_rows = length-append state.rows (new_row kind ∷ []) ∙ ap (λ n. n + 1) s.as_many_rows ∙ sym (length-append state.row_names (name ∷ []));
      as_many_columns = s.as_many_columns;
      few_rows = row_limit (is_free kind) state.row_count most_rows s.few_rows (left_false _ false full);
      few_columns = s.few_columns;
      few_entries = idle_entries state s.few_entries;
      rows = all_push (is_sound_row (length state.column_names)) state.rows (new_row kind) s.rows refl;
    }
sound_taken state (ColumnLine column whole values) s e =
    let t = kept (tests state (ColumnLine column whole values)) e in
    let again = t.1.1.1.1.1.1.1.1.1.1.0 in
    let together = t.1.1.1.1.1.1.1.1.1.1.1.0 in
    let full = t.1.1.1.1.1.1.1.1.1.1.1.1.1.1.1.1.0 in
    let column_full = left_false (is_column_too_many state.column_names (ColumnLine column whole values)) (is_entry_too_many state.entries (ColumnLine column whole values)) full in
    let entry_full = right_false (is_column_too_many state.column_names (ColumnLine column whole values)) (is_entry_too_many state.entries (ColumnLine column whole values)) full in
    let k = name_known state.column_names column in
    record {
      as_many_rows = put_length (with_held (number_or_next state.column_names column)) state.row_names state.rows values ∙ s.as_many_rows;
      as_many_columns = column_lengths (is_in state.column_names column) state.column_names state.columns column whole s.as_many_columns;
      few_rows = s.few_rows;
      few_columns = column_limit (is_in state.column_names column) state.column_names column most_columns s.few_columns column_full;
      few_entries = ltb-false most_entries (state.entries + entry_count (coefficients_in (ColumnLine column whole values))) entry_full;
      rows =
          put_held (length (with_name state.column_names column)) (number_or_next state.column_names column) state.row_names state.rows values k.0
          (right_false _ (has_twins values) again) (rows_open state column values s (left_false _ (has_twins values) again) together)
          (all_more (is_sound_row (length state.column_names)) (is_sound_row (length (with_name state.column_names column))) (more_columns (length state.column_names) (length (with_name state.column_names column)) k.1) state.rows s.rows);
    }
sound_taken state (RightSideLine set_name values) s e = record {
  as_many_rows = put_length with_right_side state.row_names state.rows values ∙ s.as_many_rows;
  as_many_columns = s.as_many_columns;
  few_rows = s.few_rows;
  few_columns = s.few_columns;
  few_entries = idle_entries state s.few_entries;
  rows = put_all (length state.column_names) with_right_side (λ x row h. h) state.row_names state.rows values s.rows;
}
sound_taken state (RangeLine set_name values) s e = record {
  as_many_rows = put_length with_range state.row_names state.rows values ∙ s.as_many_rows;
  as_many_columns = s.as_many_columns;
  few_rows = s.few_rows;
  few_columns = s.few_columns;
  few_entries = idle_entries state s.few_entries;
  rows = put_all (length state.column_names) with_range (λ x row h. h) state.row_names state.rows values s.rows;
}
sound_taken state (BoundLine kind set_name column value) s e = record {
  as_many_rows = s.as_many_rows;
  as_many_columns = changed_length (unbounded false) state.columns (number_in state.column_names column) (λ b. with_bound b kind value) ∙ s.as_many_columns;
  few_rows = s.few_rows;
  few_columns = s.few_columns;
  few_entries = idle_entries state s.few_entries;
  rows = s.rows;
}
sound_taken state other s e = record {
  as_many_rows = s.as_many_rows;
  as_many_columns = s.as_many_columns;
  few_rows = s.few_rows;
  few_columns = s.few_columns;
  few_entries = idle_entries state s.few_entries;
  rows = s.rows;
}

pub sound_first : IsSoundState (state_of no_place no_facts)
sound_first = record {
  as_many_rows = refl;
  as_many_columns = refl;
  few_rows = lit≤ tt;
  few_columns = lit≤ tt;
  few_entries = lit≤ tt;
  rows = refl;
}
