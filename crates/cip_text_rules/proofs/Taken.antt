-- The state behind a line is the state of the facts behind it.
use Rattle.std.proofs.Common.{◌≡◌, ℕ, ◌+◌, Bool, true, false, not, cond, List, [], ◌∷◌, ◌++◌, length, map, Option, None, Some, refl, sym, ap, ◌∙◌, arith}
use Rattle.std.specs.Prelude.{fold, unwrap_or}
use Rattle.std.specs.Str.{bytes_eq}
use Rattle.std.specs.List.{AllByRecursion, filter}
use Rattle.std.proofs.lemmas.List.{append-nil, append_assoc, map-append, length-append}
use Rattle.std.proofs.lemmas.List.Sums.{fold-append}
use Rattle.std.proofs.lemmas.List.Elements.{filter-append}
use Rattle.cip_rational.specs.Rational.{ℚ}
use Rattle.cip_rational.specs.Numeral.{Numeral}
use Rattle.cip_text_rules.specs.MpsWords.{RowKind, BoundKind, is_in, number_in}
use Rattle.cip_text_rules.specs.MpsSayings.{LinePlace, Value, Saying, RowLine, ColumnLine, RightSideLine, RangeLine, BoundLine, place_after}
use Rattle.cip_text_rules.specs.MpsFacts.{GivenRow, GivenColumn, Coefficient, GivenBound, Facts, facts_with, row_names, names_of, column_names, senses_in, coefficients_in, with_columns}
use Rattle.cip_text_rules.specs.MpsBounds.{Bounded, unbounded, with_bound, bounded_by, bounds_so_far}
use Rattle.cip_text_rules.specs.MpsProgram.{number, first_value, is_free, has_sides, constraints}
use Rattle.cip_text_rules.specs.MpsRules.{entry_count}
use Rattle.cip_text_rules.proofs.Quiet.{Keeps}
use Rattle.cip_text_rules.proofs.MpsNames.{same_bytes, bytes_flip, other_bytes}
use Rattle.cip_text_rules.specs.MpsState.{RowRead, State, no_row, held_on, held_of, value_for, row_read, first_of, state_of}
use Rattle.cip_text_rules.specs.MpsSteps.{or_else, changed, with_held, with_right_side, with_range, put_values, new_row, with_name, with_column, number_or_next, taken}
use Rattle.cip_text_rules.proofs.LookUps.{AreApart, number_in-left, number_in-push, number_some, number_none, changed_map}
use Rattle.std.specs.Option.{option_map}
use Rattle.cip_text_rules.proofs.Good.{Good, IsKnown, column_names_push}
use Rattle.cip_text_rules.proofs.TestsSame.{value_for-append}
use Rattle.cip_text_rules.proofs.Rising.{entry_of}

-- ---- rows, by the lists that they are read from

abbrev read_with : List (List ℕ) → List Coefficient → (right_sides ranges : List Value) → GivenRow → RowRead
read_with columns entries right_sides ranges row = record {
  kind = row.kind;
  held = held_of columns entries row.name;
  right_side = value_for right_sides row.name;
  range = value_for ranges row.name;
}

-- ---- the values of one line

put_fold : (put_one : ℚ → RowRead → RowRead) (rows : List GivenRow) (g : List Value → GivenRow → RowRead) → AreApart (map (λ row. row.name) rows)
    → ((done : List Value) (v : Value) (row : GivenRow) → row.name ≡ v.row → put_one (number v.number) (g done row) ≡ g (done ++ v ∷ []) row)
    → ((done : List Value) (v : Value) (row : GivenRow) → bytes_eq v.row row.name ≡ false → g done row ≡ g (done ++ v ∷ []) row)
    → (done values : List Value) → put_values put_one (map (λ row. row.name) rows) (map (g done) rows) values ≡ map (g (done ++ values)) rows
put_fold put_one rows g apart same other done [] = ap (λ vs. map (g vs) rows) (sym (append-nil done))
put_fold put_one rows g apart same other done (v ∷ vs) =
    ap (λ rs. put_values put_one (map (λ row. row.name) rows) rs vs)
    (changed_map no_row rows (λ row. row.name) (g done) (g (done ++ v ∷ [])) v.row (put_one (number v.number)) apart (same done v) (other done v))
    ∙ put_fold put_one rows g apart same other (done ++ v ∷ []) vs
    ∙ ap (λ ws. map (g ws) rows) (append_assoc done (v ∷ []) vs)

-- ---- numbers of COLUMNS

held_of-append : (columns : List (List ℕ)) (xs ys : List Coefficient) (row : List ℕ) → held_of columns (xs ++ ys) row ≡ held_of columns xs row ++ held_of columns ys row
held_of-append columns [] ys row = refl
held_of-append columns (x ∷ xs) ys row =
    ap (λ hs. cond (bytes_eq row x.row) (held_on (number_in columns x.column) (number x.number)) [] ++ hs) (held_of-append columns xs ys row)
    ∙ sym (append_assoc (cond (bytes_eq row x.row) (held_on (number_in columns x.column) (number x.number)) []) (held_of columns xs row) (held_of columns ys row))

one_held : (columns : List (List ℕ)) (column : List ℕ) (k : ℕ) (v : Value) (row : List ℕ) → number_in columns column ≡ Some k → row ≡ v.row
    → held_of columns (entry_of column v ∷ []) row ≡ record { column = k; value = number v.number } ∷ []
one_held columns column k v row e d = (λ i. cond ((same_bytes row v.row d) i) (held_on (e i) (number v.number)) [] ++ [])

no_held : (columns : List (List ℕ)) (column : List ℕ) (v : Value) (row : List ℕ) → bytes_eq v.row row ≡ false → held_of columns (entry_of column v ∷ []) row ≡ []
no_held columns column v row e = ap (λ b. cond b (held_on (number_in columns column) (number v.number)) [] ++ []) (bytes_flip row v.row ∙ e)

entries_more : (entries : List Coefficient) (column : List ℕ) (done : List Value) (v : Value) → entries ++ map (entry_of column) (done ++ v ∷ []) ≡ (entries ++ map (entry_of column) done) ++ entry_of column v ∷ []
entries_more entries column done v = ap (λ ys. entries ++ ys) (map-append (entry_of column) done (v ∷ [])) ∙ sym (append_assoc entries (map (entry_of column) done) (entry_of column v ∷ []))

columns_put : (columns : List (List ℕ)) (entries : List Coefficient) (rs rg : List Value) (rows : List GivenRow) (column : List ℕ) (k : ℕ) (values : List Value)
    → AreApart (map (λ row. row.name) rows) → number_in columns column ≡ Some k
    → put_values (with_held k) (map (λ row. row.name) rows) (map (read_with columns entries rs rg) rows) values ≡ map (read_with columns (entries ++ map (entry_of column) values) rs rg) rows
columns_put columns entries rs rg rows column k values apart e =
    ap (λ es. put_values (with_held k) (map (λ row. row.name) rows) (map (read_with columns es rs rg) rows) values) (sym (append-nil entries))
    ∙ put_fold (with_held k) rows (λ done. read_with columns (entries ++ map (entry_of column) done) rs rg) apart same other [] values
  where
    more : (done : List Value) (v : Value) (row : List ℕ) → held_of columns (entries ++ map (entry_of column) (done ++ v ∷ [])) row ≡ held_of columns (entries ++ map (entry_of column) done) row ++ held_of columns (entry_of column v ∷ []) row
    more done v row = ap (λ es. held_of columns es row) (entries_more entries column done v) ∙ held_of-append columns (entries ++ map (entry_of column) done) (entry_of column v ∷ []) row

    same : (done : List Value) (v : Value) (row : GivenRow) → row.name ≡ v.row → with_held k (number v.number) (read_with columns (entries ++ map (entry_of column) done) rs rg row) ≡ read_with columns (entries ++ map (entry_of column) (done ++ v ∷ [])) rs rg row
    same done v row d =
        let p = more done v row.name ∙ ap (λ hs. held_of columns (entries ++ map (entry_of column) done) row.name ++ hs) (one_held columns column k v row.name e d) in
        λ i. record { kind = row.kind; held = (sym p) i; right_side = value_for rs row.name; range = value_for rg row.name }

    other : (done : List Value) (v : Value) (row : GivenRow) → bytes_eq v.row row.name ≡ false → read_with columns (entries ++ map (entry_of column) done) rs rg row ≡ read_with columns (entries ++ map (entry_of column) (done ++ v ∷ [])) rs rg row
    other done v row d =
        let p = more done v row.name ∙ ap (λ hs. held_of columns (entries ++ map (entry_of column) done) row.name ++ hs) (no_held columns column v row.name d) ∙ append-nil (held_of columns (entries ++ map (entry_of column) done) row.name) in
        λ i. record { kind = row.kind; held = (sym p) i; right_side = value_for rs row.name; range = value_for rg row.name }

-- ---- values of RHS and RANGES

or_else-none : {X : Type 0} (o : Option X) → or_else o None ≡ o
or_else-none None = refl
or_else-none (Some x) = refl

value_more : (xs done : List Value) (v : Value) (row : List ℕ) → value_for (xs ++ (done ++ v ∷ [])) row ≡ or_else (value_for (xs ++ done) row) (value_for (v ∷ []) row)
value_more xs done v row = ap (λ ys. value_for ys row) (sym (append_assoc xs done (v ∷ []))) ∙ value_for-append (xs ++ done) (v ∷ []) row

this_value : (xs done : List Value) (v : Value) (row : List ℕ) → row ≡ v.row → or_else (value_for (xs ++ done) row) (Some (number v.number)) ≡ value_for (xs ++ (done ++ v ∷ [])) row
this_value xs done v row d =
    sym (value_more xs done v row ∙ ap (λ b. or_else (value_for (xs ++ done) row) (option_map number (cond b (Some v.number) None))) (same_bytes row v.row d))

other_value : (xs done : List Value) (v : Value) (row : List ℕ) → bytes_eq v.row row ≡ false → value_for (xs ++ done) row ≡ value_for (xs ++ (done ++ v ∷ [])) row
other_value xs done v row d =
    sym (value_more xs done v row ∙ ap (λ b. or_else (value_for (xs ++ done) row) (option_map number (cond b (Some v.number) None))) (bytes_flip row v.row ∙ d) ∙ or_else-none (value_for (xs ++ done) row))

right_sides_put : (columns : List (List ℕ)) (entries : List Coefficient) (rs rg : List Value) (rows : List GivenRow) (values : List Value) → AreApart (map (λ row. row.name) rows)
    → put_values with_right_side (map (λ row. row.name) rows) (map (read_with columns entries rs rg) rows) values ≡ map (read_with columns entries (rs ++ values) rg) rows
right_sides_put columns entries rs rg rows values apart =
    ap (λ xs. put_values with_right_side (map (λ row. row.name) rows) (map (read_with columns entries xs rg) rows) values) (sym (append-nil rs))
    ∙ put_fold with_right_side rows (λ done. read_with columns entries (rs ++ done) rg) apart
    (λ done v row d. λ i. record { kind = row.kind; held = held_of columns entries row.name; right_side = (this_value rs done v row.name d) i; range = value_for rg row.name })
    (λ done v row d. λ i. record { kind = row.kind; held = held_of columns entries row.name; right_side = (other_value rs done v row.name d) i; range = value_for rg row.name }) [] values

ranges_put : (columns : List (List ℕ)) (entries : List Coefficient) (rs rg : List Value) (rows : List GivenRow) (values : List Value) → AreApart (map (λ row. row.name) rows)
    → put_values with_range (map (λ row. row.name) rows) (map (read_with columns entries rs rg) rows) values ≡ map (read_with columns entries rs (rg ++ values)) rows
ranges_put columns entries rs rg rows values apart =
    ap (λ xs. put_values with_range (map (λ row. row.name) rows) (map (read_with columns entries rs xs) rows) values) (sym (append-nil rg))
    ∙ put_fold with_range rows (λ done. read_with columns entries rs (rg ++ done)) apart
    (λ done v row d. λ i. record { kind = row.kind; held = held_of columns entries row.name; right_side = value_for rs row.name; range = (this_value rg done v row.name d) i })
    (λ done v row d. λ i. record { kind = row.kind; held = held_of columns entries row.name; right_side = value_for rs row.name; range = (other_value rg done v row.name d) i }) [] values

-- ---- a new column

held_kept : (rows columns more : List (List ℕ)) (entries : List Coefficient) (row : List ℕ) → AllByRecursion (IsKnown rows columns) entries → held_of columns entries row ≡ held_of (columns ++ more) entries row
held_kept rows columns more [] row h = refl
held_kept rows columns more (x ∷ xs) row h =
    let e : number_in columns x.column ≡ number_in (columns ++ more) x.column = sym (number_in-left columns more x.column h.0.column) in
    let d : held_of columns xs row ≡ held_of (columns ++ more) xs row = held_kept rows columns more xs row h.1 in
    λ i. cond (bytes_eq row x.row) (held_on (e i) (number x.number)) [] ++ d i

names_with : (columns : List GivenColumn) (c : GivenColumn) → with_name (names_of columns) c.name ≡ names_of (with_columns columns (c ∷ []))
names_with columns c = go (is_in (names_of columns) c.name)
  where
    go : (b : Bool) → cond b (names_of columns) (names_of columns ++ c.name ∷ []) ≡ names_of (cond b columns (columns ++ c ∷ []))
    go true = refl
    go false = sym (column_names_push columns c)

number_with : (columns : List GivenColumn) (c : GivenColumn) → number_in (names_of (with_columns columns (c ∷ []))) c.name ≡ Some (number_or_next (names_of columns) c.name)
number_with columns c = go (is_in (names_of columns) c.name) refl
  where
    go : (b : Bool) → is_in (names_of columns) c.name ≡ b → number_in (names_of (cond b columns (columns ++ c ∷ []))) c.name ≡ Some (unwrap_or (number_in (names_of columns) c.name) (length (names_of columns)))
    go true e = let n = number_some (names_of columns) c.name e in n.1 ∙ ap (λ o. Some (unwrap_or o (length (names_of columns)))) (sym n.1)
    go false e =
        ap (λ names. number_in names c.name) (column_names_push columns c) ∙ number_in-push (names_of columns) c.name e
        ∙ ap (λ o. Some (unwrap_or o (length (names_of columns)))) (sym (none_number_of (names_of columns) c.name e))
      where
        none_number_of : (xs : List (List ℕ)) (name : List ℕ) → is_in xs name ≡ false → number_in xs name ≡ None
        none_number_of xs name e = number_none xs name e

held_same : (facts : Facts) (c : GivenColumn) (row : List ℕ) → Good facts → held_of (column_names facts) facts.coefficients row ≡ held_of (names_of (with_columns facts.columns (c ∷ []))) facts.coefficients row
held_same facts c row g = go (is_in (column_names facts) c.name)
  where
    go : (b : Bool) → held_of (column_names facts) facts.coefficients row ≡ held_of (names_of (cond b facts.columns (facts.columns ++ c ∷ []))) facts.coefficients row
    go true = refl
    go false =
        held_kept (row_names facts) (column_names facts) (c.name ∷ []) facts.coefficients row g.entries_known
        ∙ ap (λ names. held_of names facts.coefficients row) (sym (column_names_push facts.columns c))

-- the bounds of a column that no record names
no_bounds : (columns : List (List ℕ)) (bounds : List GivenBound) (name : List ℕ) (b : Bounded) → AllByRecursion (λ bound. is_in columns bound.column ≡ true) bounds → is_in columns name ≡ false → fold (bounded_by name) b bounds ≡ b
no_bounds columns [] name b h e = refl
no_bounds columns (x ∷ xs) name b h e =
    ap (λ t. fold (bounded_by name) (cond t (with_bound b x.kind x.value) b) xs)
    (other_bytes name x.column (λ p. let q : is_in columns name ≡ true = ap (is_in columns) p ∙ h.0 in cc))
    ∙ no_bounds columns xs name b h.1 e

columns_with : (facts : Facts) (c : GivenColumn) → Good facts → with_column (column_names facts) (map (bounds_so_far facts) facts.columns) c.name c.whole ≡ map (bounds_so_far facts) (with_columns facts.columns (c ∷ []))
columns_with facts c g = go (is_in (column_names facts) c.name) refl
  where
    go : (b : Bool) → is_in (column_names facts) c.name ≡ b → cond b (map (bounds_so_far facts) facts.columns) (map (bounds_so_far facts) facts.columns ++ unbounded c.whole ∷ []) ≡ map (bounds_so_far facts) (cond b facts.columns (facts.columns ++ c ∷ []))
    go true e = refl
    go false e =
        ap (λ x. map (bounds_so_far facts) facts.columns ++ x ∷ []) (sym (no_bounds (column_names facts) facts.bounds c.name (unbounded c.whole) g.bounds_known e))
        ∙ sym (map-append (bounds_so_far facts) facts.columns (c ∷ []))

-- one bound more
bound_put : (facts : Facts) (kind : BoundKind) (column : List ℕ) (value : Numeral) → AreApart (column_names facts)
    → changed (unbounded false) (map (bounds_so_far facts) facts.columns) (number_in (column_names facts) column) (λ b. with_bound b kind value)
    ≡ map (λ c. fold (bounded_by c.name) (unbounded c.whole) (facts.bounds ++ record { kind = kind; column = column; value = value } ∷ [])) facts.columns
bound_put facts kind column value apart =
    changed_map (unbounded false) facts.columns (λ c. c.name) (bounds_so_far facts) _ column (λ b. with_bound b kind value) apart
    (λ c e. sym (more c ∙ ap (λ t. cond t (with_bound (bounds_so_far facts c) kind value) (bounds_so_far facts c)) (same_bytes c.name column e)))
    (λ c e. sym (more c ∙ ap (λ t. cond t (with_bound (bounds_so_far facts c) kind value) (bounds_so_far facts c)) (bytes_flip c.name column ∙ e)))
  where
    more : (c : GivenColumn) → fold (bounded_by c.name) (unbounded c.whole) (facts.bounds ++ record { kind = kind; column = column; value = value } ∷ []) ≡ bounded_by c.name (bounds_so_far facts c) (record { kind = kind; column = column; value = value })
    more c = fold-append (bounded_by c.name) (unbounded c.whole) facts.bounds (record { kind = kind; column = column; value = value } ∷ [])

-- ---- a new row

new_held : (rows columns : List (List ℕ)) (entries : List Coefficient) (row : List ℕ) → AllByRecursion (IsKnown rows columns) entries → is_in rows row ≡ false → held_of columns entries row ≡ []
new_held rows columns [] row h e = refl
new_held rows columns (x ∷ xs) row h e =
    ap (λ b. cond b (held_on (number_in columns x.column) (number x.number)) [] ++ held_of columns xs row)
    (other_bytes row x.row (λ p. let q : is_in rows row ≡ true = ap (is_in rows) p ∙ h.0.row in cc))
    ∙ new_held rows columns xs row h.1 e

new_value : (rows : List (List ℕ)) (values : List Value) (row : List ℕ) → AllByRecursion (λ value. is_in rows value.row ≡ true) values → is_in rows row ≡ false → value_for values row ≡ None
new_value rows [] row h e = refl
new_value rows (v ∷ vs) row h e =
    ap (λ b. option_map number (cond b (Some v.number) (first_value vs row)))
    (other_bytes row v.row (λ p. let q : is_in rows row ≡ true = ap (is_in rows) p ∙ h.0 in cc))
    ∙ new_value rows vs row h.1 e

new_read : (facts : Facts) (kind : RowKind) (name : List ℕ) → Good facts → is_in (row_names facts) name ≡ false → new_row kind ≡ row_read facts (record { kind = kind; name = name })
new_read facts kind name g e =
    let p = new_held (row_names facts) (column_names facts) facts.coefficients name g.entries_known e in
    let q = new_value (row_names facts) facts.right_sides name g.right_sides_known e in
    let r = new_value (row_names facts) facts.ranges name g.ranges_known e in
    λ i. record { kind = kind; held = (sym p) i; right_side = (sym q) i; range = (sym r) i }

-- ---- all fields

same_state : (s t : State) → s.place ≡ t.place → s.opened ≡ t.opened → s.sense ≡ t.sense → s.row_names ≡ t.row_names → s.rows ≡ t.rows → s.column_names ≡ t.column_names → s.columns ≡ t.columns → s.row_count ≡ t.row_count → s.entries ≡ t.entries → s ≡ t
same_state s t a b c d e f g h j = λ i. record {
  place = a i;
  opened = b i;
  sense = c i;
  row_names = d i;
  rows = e i;
  column_names = f i;
  columns = g i;
  row_count = h i;
  entries = j i;
}

sense_more : (xs ys : List Bool) → or_else (first_of xs) (first_of ys) ≡ first_of (xs ++ ys)
sense_more [] ys = refl
sense_more (x ∷ xs) ys = refl

entries_count : (xs ys : List Coefficient) → entry_count xs + entry_count ys ≡ entry_count (xs ++ ys)
entries_count xs ys = sym (ap length (filter-append _ xs ys) ∙ length-append (filter _ xs) (filter _ ys))

names_idle : (facts : Facts) → row_names facts ≡ map (λ row. row.name) (facts.rows ++ [])
names_idle facts = ap (map (λ row. row.name)) (sym (append-nil facts.rows))

rows_idle : (facts : Facts) (rows : List GivenRow) → map (row_read facts) rows ≡ map (read_with (column_names facts) (facts.coefficients ++ []) (facts.right_sides ++ []) (facts.ranges ++ [])) rows
rows_idle facts rows =
    let c = append-nil facts.coefficients in
    let r = append-nil facts.right_sides in
    let g = append-nil facts.ranges in
    λ i. map (read_with (column_names facts) ((sym c) i) ((sym r) i) ((sym g) i)) rows

rows_calm : (facts : Facts) → map (row_read facts) facts.rows ≡ map (read_with (column_names facts) (facts.coefficients ++ []) (facts.right_sides ++ []) (facts.ranges ++ [])) (facts.rows ++ [])
rows_calm facts = rows_idle facts facts.rows ∙ ap (map (read_with (column_names facts) (facts.coefficients ++ []) (facts.right_sides ++ []) (facts.ranges ++ []))) (sym (append-nil facts.rows))

columns_idle : (facts : Facts) (columns : List GivenColumn) → map (bounds_so_far facts) columns ≡ map (λ c. fold (bounded_by c.name) (unbounded c.whole) (facts.bounds ++ [])) columns
columns_idle facts columns = ap (λ bs. map (λ c. fold (bounded_by c.name) (unbounded c.whole) bs) columns) (sym (append-nil facts.bounds))

count_idle : (facts : Facts) → length (constraints facts) ≡ length (filter has_sides (facts.rows ++ []))
count_idle facts = ap (λ rows. length (filter has_sides rows)) (sym (append-nil facts.rows))

count_more : (facts : Facts) (kind : RowKind) (name : List ℕ) → cond (is_free kind) (length (constraints facts)) (length (constraints facts) + 1) ≡ length (filter has_sides (facts.rows ++ record { kind = kind; name = name } ∷ []))
count_more facts kind name = go (is_free kind) ∙ sym (ap length (filter-append has_sides facts.rows (record { kind = kind; name = name } ∷ [])) ∙ length-append (filter has_sides facts.rows) (filter has_sides (record { kind = kind; name = name } ∷ [])))
  where
    go : (b : Bool) → cond b (length (constraints facts)) (length (constraints facts) + 1) ≡ length (constraints facts) + length {A = GivenRow} (cond (not b) (record { kind = kind; name = name } ∷ []) [])
    go true = omega arith
    go false = refl

map_same : {X Y : Type 0} (f g : X → Y) → ((x : X) → f x ≡ g x) → (xs : List X) → map f xs ≡ map g xs
map_same f g h [] = refl
map_same f g h (x ∷ xs) = let e : f x ≡ g x = h x in let d : map f xs ≡ map g xs = map_same f g h xs in λ i. e i ∷ d i

column_rows : (facts : Facts) (column : List ℕ) (whole : Bool) (values : List Value) → Good facts
    → put_values (with_held (number_or_next (column_names facts) column)) (row_names facts) (map (row_read facts) facts.rows) values
    ≡ map (read_with (names_of (with_columns facts.columns (record { name = column; whole = whole } ∷ []))) (facts.coefficients ++ map (entry_of column) values) (facts.right_sides ++ []) (facts.ranges ++ [])) (facts.rows ++ [])
column_rows facts column whole values g =
    ap (λ rows. put_values (with_held (number_or_next (column_names facts) column)) (row_names facts) rows values)
    (map_same (row_read facts) (read_with names facts.coefficients facts.right_sides facts.ranges)
    (λ row. let p = held_same facts c row.name g in λ i. record { kind = row.kind; held = p i; right_side = value_for facts.right_sides row.name; range = value_for facts.ranges row.name }) facts.rows)
    ∙ columns_put names facts.coefficients facts.right_sides facts.ranges facts.rows column (number_or_next (column_names facts) column) values g.rows_apart (number_with facts.columns c)
    ∙ (let r = append-nil facts.right_sides in let t = append-nil facts.ranges in let u = append-nil facts.rows in
    λ i. map (read_with names (facts.coefficients ++ map (entry_of column) values) ((sym r) i) ((sym t) i)) ((sym u) i))
  where
    c : GivenColumn
    c = record { name = column; whole = whole }

    names : List (List ℕ)
    names = names_of (with_columns facts.columns (record { name = column; whole = whole } ∷ []))

pub taken_is : (place : LinePlace) (facts : Facts) (now : Saying) → Keeps facts now → Good facts → taken (state_of place facts) now ≡ state_of (place_after place now) (facts_with facts now)
taken_is place facts (RowLine (Some kind) name) k g =
    same_state _ _ refl refl (sense_more facts.senses (senses_in (RowLine (Some kind) name)))
    (sym (map-append (λ row. row.name) facts.rows (record { kind = kind; name = name } ∷ [])))
    (ap (λ x. map (row_read facts) facts.rows ++ x ∷ []) (new_read facts kind name g k.new_row)
    ∙ sym (map-append (row_read facts) facts.rows (record { kind = kind; name = name } ∷ []))
    ∙ rows_idle facts (facts.rows ++ record { kind = kind; name = name } ∷ []))
    refl (columns_idle facts facts.columns) (count_more facts kind name) (entries_count facts.coefficients (coefficients_in (RowLine (Some kind) name)))
taken_is place facts (ColumnLine column whole values) k g =
    same_state _ _ refl refl (sense_more facts.senses (senses_in (ColumnLine column whole values))) (names_idle facts)
    (column_rows facts column whole values g)
    (names_with facts.columns (record { name = column; whole = whole }))
    (columns_with facts (record { name = column; whole = whole }) g ∙ columns_idle facts (with_columns facts.columns (record { name = column; whole = whole } ∷ [])))
    (count_idle facts) (entries_count facts.coefficients (coefficients_in (ColumnLine column whole values)))
taken_is place facts (RightSideLine set_name values) k g =
    same_state _ _ refl refl (sense_more facts.senses (senses_in (RightSideLine set_name values))) (names_idle facts)
    (right_sides_put (column_names facts) facts.coefficients facts.right_sides facts.ranges facts.rows values g.rows_apart
    ∙ (let e = append-nil facts.coefficients in let t = append-nil facts.ranges in let u = append-nil facts.rows in
    λ i. map (read_with (column_names facts) ((sym e) i) (facts.right_sides ++ values) ((sym t) i)) ((sym u) i)))
    refl (columns_idle facts facts.columns) (count_idle facts) (entries_count facts.coefficients (coefficients_in (RightSideLine set_name values)))
taken_is place facts (RangeLine set_name values) k g =
    same_state _ _ refl refl (sense_more facts.senses (senses_in (RangeLine set_name values))) (names_idle facts)
    (ranges_put (column_names facts) facts.coefficients facts.right_sides facts.ranges facts.rows values g.rows_apart
    ∙ (let e = append-nil facts.coefficients in let t = append-nil facts.right_sides in let u = append-nil facts.rows in
    λ i. map (read_with (column_names facts) ((sym e) i) ((sym t) i) (facts.ranges ++ values)) ((sym u) i)))
    refl (columns_idle facts facts.columns) (count_idle facts) (entries_count facts.coefficients (coefficients_in (RangeLine set_name values)))
taken_is place facts (BoundLine kind set_name column value) k g =
    same_state _ _ refl refl (sense_more facts.senses (senses_in (BoundLine kind set_name column value))) (names_idle facts) (rows_calm facts)
    refl (bound_put facts kind column value g.columns_apart) (count_idle facts) (entries_count facts.coefficients (coefficients_in (BoundLine kind set_name column value)))
taken_is place facts other k g =
    same_state (taken (state_of place facts) other) (state_of (place_after place other) (facts_with facts other))
    refl refl (sense_more facts.senses (senses_in other)) (names_idle facts) (rows_calm facts)
    refl (columns_idle facts facts.columns) (count_idle facts) (entries_count facts.coefficients (coefficients_in other))
