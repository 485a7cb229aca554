-- What holds of the facts where no line breaks a rule.
use Rattle.std.proofs.Common.{◌≡◌, ℕ, Bool, true, false, not, cond, List, [], ◌∷◌, ◌++◌, map, Some, refl, sym, ap, subst, ◌∙◌}
use Rattle.std.specs.List.{AllByRecursion, list_any}
use Rattle.std.proofs.lemmas.List.{map-append, append-nil}
use Rattle.cip_text_rules.specs.MpsWords.{is_in, is_no_number, is_huge, is_too_fine}
use Rattle.cip_text_rules.specs.MpsSayings.{Value, Saying, RowLine, ColumnLine, RightSideLine, RangeLine, BoundLine}
use Rattle.cip_text_rules.specs.MpsFacts.{GivenRow, GivenColumn, Coefficient, Facts, no_facts, facts_with, row_names, names_of, column_names, rows_in, columns_in, coefficients_in, right_sides_in, ranges_in, bounds_in, with_columns}
use Rattle.cip_text_rules.specs.MpsRules.{values_in, numbers_in, has_wide_side}
use Rattle.cip_text_rules.proofs.Quiet.{Keeps, left_false, right_false}
use Rattle.cip_text_rules.proofs.Told.{IsTold, AreSound, AreTold, are_told}
use Rattle.cip_text_rules.proofs.LookUps.{all_weaker, is_in-left, is_in-push, AreApart, apart_push}
use Rattle.cip_text_rules.proofs.LineBytes.{all_append}
use Rattle.cip_text_rules.proofs.BlockLaws.{not_false}

pub record IsKnown (rows columns : List (List ℕ)) (entry : Coefficient) : Type 0 where
  pub row : is_in rows entry.row ≡ true
  pub column : is_in columns entry.column ≡ true

pub record Good (facts : Facts) : Type 0 where
  pub rows_apart : AreApart (row_names facts)
  pub columns_apart : AreApart (column_names facts)
  pub entries_known : AllByRecursion (IsKnown (row_names facts) (column_names facts)) facts.coefficients
  pub entries_told : AllByRecursion (λ entry. IsTold entry.number) facts.coefficients
  pub right_sides_known : AllByRecursion (λ value. is_in (row_names facts) value.row ≡ true) facts.right_sides
  pub ranges_known : AllByRecursion (λ value. is_in (row_names facts) value.row ≡ true) facts.ranges
  pub ranges_told : AreTold facts.ranges
  pub bounds_known : AllByRecursion (λ bound. is_in (column_names facts) bound.column ≡ true) facts.bounds

pub good_first : Good no_facts
good_first = record {
  rows_apart = tt;
  columns_apart = tt;
  entries_known = tt;
  entries_told = tt;
  right_sides_known = tt;
  ranges_known = tt;
  ranges_told = tt;
  bounds_known = tt;
}

-- ---- names behind a line

pub row_names_with : (facts : Facts) (now : Saying) → row_names (facts_with facts now) ≡ row_names facts ++ map (λ row. row.name) (rows_in now)
row_names_with facts now = map-append (λ row. row.name) facts.rows (rows_in now)

pub column_names_push : (columns : List GivenColumn) (column : GivenColumn) → names_of (columns ++ column ∷ []) ≡ names_of columns ++ column.name ∷ []
column_names_push columns column = map-append (λ c. c.name) columns (column ∷ [])

row_kept : (facts : Facts) (now : Saying) (name : List ℕ) → is_in (row_names facts) name ≡ true → is_in (row_names (facts_with facts now)) name ≡ true
row_kept facts now name e = ap (λ names. is_in names name) (row_names_with facts now) ∙ is_in-left (row_names facts) (map (λ row. row.name) (rows_in now)) name e

column_kept : (columns new : List GivenColumn) (name : List ℕ) → is_in (names_of columns) name ≡ true → is_in (names_of (with_columns columns new)) name ≡ true
column_kept columns [] name e = e
column_kept columns (c ∷ others) name e = go (is_in (names_of columns) c.name)
  where
    go : (b : Bool) → is_in (names_of (cond b columns (columns ++ c ∷ []))) name ≡ true
    go true = e
    go false = ap (λ names. is_in names name) (column_names_push columns c) ∙ is_in-left (names_of columns) (c.name ∷ []) name e

column_added : (columns : List GivenColumn) (c : GivenColumn) → is_in (names_of (with_columns columns (c ∷ []))) c.name ≡ true
column_added columns c = go (is_in (names_of columns) c.name) refl
  where
    go : (b : Bool) → is_in (names_of columns) c.name ≡ b → is_in (names_of (cond b columns (columns ++ c ∷ []))) c.name ≡ true
    go true e = e
    go false e = ap (λ names. is_in names c.name) (column_names_push columns c) ∙ is_in-push (names_of columns) c.name

-- ---- one line more

rows_apart_with : (facts : Facts) (now : Saying) → Keeps facts now → AreApart (row_names facts) → AreApart (row_names (facts_with facts now))
rows_apart_with facts (RowLine (Some kind) name) k h =
    subst AreApart (sym (row_names_with facts (RowLine (Some kind) name))) (apart_push (row_names facts) name h k.new_row)
rows_apart_with facts other k h = subst (λ (rows : List GivenRow). AreApart (map (λ row. row.name) rows)) (sym (append-nil facts.rows)) h

columns_apart_with : (columns new : List GivenColumn) → AreApart (names_of columns) → AreApart (names_of (with_columns columns new))
columns_apart_with columns [] h = h
columns_apart_with columns (c ∷ others) h = go (is_in (names_of columns) c.name) refl
  where
    go : (b : Bool) → is_in (names_of columns) c.name ≡ b → AreApart (names_of (cond b columns (columns ++ c ∷ [])))
    go true e = h
    go false e = subst AreApart (sym (column_names_push columns c)) (apart_push (names_of columns) c.name h e)

values_known : (names : List (List ℕ)) (values : List Value) → list_any (λ value. not (is_in names value.row)) values ≡ false → AllByRecursion (λ value. is_in names value.row ≡ true) values
values_known names [] e = tt
values_known names (v ∷ vs) e = (not_false (is_in names v.row) (left_false _ _ e), values_known names vs (right_false _ _ e))

entries_of : (P : Coefficient → Type 0) (column : List ℕ) (values : List Value) → AllByRecursion (λ value. P (record { column = column; row = value.row; number = value.number })) values → AllByRecursion P (map (λ value. record { column = column; row = value.row; number = value.number }) values)
entries_of P column [] h = tt
entries_of P column (v ∷ vs) h = (h.0, entries_of P column vs h.1)

new_known : (facts : Facts) (now : Saying) → Keeps facts now → AllByRecursion (IsKnown (row_names (facts_with facts now)) (column_names (facts_with facts now))) (coefficients_in now)
new_known facts (ColumnLine column whole values) k =
    entries_of (IsKnown (row_names (facts_with facts now)) (column_names (facts_with facts now))) column values
    (all_weaker (λ value. is_in (row_names facts) value.row ≡ true) _
    (λ value e. record { row = row_kept facts now value.row e; column = column_added facts.columns (record { name = column; whole = whole }) })
    values (values_known (row_names facts) values k.known_rows))
  where
    now : Saying
    now = ColumnLine column whole values
new_known facts other k = tt

-- the numbers of a line with values are told
values_told : (facts : Facts) (now : Saying) (values : List Value) → values_in now ≡ values → numbers_in now ≡ map (λ value. value.number) values → Keeps facts now → AreSound values → AreTold values
values_told facts now values e d k h =
    are_told values h (subst (λ ns. list_any is_no_number ns ≡ false) d k.numbers) (subst (λ vs. list_any (λ value. is_huge value.number) vs ≡ false) e (left_false _ (has_wide_side facts now) k.not_huge)) (subst (λ ns. list_any is_too_fine ns ≡ false) d k.not_fine)

new_told : (facts : Facts) (now : Saying) → Keeps facts now → AreSound (values_in now) → AllByRecursion (λ entry. IsTold entry.number) (coefficients_in now)
new_told facts (ColumnLine column whole values) k h =
    entries_of (λ entry. IsTold entry.number) column values (values_told facts (ColumnLine column whole values) values refl refl k h)
new_told facts other k h = tt

new_right_sides : (facts : Facts) (now : Saying) → Keeps facts now → AllByRecursion (λ value. is_in (row_names facts) value.row ≡ true) (right_sides_in now)
new_right_sides facts (RightSideLine set_name values) k = values_known (row_names facts) values k.known_rows
new_right_sides facts other k = tt

new_ranges : (facts : Facts) (now : Saying) → Keeps facts now → AllByRecursion (λ value. is_in (row_names facts) value.row ≡ true) (ranges_in now)
new_ranges facts (RangeLine set_name values) k = values_known (row_names facts) values k.known_rows
new_ranges facts other k = tt

new_ranges_told : (facts : Facts) (now : Saying) → Keeps facts now → AreSound (values_in now) → AreTold (ranges_in now)
new_ranges_told facts (RangeLine set_name values) k h = values_told facts (RangeLine set_name values) values refl refl k h
new_ranges_told facts other k h = tt

new_bounds : (facts : Facts) (now : Saying) → Keeps facts now → AllByRecursion (λ bound. is_in (column_names facts) bound.column ≡ true) (bounds_in now)
new_bounds facts (BoundLine kind set_name column value) k = (not_false (is_in (column_names facts) column) k.known_column, tt)
new_bounds facts other k = tt

pub good_with : (facts : Facts) (now : Saying) → Keeps facts now → AreSound (values_in now) → Good facts → Good (facts_with facts now)
good_with facts now k s g = record {
  rows_apart = rows_apart_with facts now k g.rows_apart;
  columns_apart = columns_apart_with facts.columns (columns_in now) g.columns_apart;
  entries_known =
      all_append _ facts.coefficients (coefficients_in now)
      (all_weaker (IsKnown (row_names facts) (column_names facts)) _
      (λ entry e. record { row = row_kept facts now entry.row e.row; column = column_kept facts.columns (columns_in now) entry.column e.column })
      facts.coefficients g.entries_known) (new_known facts now k);
  entries_told = all_append (λ entry. IsTold entry.number) facts.coefficients (coefficients_in now) g.entries_told (new_told facts now k s);
  right_sides_known =
      all_weaker (λ value. is_in (row_names facts) value.row ≡ true) _ (λ value e. row_kept facts now value.row e) _
      (all_append _ facts.right_sides (right_sides_in now) g.right_sides_known (new_right_sides facts now k));
  ranges_known =
      all_weaker (λ value. is_in (row_names facts) value.row ≡ true) _ (λ value e. row_kept facts now value.row e) _
      (all_append _ facts.ranges (ranges_in now) g.ranges_known (new_ranges facts now k));
  ranges_told = all_append (λ value. IsTold value.number) facts.ranges (ranges_in now) g.ranges_told (new_ranges_told facts now k s);
  bounds_known =
      all_weaker (λ bound. is_in (column_names facts) bound.column ≡ true) _ (λ bound e. column_kept facts.columns (columns_in now) bound.column e) _
      (all_append _ facts.bounds (bounds_in now) g.bounds_known (new_bounds facts now k));
}
