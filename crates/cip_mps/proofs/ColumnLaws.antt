-- What a line of COLUMNS without fault finds: its rows have no number on its column or behind it.
use Rattle.std.proofs.Common.{◌≡◌, ◌≢◌, ℕ, ◌+◌, true, false, not, ◌&&◌, List, ◌∷◌, length, Option, None, Some, refl, sym, ap, ◌∙◌}
use Rattle.std.specs.Prelude.{nat_lt, nat_le, slice_index_or, unwrap_or, IfSome}
use Rattle.std.specs.Str.{bytes_eq}
use Rattle.std.specs.List.{list_all, list_any}
use Rattle.std.proofs.lemmas.List.{get_or-set_other}
use Rattle.std.proofs.lemmas.Bool.{ltb-false}
use Rattle.cip_problem.specs.Limits.{most_columns, most_entries}
use Rattle.cip_text_rules.specs.MpsWords.{number_in, is_in}
use Rattle.cip_text_rules.specs.MpsSayings.{Value}
use Rattle.cip_text_rules.specs.MpsRules.{least, has_twins, is_before_last}
use Rattle.cip_text_rules.proofs.Quiet.{kept as passes, left_false, right_false}
use Rattle.cip_text_rules.proofs.MpsNames.{same_bytes, number_same}
use Rattle.cip_text_rules.specs.MpsState.{RowRead, State, no_row, item_at, row_at}
use Rattle.cip_text_rules.specs.MpsSteps.{changed, holds, number_or_next}
use Rattle.cip_text_rules.specs.MpsSoundState.{held_below}
use Rattle.cip_text_rules.proofs.SoundState.{below_last}
use Rattle.cip_mps_lines.specs.MpsLines.{second_in}
use Rattle.cip_mps_lines.specs.declared.line.Pair.{Pair}
use Rattle.cip_mps.specs.FoundRows.{second_number}
use Rattle.cip_mps.specs.DraftLines.{entries_in, column_rules}
use Rattle.cip_mps.proofs.RowLaws.{below_at}

-- a row that was found has no number on this column or behind it
abbrev pub IsOpen : ℕ → List RowRead → Option ℕ → Type 0
IsOpen column rows row = IfSome row (λ number. held_below column (slice_index_or rows number no_row).held ≡ true)

-- ---- two rows of one line

-- two names have two numbers
pub other_number : (names : List (List ℕ)) (a b : List ℕ) (i j : ℕ) → number_in names a ≡ Some i → number_in names b ≡ Some j → bytes_eq a b ≡ false → i ≢ j
other_number names a b i j e d t = λ p. let q : bytes_eq a b ≡ true = same_bytes a b (number_same names a b i e (d ∙ ap Some (sym p))) in cc

-- a change of one row leaves another as it is
pub other_row : (rows : List RowRead) (i : Option ℕ) (j : ℕ) (f : RowRead → RowRead) → ((k : ℕ) → i ≡ Some k → k ≢ j) → slice_index_or (changed no_row rows i f) j no_row ≡ slice_index_or rows j no_row
other_row rows None j f h = refl
other_row rows (Some k) j f h = get_or-set_other rows k j (f (slice_index_or rows k no_row)) no_row (λ p. h k refl (sym p))

pub still_open : (column : ℕ) (names : List (List ℕ)) (rows : List RowRead) (a b : List ℕ) (i j : Option ℕ) (f : RowRead → RowRead) → i ≡ number_in names a → j ≡ number_in names b → bytes_eq a b ≡ false → IsOpen column rows j → IsOpen column (changed no_row rows i f) j
still_open column names rows a b i None f e d t o = tt
still_open column names rows a b i (Some j) f e d t o =
    ap (λ row. held_below column row.held) (other_row rows i j f (λ k p. other_number names a b k j (sym e ∙ p) (sym d) t)) ∙ o

-- ---- a line without fault

-- what its tests tell
pub record Passes (state : State) (column : List ℕ) (values : List Value) : Type 0 where
  pub none_held : list_any (λ value. holds (number_in state.column_names column) (row_at state value.row)) values ≡ false
  pub apart : has_twins values ≡ false
  pub last : is_before_last (number_in state.column_names column) (length state.column_names) ≡ false
  pub room : (not (is_in state.column_names column) && nat_le most_columns (length state.column_names)) ≡ false
  pub few : nat_lt most_entries (state.entries + entries_in values) ≡ false

pub passes_column : (state : State) (column : List ℕ) (values : List Value) → least (column_rules state column values) ≡ None → Passes state column values
passes_column state column values e =
    let t = passes (column_rules state column values) e in
    let twice = t.1.1.1.1.0 in
    let over = t.1.1.1.1.1.1.0 in
    record {
      none_held = left_false _ (has_twins values) twice;
      apart = right_false _ (has_twins values) twice;
      last = t.1.1.1.1.1.0;
      room = left_false _ (nat_lt most_entries (state.entries + entries_in values)) over;
      few = right_false (not (is_in state.column_names column) && nat_le most_columns (length state.column_names)) _ over;
    }

open_with : (n : ℕ) (o : Option ℕ) (row : RowRead) → held_below n row.held ≡ true → holds o (Some row) ≡ false → is_before_last o n ≡ false → held_below (unwrap_or o n) row.held ≡ true
open_with n None row b h l = b
open_with n (Some c) row b h l = below_last n c row.held (ltb-false (c + 1) n l) b h

pub row_open : (names : List (List ℕ)) (rows : List RowRead) (column : List ℕ) (row : Option ℕ) → list_all (λ row. held_below (length names) row.held) rows ≡ true → holds (number_in names column) (item_at no_row rows row) ≡ false → is_before_last (number_in names column) (length names) ≡ false → IsOpen (number_or_next names column) rows row
row_open names rows column None b h l = tt
row_open names rows column (Some k) b h l = open_with (length names) (number_in names column) (slice_index_or rows k no_row) (below_at (length names) rows k b) h l

-- ---- the rows of its values

pub first_free : (state : State) (o : Option ℕ) (first : List ℕ) (rest : List Value) (v : Value) (row : Option ℕ) → v.row ≡ first → row ≡ number_in state.row_names first → list_any (λ value. holds o (row_at state value.row)) (v ∷ rest) ≡ false → holds o (item_at no_row state.rows row) ≡ false
first_free state o first rest v row n e h = ap (λ k. holds o (item_at no_row state.rows k)) (e ∙ ap (number_in state.row_names) (sym n)) ∙ left_false _ _ h

nothing_held : (o : Option ℕ) → holds o None ≡ false
nothing_held None = refl
nothing_held (Some k) = refl

pub second_free : (state : State) (o : Option ℕ) (second : Option Pair) (row : Option ℕ) → row ≡ second_number state.row_names second → list_any (λ value. holds o (row_at state value.row)) (second_in second) ≡ false → holds o (item_at no_row state.rows row) ≡ false
second_free state o None row e h = ap (λ k. holds o (item_at no_row state.rows k)) e ∙ nothing_held o
second_free state o (Some pair) row e h = ap (λ k. holds o (item_at no_row state.rows k)) e ∙ left_false _ false h

pub opened : (state : State) (column : List ℕ) (row : Option ℕ) (number : ℕ) (rows : List RowRead) → number ≡ number_or_next state.column_names column → rows ≡ state.rows → list_all (λ row. held_below (length state.column_names) row.held) state.rows ≡ true → holds (number_in state.column_names column) (item_at no_row state.rows row) ≡ false → is_before_last (number_in state.column_names column) (length state.column_names) ≡ false → IsOpen number rows row
opened state column row number rows n r b h l =
    rw (n, r) (row_open state.column_names state.rows column row b h l)
