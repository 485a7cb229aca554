-- The rows of the program, made of one group of rows.
--     put_numbers rows entries      rows with the numbers of a group behind their terms
--     follow rows entries      whether each of these numbers may stand there
--     kept_rows heads rows      those rows that aren't of type N
use Rattle.std.specs.Prelude.{nat_lt, Bool, true, ◌&&◌, if◌then◌else◌, List, [], ◌∷◌, ◌++◌, None, slice_index_or, slice_set}
use Rattle.std.specs.List.{list_all}
use Rattle.cip_problem.specs.Program.{Term, Sides, Row, no_row}
use Rattle.cip_text_rules.specs.MpsProgram.{is_free, row_with}
use Rattle.cip_text_rules.specs.MpsState.{RowRead, is_kept, sides_with, right_side_of, terms_from}
use Rattle.cip_mps.specs.Entries.{Entry}

-- the sides of a row, open ones where it is of type N
abbrev pub sides_or_open : RowRead → Sides
sides_or_open row =
    if is_free row.kind then record { low = None; high = None }
    else sides_with row.kind (right_side_of row) row.range

-- a row with more terms at its end
abbrev pub with_terms : List Term → Row → Row
with_terms terms row = record { terms = row.terms ++ terms; low = row.low; high = row.high }

-- a number at the end of its row, if there is one; 0 is no term
abbrev pub put_number : List Row → Entry → List Row
put_number rows entry =
    slice_set rows entry.row (with_terms (terms_from (entry.held ∷ [])) (slice_index_or rows entry.row no_row))

-- numbers, one after another
abbrev pub put_numbers : List Row → List Entry → List Row
put_numbers rows [] = rows
put_numbers rows (entry ∷ others) = put_numbers (put_number rows entry) others

-- each number stands on a column behind the terms of its row
abbrev pub follow : List Row → List Entry → Bool
follow rows [] = true
follow rows (entry ∷ others) =
    list_all (λ term. nat_lt term.column entry.held.column) (slice_index_or rows entry.row no_row).terms
    && follow (put_number rows entry) others

-- a row without terms, for each head
abbrev pub empty_row : RowRead → Row
empty_row head = row_with [] (sides_or_open head)

-- the rows whose heads aren't of type N
abbrev pub kept_rows : (heads : List RowRead) → List Row → List Row
kept_rows heads [] = []
kept_rows [] (row ∷ rows) = []
kept_rows (head ∷ heads) (row ∷ rows) =
    if is_kept head then row ∷ kept_rows heads rows else kept_rows heads rows
