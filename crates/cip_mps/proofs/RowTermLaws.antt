-- The test of 0, and numbers that are put one after another.
use Rattle.std.proofs.Common.{◌≡◌, ◌↔◌, ℕ, suc, ◌+◌, ◌==◌, Bool, true, false, cond, IsTrue, List, [], ◌∷◌, ◌++◌, map, drop, add-one, refl, sym, ap, ◌∙◌, append_assoc}
use Rattle.std.specs.Prelude.{nat_lt, slice_index_or}
use Rattle.std.specs.List.{list_all}
use Rattle.std.proofs.lemmas.Bool.{and_parts}
use Rattle.cip_rational.specs.Rational.{ℚ, zeroℚ}
use Rattle.cip_problem.specs.Program.{Row, no_row}
use Rattle.cip_text_rules.specs.MpsState.{Held, is_zero_value}
use Rattle.cip_mps.specs.Entries.{Entry, numbers_of}
use Rattle.cip_mps.specs.GroupedRows.{follow, put_number, put_numbers}
use Rattle.cip_mps_lines.proofs.ValuesRead.{zero_test_is}

-- ---- 0

pub zero_is : (value : ℚ) (answer : Bool) → IsTrue answer ↔ (value ≡ zeroℚ) → answer ≡ is_zero_value value
zero_is value answer h = zero_test_is value answer (is_zero_value value) refl h

-- ---- one number of a list that is gone through

module _ {X : Type 0} (entry : X → Entry) (xs : List X) (k : ℕ) (x : X) (cut : drop k xs ≡ x ∷ drop (suc k) xs) where
  abbrev here : Entry
  here = entry x

  abbrev later : List Entry
  later = map entry (drop (k + 1) xs)

  parted : map entry (drop k xs) ≡ here ∷ later
  parted = ap (map entry) cut ∙ ap (λ (m : ℕ). here ∷ map entry (drop m xs)) (sym (add-one k))

  -- the number may stand where it is put, and those behind it may then
  pub follow_parts_at : (rows : List Row) → follow rows (map entry (drop k xs)) ≡ true → (list_all (λ term. nat_lt term.column here.held.column) (slice_index_or rows here.row no_row).terms ≡ true) × (follow (put_number rows here) later ≡ true)
  follow_parts_at rows h =
      and_parts (list_all (λ term. nat_lt term.column here.held.column) (slice_index_or rows here.row no_row).terms) (follow (put_number rows here) later)
      (ap (follow rows) (sym parted) ∙ h)

  -- it is put first
  pub put_at : (rows : List Row) → put_numbers (put_number rows here) later ≡ put_numbers rows (map entry (drop k xs))
  put_at rows = ap (put_numbers rows) (sym parted)

  -- it is one of the row
  pub taken_at : (row : ℕ) (numbers : List Held) → (here.row == row) ≡ true → (numbers ++ here.held ∷ []) ++ numbers_of row later ≡ numbers ++ numbers_of row (map entry (drop k xs))
  taken_at row numbers e =
      append_assoc numbers (here.held ∷ []) (numbers_of row later)
      ∙ ap (λ (b : Bool). numbers ++ cond b (here.held ∷ numbers_of row later) (numbers_of row later)) (sym e)
      ∙ ap (λ (es : List Entry). numbers ++ numbers_of row es) (sym parted)

  -- it isn't
  pub passed_at : (row : ℕ) (numbers : List Held) → (here.row == row) ≡ false → numbers ++ numbers_of row later ≡ numbers ++ numbers_of row (map entry (drop k xs))
  passed_at row numbers e =
      ap (λ (b : Bool). numbers ++ cond b (here.held ∷ numbers_of row later) (numbers_of row later)) (sym e)
      ∙ ap (λ (es : List Entry). numbers ++ numbers_of row es) (sym parted)
