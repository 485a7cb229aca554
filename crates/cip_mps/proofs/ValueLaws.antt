-- Two values of a line of RHS or RANGES: the first leaves the row of the second as it is.
use Rattle.cip_mps_lines.specs.declared.line.Pair.{Pair}
use Rattle.cip_mps_lines.specs.MpsLines.{value_in, second_in}
use Rattle.std.proofs.Common.{◌≡◌, ℕ, Bool, false, cond, List, [], ◌∷◌, Option, None, Some, refl, sym, ap, ◌∙◌}
use Rattle.std.specs.Str.{bytes_eq}
use Rattle.std.specs.Option.{option_map}
use Rattle.std.specs.List.{list_any}
use Rattle.cip_rational.specs.Rational.{ℚ}
use Rattle.cip_text_rules.specs.MpsWords.{number_in}
use Rattle.cip_text_rules.specs.MpsSayings.{Value}
use Rattle.cip_text_rules.specs.MpsProgram.{number}
use Rattle.cip_text_rules.proofs.Quiet.{left_false, right_false}
use Rattle.cip_text_rules.proofs.MpsNames.{bytes_self, bytes_flip}
use Rattle.cip_text_rules.specs.MpsState.{RowRead, no_row, item_at, value_for}
use Rattle.cip_text_rules.specs.MpsSteps.{changed, put_values}
use Rattle.cip_mps.proofs.ColumnLaws.{other_number, other_row}

second_value : (v w : Value) → bytes_eq v.row w.row ≡ false → value_for (v ∷ w ∷ []) w.row ≡ Some (number w.number)
second_value v w e =
    ap (λ b. option_map number (cond b (Some v.number) (cond (bytes_eq w.row w.row) (Some w.number) None))) (bytes_flip w.row v.row ∙ e)
    ∙ ap (λ b. option_map number (cond b (Some w.number) None)) (bytes_self w.row)

item_other : (names : List (List ℕ)) (rows : List RowRead) (a b : List ℕ) (i j : Option ℕ) (f : RowRead → RowRead) → i ≡ number_in names a → j ≡ number_in names b → bytes_eq a b ≡ false → item_at no_row (changed no_row rows i f) j ≡ item_at no_row rows j
item_other names rows a b i None f e d t = refl
item_other names rows a b i (Some j) f e d t = ap Some (other_row rows i j f (λ k p. other_number names a b k j (sym e ∙ p) (sym d) t))

-- a test that the second value passes is passed behind the first
pub second_passes : (test : Option ℚ → Option RowRead → Bool) (names : List (List ℕ)) (rows : List RowRead) (v w : Value) (i j : Option ℕ) (f : RowRead → RowRead) (x : ℚ)
    → i ≡ number_in names v.row → j ≡ number_in names w.row → bytes_eq v.row w.row ≡ false → x ≡ number w.number
    → list_any (λ value. test (value_for (v ∷ w ∷ []) value.row) (item_at no_row rows (number_in names value.row))) (v ∷ w ∷ []) ≡ false
    → test (Some x) (item_at no_row (changed no_row rows i f) j) ≡ false
second_passes test names rows v w i j f x e d t n h =
    ap (test (Some x)) (item_other names rows v.row w.row i j f e d t ∙ ap (item_at no_row rows) d)
    ∙ ap (λ o. test o (item_at no_row rows (number_in names w.row))) (ap Some n ∙ sym (second_value v w t))
    ∙ left_false _ false (right_false _ _ h)

-- the rows with the one or two values of a line
pub put_one : (put : ℚ → RowRead → RowRead) (names : List (List ℕ)) (rows : List RowRead) (first : Pair) (second : Option Pair) (i : Option ℕ) (x : ℚ) → second ≡ None → i ≡ number_in names first.row.now → x ≡ number first.number
    → changed no_row rows i (put x) ≡ put_values put names rows (value_in first ∷ second_in second)
put_one put names rows first second i x none found is =
    (λ k. changed no_row rows (found k) (put (is k))) ∙ ap (λ (o : Option Pair). put_values put names rows (value_in first ∷ second_in o)) (sym none)

pub put_two : (put : ℚ → RowRead → RowRead) (names : List (List ℕ)) (rows : List RowRead) (first : Pair) (second : Option Pair) (pair : Pair) (i j : Option ℕ) (x y : ℚ) → second ≡ Some pair → i ≡ number_in names first.row.now
    → j ≡ number_in names pair.row.now → x ≡ number first.number → y ≡ number pair.number → changed no_row (changed no_row rows i (put x)) j (put y) ≡ put_values put names rows (value_in first ∷ second_in second)
put_two put names rows first second pair i j x y some found there is also =
    (λ k. changed no_row (changed no_row rows (found k) (put (is k))) (there k) (put (also k))) ∙ ap (λ (o : Option Pair). put_values put names rows (value_in first ∷ second_in o)) (sym some)
