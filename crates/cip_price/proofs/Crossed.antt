-- Where sides cross, no feasible point lies in the box.
use Rattle.std.proofs.Common.{◌≡◌, inl, inr, ℕ, ◌+◌, ◌<◌, Bool, true, false, ◌||◌, List, [], ◌∷◌, ◌++◌, length, take, drop, get_or, Option, None, Some, refl, sym, ap, ◌∙◌, true≢false}
use Rattle.std.specs.Prelude.{slice_index_or, All}
use Rattle.std.specs.List.{AllByRecursion}
use Rattle.std.proofs.lemmas.List.{take_more, take-append-drop, get_or_read}
use Rattle.std.proofs.lemmas.List.Elements.{All-from_recursion, recursion_from_All}
use Rattle.std.proofs.lemmas.Bool.{or_cases}
use Rattle.cip_rational.specs.Rational.{ℚ}
use Rattle.cip_rational.proofs.Rational.Order.{not_le_of_lt, ≤ℚ_trans, lt_of_test}
use Rattle.cip_problem.specs.Program.{Sides, Row, no_row}
use Rattle.cip_problem.specs.Activity.{activity}
use Rattle.cip_problem.specs.Box.{Between, IsInBox}
use Rattle.cip_problem.specs.Points.{IsSatisfied}
use Rattle.cip_master.proofs.Numbers.{masters_inside}
use Rattle.cip_master.specs.MasterTasks.{Task, IsTask}
use Rattle.cip_lin.specs.MetSides.{is_past}
use Rattle.cip_price.specs.CrossedSides.{crosses_column, crosses_row, has_crossed}
use Rattle.cip_price.specs.PriceAnswers.{EmptiesBox}

pub or_false : (t : Bool) → (t || false) ≡ t
or_false true = refl
or_false false = refl

pub or_from : (s t u : Bool) → (s || (t || u)) ≡ ((s || t) || u)
or_from true t u = refl
or_from false t u = refl

none_between : (low high : Option ℚ) (value : ℚ) → is_past low high ≡ true → ¬ Between low high value
none_between None high value e b = true≢false (sym e)
none_between (Some low) None value e b = true≢false (sym e)
none_between (Some low) (Some high) value e b = not_le_of_lt (lt_of_test e) (≤ℚ_trans b.above b.below)

none_inside : (box : List Sides) (point : List ℚ) → crosses_column box ≡ true → ¬ IsInBox box point
none_inside [] point e h = true≢false (sym e)
none_inside (s ∷ ss) [] e h = h
none_inside (s ∷ ss) (v ∷ vs) e h =
    elim (or_cases (is_past s.low s.high) (crosses_column ss) e) [
      | inl f ↦ none_between s.low s.high v f h.0
      | inr f ↦ none_inside ss vs f h.1
    ]

none_satisfies : (rows : List Row) (numbers : List ℕ) (point : List ℚ) → crosses_row rows numbers ≡ true
    → AllByRecursion (λ number. number < length rows) numbers
    → ¬ All (λ row. IsSatisfied row point) rows
none_satisfies rows [] point e h s = true≢false (sym e)
none_satisfies rows (n ∷ ns) point e h s =
    let row : Row = slice_index_or rows n no_row in
    elim (or_cases (is_past row.low row.high) (crosses_row rows ns) e) [
      | inl f ↦ none_between row.low row.high (activity row.terms point) f (s n no_row h.0)
      | inr f ↦ none_satisfies rows ns point f h.1 s
    ]

pub crossed_empties : (task : Task) → IsTask task → has_crossed task ≡ true → EmptiesBox task
crossed_empties task ok e point feasible within =
    elim (or_cases (crosses_column task.box) (crosses_row task.program.rows task.kept.blocks.master_rows) e) [
      | inl f ↦ none_inside task.box point f within
      | inr f ↦
          none_satisfies task.program.rows task.kept.blocks.master_rows point f
          (recursion_from_All (λ number. number < length task.program.rows) task.kept.blocks.master_rows
          (masters_inside task.program task.kept ok.made))
          (All-from_recursion (λ row. IsSatisfied row point) task.program.rows feasible.rows)
    ]

-- ---- one after another

column_more : (box more : List Sides) → crosses_column (box ++ more) ≡ (crosses_column box || crosses_column more)
column_more [] more = refl
column_more (s ∷ ss) more = ap (λ t. is_past s.low s.high || t) (column_more ss more)
    ∙ or_from (is_past s.low s.high) (crosses_column ss) (crosses_column more)

pub row_more : (rows : List Row) (numbers more : List ℕ)
    → crosses_row rows (numbers ++ more) ≡ (crosses_row rows numbers || crosses_row rows more)
row_more rows [] more = refl
row_more rows (n ∷ ns) more =
    ap (λ t. is_past (slice_index_or rows n no_row).low (slice_index_or rows n no_row).high || t) (row_more rows ns more)
    ∙ or_from (is_past (slice_index_or rows n no_row).low (slice_index_or rows n no_row).high) (crosses_row rows ns)
    (crosses_row rows more)

-- none of the first ones crosses, and the next one does, or doesn't
pub column_next : (box : List Sides) (at : ℕ) (sides : Sides) (t : Bool) → at < length box → sides ≡ get_or box at sides
    → crosses_column (take at box) ≡ false → is_past sides.low sides.high ≡ t → crosses_column (take (at + 1) box) ≡ t
column_next box at sides t l e h k =
    ap crosses_column (take_more box at sides l ∙ ap (λ (s : Sides). take at box ++ s ∷ []) (sym e))
    ∙ column_more (take at box) (sides ∷ [])
    ∙ ap (λ b. b || (is_past sides.low sides.high || false)) h
    ∙ ap (λ b. b || false) k ∙ or_false t

pub column_found : (box : List Sides) (at : ℕ) → crosses_column (take at box) ≡ true → crosses_column box ≡ true
column_found box at h =
    sym (ap crosses_column (take-append-drop at box))
    ∙ column_more (take at box) (drop at box) ∙ ap (λ b. b || crosses_column (drop at box)) h

pub row_next : (rows : List Row) (numbers : List ℕ) (at : ℕ) (row : Row) (t : Bool) → at < length numbers
    → get_or numbers at 0 < length rows → row ≡ get_or rows (get_or numbers at 0) row
    → crosses_row rows (take at numbers) ≡ false → is_past row.low row.high ≡ t
    → crosses_row rows (take (at + 1) numbers) ≡ t
row_next rows numbers at row t l m f h k =
    ap (crosses_row rows) (take_more numbers at 0 l)
    ∙ row_more rows (take at numbers) (get_or numbers at 0 ∷ [])
    ∙ ap (λ b. b || (is_past (slice_index_or rows (get_or numbers at 0) no_row).low
    (slice_index_or rows (get_or numbers at 0) no_row).high || false)) h
    ∙ ap (λ (r : Row). is_past r.low r.high || false) (sym (get_or_read rows (get_or numbers at 0) row m f no_row))
    ∙ ap (λ b. b || false) k ∙ or_false t

pub row_found : (rows : List Row) (numbers : List ℕ) (at : ℕ) → crosses_row rows (take at numbers) ≡ true
    → crosses_row rows numbers ≡ true
row_found rows numbers at h =
    sym (ap (crosses_row rows) (take-append-drop at numbers))
    ∙ row_more rows (take at numbers) (drop at numbers) ∙ ap (λ b. b || crosses_row rows (drop at numbers)) h
