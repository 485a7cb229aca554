-- The lines of an exchange, by its pivot.
use Rattle.std.specs.Prelude.{ℕ, ℤ, ◌==◌, Bool, List}
use Rattle.cip_rational.specs.Rational.{ℚ}
use Rattle.cip_bland.specs.Operations.{Placed, entry_place}
use Rattle.cip_bland.specs.Exchange.{is_absent, solved_at, solved, substituted_at, substituted}
use Rattle.cip_bland.specs.MoveOperations.{solved_operations_at, solved_operations, substituted_operations_at, substituted_operations}
use Rattle.cip_bland.specs.declared.places.Line.{Line}
use Rattle.cip_bland.specs.declared.places.Line.TheVariants.{Row}
use Rattle.cip_dict.specs.declared.pivots.Pivot.{Pivot}
use Rattle.cip_dict.specs.declared.whole_sums.Factors.{Factors}
use Rattle.cip_dict.specs.Lists.{basic_in}
use Rattle.cip_dict.specs.Row.{form_changes, form_operations_in, written_form}
use Rattle.cip_dict.specs.WholeLines.{Whole, put_number, turned_number}

-- whether no entry stands on variable k once the one that enters has come in
abbrev pub absent_by : Pivot → ℕ → Bool
absent_by p k = is_absent (basic_in p.standing.now) p.entering k

-- the row of the variable that enters, where `row` is that of the one that leaves; and its operations
abbrev pub solved_by : Pivot → (ℕ → ℚ) → ℕ → ℚ
solved_by p row = solved (basic_in p.standing.now) p.leaving p.entering p.inverse row

abbrev pub solved_operations_by : Pivot → (ℕ → ℚ) → ℕ → List Placed
solved_operations_by p row =
    solved_operations (Row p.entering) (basic_in p.standing.now) p.leaving p.entering p.inverse row

-- another row, once that of the variable that enters, `new`, has been put in its place; and its operations
abbrev pub substituted_by : Pivot → (ℕ → ℚ) → (ℕ → ℚ) → ℕ → ℚ
substituted_by p new row = substituted (basic_in p.standing.now) p.leaving p.entering p.inverse new row

abbrev pub substituted_operations_by : Line → Pivot → (ℕ → ℚ) → (ℕ → ℚ) → ℕ → List Placed
substituted_operations_by line p new row =
    substituted_operations line (basic_in p.standing.now) p.leaving p.entering p.inverse new row

-- the entries on variable k alone: a stands there in the row itself, b on the variable that enters, and c in its row
abbrev pub solved_on : Pivot → ℕ → ℚ → ℚ
solved_on p k a = solved_at (k == p.leaving) (absent_by p k) p.inverse a

abbrev pub solved_operations_on : Pivot → ℕ → ℚ → List Placed
solved_operations_on p k a =
    solved_operations_at (entry_place (Row p.entering) k) (k == p.leaving) (absent_by p k) p.inverse a

abbrev pub substituted_on : Pivot → ℕ → ℚ → ℚ → ℚ → ℚ
substituted_on p k a b c = substituted_at (k == p.leaving) (absent_by p k) p.inverse a b c

abbrev pub substituted_operations_on : Line → Pivot → ℕ → ℚ → ℚ → ℚ → List Placed
substituted_operations_on line p k a b c =
    substituted_operations_at (entry_place line k) (k == p.leaving) (absent_by p k) p.inverse a b c

-- whether the row of v changes; its operations, if it stays basic; and what is written for it over what stood there
abbrev pub changes_by : Pivot → ℕ → List ℚ → Bool
changes_by p v row = form_changes p.standing.now p.leaving p.entering v row

abbrev pub form_operations_by : Pivot → (ℕ → ℚ) → ℕ → List ℚ → List Placed
form_operations_by p new v row = form_operations_in p.standing.now p.leaving p.entering p.inverse new v row

abbrev pub written_by : Pivot → (ℕ → ℚ) → ℕ → List ℚ → List ℚ → List ℚ
written_by p new v row out = written_form p.standing.now p.leaving p.entering p.inverse new v row out

-- the whole numbers of another row, with the factors of its own numbers and of those of the row that enters; and of the
-- row that leaves, turned round
abbrev pub put_by : Pivot → Factors → List Whole → List Whole → ℕ → ℤ
put_by p factors row new = put_number (basic_in p.standing.now) p.leaving p.entering factors.own factors.new row new

abbrev pub turned_by : Pivot → Bool → ℤ → List Whole → ℕ → ℤ
turned_by p positive d row = turned_number (basic_in p.standing.now) p.leaving p.entering positive d row
