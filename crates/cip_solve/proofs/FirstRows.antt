-- The first operation of a first state that overflows is one of the cost, or of a row that is there.
use Rattle.std.proofs.Common.{◌≡◌, inl, inr, ℕ, zero, suc, ◌+◌, ◌<◌, ◌≤◌, List, length, Some, sym, subst, arith}
use Rattle.std.specs.Prelude.{⊤}
use Rattle.std.proofs.lemmas.List.{length-map}
use Rattle.std.proofs.lemmas.Option.{none-some}
use Rattle.cip_rational.specs.Rational.{ℚ}
use Rattle.cip_problem.specs.Program.{Program}
use Rattle.cip_bland.specs.Tables.{each}
use Rattle.cip_bland.specs.Operations.{first_overflow, value_place}
use Rattle.cip_bland.specs.FirstState.{System, columns_of, first_value, form_operations, first_operations}
use Rattle.cip_problem.specs.Multipliers.{row_sides}
use Rattle.cip_bland.specs.ProgramState.{system_of}
use Rattle.cip_bland.specs.declared.places.Line.{Line}
use Rattle.cip_bland.specs.declared.places.Line.TheVariants as line
use Rattle.cip_bland.specs.declared.places.EntryPlace as dictionary
use Rattle.cip_search.specs.Wide.{InRow}
use Rattle.cip_search.specs.LeafProgram.{row_of_leaf, program_of_leaf}
use Rattle.cip_search.specs.WideLeaf.{FirstValueOverflows}
use Rattle.cip_leaf.proofs.FirstPlaces.{form_place, split}

-- a line is the cost, or one of so many variables
abbrev IsAmong : ℕ → Line → Type 0
IsAmong n (line.Row v) = v < n
IsAmong n line.Cost = ⊤

at_row : (columns r n : ℕ) (place : dictionary.EntryPlace) → r < n → place ≡ value_place (line.Row (columns + r)) → IsAmong (columns + n) place.line
at_row columns r n place l e = subst (λ (p : dictionary.EntryPlace). IsAmong (columns + n) p.line) (sym e) (omega arith)

rows_among : (columns m n : ℕ) (row : ℕ → ℕ → ℚ) (x : ℕ → ℚ) (place : dictionary.EntryPlace) → m ≤ n → first_overflow (each m (λ r. form_operations (line.Row (columns + r)) columns (row r) x)) ≡ Some place → IsAmong (columns + n) place.line
rows_among columns zero n row x place l h = absurd (none-some place h)
rows_among columns (suc m) n row x place l h = elim (split (each m (λ r. form_operations (line.Row (columns + r)) columns (row r) x)) _ place h) [
  | inl before ↦ rows_among columns m n row x place (omega arith) before
  | inr last ↦ at_row columns m n place (omega arith) (form_place (line.Row (columns + m)) columns (row m) x place last)
]

first_among : (p : System) (place : dictionary.EntryPlace) → first_overflow (first_operations p) ≡ Some place → IsAmong (columns_of p + length p.rows) place.line
first_among p place h = elim (split (each (length p.rows) (λ r. form_operations (line.Row (columns_of p + r)) (columns_of p) (p.coefficient r) (first_value p))) _ place h) [
  | inl row ↦ rows_among (columns_of p) (length p.rows) (length p.rows) p.coefficient (first_value p) place (omega arith) row
  | inr cost ↦ subst (λ (t : dictionary.EntryPlace). IsAmong (columns_of p + length p.rows) t.line) (sym (form_place line.Cost (columns_of p) p.costs (first_value p) place cost)) tt
]

-- the row of a leaf's program whose first value overflows is one of the program
pub first_row_there : (program : Program) (leaf : List ℚ) (number : ℕ) → FirstValueOverflows (program_of_leaf program leaf) (InRow number) → number < length program.rows
first_row_there program leaf number h =
    let linear = program_of_leaf program leaf in
    let l = first_among (system_of linear) (value_place (line.Row (length linear.bounds + number))) h in
    omega (arith, l, length-map program.rows (row_of_leaf program leaf), length-map linear.rows row_sides)
