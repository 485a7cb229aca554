-- Rows of a pool stay valid.
use Rattle.std.proofs.Common.{◌≡◌, ℕ, ◌≤◌, Bool, true, false, List, length, drop, filter, Option, None, Ok, IfOk, subst}
use Rattle.std.proofs.lemmas.List.Elements.{All-push, All-weaker, All-filter, All-drop}
use Rattle.cip_rational.specs.Rational.{ℚ}
use Rattle.cip_problem.specs.Program.{Sides, Row, Program}
use Rattle.cip_problem.specs.Points.{IsSatisfied, IsFeasible}
use Rattle.cip_cert.specs.Aggregate.{Inequality}
use Rattle.cip_problem.specs.Improving.{IsValidRow, IsValid, IsNoDearer}
use Rattle.cip_problem.specs.Cuts.{row_of}
use Rattle.cip_problem.proofs.Improving.{holds_later}
use Rattle.cip_problem.proofs.Rows.{row_satisfied}
use Rattle.cip_cert.specs.declared.rows.PoolRow.{PoolRow}
use Rattle.cip_cert.specs.Lent.{Fits, Multiples}
use Rattle.cip_cert.specs.Checks.{derived}
use Rattle.cip_cert.specs.Resting.{rests_on_cutoff, released, valid_below, ArePoolRowsValid, IsLentOf}
use Rattle.cip_cert.proofs.Released.{derived_valid, pool_released}
use Rattle.cip_rows.specs.RowPools.{Pool, with_row}
use Rattle.cip_rows.specs.Statements.{lent_with}

-- a row is valid below what it needs
abbrev pub IsKept : Program → Option ℚ → PoolRow → Type 0
IsKept program held kept = IsValidRow program (valid_below held kept.rests) kept.scope kept.row

pub more_valid : (program : Program) (held : Option ℚ) (pool : Pool) (row : Row) (scope : List Sides) (rests : Bool) → ArePoolRowsValid program held pool.rows → IsValidRow program (valid_below held rests) scope row → ArePoolRowsValid program held (with_row pool row scope rests).rows
more_valid program held pool row scope rests h v = All-push (IsKept program held) pool.rows (record { id = pool.next; row = row; scope = scope; rests = rests }) h v

pub derived_added : (program : Program) (held : Option ℚ) (pool : Pool) (cutoff : Option Row) (box : List Sides) (columns : ℕ) (combo : Multiples) (round : Bool) (row : Inequality) → Fits (length box) (lent_with program pool cutoff) → length box ≤ columns → IsLentOf program held box (lent_with program pool cutoff) → derived (lent_with program pool cutoff) program.integral box columns combo round ≡ Ok row → ArePoolRowsValid program held (with_row pool (row_of row) box (rests_on_cutoff pool.rows combo.rows)).rows
derived_added program held pool cutoff box columns combo round row fits room l e =
    let rests = rests_on_cutoff pool.rows combo.rows in
    let v : IsValid program (valid_below held rests) box row = subst (λ o. IfOk o (IsValid program (valid_below held rests) box)) e (derived_valid program held (lent_with program pool cutoff) box columns combo round fits room l) in
    more_valid program held pool (row_of row) box rests l.pool (λ point i w. row_satisfied row point (v point i w))

pub fewer_valid : (program : Program) (held : Option ℚ) (rows : List PoolRow) (stays : PoolRow → Bool) → ArePoolRowsValid program held rows → ArePoolRowsValid program held (filter stays rows)
fewer_valid program held rows stays h = All-filter stays (IsKept program held) rows h

pub last_valid : (program : Program) (held : Option ℚ) (rows : List PoolRow) (n : ℕ) → ArePoolRowsValid program held rows → ArePoolRowsValid program held (drop n rows)
last_valid program held rows n h = All-drop (IsKept program held) n rows h

still_no_dearer : (now before : Option ℚ) (rests : Bool) → IsNoDearer now before → IsNoDearer (valid_below now rests) (valid_below before rests)
still_no_dearer now before true h = h
still_no_dearer now before false h = tt

pub later_valid : (program : Program) (now before : Option ℚ) (rows : List PoolRow) → IsNoDearer now before → ArePoolRowsValid program before rows → ArePoolRowsValid program now rows
later_valid program now before rows n h =
    All-weaker (IsKept program before) (IsKept program now) (λ kept v. holds_later program (valid_below now kept.rests) (valid_below before kept.rests) kept.scope (IsSatisfied kept.row) (still_no_dearer now before kept.rests n) v) rows h

-- what is valid below each cost is so for other costs
ever_valid : (program other : Program) (later : Option ℚ) (kept : PoolRow) → ((point : List ℚ) → IsFeasible other point → IsFeasible program point) → IsValidRow program None kept.scope kept.row → IsKept other later kept
ever_valid program other later kept f v point i w = v point (record { feasible = f point i.feasible; cheaper = tt }) w

below_none : (rests : Bool) → valid_below None rests ≡ None
below_none true = λ i. None
below_none false = λ i. None

pub released_others : (program other : Program) (held later : Option ℚ) (rows : List PoolRow) → ((point : List ℚ) → IsFeasible other point → IsFeasible program point) → ArePoolRowsValid program held rows → ArePoolRowsValid other later (released rows)
released_others program other held later rows f h =
    All-weaker (IsKept program None) (IsKept other later) (λ kept v. ever_valid program other later kept f (subst (λ o. IsValidRow program o kept.scope kept.row) (below_none kept.rests) v)) (released rows) (pool_released program held rows h)
