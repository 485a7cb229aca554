-- Why a term cannot stand at the end of a row, and why a list of terms makes none.
use Rattle.std.specs.Prelude.{◌≡◌, ◌≢◌, ℕ, ◌+◌, ◌<◌, ◌≤◌, List, length}
use Rattle.cip_frac.specs.Rational.{zeroℚ}
use Rattle.cip_problem.specs.Program.{Term}
use Rattle.cip_problem.specs.RowTerms.{column_at, coefficient_at, AreTermsTo, IsAboveLast, IsNotAboveLast}
use Rattle.cip_lin.specs.declared.rows.RowFault.{RowFault}
use Rattle.cip_lin.specs.declared.rows.RowFault.TheVariants.{NotRising, ZeroTerm, NoMemory}

-- the term can stand after these
pub record CanStandAfter (terms : List Term) (term : Term) : Type 0 where
  pub above : IsAboveLast terms term.column
  pub nonzero : term.coefficient ≢ zeroℚ

-- why a term was not put after these; its place is their number. Where memory was refused, it could stand there
abbrev pub IsAppendFault : List Term → Term → RowFault → Type 0
IsAppendFault terms term (NotRising at) = (at ≡ length terms) × IsNotAboveLast terms term.column
IsAppendFault terms term (ZeroTerm at) =
    (at ≡ length terms) × IsAboveLast terms term.column × (term.coefficient ≡ zeroℚ)
IsAppendFault terms term NoMemory = CanStandAfter terms term

-- the column at a place is not above the one before it
pub record FallsBackAt (terms : List Term) (at : ℕ) : Type 0 where
  pub before : ℕ
  pub is_before : before + 1 ≡ at
  pub not_above : column_at terms at ≤ column_at terms before

-- the column at a place is above the one before it, if there is one
pub record RisesAt (terms : List Term) (at : ℕ) : Type 0 where
  pub above : (k : ℕ) → k + 1 ≡ at → column_at terms k < column_at terms at

-- the first term that cannot stand in a row, and why; or memory was refused at a term that can
abbrev pub IsBuildFault : List Term → RowFault → Type 0
IsBuildFault terms (NotRising at) = (at < length terms) × AreTermsTo at terms × FallsBackAt terms at
IsBuildFault terms (ZeroTerm at) =
    (at < length terms) × AreTermsTo at terms × RisesAt terms at × (coefficient_at terms at ≡ zeroℚ)
IsBuildFault terms NoMemory = (at : ℕ) × (at < length terms) × AreTermsTo (at + 1) terms
