-- Steps of the rules.
use Rattle.std.proofs.Common.{◌≡◌, ℕ, zero, suc, ◌<◌, List, [], ◌∷◌, length, Some, slice_get, refl, sym, subst, arith}
use Rattle.cip_problem.specs.Program.{Sides, Row, Program, no_row}
use Rattle.cip_presolve.specs.NarrowedPrograms.{IsExactStep, IsInfeasible, with_row}
use Rattle.cip_presolve.specs.RowSteps.{HoldsInAll, HoldsNowhere}
use Rattle.cip_search.proofs.Pairing.{exact_self, exact_after}
use Rattle.cip_search.proofs.RowSteps.{dropped, broken, shifted}
use Rattle.cip_presolve.specs.RowReading.{IsLeftRow}

pub some_row : (rows : List Row) (number : ℕ) → number < length rows → (row : Row) × (slice_get rows number ≡ Some row)
some_row [] number h = absurd (omega (arith, h))
some_row (r ∷ rs) zero h = (r, refl)
some_row (r ∷ rs) (suc number) h = some_row rs number (omega (arith, h))

pub dropped_by : (program changed : Program) (number : ℕ) (row : Row) → slice_get program.rows number ≡ Some row → HoldsInAll program.bounds row → changed ≡ with_row program number no_row → IsExactStep program changed
dropped_by program changed number row g h e = subst (λ p. IsExactStep program p) (sym e) (dropped program number row g h)

pub broken_by : (program : Program) (number : ℕ) (row : Row) → slice_get program.rows number ≡ Some row → HoldsNowhere program.bounds row → IsInfeasible program
broken_by program number row g h = broken program number row g h

pub cleaned_by : (program changed : Program) (number : ℕ) (old new : Row) (box : List Sides) → slice_get program.rows number ≡ Some old → box ≡ program.bounds → IsLeftRow box old new → changed ≡ with_row program number new → IsExactStep program changed
cleaned_by program changed number old new box h b l e =
    subst (λ p. IsExactStep program p) (sym e)
    (shifted program number old new h (subst (λ (s : List Sides). IsLeftRow s old new) b l).shifted)

-- what rows come to by their extents, and steps one after another
pub ruleset by_extent = (exact_self)

pub ruleset chains = (exact_self, exact_after)
