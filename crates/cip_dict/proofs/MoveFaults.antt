-- Faults of a part of the operations are those of all.
use Rattle.std.proofs.Common.{◌≡◌, ℕ, ◌<◌, List, ◌++◌, None, Result, Ok, Err, MatchResult, ◌∙◌}
use Rattle.cip_bland.specs.Tables.{each}
use Rattle.cip_bland.specs.Operations.{Placed, first_overflow}
use Rattle.cip_bland.proofs.Overflow.{overflow-append, overflow-found, first_at}
use Rattle.cip_dict.specs.declared.fault.MoveFault.{MoveFault}
use Rattle.cip_dict.specs.declared.fault.MoveFault.TheVariants.{OutOfRange, NoMemory}
use Rattle.cip_dict.specs.MoveFaults.{IsMoveFault}

-- in a loop over the numbers below n
pub fault_at : (n k : ℕ) (ops : ℕ → List Placed) (fault : MoveFault) → k < n → first_overflow (each k ops) ≡ None → IsMoveFault (ops k) fault → IsMoveFault (each n ops) fault
fault_at n k ops (OutOfRange place) l e h = first_at n k ops place l e h
fault_at n k ops NoMemory l e h = tt

-- of the first of two lists, and of the second where none of the first overflows
pub fault_found : (xs ys : List Placed) (fault : MoveFault) → IsMoveFault xs fault → IsMoveFault (xs ++ ys) fault
fault_found xs ys (OutOfRange place) h = overflow-found xs ys place h
fault_found xs ys NoMemory h = tt

pub fault_same : (xs ys : List Placed) (fault : MoveFault) → first_overflow ys ≡ first_overflow xs → IsMoveFault xs fault → IsMoveFault ys fault
fault_same xs ys (OutOfRange place) e h = e ∙ h
fault_same xs ys NoMemory e h = tt

pub fault_then : (xs ys : List Placed) (fault : MoveFault) → first_overflow xs ≡ None → IsMoveFault ys fault → IsMoveFault (xs ++ ys) fault
fault_then xs ys fault e h = fault_same ys (xs ++ ys) fault (overflow-append xs ys e) h

pub then_moves : {X : Type 0} (xs ys : List Placed) (r : Result X MoveFault) (P Q : X → Type 0) → first_overflow xs ≡ None → MatchResult r (λ v. (first_overflow ys ≡ None) × P v) (IsMoveFault ys) → ((v : X) → P v → Q v) → MatchResult r (λ v. (first_overflow (xs ++ ys) ≡ None) × Q v) (IsMoveFault (xs ++ ys))
then_moves xs ys (Ok v) P Q e h f = (overflow-append xs ys e ∙ h.0, f v h.1)
then_moves xs ys (Err fault) P Q e h f = fault_then xs ys fault e h
