-- Loops that write the values of a function, each with its operations.
use Rattle.std.proofs.Common.{◌≡◌, ℕ, ◌+◌, ◌<◌, ◌≤◌, List, length, get_or, set, None, ap, ◌∙◌, arith}
use Rattle.std.proofs.lemmas.List.Edits.{fill_by_more}
use Rattle.cip_bland.specs.Tables.{table, each}
use Rattle.cip_bland.specs.Operations.{Placed, first_overflow}
use Rattle.cip_bland.proofs.Tables.{same_table}

-- one more value is written
pub written_more : {X : Type 0} (g : ℕ → X) (out : List X) (k : ℕ) (v d : X) → k < length out → ((m : ℕ) → m < k → get_or out m d ≡ g m) → v ≡ g k → (m : ℕ) → m < k + 1 → get_or (set out k v) m d ≡ g m
written_more g out k v d l h e m lm =
    ap (λ u. get_or (set out k u) m d) e ∙ fill_by_more g out k d l h m lm

-- all are written
pub loop_end : {X : Type 0} (n k : ℕ) (f : ℕ → List Placed) (g : ℕ → X) (out : List X) (d : X) → n ≤ k → k ≤ n → length out ≡ n → first_overflow (each k f) ≡ None → ((m : ℕ) → m < k → get_or out m d ≡ g m) → (first_overflow (each n f) ≡ None) × (out ≡ table n g)
loop_end n k f g out d low high l e h =
    let same : k ≡ n = omega arith in
    (rw same at e, same_table n g out d l (λ m lm. h m (omega (arith, lm, same))))
