-- Values that are written for the variables whose values may change.
use borrow.Author.Count.{below_more}
use Rattle.std.proofs.Common.{◌≡◌, ℕ, ◌+◌, ◌<◌, ◌≤◌, Bool, true, false, cond, List, length, get_or, set, Option, None, sym, ap, ◌∙◌, inl, inr, arith}
use Rattle.std.proofs.lemmas.Bool.{cases_eq}
use Rattle.std.proofs.lemmas.List.{get_or-set_same, get_or-set_other}
use Rattle.cip_rational.specs.Rational.{ℚ, zeroℚ}
use Rattle.cip_problem.specs.Activity.{value_at}
use Rattle.cip_bland.specs.Tables.{table, each}
use Rattle.cip_bland.specs.Operations.{Placed, first_overflow}
use Rattle.cip_bland.specs.declared.moves.Stand.{Stand}
use Rattle.cip_bland.proofs.Tables.{table_same}
use Rattle.cip_dict.specs.Values.{value_moves, taken_value}
use Rattle.cip_dict.proofs.Loops.{written_more}

-- one more value is written
pub taken_more : (standing : List (Option Stand)) (j : ℕ) (values : List ℚ) (g : ℕ → ℚ) (out : List ℚ) (k : ℕ) (v : ℚ) → k < length out → ((m : ℕ) → m < k → taken_value standing j values out m ≡ g m) → cond (value_moves standing j k) v (value_at values k) ≡ g k → (m : ℕ) → m < k + 1 → taken_value standing j values (set out k v) m ≡ g m
taken_more standing j values g out k v l h e m lm =
    elim (cases_eq m k) [
      | inl same ↦ ap (λ u. taken_value standing j values (set out k v) u) same ∙ ap (λ q. cond (value_moves standing j k) q (value_at values k)) (get_or-set_same out k v zeroℚ l) ∙ e ∙ ap g (sym same)
      | inr ne ↦ ap (λ q. cond (value_moves standing j m) q (value_at values m)) (get_or-set_other out k m v zeroℚ ne) ∙ h m (omega (arith, lm, ne))
    ]

-- all are
pub taken_end : (n k : ℕ) (f : ℕ → List Placed) (standing : List (Option Stand)) (j : ℕ) (values out : List ℚ) (g : ℕ → ℚ) → n ≤ k → k ≤ n → first_overflow (each k f) ≡ None → ((m : ℕ) → m < k → taken_value standing j values out m ≡ g m) → (first_overflow (each n f) ≡ None) × (table n (taken_value standing j values out) ≡ table n g)
taken_end n k f standing j values out g low high e h =
    let same : k ≡ n = omega arith in
    (rw same at e, table_same n (taken_value standing j values out) g zeroℚ (λ m lm. h m (omega (arith, lm, same))))

-- one value is taken where it may change, and else left
module _ (standing : List (Option Stand)) (j : ℕ) (before other : List ℚ) (v : ℕ) (values new : List ℚ) (h : (m : ℕ) → m < v → get_or values m zeroℚ ≡ taken_value standing j before other m) (rest : (m : ℕ) → v ≤ m → get_or values m zeroℚ ≡ get_or before m zeroℚ) where
  pub moved_taken : (q : ℚ) → v < length values → new ≡ set values v q → q ≡ value_at other v → true ≡ value_moves standing j v → (m : ℕ) → m < v + 1 → get_or new m zeroℚ ≡ taken_value standing j before other m
  moved_taken q l e is moves m lm =
      ap (λ xs. get_or xs m zeroℚ) e ∙ written_more (taken_value standing j before other) values v q zeroℚ l h (is ∙ ap (λ (b : Bool). cond b (value_at other v) (value_at before v)) moves) m lm

  pub moved_rest : (q : ℚ) → new ≡ set values v q → (m : ℕ) → v + 1 ≤ m → get_or new m zeroℚ ≡ get_or before m zeroℚ
  moved_rest q e m lm =
      ap (λ xs. get_or xs m zeroℚ) e ∙ get_or-set_other values v m q zeroℚ (λ (s : m ≡ v). omega (arith, lm, s)) ∙ rest m (omega (arith, lm))

  pub left_taken : new ≡ values → false ≡ value_moves standing j v → (m : ℕ) → m < v + 1 → get_or new m zeroℚ ≡ taken_value standing j before other m
  left_taken e moves m lm =
      ap (λ xs. get_or xs m zeroℚ) e ∙ below_more (λ (m : ℕ). get_or values m zeroℚ ≡ taken_value standing j before other m) v h (rest v (omega arith) ∙ ap (λ (b : Bool). cond b (value_at other v) (value_at before v)) moves) m lm

  pub left_rest : new ≡ values → (m : ℕ) → v + 1 ≤ m → get_or new m zeroℚ ≡ get_or before m zeroℚ
  left_rest e m lm = ap (λ xs. get_or xs m zeroℚ) e ∙ rest m (omega (arith, lm))
