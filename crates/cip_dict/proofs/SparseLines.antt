-- What is kept of a line.
use Rattle.std.proofs.Common.{◌≡◌, ℕ, zero, suc, ◌+◌, ◌<◌, ◌≤◌, ◌==◌, Bool, true, false, cond, List, [], ◌∷◌, ◌++◌, refl, sym, ap, ◌∙◌, subst, inl, inr, arith}
use Rattle.std.specs.Bool.{⊤}
use Rattle.std.proofs.lemmas.Bool.{cases_eq, eq-eqb, ne_eqb}
use Rattle.std.proofs.lemmas.List.{append-nil}
use Rattle.cip_rational.specs.Rational.{ℚ, zeroℚ, is_zero}
use Rattle.cip_bland.specs.Tables.{table, each}
use Rattle.cip_bland.specs.Operations.{Placed}
use Rattle.cip_bland.proofs.Tables.{table_same}
use Rattle.cip_bland.proofs.Zeros.{is_zero_of}
use Rattle.cip_dict.specs.SparseLines.{Kept, entry_on, dense, kept_at, kept_of, SparseLinesTell}
use Rattle.cip_problem.proofs.Rows.{zero_of_test}

-- the variables are below n
abbrev AreBelow : ℕ → List Kept → Type 0
AreBelow n [] = ⊤
AreBelow n (e ∷ es) = (e.0 < n) × AreBelow n es

higher : (n : ℕ) (es : List Kept) → AreBelow n es → AreBelow (suc n) es
higher n [] h = tt
higher n (e ∷ es) h = (omega (arith, h.0), higher n es h.1)

below-append : (n : ℕ) (es fs : List Kept) → AreBelow n es → AreBelow n fs → AreBelow n (es ++ fs)
below-append n [] fs h k = k
below-append n (e ∷ es) fs h k = (h.0, below-append n es fs h.1 k)

one_below : (n : ℕ) (q : ℚ) (b : Bool) → AreBelow (suc n) (cond b [] ((n, q) ∷ []))
one_below n q true = tt
one_below n q false = (omega arith, tt)

kept_below : (n : ℕ) (f : ℕ → ℚ) → AreBelow n (kept_of n f)
kept_below zero f = tt
kept_below (suc n) f = below-append (suc n) (kept_of n f) (kept_at n (f n)) (higher n (kept_of n f) (kept_below n f)) (one_below n (f n) (is_zero (f n)))

entry_none : (es : List Kept) (n : ℕ) → AreBelow n es → entry_on es n ≡ zeroℚ
entry_none [] n h = refl
entry_none (e ∷ es) n h =
    let ne : ¬ (e.0 ≡ n) = λ (s : e.0 ≡ n). absurd (omega (arith, s, h.0)) in
    ap (λ b. cond b e.1 (entry_on es n)) (ne_eqb e.0 n ne) ∙ entry_none es n h.1

entry_other : (es : List Kept) (n : ℕ) (q : ℚ) (k : ℕ) → ¬ (n ≡ k) → entry_on (es ++ (n, q) ∷ []) k ≡ entry_on es k
entry_other [] n q k ne = ap (λ b. cond b q zeroℚ) (ne_eqb n k ne)
entry_other (e ∷ es) n q k ne = ap (λ t. cond (e.0 == k) e.1 t) (entry_other es n q k ne)

entry_last : (es : List Kept) (n : ℕ) (q : ℚ) → AreBelow n es → entry_on (es ++ (n, q) ∷ []) n ≡ q
entry_last [] n q h = ap (λ b. cond b q zeroℚ) (eq-eqb n n refl)
entry_last (e ∷ es) n q h =
    let ne : ¬ (e.0 ≡ n) = λ (s : e.0 ≡ n). absurd (omega (arith, s, h.0)) in
    ap (λ b. cond b e.1 (entry_on (es ++ (n, q) ∷ []) n)) (ne_eqb e.0 n ne) ∙ entry_last es n q h.1

-- with one number more, that of the last variable and those of the others
last_with : (n : ℕ) (f : ℕ → ℚ) (b : Bool) → is_zero (f n) ≡ b → entry_on (kept_of n f ++ cond b [] ((n, f n) ∷ [])) n ≡ f n
last_with n f true e = ap (λ es. entry_on es n) (append-nil (kept_of n f)) ∙ entry_none (kept_of n f) n (kept_below n f) ∙ sym (zero_of_test (f n) e)
last_with n f false e = entry_last (kept_of n f) n (f n) (kept_below n f)

other_with : (n : ℕ) (f : ℕ → ℚ) (k : ℕ) (b : Bool) → ¬ (n ≡ k) → entry_on (kept_of n f ++ cond b [] ((n, f n) ∷ [])) k ≡ entry_on (kept_of n f) k
other_with n f k true ne = ap (λ es. entry_on es k) (append-nil (kept_of n f))
other_with n f k false ne = entry_other (kept_of n f) n (f n) k ne

pub entry_kept : (n : ℕ) (f : ℕ → ℚ) (k : ℕ) → k < n → entry_on (kept_of n f) k ≡ f k
entry_kept zero f k l = absurd (omega (arith, l))
entry_kept (suc n) f k l =
    elim (cases_eq k n) [
      | inl same ↦ subst (λ v. entry_on (kept_of n f ++ kept_at n (f n)) v ≡ f v) (sym same) (last_with n f (is_zero (f n)) refl)
      | inr other ↦ (other_with n f k (is_zero (f n)) (λ s. other (sym s)) ∙ entry_kept n f k (omega (arith, l, other)))
    ]

back : (n : ℕ) (f : ℕ → ℚ) → dense n (kept_of n f) ≡ table n f
back n f = table_same n (entry_on (kept_of n f)) f zeroℚ (λ k l. entry_kept n f k l)

gaps : (m more : ℕ) (f : ℕ → ℚ) → ((k : ℕ) → m ≤ k → k < m + more → f k ≡ zeroℚ) → kept_of (m + more) f ≡ kept_of m f
gaps m zero f h = let e : m + 0 ≡ m = omega arith in ap (λ n. kept_of n f) e
gaps m (suc more) f h =
    let e : m + suc more ≡ suc (m + more) = omega arith in
    let z : is_zero (f (m + more)) ≡ true = is_zero_of (f (m + more)) (h (m + more) (omega arith) (omega arith)) in
    ap (λ n. kept_of n f) e
    ∙ ap (λ b. kept_of (m + more) f ++ cond b [] ((m + more, f (m + more)) ∷ [])) z
    ∙ append-nil (kept_of (m + more) f)
    ∙ gaps m more f (λ k l u. h k l (omega (arith, u)))

unformed : (m more : ℕ) (f : ℕ → List Placed) → ((k : ℕ) → m ≤ k → k < m + more → f k ≡ []) → each (m + more) f ≡ each m f
unformed m zero f h = let e : m + 0 ≡ m = omega arith in ap (λ n. each n f) e
unformed m (suc more) f h =
    let e : m + suc more ≡ suc (m + more) = omega arith in
    ap (λ n. each n f) e
    ∙ ap (λ xs. each (m + more) f ++ xs) (h (m + more) (omega arith) (omega arith))
    ∙ append-nil (each (m + more) f)
    ∙ unformed m more f (λ k l u. h k l (omega (arith, u)))

pub sparse_lines_tell : SparseLinesTell
sparse_lines_tell = record { back = back; gaps = gaps; unformed = unformed }
