-- The entries of a linear program's rows give its first state.
use Rattle.std.proofs.Common.{◌≡◌, ◌≢◌, ℕ, zero, suc, ◌+◌, ◌<◌, ◌≤◌, ◌==◌, ◌&&◌, true, false, cond, List, [], ◌∷◌, ◌++◌, length, map, refl, sym, ap, ◌∙◌, inl, inr, arith, add-one}
use Rattle.std.proofs.lemmas.Bool.{eq-eqb, ne_eqb, cases_eq, cases_lt}
use Rattle.std.proofs.lemmas.List.{get_or_past}
use Rattle.std.proofs.lemmas.List.Elements.{All-append, All-map, All-nil}
use Rattle.cip_rational.specs.Rational.{ℚ, ◌+ℚ◌, zeroℚ}
use Rattle.cip_rational.proofs.Rational.Ring.{+ℚ-zero, zero-+ℚ}
use Rattle.cip_problem.specs.Program.{Term, Row, no_row}
use Rattle.cip_problem.specs.Activity.{value_at, StandsBelow}
use Rattle.cip_problem.specs.RowTerms.{column_at, AreTerms}
use Rattle.cip_problem.specs.LinearProgram.{LinearProgram, IsProper}
use Rattle.cip_problem.specs.Aggregate.{coefficient_on}
use Rattle.cip_problem.specs.Multipliers.{row_sides}
use Rattle.cip_bland.specs.Tables.{each}
use Rattle.cip_bland.specs.ProgramState.{terms_at, system_of}
use Rattle.cip_dict.specs.Entries.{Entry, entry_from, AreWithin, system_in}
use Rattle.cip_simplex.specs.LpEntries.{entry_of, row_entries, entries_in}

-- ---- one row

abbrev IsRising : List Term → Type 0
IsRising terms = (k : ℕ) → suc k < length terms → column_at terms k < column_at terms (suc k)

rising_of : (terms : List Term) → AreTerms terms → IsRising terms
rising_of terms h k l =
    let n : k + 1 ≡ suc k = add-one k in
    rw n at (h.rising k (omega (arith, l)))

rising_rest : (t : Term) (ts : List Term) → IsRising (t ∷ ts) → IsRising ts
rising_rest t ts h k l = h (suc k) (omega (arith, l))

-- a row doesn't have a column before its first one
absent : (t : Term) (ts : List Term) (r k : ℕ) (q : ℚ) → IsRising (t ∷ ts) → k ≤ t.column → (entry_from q (map (entry_of r) ts) r k ≡ q) × (coefficient_on ts k ≡ zeroℚ)
absent t [] r k q h l = (refl, refl)
absent t (u ∷ us) r k q h l =
    let above : t.column < u.column = h 0 (omega arith) in
    let ne : (u.column == k) ≡ false = ne_eqb u.column k (λ (e : u.column ≡ k). omega (arith, above, l, e)) in
    let test : (r == r && u.column == k) ≡ false = ap (λ b. b && u.column == k) (eq-eqb r r refl) ∙ ne in
    let rest = absent u us r k q (rising_rest t (u ∷ us) h) (omega (arith, above, l)) in (
      ap (λ b. entry_from (cond b u.coefficient q) (map (entry_of r) us) r k) test ∙ rest.0,
      ap (λ b. cond b u.coefficient zeroℚ +ℚ coefficient_on us k) ne ∙ zero-+ℚ (coefficient_on us k) ∙ rest.1,
    )

-- so it has its own coefficients
own_row : (ts : List Term) (r k : ℕ) → IsRising ts → entry_from zeroℚ (map (entry_of r) ts) r k ≡ coefficient_on ts k
own_row [] r k h = refl
own_row (t ∷ ts) r k h =
    let same : (r == r) ≡ true = eq-eqb r r refl in
    elim (cases_eq t.column k) [
      | inl e ↦ (let yes : (t.column == k) ≡ true = eq-eqb t.column k e in
          let test : (r == r && t.column == k) ≡ true = ap (λ b. b && t.column == k) same ∙ yes in
          let rest = absent t ts r k t.coefficient h (omega (arith, e)) in
          ap (λ b. entry_from (cond b t.coefficient zeroℚ) (map (entry_of r) ts) r k) test ∙ rest.0
          ∙ sym (ap (λ b. cond b t.coefficient zeroℚ +ℚ coefficient_on ts k) yes ∙ ap (λ c. t.coefficient +ℚ c) rest.1 ∙ +ℚ-zero t.coefficient))
      | inr ne ↦ (let no : (t.column == k) ≡ false = ne_eqb t.column k ne in
          let test : (r == r && t.column == k) ≡ false = ap (λ b. b && t.column == k) same ∙ no in
          ap (λ b. entry_from (cond b t.coefficient zeroℚ) (map (entry_of r) ts) r k) test ∙ own_row ts r k (rising_rest t ts h)
          ∙ sym (ap (λ b. cond b t.coefficient zeroℚ +ℚ coefficient_on ts k) no ∙ zero-+ℚ (coefficient_on ts k)))
    ]

-- and no coefficient of another
other_row : (ts : List Term) (r s k : ℕ) (q : ℚ) → r ≢ s → entry_from q (map (entry_of r) ts) s k ≡ q
other_row [] r s k q ne = refl
other_row (t ∷ ts) r s k q ne =
    ap (λ b. entry_from (cond (b && t.column == k) t.coefficient q) (map (entry_of r) ts) s k) (ne_eqb r s ne) ∙ other_row ts r s k q ne

-- ---- all rows

entry_from-append : (q : ℚ) (xs ys : List Entry) (r k : ℕ) → entry_from q (xs ++ ys) r k ≡ entry_from (entry_from q xs r k) ys r k
entry_from-append q [] ys r k = refl
entry_from-append q (x ∷ xs) ys r k = entry_from-append (cond (x.0 == r && x.1 == k) x.2 q) xs ys r k

rows_before : (rows : List Row) (n r k : ℕ) (q : ℚ) → n ≤ r → entry_from q (each n (row_entries rows)) r k ≡ q
rows_before rows zero r k q l = refl
rows_before rows (suc n) r k q l =
    entry_from-append q (each n (row_entries rows)) (row_entries rows n) r k
    ∙ ap (λ p. entry_from p (row_entries rows n) r k) (rows_before rows n r k q (omega (arith, l)))
    ∙ other_row (terms_at rows n) n r k q (λ (e : n ≡ r). omega (arith, l, e))

rows_with : (rows : List Row) (n r k : ℕ) → r < n → AreTerms (terms_at rows r) → entry_from zeroℚ (each n (row_entries rows)) r k ≡ coefficient_on (terms_at rows r) k
rows_with rows zero r k l h = absurd (omega (arith, l))
rows_with rows (suc n) r k l h =
    entry_from-append zeroℚ (each n (row_entries rows)) (row_entries rows n) r k
    ∙ elim (cases_eq n r) [
      | inl e ↦ ap (λ p. entry_from p (row_entries rows n) r k) (rows_before rows n r k zeroℚ (omega (arith, e)))
          ∙ ap (λ s. entry_from zeroℚ (row_entries rows s) r k) e ∙ own_row (terms_at rows r) r k (rising_of (terms_at rows r) h)
      | inr ne ↦ ap (λ p. entry_from p (row_entries rows n) r k) (rows_with rows n r k (omega (arith, l, ne)) h)
          ∙ other_row (terms_at rows n) n r k (coefficient_on (terms_at rows r) k) ne
    ]

rows_past : (rows : List Row) (r k : ℕ) → length rows ≤ r → coefficient_on (terms_at rows r) k ≡ zeroℚ
rows_past rows r k l = ap (λ (row : Row). coefficient_on row.terms k) (get_or_past rows r no_row l)

same_coefficient : (rows : List Row) → ((r : ℕ) → r < length rows → AreTerms (terms_at rows r)) → (r k : ℕ) → entry_from zeroℚ (entries_in rows) r k ≡ coefficient_on (terms_at rows r) k
same_coefficient rows h r k =
    elim (cases_lt r (length rows)) [
      | inl l ↦ rows_with rows (length rows) r k l (h r l)
      | inr l ↦ rows_before rows (length rows) r k zeroℚ l ∙ sym (rows_past rows r k l)
    ]

pub same_system : (program : LinearProgram) → ((r : ℕ) → r < length program.rows → AreTerms (terms_at program.rows r)) → system_in (entries_in program.rows) (map row_sides program.rows) program.bounds program.costs ≡ system_of program
same_system program h = λ i. record {
  columns = program.bounds;
  rows = map row_sides program.rows;
  coefficient = λ r k. same_coefficient program.rows h r k i;
  costs = λ k. value_at program.costs k;
}

-- ---- the entries are of the program's rows and columns

rows_within : (rows : List Row) (m n columns : ℕ) → n ≤ m → ((r : ℕ) → r < n → StandsBelow columns (terms_at rows r)) → AreWithin m columns (each n (row_entries rows))
rows_within rows m zero columns l h = All-nil (λ (e : Entry). (e.0 < m) × (e.1 < columns))
rows_within rows m (suc n) columns l h =
    All-append (λ (e : Entry). (e.0 < m) × (e.1 < columns)) (each n (row_entries rows)) (row_entries rows n)
    (rows_within rows m n columns (omega (arith, l)) (λ r lt. h r (omega (arith, lt))))
    (All-map (λ (e : Entry). (e.0 < m) × (e.1 < columns)) (entry_of n) (terms_at rows n) (λ k d lt. (omega (arith, l), h n (omega arith) k d lt)))

pub entries_within : (program : LinearProgram) → IsProper program → AreWithin (length program.rows) (length program.bounds) (entries_in program.rows)
entries_within program proper = rows_within program.rows (length program.rows) (length program.rows) (length program.bounds) (omega arith) (λ r l. proper.rows r no_row l)
