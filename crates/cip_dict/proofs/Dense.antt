-- Lists of kept entries, read as dense lines.
use Rattle.std.proofs.Common.{◌≡◌, ℕ, ◌<◌, ◌==◌, Bool, cond, List, [], length, get_or, set, replicate, None, Result, Ok, Err, MatchResult, OnOk, OnErr, sym, ap, ◌∙◌, subst, inl, inr, arith, length-set, zero, suc, ◌++◌, refl, ap₂}
use Rattle.std.proofs.lemmas.Bool.{cases_eq, eq-eqb, ne_eqb}
use Rattle.std.proofs.lemmas.List.{get_or-set_same, get_or-set_other, get_or-replicate, length-replicate}
use Rattle.cip_rational.specs.Rational.{ℚ, zeroℚ}
use Rattle.cip_problem.specs.Activity.{value_at}
use Rattle.cip_bland.specs.Tables.{table, each}
use Rattle.cip_bland.specs.Exchange.{is_absent, solved_at, solved, substituted_at, substituted}
use Rattle.cip_bland.specs.Operations.{Placed, first_overflow, entry_place}
use Rattle.cip_bland.specs.MoveOperations.{solved_operations_at, solved_operations, substituted_operations_at, substituted_operations}
use Rattle.cip_bland.specs.declared.places.Line.{Line}
use Rattle.cip_bland.proofs.Tables.{length-table, at_table, same_table, table_same}
use Rattle.cip_dict.specs.declared.fault.MoveFault.{MoveFault}
use Rattle.cip_dict.specs.MoveFaults.{IsMoveFault}
use Rattle.cip_dict.specs.SparseLines.{Kept, entry_on, dense, kept_at, kept_of, AreKept}
use Rattle.cip_dict.proofs.SparseLines.{sparse_lines_tell}
use Rattle.cip_dict.proofs.Chains.{each_same}

pub dense_long : (n : ℕ) (es : List Kept) → length (dense n es) ≡ n
dense_long n es = length-table n (entry_on es)

-- a line of n entries that is a dense line
pub dense_len : (len n : ℕ) (es : List Kept) (row : List ℚ) → dense len es ≡ row → length row ≡ n → len ≡ n
dense_len len n es row e l = sym (dense_long len es) ∙ ap length e ∙ l

pub dense_read : (len : ℕ) (es : List Kept) (row : List ℚ) (k : ℕ) → dense len es ≡ row → k < length row → value_at row k ≡ entry_on es k
dense_read len es row k e l =
    let n : length row ≡ len = sym (ap length e) ∙ dense_long len es in
    ap (λ xs. value_at xs k) (sym e) ∙ at_table len (entry_on es) k zeroℚ (omega (arith, l, n))

pub dense_kept : (len n : ℕ) (es : List Kept) (row : List ℚ) → dense len es ≡ row → length row ≡ n → AreKept 0 len es → AreKept 0 n es
dense_kept len n es row e l h = subst (λ (m : ℕ). AreKept 0 m es) (dense_len len n es row e l) h

pub dense_none : (n : ℕ) → replicate n zeroℚ ≡ dense n []
dense_none n = same_table n (entry_on []) (replicate n zeroℚ) zeroℚ (length-replicate n zeroℚ) (λ k l. get_or-replicate n k zeroℚ zeroℚ l)

pub dense_set : (n k : ℕ) (q : ℚ) (old new : List Kept) → k < n → ((v : ℕ) → entry_on new v ≡ cond (v == k) q (entry_on old v)) → dense n new ≡ set (dense n old) k q
dense_set n k q old new l h =
    sym (same_table n (entry_on new) (set (dense n old) k q) zeroℚ (length-set (dense n old) k q ∙ dense_long n old) (λ v lv. elim (cases_eq v k) [
      | inl s ↦ ap (λ u. get_or (set (dense n old) k q) u zeroℚ) s ∙ get_or-set_same (dense n old) k q zeroℚ (omega (arith, l, dense_long n old))
          ∙ sym (h v ∙ ap (λ t. cond t q (entry_on old v)) (eq-eqb v k s))
      | inr ne ↦ get_or-set_other (dense n old) k v q zeroℚ ne ∙ at_table n (entry_on old) v zeroℚ lv
          ∙ sym (h v ∙ ap (λ t. cond t q (entry_on old v)) (ne_eqb v k ne))
    ]))

-- what is kept of a function by its operations is the table of another that agrees with it
pub dense_written : {X : Type 0} (n : ℕ) (ops ops' : ℕ → List Placed) (f f' : ℕ → ℚ) (out : List Kept) (r : Result X MoveFault) → ((k : ℕ) → k < n → ops k ≡ ops' k) → ((k : ℕ) → k < n → f k ≡ f' k) → MatchResult r (λ _. (first_overflow (each n ops) ≡ None) × (out ≡ kept_of n f)) (IsMoveFault (each n ops)) → MatchResult r (λ _. (first_overflow (each n ops') ≡ None) × (dense n out ≡ table n f')) (IsMoveFault (each n ops'))
dense_written n ops ops' f f' out (Ok v) ho hf h =
    (ap first_overflow (sym (each_same n ops ops' ho)) ∙ h.0, ap (dense n) h.1 ∙ sparse_lines_tell.back n f ∙ table_same n f f' zeroℚ hf)
dense_written n ops ops' f f' out (Err fault) ho hf h = subst (λ (all : List Placed). IsMoveFault all fault) (each_same n ops ops' ho) h

-- what follows from what an Ok says
pub on_err : {X E P : Type 0} (r : Result X E) → P → OnErr r P
on_err (Ok x) h = tt
on_err (Err e) h = h

pub on_ok : {X E : Type 0} (r : Result X E) (P Q : Type 0) → OnOk r P → (P → Q) → OnOk r Q
on_ok (Ok v) P Q h f = f h
on_ok (Err e) P Q h f = tt

-- lines that are written by the entries of others
module _ {X : Type 0} (n : ℕ) (basic : ℕ → Bool) (i j : ℕ) (q : ℚ) (len : ℕ) (es : List Kept) (row : List ℚ) (view : dense len es ≡ row) (long : length row ≡ n) (out : List Kept) (r : Result X MoveFault) where
  reads : (k : ℕ) → k < n → entry_on es k ≡ value_at row k
  reads k l = sym (dense_read len es row k view (omega (arith, l, long)))

  pub solved_written : (line : Line)
      → MatchResult r (λ _. (first_overflow (each n (solved_operations line basic i j q (entry_on es))) ≡ None) × (out ≡ kept_of n (solved basic i j q (entry_on es)))) (IsMoveFault (each n (solved_operations line basic i j q (entry_on es))))
      → MatchResult r (λ _. (first_overflow (each n (solved_operations line basic i j q (value_at row))) ≡ None) × (dense n out ≡ table n (solved basic i j q (value_at row)))) (IsMoveFault (each n (solved_operations line basic i j q (value_at row))))
  solved_written line h =
      dense_written n (solved_operations line basic i j q (entry_on es)) (solved_operations line basic i j q (value_at row)) (solved basic i j q (entry_on es)) (solved basic i j q (value_at row)) out r
      (λ k l. ap (λ a. solved_operations_at (entry_place line k) (k == i) (is_absent basic j k) q a) (reads k l))
      (λ k l. ap (λ a. solved_at (k == i) (is_absent basic j k) q a) (reads k l)) h

  pub substituted_written : (line : Line) (len' : ℕ) (fs : List Kept) (new : List ℚ) → dense len' fs ≡ new → length new ≡ n → j < n
      → MatchResult r (λ _. (first_overflow (each n (substituted_operations line basic i j q (entry_on fs) (entry_on es))) ≡ None) × (out ≡ kept_of n (substituted basic i j q (entry_on fs) (entry_on es)))) (IsMoveFault (each n (substituted_operations line basic i j q (entry_on fs) (entry_on es))))
      → MatchResult r (λ _. (first_overflow (each n (substituted_operations line basic i j q (value_at new) (value_at row))) ≡ None) × (dense n out ≡ table n (substituted basic i j q (value_at new) (value_at row)))) (IsMoveFault (each n (substituted_operations line basic i j q (value_at new) (value_at row))))
  substituted_written line len' fs new view' long' lj h =
      let read' : (k : ℕ) → k < n → entry_on fs k ≡ value_at new k = λ k l. sym (dense_read len' fs new k view' (omega (arith, l, long'))) in
      dense_written n (substituted_operations line basic i j q (entry_on fs) (entry_on es)) (substituted_operations line basic i j q (value_at new) (value_at row)) (substituted basic i j q (entry_on fs) (entry_on es)) (substituted basic i j q (value_at new) (value_at row)) out r
      (λ k l.
      ap (λ a. substituted_operations_at (entry_place line k) (k == i) (is_absent basic j k) q a (entry_on es j) (entry_on fs k)) (reads k l)
      ∙ ap (λ b. substituted_operations_at (entry_place line k) (k == i) (is_absent basic j k) q (value_at row k) b (entry_on fs k)) (reads j lj)
      ∙ ap (λ c. substituted_operations_at (entry_place line k) (k == i) (is_absent basic j k) q (value_at row k) (value_at row j) c) (read' k l))
      (λ k l.
      ap (λ a. substituted_at (k == i) (is_absent basic j k) q a (entry_on es j) (entry_on fs k)) (reads k l)
      ∙ ap (λ b. substituted_at (k == i) (is_absent basic j k) q (value_at row k) b (entry_on fs k)) (reads j lj)
      ∙ ap (λ c. substituted_at (k == i) (is_absent basic j k) q (value_at row k) (value_at row j) c) (read' k l)) h

-- what is kept of a line by the entries of a row is what is kept by the row
pub row_written : {X : Type 0} (n : ℕ) (line : Line) (basic : ℕ → Bool) (i j : ℕ) (q : ℚ) (len : ℕ) (es : List Kept) (row : List ℚ) → dense len es ≡ row → length row ≡ n → (new : ℕ → ℚ) → j < n → (out : List Kept) (r : Result X MoveFault)
    → MatchResult r (λ _. (first_overflow (each n (substituted_operations line basic i j q new (entry_on es))) ≡ None) × (out ≡ kept_of n (substituted basic i j q new (entry_on es)))) (IsMoveFault (each n (substituted_operations line basic i j q new (entry_on es))))
    → MatchResult r (λ _. (first_overflow (each n (substituted_operations line basic i j q new (value_at row))) ≡ None) × (out ≡ kept_of n (substituted basic i j q new (value_at row)))) (IsMoveFault (each n (substituted_operations line basic i j q new (value_at row))))
row_written {X} n line basic i j q len es row view long new lj out r h =
    let reads : (k : ℕ) → k < n → entry_on es k ≡ value_at row k = λ k l. sym (dense_read len es row k view (omega (arith, l, long))) in
    let ops : each n (substituted_operations line basic i j q new (entry_on es)) ≡ each n (substituted_operations line basic i j q new (value_at row)) =
    each_same n _ _ (λ k l. ap (λ a. substituted_operations_at (entry_place line k) (k == i) (is_absent basic j k) q a (entry_on es j) (new k)) (reads k l) ∙ ap (λ b. substituted_operations_at (entry_place line k) (k == i) (is_absent basic j k) q (value_at row k) b (new k)) (reads j lj)) in
    let kept : kept_of n (substituted basic i j q new (entry_on es)) ≡ kept_of n (substituted basic i j q new (value_at row)) =
    kept_same n _ _ (λ k l. ap (λ a. substituted_at (k == i) (is_absent basic j k) q a (entry_on es j) (new k)) (reads k l) ∙ ap (λ b. substituted_at (k == i) (is_absent basic j k) q (value_at row k) b (new k)) (reads j lj)) in
    rw (ops, kept) at h
  where
    kept_same : (n : ℕ) (f g : ℕ → ℚ) → ((k : ℕ) → k < n → f k ≡ g k) → kept_of n f ≡ kept_of n g
    kept_same zero f g e = refl
    kept_same (suc n) f g e = ap₂ (λ xs ys. xs ++ ys) (kept_same n f g (λ k l. e k (omega (arith, l)))) (ap (kept_at n) (e n (omega arith)))

-- a line that is written by the entries of the row that enters is the line of that row
pub entering_written : {X : Type 0} (n : ℕ) (line : Line) (basic : ℕ → Bool) (i j : ℕ) (q : ℚ) (fs : List Kept) (new : List ℚ) → dense n fs ≡ new → length new ≡ n → (row : ℕ → ℚ) (out : List ℚ) (r : Result X MoveFault)
    → MatchResult r (λ _. (first_overflow (each n (substituted_operations line basic i j q (entry_on fs) row)) ≡ None) × (out ≡ table n (substituted basic i j q (entry_on fs) row))) (IsMoveFault (each n (substituted_operations line basic i j q (entry_on fs) row)))
    → MatchResult r (λ _. (first_overflow (each n (substituted_operations line basic i j q (value_at new) row)) ≡ None) × (out ≡ table n (substituted basic i j q (value_at new) row))) (IsMoveFault (each n (substituted_operations line basic i j q (value_at new) row)))
entering_written {X} n line basic i j q fs new view long row out r h =
    let reads : (k : ℕ) → k < n → entry_on fs k ≡ value_at new k = λ k l. sym (dense_read n fs new k view (omega (arith, l, long))) in
    let ops : each n (substituted_operations line basic i j q (entry_on fs) row) ≡ each n (substituted_operations line basic i j q (value_at new) row) =
    each_same n _ _ (λ k l. ap (λ c. substituted_operations_at (entry_place line k) (k == i) (is_absent basic j k) q (row k) (row j) c) (reads k l)) in
    let values : table n (substituted basic i j q (entry_on fs) row) ≡ table n (substituted basic i j q (value_at new) row) =
    table_same n _ _ zeroℚ (λ k l. ap (λ c. substituted_at (k == i) (is_absent basic j k) q (row k) (row j) c) (reads k l)) in
    rw (ops, values) at h
