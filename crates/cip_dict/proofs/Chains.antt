-- Operations one list after another, and rows that are written by a list for a function.
use Rattle.std.proofs.Common.{◌≡◌, ℕ, zero, suc, ◌<◌, ◌==◌, Bool, cond, not, ◌&&◌, List, [], ◌∷◌, ◌++◌, length, Option, None, Some, Result, Ok, Err, MatchResult, refl, sym, ap, ap₂, ◌∙◌, arith}
use Rattle.std.proofs.lemmas.Bool.{eq-eqb}
use Rattle.cip_rational.specs.Rational.{ℚ, ◌-ℚ◌, ◌*ℚ◌, zeroℚ}
use Rattle.cip_problem.specs.Activity.{value_at}
use Rattle.cip_bland.specs.Tables.{table, each}
use Rattle.cip_bland.specs.Exchange.{is_absent, solved_at, solved, substituted_at, substituted}
use Rattle.cip_bland.specs.Operations.{Placed, first_overflow, entry_place, value_place, placed, Difference, Product}
use Rattle.cip_bland.specs.MoveOperations.{substituted_operations_at, substituted_operations}
use Rattle.cip_bland.specs.declared.places.Line.{Line}
use Rattle.cip_bland.specs.declared.places.Line.TheVariants.{Row}
use Rattle.cip_bland.specs.declared.places.EntryPlace.{EntryPlace}
use Rattle.cip_bland.specs.declared.moves.Stand.{Stand}
use Rattle.cip_bland.proofs.Overflow.{overflow-append}
use Rattle.cip_bland.proofs.Tables.{at_table, table_same}
use Rattle.cip_dict.specs.declared.lists.Lists.{Lists}
use Rattle.cip_dict.specs.declared.lists.Room.{Room}
use Rattle.cip_dict.specs.Written.{moves_operations, MovesWritten, step_in, values_operations}
use Rattle.cip_dict.specs.declared.fault.OutOfRange.{OutOfRange}
use Rattle.cip_dict.specs.declared.fault.MoveFault.{MoveFault}
use Rattle.cip_dict.specs.MoveFaults.{IsMoveFault}
use Rattle.cip_dict.specs.Lists.{basic_in}
use Rattle.cip_dict.specs.Row.{form_changes, form_operations_in, written_form}

-- what holds of two lists holds of those that they are equal to
pub both_as : {A B : Type 0} (P : A → B → Type 0) (a a' : A) (b b' : B) → a ≡ a' → b ≡ b' → P a b → P a' b'
both_as P a a' b b' p q h = rw (sym p, sym q) h

-- what comes after operations none of which overflows
pub then_rest : {X : Type 0} (xs ys : List Placed) (r : Result X OutOfRange) (P Q : X → Type 0) → first_overflow xs ≡ None → MatchResult r (λ v. (first_overflow ys ≡ None) × P v) (λ f. first_overflow ys ≡ Some f.place) → ((v : X) → P v → Q v) → MatchResult r (λ v. (first_overflow (xs ++ ys) ≡ None) × Q v) (λ f. first_overflow (xs ++ ys) ≡ Some f.place)
then_rest xs ys (Ok v) P Q e h f = (overflow-append xs ys e ∙ h.0, f v h.1)
then_rest xs ys (Err fault) P Q e h f = overflow-append xs ys e ∙ h

pub then_rest_as : {X : Type 0} (all xs ys : List Placed) (r : Result X OutOfRange) (P Q : X → Type 0) → all ≡ xs ++ ys → first_overflow xs ≡ None → MatchResult r (λ v. (first_overflow ys ≡ None) × P v) (λ f. first_overflow ys ≡ Some f.place) → ((v : X) → P v → Q v) → MatchResult r (λ v. (first_overflow all ≡ None) × Q v) (λ f. first_overflow all ≡ Some f.place)
then_rest_as all xs ys r P Q e h k f = rw e (then_rest xs ys r P Q h k f)

-- the step of the variable that enters, and then the values and the cost
pub values_then : (standing : List (Option Stand)) (i j : ℕ) (side q : ℚ) (lists : Lists) (old new : Room) (at : EntryPlace) (value t : ℚ) (r : Result ℚ OutOfRange) → at ≡ value_place (Row i) → value ≡ value_at lists.values.items i → first_overflow (placed at (Difference side value) ∷ placed at (Product (side -ℚ value) q) ∷ []) ≡ None → t ≡ (side -ℚ value) *ℚ q
    → MatchResult r (λ cost. (first_overflow (moves_operations standing j t lists) ≡ None) × MovesWritten standing j t lists old new cost) (λ f. first_overflow (moves_operations standing j t lists) ≡ Some f.place)
    → MatchResult r (λ cost. (first_overflow (values_operations standing i j side q lists) ≡ None) × MovesWritten standing j (step_in i side q lists) lists old new cost) (λ f. first_overflow (values_operations standing i j side q lists) ≡ Some f.place)
values_then standing i j side q lists old new at value t r p e fits is h =
    let t_is : t ≡ step_in i side q lists = is ∙ ap (λ v. (side -ℚ v) *ℚ q) e in
    let first : first_overflow (placed (value_place (Row i)) (Difference side (value_at lists.values.items i)) ∷ placed (value_place (Row i)) (Product (side -ℚ value_at lists.values.items i) q) ∷ []) ≡ None = rw (sym p, sym e) fits in
    then_rest (placed (value_place (Row i)) (Difference side (value_at lists.values.items i)) ∷ placed (value_place (Row i)) (Product (side -ℚ value_at lists.values.items i) q) ∷ []) (moves_operations standing j (step_in i side q lists) lists) r
    (λ cost. MovesWritten standing j (step_in i side q lists) lists old new cost) (λ cost. MovesWritten standing j (step_in i side q lists) lists old new cost)
    first (rw (sym t_is) h) (λ v w. w)

pub each_same : {X : Type 0} (n : ℕ) (f g : ℕ → List X) → ((k : ℕ) → k < n → f k ≡ g k) → each n f ≡ each n g
each_same zero f g h = refl
each_same (suc n) f g h = ap₂ (λ xs ys. xs ++ ys) (each_same n f g (λ k l. h k (omega (arith, l)))) (h n (omega arith))

-- a list that is the table of a function reads as it
table_read : (n : ℕ) (new : List ℚ) (f : ℕ → ℚ) → new ≡ table n f → (k : ℕ) → k < n → value_at new k ≡ f k
table_read n new f e k l = ap (λ xs. value_at xs k) e ∙ at_table n f k zeroℚ l

module _ (n : ℕ) (new : List ℚ) (f : ℕ → ℚ) (e : new ≡ table n f) where
  pub operations_new : (line : Line) (basic : ℕ → Bool) (i j : ℕ) (q : ℚ) (row : ℕ → ℚ) → each n (substituted_operations line basic i j q (value_at new) row) ≡ each n (substituted_operations line basic i j q f row)
  operations_new line basic i j q row =
      each_same n _ _ (λ k l. ap (λ c. substituted_operations_at (entry_place line k) (k == i) (is_absent basic j k) q (row k) (row j) c) (table_read n new f e k l))

  pub table_new : (basic : ℕ → Bool) (i j : ℕ) (q : ℚ) (row : ℕ → ℚ) → table n (substituted basic i j q (value_at new) row) ≡ table n (substituted basic i j q f row)
  table_new basic i j q row =
      table_same n _ _ zeroℚ (λ k l. ap (λ c. substituted_at (k == i) (is_absent basic j k) q (row k) (row j) c) (table_read n new f e k l))

  -- so a line that is written by it is the line of the function
  pub line_new : {X : Type 0} (line : Line) (basic : ℕ → Bool) (i j : ℕ) (q : ℚ) (row : ℕ → ℚ) (out : List ℚ) (r : Result X MoveFault)
      → MatchResult r (λ _. (first_overflow (each n (substituted_operations line basic i j q (value_at new) row)) ≡ None) × (out ≡ table n (substituted basic i j q (value_at new) row))) (IsMoveFault (each n (substituted_operations line basic i j q (value_at new) row)))
      → MatchResult r (λ _. (first_overflow (each n (substituted_operations line basic i j q f row)) ≡ None) × (out ≡ table n (substituted basic i j q f row))) (IsMoveFault (each n (substituted_operations line basic i j q f row)))
  line_new line basic i j q row out r h = rw (operations_new line basic i j q row, table_new basic i j q row) at h

module _ (standing : List (Option Stand)) (i j : ℕ) (q : ℚ) (new : List ℚ) (f : ℕ → ℚ) (e : new ≡ table (length standing) f) where
  pub form_operations_new : (rows : ℕ → List ℚ) → each (length standing) (λ v. form_operations_in standing i j q (value_at new) v (rows v)) ≡ each (length standing) (λ v. form_operations_in standing i j q f v (rows v))
  form_operations_new rows =
      each_same (length standing) _ _ (λ v l. ap (λ ops. cond (basic_in standing v && not (v == i)) ops []) (operations_new (length standing) new f e _ (basic_in standing) i j q (value_at (rows v))))

  pub written_new : (rows out : ℕ → List ℚ) → table (length standing) (λ v. written_form standing i j q (value_at new) v (rows v) (out v)) ≡ table (length standing) (λ v. written_form standing i j q f v (rows v) (out v))
  written_new rows out =
      table_same (length standing) _ _ [] (λ v l. ap (λ xs. cond (form_changes standing i j v (rows v)) xs (out v)) (table_new (length standing) new f e (basic_in standing) i j q (value_at (rows v))))

-- the row of the variable that enters has q on the one that leaves
pub leaving_entry : (n : ℕ) (basic : ℕ → Bool) (i j : ℕ) (q : ℚ) (row : ℕ → ℚ) (new : List ℚ) → new ≡ table n (solved basic i j q row) → i < n → value_at new i ≡ q
leaving_entry n basic i j q row new e l =
    table_read n new (solved basic i j q row) e i l ∙ ap (λ t. solved_at t (is_absent basic j i) q (row i)) (eq-eqb i i refl)
