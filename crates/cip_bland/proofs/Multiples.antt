-- A multiplier for each variable: its sums, the sides that it uses, and the parts that its certificate names.
use Rattle.std.proofs.Common.{◌≡◌, ℕ, zero, suc, ◌+◌, ◌<◌, false, cond, List, [], ◌∷◌, length, map, get_or, refl, sym, ap, ap₂, ◌∙◌, subst, arith, add-zero, add-suc}
use Rattle.std.proofs.lemmas.List.{length-map, get_or-map}
use Rattle.std.proofs.lemmas.Option.{slice_get-get_or}
use Rattle.std.proofs.lemmas.Bool.{lt-ltb, le-ltb}
use Rattle.cip_rational.specs.Rational.{ℚ, ◌+ℚ◌, ◌*ℚ◌, zeroℚ}
use Rattle.cip_rational.specs.Sums.{dot}
use Rattle.cip_rational.proofs.Rational.Ring.{+ℚ-zero, +ℚ_assoc}
use Rattle.cip_bland.specs.Program.{Sides, Row, no_row}
use Rattle.cip_bland.specs.Activity.{activity, value_at}
use Rattle.cip_bland.specs.Box.{sides_at, no_sides}
use Rattle.cip_bland.specs.LinearProgram.{LinearProgram, IsProper}
use Rattle.cip_bland.specs.Multipliers.{OnVariables, paired, activities, extended, IsUsed, AllUsed, row_sides, UsesSides, SumsTo}
use Rattle.cip_bland.specs.Tables.{table, total, form}
use Rattle.cip_bland.specs.Dictionary.{size, cost_entry, Solves}
use Rattle.cip_bland.specs.FirstState.{is_column, row_number}
use Rattle.cip_bland.specs.FirstState.{extended as first_extended}
use Rattle.cip_bland.specs.ProgramState.{system_of, first_of_program}
use Rattle.cip_bland.proofs.Tables.{length-table, at_table, form_same, form_at_same}
use Rattle.cip_bland.proofs.First.{first_states_tell}
use Rattle.cip_bland.proofs.Programs.{programs_are_told, form-dot}
use Rattle.cip_bland.proofs.PointsOf.{size_is, sides_of_column, sides_of_row}

-- ---- sums

total-split : (n m : ℕ) (f : ℕ → ℚ) → total (n + m) f ≡ total n f +ℚ total m (λ r. f (n + r))
total-split n zero f = rw add-zero (sym (+ℚ-zero (total n f)))
total-split n (suc m) f =
    let e : total (n + suc m) f ≡ total (n + m) f +ℚ f (n + m) = rw add-suc refl in
    e ∙ ap (λ q. q +ℚ f (n + m)) (total-split n m f) ∙ +ℚ_assoc (total n f) (total m (λ r. f (n + r))) (f (n + m))

-- a sum of products, from a table
table_dot : (n : ℕ) (y : ℕ → ℚ) (xs : List ℚ) (x : ℕ → ℚ) → length xs ≡ n → ((k : ℕ) → k < n → value_at xs k ≡ x k) → dot (table n y) xs ≡ form n y x
table_dot n y xs x l same =
    sym (form-dot n (table n y) xs (length-table n y) l)
    ∙ form_same n (value_at (table n y)) y (value_at xs) (λ k h. at_table n y k zeroℚ h)
    ∙ form_at_same n y (value_at xs) x same

-- ---- a program, and a multiplier for each of its variables
module _ (program : LinearProgram) where
  -- a number for each variable, as numbers for columns and rows
  abbrev pub on_variables : (ℕ → ℚ) → OnVariables
  on_variables y = record {
    columns = table (length program.bounds) y;
    rows = table (length program.rows) (λ r. y (length program.bounds + r));
  }

  paired_with : (y x : ℕ → ℚ) (xs rs : List ℚ) → length xs ≡ length program.bounds → length rs ≡ length program.rows → ((k : ℕ) → k < length program.bounds → value_at xs k ≡ x k) → ((r : ℕ) → r < length program.rows → value_at rs r ≡ x (length program.bounds + r)) → paired (on_variables y) (record { columns = xs; rows = rs }) ≡ form (size (first_of_program program)) y x
  paired_with y x xs rs lx lr same_columns same_rows =
      ap₂ (λ a b. a +ℚ b)
      (table_dot (length program.bounds) y xs x lx same_columns)
      (table_dot (length program.rows) (λ r. y (length program.bounds + r)) rs (λ r. x (length program.bounds + r)) lr same_rows)
      ∙ sym (total-split (length program.bounds) (length program.rows) (λ k. y k *ℚ x k))
      ∙ sym (ap (λ n. form n y x) (size_is program))

  -- the sum of the products with numbers for the variables
  pub paired_is : (y u : ℕ → ℚ) → paired (on_variables y) (on_variables u) ≡ form (size (first_of_program program)) y u
  paired_is y u =
      paired_with y u (table (length program.bounds) u) (table (length program.rows) (λ r. u (length program.bounds + r)))
      (length-table (length program.bounds) u) (length-table (length program.rows) (λ r. u (length program.bounds + r)))
      (λ k l. at_table (length program.bounds) u k zeroℚ l)
      (λ r l. at_table (length program.rows) (λ r. u (length program.bounds + r)) r zeroℚ l)

  -- the numbers of a point
  at_column : (z : List ℚ) (k : ℕ) → k < length program.bounds → first_extended (system_of program) z k ≡ value_at z k
  at_column z k l =
      ap (λ t. cond t (value_at z k) (form (length program.bounds) ((system_of program).coefficient (row_number (system_of program) k)) (value_at z))) (lt-ltb k (length program.bounds) l)

  at_row : IsProper program → (z : List ℚ) (r : ℕ) → r < length program.rows → value_at (activities program.rows z) r ≡ first_extended (system_of program) z (length program.bounds + r)
  at_row proper z r l =
      let p = system_of program in
      let v = length program.bounds + r in
      let row = get_or program.rows r no_row in
      let number : row_number p v ≡ r = omega arith in
      let no : is_column p v ≡ false = le-ltb v (length program.bounds) (omega arith) in
      get_or-map (λ (row : Row). activity row.terms z) program.rows r no_row zeroℚ l
      ∙ sym ((programs_are_told program proper).activities z r row (slice_get-get_or program.rows r no_row l))
      ∙ sym (ap (λ t. form (length program.bounds) (p.coefficient t) (value_at z)) number)
      ∙ sym (ap (λ t. cond t (value_at z v) (form (length program.bounds) (p.coefficient (row_number p v)) (value_at z))) no)

  paired_at : IsProper program → (y : ℕ → ℚ) (z : List ℚ) → length z ≡ length program.bounds → paired (on_variables y) (extended program z) ≡ form (size (first_of_program program)) y (first_extended (system_of program) z)
  paired_at proper y z l =
      paired_with y (first_extended (system_of program) z) z (activities program.rows z) l (length-map program.rows (λ (row : Row). activity row.terms z))
      (λ k h. sym (at_column z k h)) (at_row proper z)

  -- multipliers whose form is that of the cost sum to the costs
  pub sums_to_costs : IsProper program → (y : ℕ → ℚ) → ((x : ℕ → ℚ) → Solves (first_of_program program) x → form (size (first_of_program program)) y x ≡ form (size (first_of_program program)) (cost_entry (first_of_program program)) x) → SumsTo program (on_variables y) program.costs
  sums_to_costs proper y same z l =
      let x = first_extended (system_of program) z in
      let told = first_states_tell (system_of program) in
      paired_at proper y z l
      ∙ same x (told.points z) ∙ told.costs x
      ∙ form_at_same (length program.bounds) (system_of program).costs x (value_at z) (λ k h. at_column z k h)
      ∙ (programs_are_told program proper).cost z l

  -- those whose form is 0 sum to costs of 0
  pub sums_to_nothing : IsProper program → (y : ℕ → ℚ) (costs : List ℚ) → ((x : ℕ → ℚ) → Solves (first_of_program program) x → form (size (first_of_program program)) y x ≡ zeroℚ) → ((z : List ℚ) → dot costs z ≡ zeroℚ) → SumsTo program (on_variables y) costs
  sums_to_nothing proper y costs none nothing z l =
      paired_at proper y z l
      ∙ none (first_extended (system_of program) z) ((first_states_tell (system_of program)).points z)
      ∙ sym (nothing z)

  -- ---- sides

  all_used : (ys : List ℚ) (ss : List Sides) (us : List ℚ) → length ss ≡ length ys → length us ≡ length ys → ((k : ℕ) → k < length ys → IsUsed (value_at ys k) (sides_at ss k) (value_at us k)) → AllUsed ys ss us
  all_used [] [] [] l m h = tt
  all_used [] [] (u ∷ us) l m h = absurd (omega (arith, m))
  all_used [] (s ∷ ss) us l m h = absurd (omega (arith, l))
  all_used (y ∷ ys) [] us l m h = absurd (omega (arith, l))
  all_used (y ∷ ys) (s ∷ ss) [] l m h = absurd (omega (arith, m))
  all_used (y ∷ ys) (s ∷ ss) (u ∷ us) l m h = (h 0 (omega arith), all_used ys ss us (omega (arith, l)) (omega (arith, m)) (λ k lt. h (suc k) (omega (arith, lt))))

  -- each multiplier uses the side that is the number there
  abbrev pub UsedAll : (ℕ → ℚ) → (ℕ → ℚ) → Type 0
  UsedAll y u = (v : ℕ) → v < size (first_of_program program) → IsUsed (y v) (sides_at (first_of_program program).sides v) (u v)

  pub row_used : (y u : ℕ → ℚ) → UsedAll y u → (r : ℕ) → r < length program.rows → IsUsed (y (length program.bounds + r)) (row_sides (get_or program.rows r no_row)) (u (length program.bounds + r))
  row_used y u used r l =
      subst (λ (s : Sides). IsUsed (y (length program.bounds + r)) s (u (length program.bounds + r))) (sides_of_row program r (get_or program.rows r no_row) (slice_get-get_or program.rows r no_row l))
      (used (length program.bounds + r) (omega (arith, l, size_is program)))

  pub column_used : (y u : ℕ → ℚ) → UsedAll y u → (k : ℕ) → k < length program.bounds → IsUsed (y k) (sides_at program.bounds k) (u k)
  column_used y u used k l =
      subst (λ (s : Sides). IsUsed (y k) s (u k)) (sides_of_column program k l) (used k (omega (arith, l, size_is program)))

  used_at : (n k : ℕ) (y u : ℕ → ℚ) (s : Sides) → k < n → IsUsed (y k) s (u k) → IsUsed (value_at (table n y) k) s (value_at (table n u) k)
  used_at n k y u s l h =
      subst (λ q. IsUsed q s (value_at (table n u) k)) (sym (at_table n y k zeroℚ l)) (subst (IsUsed (y k) s) (sym (at_table n u k zeroℚ l)) h)

  pub uses_sides : (y u : ℕ → ℚ) → UsedAll y u → UsesSides program (on_variables y) (on_variables u)
  uses_sides y u used =
      let n = length program.bounds in
      let m = length program.rows in
      let yr = λ (r : ℕ). y (n + r) in
      let ur = λ (r : ℕ). u (n + r) in
      record {
        columns =
            all_used (table n y) program.bounds (table n u) (sym (length-table n y)) (length-table n u ∙ sym (length-table n y))
            (λ k l. let l' : k < n = omega (arith, l, length-table n y) in used_at n k y u (sides_at program.bounds k) l' (column_used y u used k l'));
        rows =
            all_used (table m yr) (map row_sides program.rows) (table m ur) (length-map program.rows row_sides ∙ sym (length-table m yr)) (length-table m ur ∙ sym (length-table m yr))
            (λ r l. let l' : r < m = omega (arith, l, length-table m yr) in
            subst (λ (s : Sides). IsUsed (value_at (table m yr) r) s (value_at (table m ur) r)) (sym (get_or-map row_sides program.rows r no_row no_sides l'))
            (used_at m r yr ur (row_sides (get_or program.rows r no_row)) l' (row_used y u used r l')));
      }
