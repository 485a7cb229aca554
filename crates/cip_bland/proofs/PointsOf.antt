-- Numbers that solve a state of a program are its points with their activities, and its forms their sums.
use Rattle.std.proofs.Common.{◌≡◌, ℕ, suc, ◌+◌, ◌<◌, List, [], ◌∷◌, length, map, slice_get, cond, false, Some, refl, sym, ap, ◌∙◌, subst, arith}
use Rattle.std.specs.List.{AllByRecursion}
use Rattle.std.proofs.lemmas.List.{get_or_append_left, get_or-append-add, length-map, get_or-map}
use Rattle.std.proofs.lemmas.Option.{slice_get_within, get_or_from_slice_get}
use Rattle.std.proofs.lemmas.Bool.{le-ltb}
use Rattle.cip_rational.specs.Rational.{ℚ, zeroℚ, ◌<ℚ◌}
use Rattle.cip_rational.specs.Sums.{dot}
use Rattle.cip_bland.specs.Program.{Sides, Row, no_row}
use Rattle.cip_bland.specs.Activity.{activity, value_at}
use Rattle.cip_bland.specs.Box.{Between, sides_at, no_sides}
use Rattle.cip_bland.specs.Points.{IsSatisfied}
use Rattle.cip_bland.specs.LinearProgram.{LinearProgram, IsProper, IsPoint, IsRay, StaysBetween}
use Rattle.cip_bland.specs.Multipliers.{row_sides}
use Rattle.cip_bland.specs.Tables.{table, form}
use Rattle.cip_bland.specs.Dictionary.{size, cost_entry, Solves}
use Rattle.cip_bland.specs.FirstState.{first, is_column, row_number, extended}
use Rattle.cip_bland.specs.ProgramState.{system_of, first_of_program, TellsProgram}
use Rattle.cip_bland.proofs.Tables.{length-table, at_table, form_at_same}
use Rattle.cip_bland.proofs.First.{first_states_tell, first-size}
use Rattle.cip_bland.proofs.Programs.{programs_are_told}
use Rattle.cip_problem.proofs.Zips.{zip_from}

-- ---- lists by their places

pub all_rows : {X : Type 0} (P : X → Type 0) (xs : List X) → ((k : ℕ) (x : X) → slice_get xs k ≡ Some x → P x) → AllByRecursion P xs
all_rows P [] h = tt
all_rows P (x ∷ xs) h = (h 0 x refl, all_rows P xs (λ k y e. h (suc k) y e))

-- ---- a program

module _ (program : LinearProgram) where
  pub columns : ℕ
  columns = length program.bounds

  pub variables : ℕ
  variables = length program.bounds + length program.rows

  pub size_is : size (first_of_program program) ≡ length program.bounds + length program.rows
  size_is = first-size (system_of program) ∙ ap (λ k. length program.bounds + k) (length-map program.rows row_sides)

  pub sides_of_column : (k : ℕ) → k < length program.bounds → sides_at (first_of_program program).sides k ≡ sides_at program.bounds k
  unfolding first
  sides_of_column k l = get_or_append_left program.bounds (map row_sides program.rows) no_sides k l

  pub sides_of_row : (r : ℕ) (row : Row) → slice_get program.rows r ≡ Some row → sides_at (first_of_program program).sides (length program.bounds + r) ≡ row_sides row
  unfolding first
  sides_of_row r row e =
      get_or-append-add program.bounds (map row_sides program.rows) r no_sides
      ∙ get_or-map row_sides program.rows r no_row no_sides (slice_get_within program.rows r row e)
      ∙ ap row_sides (get_or_from_slice_get program.rows r row no_row e)

  module _ (proper : IsProper program) (x : ℕ → ℚ) (solves : Solves (first_of_program program) x) where
    tells : TellsProgram program
    tells = programs_are_told program proper

    pub row_activity : (r : ℕ) (row : Row) → slice_get program.rows r ≡ Some row → activity row.terms (table (length program.bounds) x) ≡ x (length program.bounds + r)
    row_activity r row e =
        let l : r < length program.rows = slice_get_within program.rows r row e in
        let z = table (length program.bounds) x in
        let p = system_of program in
        let v = length program.bounds + r in
        let here : x v ≡ extended p z v = (first_states_tell p).extensions x solves v (omega (arith, l, length-map program.rows row_sides)) in
        let no : is_column p v ≡ false = le-ltb v (length program.bounds) (omega arith) in
        let number : row_number p v ≡ r = omega arith in
        sym (here ∙ ap (λ t. cond t (value_at z v) (form (length program.bounds) (p.coefficient (row_number p v)) (value_at z))) no ∙ ap (λ t. form (length program.bounds) (p.coefficient t) (value_at z)) number ∙ tells.activities z r row e)

    pub cost_is : dot program.costs (table (length program.bounds) x) ≡ form (size (first_of_program program)) (cost_entry (first_of_program program)) x
    cost_is =
        sym (tells.cost (table (length program.bounds) x) (length-table (length program.bounds) x))
        ∙ form_at_same (length program.bounds) (system_of program).costs (value_at (table (length program.bounds) x)) x (λ k l. at_table (length program.bounds) x k zeroℚ l)
        ∙ sym ((first_states_tell (system_of program)).costs x)

    -- where the numbers lie between the sides of all variables, the values of the columns are a point
    pub point_by : ((v : ℕ) → v < size (first_of_program program) → Between (sides_at (first_of_program program).sides v).low (sides_at (first_of_program program).sides v).high (x v)) → IsPoint program (table (length program.bounds) x)
    point_by between = record {
      within =
          zip_from (λ (s : Sides) value. Between s.low s.high value) program.bounds (table (length program.bounds) x) no_sides zeroℚ (sym (length-table (length program.bounds) x))
          (λ k l. subst (λ q. Between (sides_at program.bounds k).low (sides_at program.bounds k).high q) (sym (at_table (length program.bounds) x k zeroℚ l))
          (subst (λ (s : Sides). Between s.low s.high (x k)) (sides_of_column k l) (between k (omega (arith, l, size_is)))));
      rows =
          all_rows (λ (row : Row). IsSatisfied row (table (length program.bounds) x)) program.rows
          (λ r row e. subst (Between row.low row.high) (sym (row_activity r row e))
          (subst (λ (s : Sides). Between s.low s.high (x (length program.bounds + r))) (sides_of_row r row e) (between (length program.bounds + r) (omega (arith, slice_get_within program.rows r row e, size_is)))));
    }

    -- where they stay between them as changes, and the cost falls, those of the columns are a ray
    pub ray_by : ((v : ℕ) → v < size (first_of_program program) → StaysBetween (sides_at (first_of_program program).sides v).low (sides_at (first_of_program program).sides v).high (x v)) → form (size (first_of_program program)) (cost_entry (first_of_program program)) x <ℚ zeroℚ → IsRay program (table (length program.bounds) x)
    ray_by stays falls = record {
      within =
          zip_from (λ (s : Sides) change. StaysBetween s.low s.high change) program.bounds (table (length program.bounds) x) no_sides zeroℚ (sym (length-table (length program.bounds) x))
          (λ k l. subst (λ q. StaysBetween (sides_at program.bounds k).low (sides_at program.bounds k).high q) (sym (at_table (length program.bounds) x k zeroℚ l))
          (subst (λ (s : Sides). StaysBetween s.low s.high (x k)) (sides_of_column k l) (stays k (omega (arith, l, size_is)))));
      rows =
          all_rows (λ (row : Row). StaysBetween row.low row.high (activity row.terms (table (length program.bounds) x))) program.rows
          (λ r row e. subst (StaysBetween row.low row.high) (sym (row_activity r row e))
          (subst (λ (s : Sides). StaysBetween s.low s.high (x (length program.bounds + r))) (sides_of_row r row e) (stays (length program.bounds + r) (omega (arith, slice_get_within program.rows r row e, size_is)))));
      falls = subst (λ q. q <ℚ zeroℚ) (sym cost_is) falls;
    }
