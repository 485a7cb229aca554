-- The definitions tried: programs whose draws another program has worked out.
use Rattle.std.specs.Prelude.{◌≡◌, true, [], ◌∷◌, None, Some}
use Rattle.cip_rational.specs.Rational.{zeroℚ, negate}
use Rattle.cip_problem.specs.Program.{Program}
use Rattle.cip_input.specs.Generated.{draw, natural, term_on, zero_to_three, generated, entries_of}

-- two columns and two rows from the seed 0: 15 x0 + 10 x1 is to be greatest, 4 x0 + 3 x1 ≤ 7 and 2 x1 ≤ 2
abbrev pub two_by_two : Program
two_by_two = record {
  column_names = (120 ∷ 48 ∷ []) ∷ (120 ∷ 49 ∷ []) ∷ [];
  row_names = (114 ∷ 48 ∷ []) ∷ (114 ∷ 49 ∷ []) ∷ [];
  rows =
      record { terms = term_on 0 4 ∷ term_on 1 3 ∷ []; low = None; high = Some (natural 7) }
      ∷ record { terms = term_on 1 2 ∷ []; low = None; high = Some (natural 2) } ∷ [];
  costs = negate (natural 15) ∷ negate (natural 10) ∷ [];
  constant = zeroℚ;
  maximized = true;
  integral = true ∷ true ∷ [];
  bounds = zero_to_three ∷ zero_to_three ∷ [];
  choices = [];
}

-- a first draw, the cost of a column alone, and a whole program
pub record GeneratedExamples : Type 0 where
  pub first_draw : draw 0 0 ≡ 335903614
  pub seed_zero : (generated 0 1 0).costs ≡ negate (natural 15) ∷ []
  pub seed_one : (generated 1 1 0).costs ≡ negate (natural 9) ∷ []
  pub whole_program : generated 0 2 2 ≡ two_by_two
  pub entries : entries_of (generated 0 2 2) ≡ 3
