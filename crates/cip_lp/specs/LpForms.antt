-- Forms, as the code keeps them: whether a number is 0 is asked of its value, and numbers stand in the order in which
-- they came.
--     form_of terms      the numbers by rising column
use Rattle.std.specs.Prelude.{◌≡◌, ℕ, ◌==◌, Bool, true, false, List, [], Option, None, Some, refl, fold, slice_get}
use Rattle.std.specs.Coded.{Coded, code_by, coded×, coded_ℕ, coded_bool}
use Rattle.cip_rational.specs.Rational.{ℚ, coded_ℚ}
use Rattle.cip_text_rules.specs.MpsState.{is_zero_value}
use Rattle.cip_text_rules.specs.LpFacts.{FormTerm, form_with, has_term}

-- the number of a column
abbrev pub term_shown : ℕ → ℚ → FormTerm
term_shown column value = record { column = column; value = value; zero = is_zero_value value }

abbrev pub term_code : Coded FormTerm
term_code =
    code_by (ℕ × (ℚ × Bool)) (coded× coded_ℕ (coded× coded_ℚ coded_bool))
    (λ t. (t.column, (t.value, t.zero))) (λ p. record { column = p.0; value = p.1.0; zero = p.1.1 }) (λ _. refl)

-- numbers by rising column
abbrev pub form_of : List FormTerm → List FormTerm
form_of terms = fold (λ form term. form_with term form) [] terms

-- a number, where there is one, is that of this column
abbrev pub is_of : Option FormTerm → ℕ → Bool
is_of None column = false
is_of (Some term) column = term.column == column

-- the number at a place, where there is one, is that of this column
abbrev pub stands_at : List FormTerm → Option ℕ → ℕ → Bool
stands_at terms None column = false
stands_at terms (Some place) column = is_of (slice_get terms place) column

-- each column that has a number is found at its place
pub record ArePlaced (terms : List FormTerm) (places : List ℕ) : Type 0 where
  pub placed : (column : ℕ) → has_term terms column ≡ true → stands_at terms (slice_get places column) column ≡ true
