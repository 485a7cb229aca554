-- Numbers with their signs, as the code keeps them: whether one is 0 is asked of its value.
use Rattle.std.specs.Prelude.{Bool, refl}
use Rattle.std.specs.Coded.{Coded, code_by, coded×, coded_bool}
use Rattle.cip_rational.specs.Rational.{ℚ, coded_ℚ}
use Rattle.cip_text_rules.specs.MpsState.{is_zero_value}
use Rattle.cip_text_rules.specs.LpPlaces.{Amount}

-- a number
abbrev pub amount_shown : ℚ → Amount
amount_shown value = record { value = value; zero = is_zero_value value }

abbrev pub amount_code : Coded Amount
amount_code =
    code_by (ℚ × Bool) (coded× coded_ℚ coded_bool)
    (λ a. (a.value, a.zero)) (λ p. record { value = p.0; zero = p.1 }) (λ _. refl)
