-- The code by which a proof tells the bounds of columns apart: they are stored as the tuple of their fields.
use Rattle.std.specs.Prelude.{Bool, Option, refl}
use Rattle.std.specs.Coded.{Coded, code_by, coded×, coded_bool, coded_option}
use Rattle.cip_rational.specs.Rational.{ℚ, coded_ℚ}
use Rattle.cip_text_rules.specs.MpsBounds.{Bounded}

-- all fields, in pairs
abbrev pub bounded_code : Coded Bounded
bounded_code =
    code_by ((Option ℚ × Option ℚ) × ((Bool × Bool) × (Bool × Bool)))
    (coded× (coded× (coded_option coded_ℚ) (coded_option coded_ℚ))
    (coded× (coded× coded_bool coded_bool) (coded× coded_bool coded_bool)))
    (λ b. ((b.low, b.high), ((b.whole, b.semi), (b.low_set, b.named))))
    (λ p. record {
      low = p.0.0;
      high = p.0.1;
      whole = p.1.0.0;
      semi = p.1.0.1;
      low_set = p.1.1.0;
      named = p.1.1.1;
    }) (λ _. refl)
