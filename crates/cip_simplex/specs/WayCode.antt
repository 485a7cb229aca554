-- The code by which a proof tells ways apart: each is stored as the tuple of its fields.
use Rattle.std.specs.Prelude.{ℕ, refl}
use Rattle.std.specs.Coded.{Coded, code_by, coded×, coded_ℕ}
use Rattle.cip_rational.specs.Rational.{ℚ, coded_ℚ}
use Rattle.cip_bland.specs.declared.moves.Stand.{Stand}
use Rattle.cip_dict.specs.DictionaryCode.{stand_code}
use Rattle.cip_bland.specs.Rule.{Way}

-- variable, stand and length
abbrev pub way_code : Coded Way
way_code =
    code_by (ℕ × (Stand × ℚ)) (coded× coded_ℕ (coded× stand_code coded_ℚ))
    (λ w. (w.variable, (w.to, w.length))) (λ p. record { variable = p.0; to = p.1.0; length = p.1.1 }) (λ _. refl)
