-- The code by which a proof tells linear programs apart: each is stored as the tuple of its fields.
use Rattle.std.specs.Prelude.{List, refl}
use Rattle.std.specs.Coded.{Coded, code_by, coded×, coded_list}
use Rattle.cip_rational.specs.Rational.{ℚ, coded_ℚ}
use Rattle.cip_problem.specs.Program.{Row, Sides}
use Rattle.cip_problem.specs.Codes.{row_code, box_code}
use Rattle.cip_problem.specs.LinearProgram.{LinearProgram}

-- rows, bounds and costs
abbrev pub program_code : Coded LinearProgram
program_code =
    code_by (List Row × (List Sides × List ℚ))
    (coded× (coded_list row_code) (coded× box_code (coded_list coded_ℚ)))
    (λ p. (p.rows, (p.bounds, p.costs))) (λ t. record { rows = t.0; bounds = t.1.0; costs = t.1.1 }) (λ _. refl)
