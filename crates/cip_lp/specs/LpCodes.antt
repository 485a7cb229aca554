-- The code by which a proof tells facts apart: they are stored as the tuple of their fields.
use Rattle.std.specs.Prelude.{ℕ, Bool, List, Option, refl}
use Rattle.std.specs.Coded.{Coded, code_by, coded×, coded_ℕ, coded_bool, coded_list, coded_option}
use Rattle.cip_rational.specs.Rational.{ℚ, coded_ℚ}
use Rattle.cip_problem.specs.Program.{Row, Sides}
use Rattle.cip_problem.specs.Codes.{names_code, row_code, sides_code}
use Rattle.cip_text_rules.specs.LpFacts.{FormTerm, LpFacts}
use Rattle.cip_lp.specs.LpForms.{term_code}

-- a name, if there is one
abbrev pub name_code : Coded (Option (List ℕ))
name_code = coded_option (coded_list coded_ℕ)

-- all fields, in pairs
abbrev pub facts_code : Coded LpFacts
facts_code =
    code_by
    ((Bool × (Option (List ℕ) × Option (List ℕ)))
    × ((List (List ℕ) × (List Row × List (List ℕ)))
    × ((List ℚ × (List Sides × List Bool)) × (ℚ × (List FormTerm × ℕ)))))
    (coded× (coded× coded_bool (coded× name_code name_code))
    (coded× (coded× names_code (coded× (coded_list row_code) names_code))
    (coded× (coded× (coded_list coded_ℚ) (coded× (coded_list sides_code) (coded_list coded_bool)))
    (coded× coded_ℚ (coded× (coded_list term_code) coded_ℕ)))))
    (λ f. (
      (f.maximized, (f.objective, f.row_name)),
      (
        (f.row_names, (f.rows, f.column_names)),
        ((f.costs, (f.bounds, f.integral)), (f.constant, (f.form, f.entries))),
      ),
    ))
    (λ p. record {
      maximized = p.0.0;
      objective = p.0.1.0;
      row_name = p.0.1.1;
      row_names = p.1.0.0;
      rows = p.1.0.1.0;
      column_names = p.1.0.1.1;
      costs = p.1.1.0.0;
      bounds = p.1.1.0.1.0;
      integral = p.1.1.0.1.1;
      constant = p.1.1.1.0;
      form = p.1.1.1.1.0;
      entries = p.1.1.1.1.1;
    }) (λ _. refl)
