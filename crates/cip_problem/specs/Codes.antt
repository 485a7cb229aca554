-- The codes by which a proof tells terms, sides, rows, choices and programs apart: each is stored as the tuple of its
-- fields, and a choice as cases within cases.
use Rattle.std.specs.Prelude.{◌≡◌, ℕ, Bool, List, Option, None, Some, refl}
use Rattle.std.specs.Coded.{Coded, code_by, coded×, coded_ℕ, coded_bool, coded_list, coded_option}
use Rattle.cip_rational.specs.Rational.{ℚ, coded_ℚ}
use Rattle.cip_problem.specs.Program.{Term, Sides, Row, Choice, Plain, Open, Off, On, Program}

-- column and coefficient
abbrev pub term_code : Coded Term
term_code =
    code_by (ℕ × ℚ) (coded× coded_ℕ coded_ℚ)
    (λ t. (t.column, t.coefficient)) (λ p. record { column = p.0; coefficient = p.1 }) (λ _. refl)

-- low and high
abbrev pub sides_code : Coded Sides
sides_code =
    code_by (Option ℚ × Option ℚ) (coded× (coded_option coded_ℚ) (coded_option coded_ℚ))
    (λ s. (s.low, s.high)) (λ p. record { low = p.0; high = p.1 }) (λ _. refl)

-- the sides of each column
abbrev pub box_code : Coded (List Sides)
box_code = coded_list sides_code

-- terms, low and high
abbrev pub row_code : Coded Row
row_code =
    code_by (List Term × (Option ℚ × Option ℚ))
    (coded× (coded_list term_code) (coded× (coded_option coded_ℚ) (coded_option coded_ℚ)))
    (λ r. (r.terms, (r.low, r.high))) (λ p. record { terms = p.0; low = p.1.0; high = p.1.1 }) (λ _. refl)

-- a choice, in nested cases
abbrev choice_cases : Choice → Option (Option (Option Sides))
choice_cases Plain = None
choice_cases Off = Some None
choice_cases On = Some (Some None)
choice_cases (Open own) = Some (Some (Some own))

abbrev choice_from : Option (Option (Option Sides)) → Choice
choice_from None = Plain
choice_from (Some None) = Off
choice_from (Some (Some None)) = On
choice_from (Some (Some (Some own))) = Open own

pub choice_back : (choice : Choice) → choice_from (choice_cases choice) ≡ choice
choice_back Plain = refl
choice_back (Open own) = refl
choice_back Off = refl
choice_back On = refl

abbrev pub choice_code : Coded Choice
choice_code =
    code_by (Option (Option (Option Sides))) (coded_option (coded_option (coded_option sides_code)))
    choice_cases choice_from choice_back

-- the choice of each column
abbrev pub choices_code : Coded (List Choice)
choices_code = coded_list choice_code

-- names as lists of bytes
abbrev pub names_code : Coded (List (List ℕ))
names_code = coded_list (coded_list coded_ℕ)

abbrev Names : Type 0
Names = List (List ℕ)

-- all fields of a program, in pairs
abbrev pub program_code : Coded Program
program_code =
    code_by ((Names × Names) × ((List Row × List ℚ) × ((ℚ × Bool) × (List Bool × (List Sides × List Choice)))))
    (coded× (coded× names_code names_code)
    (coded× (coded× (coded_list row_code) (coded_list coded_ℚ))
    (coded× (coded× coded_ℚ coded_bool) (coded× (coded_list coded_bool) (coded× box_code choices_code)))))
    (λ p. (
      (p.column_names, p.row_names),
      ((p.rows, p.costs), ((p.constant, p.maximized), (p.integral, (p.bounds, p.choices)))),
    ))
    (λ t. record {
      column_names = t.0.0;
      row_names = t.0.1;
      rows = t.1.0.0;
      costs = t.1.0.1;
      constant = t.1.1.0.0;
      maximized = t.1.1.0.1;
      integral = t.1.1.1.0;
      bounds = t.1.1.1.1.0;
      choices = t.1.1.1.1.1;
    })
    (λ _. refl)
