-- The code by which a proof tells dictionaries apart: each is stored as the tuple of its fields.
use Rattle.std.specs.Prelude.{◌≡◌, ℕ, zero, suc, List, Option, refl}
use Rattle.std.specs.Coded.{Coded, code_by, coded×, coded_ℕ, coded_list, coded_option}
use Rattle.cip_rational.specs.Rational.{ℚ, coded_ℚ}
use Rattle.cip_problem.specs.Program.{Sides}
use Rattle.cip_problem.specs.Codes.{box_code}
use Rattle.cip_bland.specs.Dictionary.{Dictionary}
use Rattle.cip_bland.specs.declared.moves.Stand.{Stand}
use Rattle.cip_bland.specs.declared.moves.Stand.TheVariants.{Low, High, Zero}

-- a number for each stand
abbrev pub stand_number : Stand → ℕ
stand_number Low = 0
stand_number High = 1
stand_number Zero = 2

-- and back
abbrev pub stand_of_number : ℕ → Stand
stand_of_number zero = Low
stand_of_number (suc zero) = High
stand_of_number (suc (suc n)) = Zero

pub stand_back : (s : Stand) → stand_of_number (stand_number s) ≡ s
stand_back Low = refl
stand_back High = refl
stand_back Zero = refl

abbrev pub stand_code : Coded Stand
stand_code = code_by ℕ coded_ℕ stand_number stand_of_number stand_back

-- all fields of a dictionary, in pairs
abbrev pub dictionary_code : Coded Dictionary
dictionary_code =
    code_by ((List Sides × List (Option Stand)) × ((List (List ℚ) × List ℚ) × (List ℚ × ℚ)))
    (coded× (coded× box_code (coded_list (coded_option stand_code)))
    (coded× (coded× (coded_list (coded_list coded_ℚ)) (coded_list coded_ℚ)) (coded× (coded_list coded_ℚ) coded_ℚ)))
    (λ d. ((d.sides, d.standing), ((d.rows, d.costs), (d.values, d.cost))))
    (λ t. record {
      sides = t.0.0;
      standing = t.0.1;
      rows = t.1.0.0;
      costs = t.1.0.1;
      values = t.1.1.0;
      cost = t.1.1.1;
    })
    (λ _. refl)
