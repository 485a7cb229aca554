use Rattle.std.proofs.Common.{None, Some, refl, ap}
use Rattle.std.specs.Prelude.{is_none, is_some, if◌then◌else◌}
use Rattle.cip_rational.specs.Numeral.{value_of}
use Rattle.cip_text_rules.specs.MpsWords.{number_in}
use Rattle.cip_text_rules.specs.PointSteps.{value_held}
use Rattle.cip_text_rules.proofs.LookUps.{not_some}
use Rattle.cip_text_rules.proofs.point_steps.point_lines_have_tests.Goals as goal

pub returns : goal.returns
returns c = record {
  bad_line = λ program values. refl;
  value_line = λ program values column number.
      ap (λ t. if t then Some 2 else (if is_some (value_held values (number_in program.column_names column)) then Some 3 else (if is_none (value_of number) then Some 4 else None)))
      (not_some (number_in program.column_names column));
}
