-- The program that its parts are.
use Rattle.std.specs.Prelude.{Bool, true, false}
use Rattle.cip_problem.specs.Program.{Program}
use Rattle.cip_model.specs.declared.parts.Sense.{Sense}
use Rattle.cip_model.specs.declared.parts.Sense.TheVariants.{Minimize, Maximize}
use Rattle.cip_model.specs.declared.parts.Parts.{Parts}

abbrev pub is_maximize : Sense → Bool
is_maximize Minimize = false
is_maximize Maximize = true

abbrev pub program_from : Parts → Program
program_from parts = record {
  column_names = parts.column_names;
  row_names = parts.row_names;
  rows = parts.rows.items;
  costs = parts.costs.items;
  constant = parts.constant;
  maximized = is_maximize parts.sense;
  integral = parts.whole.items;
  bounds = parts.bounds;
  choices = parts.choices;
}
