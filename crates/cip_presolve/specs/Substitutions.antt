-- An equality of two terms by which a column is substituted.
use Rattle.std.specs.Prelude.{◌<◌, length}
use Rattle.cip_problem.specs.Program.{Program}
use Rattle.cip_presolve.specs.ColumnForms.{RowGives, IsSubstitute}
use Rattle.cip_presolve.specs.declared.substituting.Substitution.{Substitution}

-- a row of the program gives the column's form, and column and source may be substituted
pub record IsFound (program : Program) (found : Substitution) : Type 0 where
  pub there : found.row < length program.rows
  pub gives : RowGives program found.row found.column found.form
  pub substitute : IsSubstitute program found.column found.form
