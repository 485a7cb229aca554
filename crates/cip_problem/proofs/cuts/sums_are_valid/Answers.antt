use Rattle.cip_problem.proofs.Rounding.{rounded_holds}
use Rattle.cip_problem.proofs.Rows.{row_satisfied, row_holds, row_stands}
use Rattle.cip_problem.proofs.Implied.{row_part, column_part, sum_valid, rounded_valid}
use Rattle.cip_problem.proofs.cuts.sums_are_valid.Goals as goal

pub returns : goal.returns
returns c = record {
  row_part = row_part;
  column_part = column_part;
  sum = sum_valid;
  rounded_at = rounded_holds;
  rounded = rounded_valid;
  same_row = λ row point. (row_satisfied row point, row_holds row point);
  row_stands = row_stands;
}
