use Rattle.cip_problem.proofs.LinearTried as tried
use Rattle.cip_problem.proofs.linear_laws.examples.Goals as goal

pub returns : goal.returns
returns c = record {
  half_row_is = tried.half_row_is;
  half_of_five_is = tried.half_of_five_is;
  contradiction_is = tried.contradiction_is;
  contradiction = tried.contradiction;
  implied = tried.implied;
}
