use Rattle.cip_problem.proofs.Box.SideTests.{between_of_test, test_of_between, one_value}
use Rattle.cip_problem.proofs.Wholes.Counts.{two_wholes_of_test, same_whole_of_test}
use Rattle.cip_problem.proofs.side_tests.Goals as goal

pub returns : goal.returns
returns c = record {
  between = λ low high value. (between_of_test low high value, test_of_between low high value);
  equal = one_value;
  two_wholes = two_wholes_of_test;
  one_whole = same_whole_of_test;
}
