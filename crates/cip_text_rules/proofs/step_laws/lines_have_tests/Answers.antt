use Rattle.std.proofs.Common.{refl}
use Rattle.cip_text_rules.proofs.ByLine.{opens, ends, sense, row, column, bound}
use Rattle.cip_text_rules.proofs.step_laws.lines_have_tests.Goals as goal

pub returns : goal.returns
returns c = record {
  unknown_section = λ state. refl;
  misplaced = λ state. refl;
  miscounted = λ state. refl;
  skipped = λ state. refl;
  opens = opens;
  ends = ends;
  sense = sense;
  bad_row = λ state name. refl;
  row = row;
  marker = λ state begins. refl;
  bad_marker = λ state. refl;
  column = column;
  right_side = λ state set_name values. refl;
  range = λ state set_name values. refl;
  bad_bound = λ state. refl;
  bound = bound;
}
