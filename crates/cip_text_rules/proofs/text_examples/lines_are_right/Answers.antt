use Rattle.std.proofs.Common.{refl}
use Rattle.cip_text_rules.proofs.text_examples.lines_are_right.Goals as goal

pub returns : goal.returns
returns c = record {
  two = refl;
  ended = refl;
  none = refl;
  empty_line = refl;
  empty_between = refl;
  between_blanks = refl;
  no_fields = refl;
}
