use Rattle.std.proofs.Common.{refl}
use Rattle.cip_text_rules.proofs.text_examples.records_are_right.Goals as goal

pub returns : goal.returns
returns c = record {
  empty = refl;
  blank = refl;
  comment = refl;
  star = refl;
  section_ = refl;
  words = refl;
  of_text = refl;
}
