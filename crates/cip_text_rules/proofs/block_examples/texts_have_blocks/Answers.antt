use Rattle.std.proofs.Common.{refl}
use Rattle.cip_text_rules.specs.LineTexts.{outcome_of}
use Rattle.cip_text_rules.proofs.block_examples.texts_have_blocks.Goals as goal

pub returns : goal.returns
unfolding outcome_of
returns c = record {
  joined_rows = refl;
  loose = refl;
  own_columns = refl;
  no_block = refl;
  empty_block = refl;
  one_block = refl;
  open_in_master = refl;
}
