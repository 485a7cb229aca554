use Rattle.std.proofs.Common.{refl}
use Rattle.cip_rational.specs.Numeral.{numeral_of}
use Rattle.cip_text_rules.specs.LineTexts.{outcome_of}
use Rattle.cip_text_rules.proofs.lp_examples.lp_tokens_are_cut.Goals as goal

pub returns : goal.returns
unfolding numeral_of outcome_of
returns c = record {
  exponent = refl;
  no_exponent = refl;
  signed_exponent = refl;
  two_points = refl;
  point = refl;
  name = refl;
  relations = refl;
  other_relations = refl;
  comment = refl;
  no_tokens = refl;
  two_words = refl;
  two_words_colon = refl;
  one_of_two = refl;
  word = refl;
  word_colon = refl;
  word_behind = refl;
  outside = refl;
  bound_words = refl;
}
