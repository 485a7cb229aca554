use Rattle.std.proofs.Common.{refl}
use Rattle.cip_text_rules.proofs.Cuts.{fields_blank, fields_word, fields_last}
use Rattle.cip_text_rules.proofs.texts.fields_are_words.Goals as goal

pub returns : goal.returns
returns c = record { none = refl; blank = fields_blank; last = fields_last; ended = fields_word }
