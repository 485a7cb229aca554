use Rattle.std.proofs.Common.{refl}
use Rattle.cip_text_rules.proofs.Cuts.{lines_ended, lines_last}
use Rattle.cip_text_rules.proofs.texts.lines_are_cut.Goals as goal

pub returns : goal.returns
returns c = record { none = refl; last = lines_last; ended = lines_ended }
