use Rattle.cip_text_rules.proofs.ByLine.{number_is}
use Rattle.cip_text_rules.proofs.step_laws.numbers_are_of_names.Goals as goal

pub returns : goal.returns
returns c = number_is
