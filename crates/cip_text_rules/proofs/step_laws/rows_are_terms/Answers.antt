use Rattle.cip_text_rules.proofs.Rising.{rows_are_terms}
use Rattle.cip_text_rules.proofs.step_laws.rows_are_terms.Goals as goal

pub returns : goal.returns
returns c = rows_are_terms
