use Rattle.cip_text_rules.proofs.LineEnded.{results_at_ends}
use Rattle.cip_text_rules.specs.LpOutcome.{is_end, lp_tokens}
use Rattle.cip_text_rules.proofs.lp_texts.lp_programs_are_described.Goals as goal

pub returns : goal.returns
returns c = results_at_ends is_end lp_tokens
