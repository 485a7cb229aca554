use Rattle.cip_input.proofs.RefusalTexts as texts
use Rattle.cip_input.proofs.refusal_laws.refusals_tell.Goals as goal

pub returns : goal.returns
returns c = texts.refusals_tell
