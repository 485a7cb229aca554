use Rattle.cip_search.proofs.AnswerTexts.{answer_text_injective}
use Rattle.cip_search.proofs.answer_laws.answer_tells_figures.Goals as goal

pub returns : goal.returns
returns c = answer_text_injective
