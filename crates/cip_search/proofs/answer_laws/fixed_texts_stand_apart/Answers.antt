use Rattle.cip_search.proofs.AnswerTexts.{answer_text-usage, answer_text-read_fault, answer_text-no_memory, answer_text-refusal, refused_apart}
use Rattle.cip_search.proofs.AnswersTried as tried
use Rattle.cip_search.proofs.answer_laws.fixed_texts_stand_apart.Goals as goal

pub returns : goal.returns
returns c = record {
  usage = answer_text-usage;
  read_fault = answer_text-read_fault;
  no_memory = answer_text-no_memory;
  refusal = answer_text-refusal;
  differ = tried.fixed_texts_differ;
  refused = refused_apart;
}
