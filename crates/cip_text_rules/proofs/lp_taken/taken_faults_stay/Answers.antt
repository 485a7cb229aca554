use Rattle.cip_text_rules.proofs.TakenTexts.{failed_text, failed_more}
use Rattle.cip_text_rules.proofs.lp_taken.taken_faults_stay.Goals as goal

pub returns : goal.returns
returns c = record {
  taken = failed_more;
  of_text = λ text rest line number e few. record { faulty = failed_text c.lp_texts_are_read.ensures text rest line number e few };
}
