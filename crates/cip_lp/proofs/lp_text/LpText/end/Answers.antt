use Rattle.std.proofs.lemmas.Grind.{common_steps}
use Rattle.std.proofs.Common.{arith}
use Rattle.cip_text.specs.declared.text_faults.ReadFault.TheVariants.{Faulty}
use Rattle.cip_lp.specs.LpReaders.{IsFaultOf}
use Rattle.cip_lp.proofs.LpAnswers.{known_cause, passed_on}
use Rattle.cip_lp.proofs.lp_text.LpText.end.Goals as goal

pub returns-in_err-answer : goal.returns-in_err-answer
returns-in_err-answer c = λ bytes h.
    let fault = c.in_err-answer.field-0.0 in
    let told = known_cause c.taken_faults_stay.ensures c.args.self.now bytes h c.args.self.now.kinds fault c.in_err-answer.ensures in
    passed_on _ (IsFaultOf bytes) (Faulty fault) _ told c.from_residual.ensures

pub returns : goal.returns
returns c = grind (arith, common_steps)

pub returns-in_err-answer-2 : goal.returns-in_err-answer-2
returns-in_err-answer-2 c = grind (arith, common_steps)

pub close-requires : goal.close-requires
close-requires c = grind (arith, common_steps)

pub answer-requires-2 : goal.answer-requires-2
answer-requires-2 c = grind (arith, common_steps)

pub answer-requires : goal.answer-requires
answer-requires c = grind (arith, common_steps)
