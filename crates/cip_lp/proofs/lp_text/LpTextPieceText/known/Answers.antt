use Rattle.std.proofs.lemmas.Grind.{common_steps}
use Rattle.std.proofs.Common.{arith}
use Rattle.cip_lp.proofs.LpAnswers.{answered}
use Rattle.cip_lp.proofs.lp_text.LpTextPieceText.known.Goals as goal

pub answer-requires : goal.answer-requires
answer-requires c = grind (arith, common_steps)

pub returns : goal.returns
returns c =
    λ bytes h. answered c.taken_faults_stay.ensures c.args.self.now bytes c.answer.result h c.args.self.now.kinds
    c.answer.ensures
