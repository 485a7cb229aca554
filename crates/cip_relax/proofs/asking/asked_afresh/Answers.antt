use Rattle.std.proofs.lemmas.Grind.{common_steps}
use Rattle.std.proofs.lemmas.Result.{IfOk-weaker}
use Rattle.std.proofs.Common.{arith}
use Rattle.cip_relax.proofs.Solving.{from_slack}
use Rattle.cip_relax.proofs.asking.asked_afresh.Goals as goal
use Rattle.cip_relax.proofs.asking.asked_afresh.Goals.{in-Ok-Some, in-Ok-None, in-Err}

pub returns : goal.returns
returns c =
    elim c.match-asked_greedily.branch [
      | in-Ok-Some w ↦ grind (arith, common_steps)
      | in-Ok-None w ↦ rw w.asked-is
          (IfOk-weaker w.solve_from-asked.result _ _ (λ solved h. from_slack c.args.lp.now c.in_ok-slack.slack solved.0 c.in_ok-slack.ensures.stands h.0 w.solve_from-asked.ensures.right)
          w.solve_from-asked.ensures.answer)
      | in-Err w ↦ rw w.asked-is tt
    ]

pub solve_from-asked-requires : goal.solve_from-asked-requires
solve_from-asked-requires c = grind (arith, common_steps)

pub asked_greedily-requires : goal.asked_greedily-requires
asked_greedily-requires c = grind (arith, common_steps)
