use Rattle.std.proofs.lemmas.Grind.{common_steps}
use Rattle.std.proofs.Common.{arith}
use Rattle.cip_relax.proofs.asking.asked.Goals as goal
use Rattle.cip_relax.proofs.asking.asked.Goals.{in-Ok-Some, in-Ok-None, in-Err}

pub returns : goal.returns
returns c =
    elim c.match-asked_greedily.branch [
      | in-Ok-Some w ↦ grind (arith, common_steps)
      | in-Ok-None w ↦ rw w.asked-is w.asked_afresh-asked.ensures
      | in-Err w ↦ rw w.asked-is tt
    ]

pub asked_greedily-requires : goal.asked_greedily-requires
asked_greedily-requires c = grind (arith, common_steps)

pub returns-in_default : goal.returns-in_default
returns-in_default c = grind (arith, common_steps)
