use Rattle.std.proofs.lemmas.Grind.{common_steps}
use Rattle.std.proofs.Common.{refl, sym, ◌∙◌, arith}
use Rattle.cip_bland.specs.Exchange.{CanMove}
use Rattle.cip_simplex.proofs.FreeMoves.{descent_can, falls_freely}
use Rattle.cip_simplex.proofs.greedy_steps.take_chosen.Goals as goal
use Rattle.cip_simplex.proofs.greedy_steps.take_chosen.Goals.{in-Repair, in-Improve+in-Ok-Some}

pub make-requires : goal.make-requires
make-requires c =
    let can : CanMove c.args.dict.now c.match-pick.chosen =
    elim c.match-pick.branch [
      | in-Repair w ↦ rw w.chosen-is (rw w.in-Repair.is at c.pick.ensures)
      | in-Improve+in-Ok-Some w ↦ rw w.chosen-is (descent_can c.args.dict.now w.in-Improve.j (rw w.in-Improve.is at c.pick.ensures) _ w.move_by.result w.in-Ok-Some.ensures.consistent (sym w.in-Ok-Some.field-0-is ∙ w.in-Ok-Some.ensures.shortest.1) w.move_by.ensures)
    ] in
    can

pub returns-in-Ok-None : goal.returns-in-Ok-None
returns-in-Ok-None c = (falls_freely c.args.dict.now c.in-Improve.j (rw c.in-Improve.is at c.pick.ensures) (sym c.in-Ok-None.field-0-is ∙ c.in-Ok-None.ensures.shortest.1), refl)

pub returns-then-branch : goal.returns-then-branch
returns-then-branch c =
    let can : CanMove c.args.dict.now c.match-pick.chosen =
    elim c.match-pick.branch [
      | in-Repair w ↦ rw w.chosen-is (rw w.in-Repair.is at c.pick.ensures)
      | in-Improve+in-Ok-Some w ↦ rw w.chosen-is (descent_can c.args.dict.now w.in-Improve.j (rw w.in-Improve.is at c.pick.ensures) _ w.move_by.result w.in-Ok-Some.ensures.consistent (sym w.in-Ok-Some.field-0-is ∙ w.in-Ok-Some.ensures.shortest.1) w.move_by.ensures)
    ] in
    (can, (rw c.if-branch.true at c.in_ok-make.ensures).1)

pub returns-else-branch : goal.returns-else-branch
returns-else-branch c = (rw c.if-branch.false at c.in_ok-make.ensures).1

pub shortest_way-requires-clause-entering : goal.shortest_way-requires-clause-entering
shortest_way-requires-clause-entering c = grind (arith, common_steps)

pub returns-in-Infeasible : goal.returns-in-Infeasible
returns-in-Infeasible c = grind (arith, common_steps)

pub returns-in-Crossed : goal.returns-in-Crossed
returns-in-Crossed c = grind (arith, common_steps)

pub shortest_way-requires-clause-few : goal.shortest_way-requires-clause-few
shortest_way-requires-clause-few c = grind (arith, common_steps)

pub pick-requires-clause-few : goal.pick-requires-clause-few
pick-requires-clause-few c = grind (arith, common_steps)

pub returns-in-Err : goal.returns-in-Err
returns-in-Err c = grind (arith, common_steps)
