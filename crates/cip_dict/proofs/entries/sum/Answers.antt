use Rattle.std.proofs.lemmas.Grind.{common_steps}
use Rattle.std.proofs.Common.{sym, arith}
use Rattle.cip_dict.proofs.Formed.{sum_zero_left, sum_zero_right}
use Rattle.cip_dict.proofs.entries.sum.Goals as goal
use Rattle.cip_dict.proofs.entries.sum.Goals.{then-vanishes-via-then-vanishes, then-vanishes-via-else-vanishes+then-vanishes-2}

pub returns-then-vanishes : goal.returns-then-vanishes
returns-then-vanishes c =
    elim c.then-vanishes.branch [
      | then-vanishes-via-then-vanishes w ↦ sum_zero_left c.args.place c.args.c c.args.a c.args.b (sym w.if-vanishes.ensures)
      | then-vanishes-via-else-vanishes+then-vanishes-2 w ↦ sum_zero_right c.args.place c.args.c c.args.a c.args.b (sym w.if-vanishes-2.ensures)
    ]

pub returns-else-add_product : goal.returns-else-add_product
returns-else-add_product c = grind (arith, common_steps)

pub returns-then-add_product : goal.returns-then-add_product
returns-then-add_product c = grind (arith, common_steps)
