use Rattle.std.proofs.lemmas.Grind.{common_steps}
use Rattle.std.proofs.Common.{sym, arith}
use Rattle.cip_dict.proofs.Formed.{product_zero_left, product_zero_right}
use Rattle.cip_dict.proofs.entries.product.Goals as goal
use Rattle.cip_dict.proofs.entries.product.Goals.{then-vanishes-via-then-vanishes, then-vanishes-via-else-vanishes+then-vanishes-2}

pub returns-then-vanishes : goal.returns-then-vanishes
returns-then-vanishes c =
    rw c.zero.ensures (elim c.then-vanishes.branch [
      | then-vanishes-via-then-vanishes w ↦ product_zero_left c.args.place c.args.a c.args.b (sym w.if-vanishes.ensures)
      | then-vanishes-via-else-vanishes+then-vanishes-2 w ↦ product_zero_right c.args.place c.args.a c.args.b (sym w.if-vanishes-2.ensures)
    ])

pub returns-in-Ok : goal.returns-in-Ok
returns-in-Ok c = grind (arith, common_steps)

pub returns-in-Err : goal.returns-in-Err
returns-in-Err c = grind (arith, common_steps)
