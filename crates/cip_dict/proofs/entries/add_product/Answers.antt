use Rattle.std.proofs.lemmas.Grind.{common_steps}
use Rattle.std.proofs.Common.{sym, arith}
use Rattle.cip_dict.proofs.Added.{zero_left, zero_right}
use Rattle.cip_dict.proofs.entries.add_product.Goals as goal
use Rattle.cip_dict.proofs.entries.add_product.Goals.{then-vanishes-via-then-vanishes, then-vanishes-via-else-vanishes+then-vanishes-2}

pub returns-then-vanishes : goal.returns-then-vanishes
returns-then-vanishes c =
    elim c.then-vanishes.branch [
      | then-vanishes-via-then-vanishes w ↦ zero_left c.args.c.now c.args.a c.args.b (sym w.if-vanishes.ensures)
      | then-vanishes-via-else-vanishes+then-vanishes-2 w ↦ zero_right c.args.c.now c.args.a c.args.b (sym w.if-vanishes-2.ensures)
    ]

pub returns : goal.returns
returns c = grind (arith, common_steps)
