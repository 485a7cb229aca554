use Rattle.std.proofs.Common.{arith}
use Rattle.cip_columns.proofs.InBoxes.{other_length}
use Rattle.cip_columns.proofs.points.is_inside.Goals as goal

pub returns-then-sides-values : goal.returns-then-sides-values
returns-then-sides-values c = other_length c.args.sides.now c.args.values.now
    (λ e. omega (arith, e, c.if-sides-values.true))
