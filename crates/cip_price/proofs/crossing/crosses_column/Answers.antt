use Rattle.std.proofs.lemmas.Grind.{common_steps}
use Rattle.std.proofs.Common.{◌+◌, true, false, sym, arith}
use Rattle.cip_price.proofs.Crossed.{column_next, column_found}
use Rattle.cip_price.proofs.crossing.crosses_column.Goals as goal

pub returns-then-cross : goal.returns-then-cross
returns-then-cross c =
    sym (column_found c.args.sides.now (c.loop-at.at + 1)
    (column_next c.args.sides.now c.loop-at.at c.index-sides-at.result true c.loop-at-test.true c.index-sides-at.is
    c.loop-at.invariant (sym c.if-cross.ensures)))

pub loop-at-preserved : goal.loop-at-preserved
loop-at-preserved c =
    column_next c.args.sides.now c.loop-at.at c.index-sides-at.result false c.loop-at-test.true c.index-sides-at.is
    c.loop-at.invariant (sym c.if-cross.ensures)

pub returns : goal.returns
returns c = grind (arith, common_steps)

pub bounds-sides-at : goal.bounds-sides-at
bounds-sides-at c = grind (arith, common_steps)

pub offset_bounds-sides-at : goal.offset_bounds-sides-at
offset_bounds-sides-at c = grind (arith, common_steps)
