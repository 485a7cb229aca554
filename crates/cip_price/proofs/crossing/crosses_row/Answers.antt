use Rattle.std.proofs.lemmas.Grind.{common_steps}
use Rattle.std.proofs.Common.{◌+◌, true, false, sym, arith}
use Rattle.cip_price.proofs.Crossed.{row_next, row_found}
use Rattle.cip_price.proofs.crossing.crosses_row.Goals as goal

pub returns-then-is_crossed_row : goal.returns-then-is_crossed_row
returns-then-is_crossed_row c =
    sym (row_found c.args.rows.now c.args.numbers.now (c.loop-at.at + 1)
    (row_next c.args.rows.now c.args.numbers.now c.loop-at.at c.index-rows-number.result true c.loop-at-test.true
    (c.requires c.loop-at.at 0 c.loop-at-test.true) c.index-rows-number.is c.loop-at.invariant
    (sym c.if-is_crossed_row.ensures)))

pub loop-at-preserved : goal.loop-at-preserved
loop-at-preserved c =
    row_next c.args.rows.now c.args.numbers.now c.loop-at.at c.index-rows-number.result false c.loop-at-test.true
    (c.requires c.loop-at.at 0 c.loop-at-test.true) c.index-rows-number.is c.loop-at.invariant
    (sym c.if-is_crossed_row.ensures)

pub returns : goal.returns
returns c = grind (arith, common_steps)

pub bounds-rows-number : goal.bounds-rows-number
bounds-rows-number c = grind (arith, common_steps)

pub bounds-numbers-at : goal.bounds-numbers-at
bounds-numbers-at c = grind (arith, common_steps)

pub offset_bounds-rows-number : goal.offset_bounds-rows-number
offset_bounds-rows-number c = grind (arith, common_steps)

pub offset_bounds-numbers-at : goal.offset_bounds-numbers-at
offset_bounds-numbers-at c = grind (arith, common_steps)

pub overflow_cast-number : goal.overflow_cast-number
overflow_cast-number c = grind (arith, common_steps)
