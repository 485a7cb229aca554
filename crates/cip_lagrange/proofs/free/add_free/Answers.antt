use Rattle.std.proofs.Common.{refl, arith}
use Rattle.cip_lagrange.proofs.OneByOne.{column_taken, column_fails, columns_taken}
use Rattle.cip_lagrange.proofs.free.add_free.Goals as goal

pub loop-number-init : goal.loop-number-init
loop-number-init c = refl

pub bounds-numbers-number-index : goal.bounds-numbers-number-index
bounds-numbers-number-index c = c.loop-number-test.true

pub bounds-rests-number : goal.bounds-rests-number
bounds-rests-number c = c.requires.numbers c.loop-number.number-index 0 c.loop-number-test.true

pub sides-requires : goal.sides-requires
sides-requires c =
    omega (arith, c.requires.numbers c.loop-number.number-index 0 c.loop-number-test.true, c.requires.each)

pub returns-in-Err : goal.returns-in-Err
returns-in-Err c =
    column_fails c.args.rests.now c.args.bounds.now c.args.numbers.now c.loop-number.number-index c.loop-number.sum _
    c.loop-number.invariant c.index-rests-number.result c.sides.result c.loop-number-test.true
    (c.requires.numbers c.loop-number.number-index 0 c.loop-number-test.true) c.index-rests-number.is c.sides.ensures
    c.in-Err.fault c.in-Err.ensures

pub loop-number-preserved : goal.loop-number-preserved
loop-number-preserved c =
    column_taken c.args.rests.now c.args.bounds.now c.args.numbers.now c.loop-number.number-index c.loop-number.sum _
    c.loop-number.invariant c.index-rests-number.result c.sides.result c.loop-number-test.true
    (c.requires.numbers c.loop-number.number-index 0 c.loop-number-test.true) c.index-rests-number.is c.sides.ensures
    c.in-Ok.more c.in-Ok.ensures

pub returns : goal.returns
returns c =
    columns_taken c.args.rests.now c.args.bounds.now c.args.numbers.now c.loop-number.number-index c.loop-number.sum _
    c.loop-number.invariant c.loop-number-test.false
