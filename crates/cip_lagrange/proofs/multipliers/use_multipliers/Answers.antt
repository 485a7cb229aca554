use Rattle.std.proofs.Common.{sym, subst, refl, get_or, arith}
use Rattle.cip_problem.specs.Activity.{StandsBelow}
use Rattle.cip_lagrange.proofs.OneByOne.{multiplier_taken, multiplier_fails, multipliers_taken}
use Rattle.cip_lagrange.proofs.multipliers.use_multipliers.Goals as goal

pub loop-at-init : goal.loop-at-init
loop-at-init c = refl

pub bounds-numbers-at : goal.bounds-numbers-at
bounds-numbers-at c = c.loop-at-test.true

pub bounds-rows-number : goal.bounds-rows-number
bounds-rows-number c = c.requires.numbers c.loop-at.at 0 c.loop-at-test.true

pub bounds-multipliers-at : goal.bounds-multipliers-at
bounds-multipliers-at c = omega (arith, c.loop-at-test.true, c.requires.each)

pub use_multiplier-requires : goal.use_multiplier-requires
use_multiplier-requires c =
    subst (λ n. StandsBelow n c.index-rows-number.result.terms) (sym c.loop-at.auto.rests)
    (rw (c.index-rows-number.is) (c.requires.stands (get_or c.args.numbers.now c.loop-at.at 0)
    c.index-rows-number.result (c.requires.numbers c.loop-at.at 0 c.loop-at-test.true)))

pub returns-in-Err : goal.returns-in-Err
returns-in-Err c =
    multiplier_fails c.args.rows.now c.args.numbers.now c.args.multipliers.now c.loop-at.at _ _ c.loop-at.invariant
    c.index-rows-number.result c.index-multipliers-at.result c.loop-at-test.true
    (omega (arith, c.loop-at-test.true, c.requires.each))
    (c.requires.numbers c.loop-at.at 0 c.loop-at-test.true) c.index-rows-number.is c.index-multipliers-at.is
    c.in-Err.fault c.in-Err.ensures

pub loop-at-preserved : goal.loop-at-preserved
loop-at-preserved c =
    multiplier_taken c.args.rows.now c.args.numbers.now c.args.multipliers.now c.loop-at.at _ _ c.loop-at.invariant
    c.index-rows-number.result c.index-multipliers-at.result c.loop-at-test.true
    (omega (arith, c.loop-at-test.true, c.requires.each))
    (c.requires.numbers c.loop-at.at 0 c.loop-at-test.true) c.index-rows-number.is c.index-multipliers-at.is
    _ c.in-Ok.ensures

pub returns : goal.returns
returns c =
    multipliers_taken c.args.rows.now c.args.numbers.now c.args.multipliers.now c.loop-at.at _ _ c.loop-at.invariant
    c.loop-at-test.false
