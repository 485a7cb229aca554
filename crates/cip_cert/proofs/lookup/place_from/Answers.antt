use Rattle.std.proofs.lemmas.Grind.{common_steps}
use Rattle.std.proofs.Common.{◌+◌, ◌-◌, ◌/◌, ◌<◌, arith}
use Rattle.cip_cert.proofs.Pools.{middle_within, more_before, less_after}
use Rattle.cip_cert.proofs.lookup.place_from.Goals as goal

pub loop-low-init : goal.loop-low-init
loop-low-init c = record {
  order = omega arith;
  within = omega arith;
  before = λ k d h. absurd (omega (arith, h));
  after = λ k d h l. absurd (omega (arith, h, l));
}

pub overflow_sub-middle : goal.overflow_sub-middle
overflow_sub-middle c = c.loop-low.invariant.order

pub bounds-pool-middle : goal.bounds-pool-middle
bounds-pool-middle c = omega (
  arith,
  middle_within c.loop-low.low c.loop-low.high c.loop-low-test.true,
  c.loop-low.invariant.within,
)

pub bounds-pool-middle-in-loop-low : goal.bounds-pool-middle-in-loop-low
bounds-pool-middle-in-loop-low c = omega (
  arith,
  middle_within c.loop-low.low c.loop-low.high c.loop-low-test.true,
  c.loop-low.invariant.within,
)

pub loop-low-smaller-then-pool-middle : goal.loop-low-smaller-then-pool-middle
loop-low-smaller-then-pool-middle c = omega (arith, middle_within c.loop-low.low c.loop-low.high c.loop-low-test.true)

pub loop-low-smaller : goal.loop-low-smaller
loop-low-smaller c = omega (arith, middle_within c.loop-low.low c.loop-low.high c.loop-low-test.true)

pub loop-low-preserved-then-pool-middle : goal.loop-low-preserved-then-pool-middle
loop-low-preserved-then-pool-middle c =
    let m : c.loop-low.low + (c.loop-low.high - c.loop-low.low) / 2 < c.loop-low.high = middle_within c.loop-low.low
    c.loop-low.high c.loop-low-test.true in
    record {
      order = omega (arith, m);
      within = c.loop-low.invariant.within;
      before = more_before c.args.pool.now _ c.args.id c.index-pool-middle.result c.requires (omega
          (arith, m, c.loop-low.invariant.within)) c.if-pool-middle.true;
      after = c.loop-low.invariant.after;
    }

pub loop-low-preserved : goal.loop-low-preserved
loop-low-preserved c =
    let m : c.loop-low.low + (c.loop-low.high - c.loop-low.low) / 2 < c.loop-low.high = middle_within c.loop-low.low
    c.loop-low.high c.loop-low-test.true in
    record {
      order = omega arith;
      within = omega (arith, m, c.loop-low.invariant.within);
      before = c.loop-low.invariant.before;
      after = less_after c.args.pool.now _ c.args.id c.index-pool-middle.result c.requires (omega
          (arith, m, c.loop-low.invariant.within)) c.if-pool-middle.false;
    }

pub returns-clause-within : goal.returns-clause-within
returns-clause-within c = omega (arith, c.loop-low.invariant.order, c.loop-low.invariant.within)

pub returns-clause-before : goal.returns-clause-before
returns-clause-before c = c.loop-low.invariant.before

pub returns-clause-after : goal.returns-clause-after
returns-clause-after c = λ k d h l. c.loop-low.invariant.after k d (omega (arith, h, c.loop-low-test.false)) l

pub overflow_add-low : goal.overflow_add-low
overflow_add-low c = grind (arith, common_steps)

pub offset_bounds-pool-middle : goal.offset_bounds-pool-middle
offset_bounds-pool-middle c = grind (arith, common_steps)

pub overflow_add-middle : goal.overflow_add-middle
overflow_add-middle c = grind (arith, common_steps)
