use Rattle.std.proofs.lemmas.Grind.{common_steps}
use Rattle.std.proofs.Common.{◌+◌, ◌-◌, ◌/◌, ◌<◌, arith}
use Rattle.cip_dict.proofs.Places.{middle_within, more_before, less_after, place_of}
use Rattle.cip_dict.proofs.listed.place_from.Goals as goal

pub loop-low-preserved-then-entries-middle : goal.loop-low-preserved-then-entries-middle
loop-low-preserved-then-entries-middle g c =
    let m : c.loop-low.low + (c.loop-low.high - c.loop-low.low) / 2 < c.loop-low.high = middle_within c.loop-low.low c.loop-low.high c.loop-low-test.true in
    record {
      order = omega (arith, m);
      within = c.loop-low.invariant.within;
      before = more_before c.args.entries.now _ c.args.k c.index-entries-middle.result c.requires (omega (arith, m, c.loop-low.invariant.within)) c.if-entries-middle.true;
      after = c.loop-low.invariant.after;
    }

pub loop-low-preserved : goal.loop-low-preserved
loop-low-preserved g c =
    let m : c.loop-low.low + (c.loop-low.high - c.loop-low.low) / 2 < c.loop-low.high = middle_within c.loop-low.low c.loop-low.high c.loop-low-test.true in
    record {
      order = omega arith;
      within = omega (arith, m, c.loop-low.invariant.within);
      before = c.loop-low.invariant.before;
      after = less_after c.args.entries.now _ c.args.k c.index-entries-middle.result c.requires (omega (arith, m, c.loop-low.invariant.within)) c.if-entries-middle.false;
    }

pub returns : goal.returns
returns g c =
    place_of c.args.k c.args.entries.now c.loop-low.low (omega (arith, c.loop-low.invariant.order, c.loop-low.invariant.within)) c.loop-low.invariant.before
    (λ a d l w. c.loop-low.invariant.after a d (omega (arith, l)) w)

pub bounds-entries-middle : goal.bounds-entries-middle
bounds-entries-middle g c = grind (arith, common_steps)

pub bounds-entries-middle-in-loop-low : goal.bounds-entries-middle-in-loop-low
bounds-entries-middle-in-loop-low g c = grind (arith, common_steps)

pub overflow_add-low : goal.overflow_add-low
overflow_add-low g c = grind (arith, common_steps)

pub loop-low-smaller : goal.loop-low-smaller
loop-low-smaller g c = grind (arith, common_steps)

pub loop-low-smaller-then-entries-middle : goal.loop-low-smaller-then-entries-middle
loop-low-smaller-then-entries-middle g c = grind (arith, common_steps)

pub overflow_add-middle : goal.overflow_add-middle
overflow_add-middle g c = grind (arith, common_steps)

pub offset_bounds-entries-middle : goal.offset_bounds-entries-middle
offset_bounds-entries-middle g c = grind (arith, common_steps)

pub overflow_sub-middle : goal.overflow_sub-middle
overflow_sub-middle g c = grind (arith, common_steps)
