use Rattle.std.proofs.lemmas.Grind.{common_steps}
use Rattle.std.proofs.Common.{arith}
use Rattle.cip_split.proofs.Differences.{differs_on, agrees_more, agrees_all}
use Rattle.cip_split.proofs.split_rows.least_difference.Goals as goal

pub loop-column-init : goal.loop-column-init
loop-column-init c = record {
  below = omega arith;
  differs = λ h. absurd (omega (arith, h));
  agrees = λ j h l. absurd (omega (arith, h));
}

pub loop-column-preserved : goal.loop-column-preserved
loop-column-preserved c = record {
  below = omega (arith, c.lesser_difference-least.ensures.below, c.loop-column.invariant.below);
  differs = differs_on _ _ _ _ _ _ c.lesser_difference-least.ensures.below c.lesser_difference-least.ensures.differs c.loop-column.invariant.differs;
  agrees = agrees_more _ _ _ _ _ _ c.lesser_difference-least.ensures.below c.lesser_difference-least.ensures.agrees c.loop-column.invariant.agrees;
}

pub returns-clause-agrees : goal.returns-clause-agrees
returns-clause-agrees c = agrees_all _ _ _ _ _ c.loop-column-test.false c.loop-column.invariant.agrees

pub lesser_difference-least-requires-clause-same : goal.lesser_difference-least-requires-clause-same
lesser_difference-least-requires-clause-same c = grind (arith, common_steps)

pub returns-clause-differs : goal.returns-clause-differs
returns-clause-differs c = grind (arith, common_steps)

pub lesser_difference-least-requires-clause-within : goal.lesser_difference-least-requires-clause-within
lesser_difference-least-requires-clause-within c = grind (arith, common_steps)

pub offset_bounds-touched-column-index : goal.offset_bounds-touched-column-index
offset_bounds-touched-column-index c = grind (arith, common_steps)

pub returns-clause-below : goal.returns-clause-below
returns-clause-below c = grind (arith, common_steps)
