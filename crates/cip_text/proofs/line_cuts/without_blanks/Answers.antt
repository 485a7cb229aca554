use Rattle.std.proofs.lemmas.Grind.{common_steps}
use Rattle.std.proofs.Common.{arith}
use Rattle.cip_text.proofs.line_cuts.without_blanks.Goals as goal

pub loop-rest-preserved : goal.loop-rest-preserved
loop-rest-preserved c = grind (arith, common_steps)

pub loop-rest-smaller : goal.loop-rest-smaller
loop-rest-smaller c = grind (arith, common_steps)

pub bounds-rest-0 : goal.bounds-rest-0
bounds-rest-0 c = grind (arith, common_steps)

pub slice_bounds-others-count : goal.slice_bounds-others-count
slice_bounds-others-count c = grind (arith, common_steps)

pub slice_bounds-others-start : goal.slice_bounds-others-start
slice_bounds-others-start c = grind (arith, common_steps)

pub returns-then-not-is_blank-clause-starts : goal.returns-then-not-is_blank-clause-starts
returns-then-not-is_blank-clause-starts c = grind (arith, common_steps)

pub returns-clause-starts : goal.returns-clause-starts
returns-clause-starts c = grind (arith, common_steps)

pub returns-clause-same : goal.returns-clause-same
returns-clause-same c = grind (arith, common_steps)

pub returns-then-not-is_blank-clause-same : goal.returns-then-not-is_blank-clause-same
returns-then-not-is_blank-clause-same c = grind (arith, common_steps)
