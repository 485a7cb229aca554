use Rattle.std.proofs.lemmas.Grind.{common_steps}
use Rattle.std.proofs.Common.{arith}
use Rattle.cip_lp.proofs.PieceLaws.{blank_passed, rest_shorter}
use Rattle.cip_lp.proofs.pieces.without_blanks.Goals as goal

pub loop-rest-preserved : goal.loop-rest-preserved
loop-rest-preserved c = blank_passed c.loop-rest.rest.now c.args.bytes.now c.in-len1-up.len_at_least c.if-not-is_blank.ensures c.loop-rest.invariant

pub loop-rest-smaller : goal.loop-rest-smaller
loop-rest-smaller c = rest_shorter c.loop-rest.rest.now c.in-len1-up.len_at_least

pub bounds-rest-0 : goal.bounds-rest-0
bounds-rest-0 c = omega arith

pub slice_bounds-others-count : goal.slice_bounds-others-count
slice_bounds-others-count c = grind (arith, common_steps)

pub slice_bounds-others-start : goal.slice_bounds-others-start
slice_bounds-others-start c = grind (arith, common_steps)

pub without_comment-requires : goal.without_comment-requires
without_comment-requires c = grind (arith, common_steps)

pub returns-then-not-is_blank-clause-same : goal.returns-then-not-is_blank-clause-same
returns-then-not-is_blank-clause-same c = grind (arith, common_steps)

pub returns-then-not-is_blank-clause-starts : goal.returns-then-not-is_blank-clause-starts
returns-then-not-is_blank-clause-starts c = grind (arith, common_steps)

pub returns-clause-starts : goal.returns-clause-starts
returns-clause-starts c = grind (arith, common_steps)

pub returns-clause-same : goal.returns-clause-same
returns-clause-same c = grind (arith, common_steps)
