use Rattle.std.proofs.lemmas.Grind.{common_steps}
use Rattle.std.proofs.Common.{◌+◌, arith}
use Rattle.cip_text.proofs.FeedCuts.{no_feed, cut_at_feed, before_feed, whole_rest}
use Rattle.cip_text.proofs.piece_cuts.cut_line.Goals as goal

pub returns-in-None : goal.returns-in-None
returns-in-None c = no_feed c.args.bytes.now c.in-None.ensures

pub returns-in-Some : goal.returns-in-Some
returns-in-Some c =
    let bytes = c.args.bytes.now in
    let found = c.in-Some.ensures in
    rw (whole_rest bytes (c.in-Some.at + 1)) (cut_at_feed bytes c.in-Some.at found.0.high found.1, before_feed bytes c.in-Some.at found.0.high found.0.before)

pub slice_bounds-result-end : goal.slice_bounds-result-end
slice_bounds-result-end c = grind (arith, common_steps)

pub overflow_add-result : goal.overflow_add-result
overflow_add-result c = grind (arith, common_steps)

pub slice_bounds-result-count : goal.slice_bounds-result-count
slice_bounds-result-count c = grind (arith, common_steps)

pub slice_bounds-result-start : goal.slice_bounds-result-start
slice_bounds-result-start c = grind (arith, common_steps)
