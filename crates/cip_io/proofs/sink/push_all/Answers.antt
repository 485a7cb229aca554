use Rattle.std.proofs.lemmas.Grind.{common_steps}
use Rattle.std.proofs.Common.{◌∙◌, arith}
use Rattle.std.proofs.lemmas.List.{take_rest}
use Rattle.cip_io.proofs.PushLemmas.{TakesAll-more}
use Rattle.cip_io.proofs.sink.push_all.Goals as goal

pub loop-done-preserved : goal.loop-done-preserved
loop-done-preserved g c =
    let so_far = c.loop-done.invariant in
    let more = TakesAll-more (g.K.Sink.tells c.args.out.now) (g.K.Sink.tells c.loop-done.out) _ c.args.piece.now _ c.loop-done.done c.in_ok-count.count (take_rest c.args.piece.now c.loop-done.done) so_far.0 so_far.1 c.in_ok-count.ensures.taken in
    (more.0, more.1, c.in_ok-count.ensures.faults.0 ∙ so_far.2)

pub returns-clause-taken : goal.returns-clause-taken
returns-clause-taken g c = grind (arith, common_steps)

pub loop-done-smaller : goal.loop-done-smaller
loop-done-smaller g c = grind (arith, common_steps)

pub overflow_add-done : goal.overflow_add-done
overflow_add-done g c = grind (arith, common_steps)

pub returns-in_err-count-clause-taken : goal.returns-in_err-count-clause-taken
returns-in_err-count-clause-taken g c = grind (arith, common_steps)

pub returns-in_err-count-clause-faults : goal.returns-in_err-count-clause-faults
returns-in_err-count-clause-faults g c = grind (arith, common_steps)

pub push-requires : goal.push-requires
push-requires g c = omega arith

pub loop-done-init : goal.loop-done-init
loop-done-init g c = grind (arith, common_steps)

pub slice_bounds-push-count : goal.slice_bounds-push-count
slice_bounds-push-count g c = grind (arith, common_steps)

pub slice_bounds-push-start : goal.slice_bounds-push-start
slice_bounds-push-start g c = grind (arith, common_steps)

pub returns-clause-faults : goal.returns-clause-faults
returns-clause-faults g c = grind (arith, common_steps)
