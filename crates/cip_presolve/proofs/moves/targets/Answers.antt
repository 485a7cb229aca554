use Rattle.std.proofs.lemmas.Grind.{common_steps}
use Rattle.cip_presolve.proofs.Plans.{target_more, all_targets}
use Rattle.std.proofs.Common.{◌≡◌, length, rules, arith}
use Rattle.cip_presolve.proofs.moves.targets.Goals as goal

pub loop-column-preserved : goal.loop-column-preserved
loop-column-preserved c =
    target_more c.args.rising c.args.free.now c.args.draft.now c.loop-column.targets.items c.push.new.self.items c.moved.result c.loop-column.column
    c.loop-column.invariant c.moved.ensures c.in_ok-push.ensures.items

pub returns : goal.returns
returns c =
    let count : c.loop-column.column ≡ length c.args.draft.now.bounds = search rules in
    all_targets c.args.rising c.args.free.now c.args.draft.now c.loop-column.targets.items c.loop-column.column c.loop-column.invariant count

pub loop-column-init : goal.loop-column-init
loop-column-init c = grind (arith, common_steps)

pub moved-requires : goal.moved-requires
moved-requires c = grind (arith, common_steps)

pub overflow_cast-column-end : goal.overflow_cast-column-end
overflow_cast-column-end c = grind (arith, common_steps)
