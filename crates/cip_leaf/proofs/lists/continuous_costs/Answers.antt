use Rattle.std.proofs.lemmas.Grind.{common_steps}
use Rattle.std.proofs.Common.{◌<◌, length, arith}
use Rattle.cip_leaf.proofs.ListSteps.{kept_more, kept_end}
use Rattle.cip_leaf.proofs.Steps.{skipped}
use Rattle.cip_leaf.proofs.lists.continuous_costs.Goals as goal

pub loop-at-preserved-then-whole-at : goal.loop-at-preserved-then-whole-at
loop-at-preserved-then-whole-at c =
    skipped c.loop-at.at c.args.whole.now c.args.costs.now c.loop-at.kept.items _ c.requires c.if-whole-at.true c.loop-at.invariant

pub loop-at-preserved : goal.loop-at-preserved
loop-at-preserved c =
    let within : c.loop-at.at < length c.args.whole.now = omega arith in
    kept_more c.loop-at.at c.args.whole.now c.args.costs.now c.index-costs-at.result c.loop-at.kept.items c.push.new.self.items _ c.requires within c.if-whole-at.false c.index-costs-at.is c.in_ok-push.ensures.items c.loop-at.invariant

pub returns : goal.returns
returns c = kept_end c.loop-at.at c.args.whole.now c.args.costs.now c.loop-at.kept.items _ c.requires (omega arith) c.loop-at.invariant

pub bounds-costs-at : goal.bounds-costs-at
bounds-costs-at c = omega arith

pub loop-at-init : goal.loop-at-init
loop-at-init c = grind (arith, common_steps)

pub offset_bounds-costs-at : goal.offset_bounds-costs-at
offset_bounds-costs-at c = grind (arith, common_steps)

pub bounds-whole-at : goal.bounds-whole-at
bounds-whole-at c = grind (arith, common_steps)
