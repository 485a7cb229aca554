use Rattle.std.proofs.lemmas.Grind.{common_steps}
use Rattle.std.proofs.Common.{arith}
use Rattle.cip_dict.proofs.FirstCosts.{costs_none, costs_more, costs_all}
use Rattle.cip_dict.proofs.first.all_costs.Goals as goal

pub loop-k-init : goal.loop-k-init
loop-k-init c = costs_none c.args.costs.now c.args.n c.zeros-all.result c.zeros-all.ensures

pub set-requires : goal.set-requires
set-requires c = omega (arith, c.loop-k.invariant.long, c.loop-k-test.true, c.requires.columns)

pub loop-k-preserved : goal.loop-k-preserved
loop-k-preserved c = costs_more c.args.costs.now c.args.n c.loop-k.k _ c.loop-k.all c.set.new.self c.loop-k-test.true c.requires.columns c.index-costs-k.is c.loop-k.invariant c.in_ok-set.ensures

pub returns : goal.returns
returns c = costs_all c.args.costs.now c.args.n c.loop-k.k c.loop-k.all (omega arith) c.loop-k.invariant

pub bounds-costs-k : goal.bounds-costs-k
bounds-costs-k c = grind (arith, common_steps)

pub offset_bounds-costs-k : goal.offset_bounds-costs-k
offset_bounds-costs-k c = grind (arith, common_steps)

pub overflow_cast-k : goal.overflow_cast-k
overflow_cast-k c = grind (arith, common_steps)

pub same-all : goal.same-all
same-all c = grind (arith, common_steps)
