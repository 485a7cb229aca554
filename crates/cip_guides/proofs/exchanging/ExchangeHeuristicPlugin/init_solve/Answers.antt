use Rattle.std.proofs.lemmas.Grind.{common_steps}
use Rattle.std.proofs.Common.{arith}
use Rattle.cip_guides.proofs.exchanging.ExchangeHeuristicPlugin.init_solve.Goals as goal

pub returns : goal.returns
returns c = grind (arith, common_steps)

pub bounds-cost-items-column : goal.bounds-cost-items-column
bounds-cost-items-column c = grind (arith, common_steps)

pub offset_bounds-cost-items-column : goal.offset_bounds-cost-items-column
offset_bounds-cost-items-column c = grind (arith, common_steps)

pub returns-in_err-push : goal.returns-in_err-push
returns-in_err-push c = grind (arith, common_steps)
