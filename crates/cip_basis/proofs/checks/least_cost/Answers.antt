use Rattle.std.proofs.lemmas.Grind.{common_steps}
use Rattle.std.proofs.Common.{◌≡◌, sym, rules, arith}
use Rattle.cip_basis.proofs.Certified.{optimal}
use Rattle.cip_basis.proofs.checks.least_cost.Goals as goal

pub returns-then-eq-clause-optimal : goal.returns-then-eq-clause-optimal
returns-then-eq-clause-optimal c =
    let same : c.in-Some.bound ≡ c.in-Ok.cost = search rules in
    optimal c.args.problem.now c.requires.ready c.args.point.now c.in-Ok.cost c.in-Some.bound c.requires.point (sym c.in-Ok.ensures) c.in-Some.ensures.least same

pub returns-then-eq-clause-room : goal.returns-then-eq-clause-room
returns-then-eq-clause-room c = grind (arith, common_steps)

pub returns-else-eq-clause-room : goal.returns-else-eq-clause-room
returns-else-eq-clause-room c = grind (arith, common_steps)

pub returns-in_default-safe_cost-clause-room : goal.returns-in_default-safe_cost-clause-room
returns-in_default-safe_cost-clause-room c = grind (arith, common_steps)

pub safe_cost-requires-clause-room : goal.safe_cost-requires-clause-room
safe_cost-requires-clause-room c = grind (arith, common_steps)

pub cost_at-requires : goal.cost_at-requires
cost_at-requires c = grind (arith, common_steps)

pub safe_cost-requires-clause-ready : goal.safe_cost-requires-clause-ready
safe_cost-requires-clause-ready c = grind (arith, common_steps)

pub returns-else-eq-clause-optimal : goal.returns-else-eq-clause-optimal
returns-else-eq-clause-optimal c = grind (arith, common_steps)

pub returns-in_default-safe_cost-clause-optimal : goal.returns-in_default-safe_cost-clause-optimal
returns-in_default-safe_cost-clause-optimal c = grind (arith, common_steps)

pub returns-in_default-clause-optimal : goal.returns-in_default-clause-optimal
returns-in_default-clause-optimal c = grind (arith, common_steps)
