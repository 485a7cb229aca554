use Rattle.cip_problem.proofs.Aggregates.{aggregate_holds, aggregate_is, aggregate_unique}
use Rattle.cip_problem.proofs.linear_laws.aggregates_hold.Goals as goal

pub returns : goal.returns
returns c = record { holds = aggregate_holds; computed = aggregate_is; unique = aggregate_unique }
