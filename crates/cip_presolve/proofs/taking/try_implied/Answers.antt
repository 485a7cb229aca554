use Rattle.cip_search.proofs.Pairing.{exact_self}
use Rattle.cip_presolve.proofs.taking.try_implied.Goals as goal

pub returns-in-Ok-None-clause-step : goal.returns-in-Ok-None-clause-step
returns-in-Ok-None-clause-step c = exact_self c.args.draft.now

pub returns-in-Err-clause-step : goal.returns-in-Err-clause-step
returns-in-Err-clause-step c = exact_self c.args.draft.now
