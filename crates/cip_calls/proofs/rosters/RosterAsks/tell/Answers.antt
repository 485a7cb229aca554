use Rattle.std.proofs.lemmas.Grind.{common_steps}
use Rattle.std.proofs.Common.{arith}
use Rattle.cip_calls.proofs.Calling.{delivered_told, delivered_run, either_on}
use Rattle.cip_calls.proofs.Serving.{on_ok}
use Rattle.cip_calls.proofs.rosters.RosterAsks.tell.Goals as goal

pub returns-clause-told : goal.returns-clause-told
returns-clause-told g c = on_ok _ _ _ (λ d. delivered_told _ _ _ _ d) c.deliver.ensures.told

pub returns-clause-run : goal.returns-clause-run
returns-clause-run g c = either_on _ _ _ _ (λ d. delivered_run _ _ _ _ d) (λ ran. ran) c.deliver.ensures.told c.deliver.ensures.err

pub returns-clause-sound : goal.returns-clause-sound
returns-clause-sound g c = grind (arith, common_steps)

pub returns-clause-empty : goal.returns-clause-empty
returns-clause-empty g c = grind (arith, common_steps)

pub deliver-requires : goal.deliver-requires
deliver-requires g c = grind (arith, common_steps)
