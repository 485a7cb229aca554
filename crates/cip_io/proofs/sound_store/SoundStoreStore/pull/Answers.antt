use Rattle.std.proofs.lemmas.Grind.{common_steps}
use Rattle.std.proofs.Common.{arith}
use Rattle.cip_io.proofs.sound_store.SoundStoreStore.pull.Goals as goal

pub returns-clause-count : goal.returns-clause-count
returns-clause-count c = grind (arith, common_steps)

pub returns-clause-comes : goal.returns-clause-comes
returns-clause-comes c = grind (arith, common_steps)

pub returns-clause-state : goal.returns-clause-state
returns-clause-state c = grind (arith, common_steps)
