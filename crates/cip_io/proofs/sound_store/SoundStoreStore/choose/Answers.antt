use Rattle.std.proofs.lemmas.Grind.{common_steps}
use Rattle.std.proofs.Common.{arith}
use Rattle.cip_io.proofs.sound_store.SoundStoreStore.choose.Goals as goal

pub returns-then-not-choose-clause-state : goal.returns-then-not-choose-clause-state
returns-then-not-choose-clause-state c = grind (arith, common_steps)

pub returns-else-not-choose-clause-state : goal.returns-else-not-choose-clause-state
returns-else-not-choose-clause-state c = grind (arith, common_steps)

pub returns-then-not-choose-clause-sound : goal.returns-then-not-choose-clause-sound
returns-then-not-choose-clause-sound c = grind (arith, common_steps)

pub returns-else-not-choose-clause-sound : goal.returns-else-not-choose-clause-sound
returns-else-not-choose-clause-sound c = grind (arith, common_steps)
