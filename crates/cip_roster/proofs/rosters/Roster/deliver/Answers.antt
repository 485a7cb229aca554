use Rattle.std.proofs.lemmas.Grind.{common_steps}
use Rattle.std.proofs.Common.{arith}
use Rattle.cip_roster.proofs.rosters.Roster.deliver.Goals as goal

pub returns-clause-sound : goal.returns-clause-sound
returns-clause-sound g c = c.deliver.ensures.sound

pub returns-clause-empty : goal.returns-clause-empty
returns-clause-empty g c = c.deliver.ensures.empty

pub returns-clause-told : goal.returns-clause-told
returns-clause-told g c = c.deliver.ensures.told

pub returns-clause-err : goal.returns-clause-err
returns-clause-err g c = c.deliver.ensures.err

pub deliver-requires : goal.deliver-requires
deliver-requires g c = grind (arith, common_steps)
