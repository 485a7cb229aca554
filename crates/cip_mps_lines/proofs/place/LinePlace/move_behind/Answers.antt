use Rattle.std.proofs.lemmas.Grind.{common_steps}
use Rattle.std.proofs.Common.{arith}
use Rattle.cip_mps_lines.proofs.place.LinePlace.move_behind.Goals as goal

pub returns-in-RightSideLine-clause-ok : goal.returns-in-RightSideLine-clause-ok
returns-in-RightSideLine-clause-ok c = grind (arith, common_steps)

pub returns-in-Opens-clause-ok : goal.returns-in-Opens-clause-ok
returns-in-Opens-clause-ok c = grind (arith, common_steps)

pub returns-in_default : goal.returns-in_default
returns-in_default c = grind (arith, common_steps)

pub returns-in-Marker-clause-ok : goal.returns-in-Marker-clause-ok
returns-in-Marker-clause-ok c = grind (arith, common_steps)

pub returns-in-RightSideLine-clause-err : goal.returns-in-RightSideLine-clause-err
returns-in-RightSideLine-clause-err c = grind (arith, common_steps)

pub returns-in-SenseLine-clause-ok : goal.returns-in-SenseLine-clause-ok
returns-in-SenseLine-clause-ok c = grind (arith, common_steps)

pub returns-in-Marker-clause-err : goal.returns-in-Marker-clause-err
returns-in-Marker-clause-err c = grind (arith, common_steps)

pub returns-in-SenseLine-clause-err : goal.returns-in-SenseLine-clause-err
returns-in-SenseLine-clause-err c = grind (arith, common_steps)

pub returns-in-Opens-clause-err : goal.returns-in-Opens-clause-err
returns-in-Opens-clause-err c = grind (arith, common_steps)
