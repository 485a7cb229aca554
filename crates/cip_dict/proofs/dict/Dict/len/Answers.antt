use Rattle.std.proofs.lemmas.Grind.{common_steps}
use Rattle.std.proofs.Common.{arith}
use Rattle.cip_dict.proofs.dict.Dict.len.Goals as goal

pub returns-clause-consistent : goal.returns-clause-consistent
returns-clause-consistent c = grind (arith, common_steps)

pub returns-clause-variables : goal.returns-clause-variables
returns-clause-variables c = grind (arith, common_steps)
