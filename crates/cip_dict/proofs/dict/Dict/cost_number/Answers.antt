use Rattle.std.proofs.lemmas.Grind.{common_steps}
use Rattle.std.proofs.Common.{arith}
use Rattle.cip_dict.proofs.dict.Dict.cost_number.Goals as goal

pub number-requires : goal.number-requires
number-requires c = grind (arith, common_steps)
