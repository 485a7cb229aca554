use Rattle.std.proofs.lemmas.Grind.{common_steps}
use Rattle.std.proofs.Common.{arith}
use Rattle.cip_dict.proofs.flip.take_flip.Goals as goal

pub returns : goal.returns
returns c = grind (arith, common_steps)

pub take_values-requires-clause-other_long : goal.take_values-requires-clause-other_long
take_values-requires-clause-other_long c = grind (arith, common_steps)

pub index_mut-requires : goal.index_mut-requires
index_mut-requires c = grind (arith, common_steps)

pub index-requires : goal.index-requires
index-requires c = grind (arith, common_steps)

pub take_values-requires-clause-values_long : goal.take_values-requires-clause-values_long
take_values-requires-clause-values_long c = grind (arith, common_steps)
