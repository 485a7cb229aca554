use Rattle.std.proofs.lemmas.Grind.{common_steps}
use Rattle.std.proofs.Common.{arith}
use Rattle.cip_simplex.proofs.combos.combination.Goals as goal

pub returns : goal.returns
returns c = grind (arith, common_steps)

pub columns_with-requires-2-clause-within : goal.columns_with-requires-2-clause-within
columns_with-requires-2-clause-within c = grind (arith, common_steps)

pub columns_with-requires-2-clause-few : goal.columns_with-requires-2-clause-few
columns_with-requires-2-clause-few c = grind (arith, common_steps)

pub columns_with-requires-clause-few : goal.columns_with-requires-clause-few
columns_with-requires-clause-few c = grind (arith, common_steps)

pub columns_with-requires-clause-within : goal.columns_with-requires-clause-within
columns_with-requires-clause-within c = grind (arith, common_steps)

pub rows_with-requires : goal.rows_with-requires
rows_with-requires c = grind (arith, common_steps)
