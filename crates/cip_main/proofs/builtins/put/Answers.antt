use Rattle.std.proofs.lemmas.Grind.{common_steps}
use Rattle.std.proofs.Common.{arith}
use Rattle.cip_main.proofs.builtins.put.Goals as goal

pub returns-clause-len : goal.returns-clause-len
returns-clause-len g c = grind (arith, common_steps)

pub returns-clause-capacity : goal.returns-clause-capacity
returns-clause-capacity g c = grind (arith, common_steps)

pub push_reserved-requires-5 : goal.push_reserved-requires-5
push_reserved-requires-5 g c = grind (arith, common_steps)

pub push_reserved-requires-4 : goal.push_reserved-requires-4
push_reserved-requires-4 g c = grind (arith, common_steps)

pub push_reserved-requires-3 : goal.push_reserved-requires-3
push_reserved-requires-3 g c = grind (arith, common_steps)

pub push_reserved-requires-2 : goal.push_reserved-requires-2
push_reserved-requires-2 g c = grind (arith, common_steps)

pub push_reserved-requires : goal.push_reserved-requires
push_reserved-requires g c = grind (arith, common_steps)
