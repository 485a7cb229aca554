use Rattle.std.proofs.lemmas.Grind.{common_steps}
use Rattle.std.proofs.Common.{arith}
use Rattle.cip_lp.proofs.columns.put_column.Goals as goal

pub push_reserved-requires : goal.push_reserved-requires
push_reserved-requires c = omega (arith, c.in-Ok.ensures.ok)

pub push_reserved-requires-2 : goal.push_reserved-requires-2
push_reserved-requires-2 c = omega (arith, c.in-Ok-reserve.ensures.ok)

pub push_reserved-requires-3 : goal.push_reserved-requires-3
push_reserved-requires-3 c = omega (arith, c.in-Ok-reserve-2.ensures.ok)

pub add-requires : goal.add-requires
add-requires c = grind (arith, common_steps)

pub returns-clause-ok : goal.returns-clause-ok
returns-clause-ok c = grind (arith, common_steps)

pub returns-in_default-add-clause-err : goal.returns-in_default-add-clause-err
returns-in_default-add-clause-err c = grind (arith, common_steps)

pub returns-in_default-reserve-2-clause-err : goal.returns-in_default-reserve-2-clause-err
returns-in_default-reserve-2-clause-err c = grind (arith, common_steps)

pub returns-in_default-reserve-clause-err : goal.returns-in_default-reserve-clause-err
returns-in_default-reserve-clause-err c = grind (arith, common_steps)

pub returns-in_default-to_vec-clause-err : goal.returns-in_default-to_vec-clause-err
returns-in_default-to_vec-clause-err c = grind (arith, common_steps)

pub returns-in_default-clause-err : goal.returns-in_default-clause-err
returns-in_default-clause-err c = grind (arith, common_steps)

pub returns-in_default-add-clause-ok : goal.returns-in_default-add-clause-ok
returns-in_default-add-clause-ok c = grind (arith, common_steps)

pub returns-clause-err : goal.returns-clause-err
returns-clause-err c = grind (arith, common_steps)

pub returns-in_default-to_vec-clause-ok : goal.returns-in_default-to_vec-clause-ok
returns-in_default-to_vec-clause-ok c = grind (arith, common_steps)

pub returns-in_default-reserve-2-clause-ok : goal.returns-in_default-reserve-2-clause-ok
returns-in_default-reserve-2-clause-ok c = grind (arith, common_steps)

pub returns-in_default-reserve-clause-ok : goal.returns-in_default-reserve-clause-ok
returns-in_default-reserve-clause-ok c = grind (arith, common_steps)

pub returns-in_default-clause-ok : goal.returns-in_default-clause-ok
returns-in_default-clause-ok c = grind (arith, common_steps)
