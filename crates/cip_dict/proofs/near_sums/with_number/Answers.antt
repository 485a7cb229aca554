use Rattle.std.proofs.lemmas.Grind.{common_steps}
use Rattle.std.proofs.Common.{arith}
use Rattle.std.proofs.lemmas.Nat.{le_or_l, le_or_r}
use Rattle.std.proofs.lemmas.Int.{ints}
use Rattle.cip_dict.proofs.near_sums.with_number.Goals as goal

pub returns-clause-before : goal.returns-clause-before
returns-clause-before c = le_or_l c.args.near.most c.unsigned_abs-size.result

pub returns-clause-this : goal.returns-clause-this
returns-clause-this c = omega (arith, ints, le_or_r c.args.near.most c.unsigned_abs-size.result, c.unsigned_abs-size.ensures.value, c.ranges.z)

pub returns-clause-positive : goal.returns-clause-positive
returns-clause-positive c = grind (arith, common_steps)
