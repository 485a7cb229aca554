use Rattle.std.proofs.lemmas.Grind.{common_steps}
use Rattle.std.proofs.Common.{◌-◌, arith}
use Rattle.cip_text.proofs.Decided.{divided_fine, divided_exact}
use Rattle.cip_text.proofs.decide.short.Goals as goal

pub returns-in-None : goal.returns-in-None
returns-in-None c =
    let told = divided_fine c.args.negative c.args.size (c.args.down - c.args.up) c.requires.small c.in-None.ensures in
    grind (arith, common_steps, told)

pub returns-in-Some : goal.returns-in-Some
returns-in-Some c =
    let told = divided_exact c.args.negative c.args.size (c.args.down - c.args.up) c.in-Some.below c.requires.small c.in-Some.ensures in
    grind (arith, common_steps, told)

pub returns-in-None-with_zeros : goal.returns-in-None-with_zeros
returns-in-None-with_zeros c = grind (arith, common_steps)

pub returns-in-Some-with_zeros : goal.returns-in-Some-with_zeros
returns-in-Some-with_zeros c = grind (arith, common_steps)

pub with_zeros-requires-2-clause-some : goal.with_zeros-requires-2-clause-some
with_zeros-requires-2-clause-some c = grind (arith, common_steps)

pub with_zeros-requires-2-clause-small : goal.with_zeros-requires-2-clause-small
with_zeros-requires-2-clause-small c = grind (arith, common_steps)

pub overflow_sub-down : goal.overflow_sub-down
overflow_sub-down c = grind (arith, common_steps)
