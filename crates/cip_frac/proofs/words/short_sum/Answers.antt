use Rattle.std.proofs.lemmas.Grind.{common_steps}
use Rattle.std.proofs.Common.{arith}
use Rattle.cip_frac.proofs.ShortSums.{same_denominators, other_denominators}
use Rattle.cip_frac.proofs.words.short_sum.Goals as goal

pub returns-in-Some : goal.returns-in-Some
returns-in-Some c =
    same_denominators c.args.n c.args.p c.args.m c.args.q c.ranges.n c.ranges.p c.requires.positive c.requires.other_positive c.in-Some.total c.if-m-q.true c.in-Some.ensures

pub returns-in-Some-checked_mul-3 : goal.returns-in-Some-checked_mul-3
returns-in-Some-checked_mul-3 c =
    other_denominators c.args.n c.args.p c.args.m c.args.q c.ranges.n c.ranges.p c.requires.positive c.requires.other_positive _ _ c.in-Some-checked_add.total c.in-Some-checked_mul-3.common
    c.requires.small c.requires.other_small
    c.in-Some-checked_mul.ensures c.in-Some-checked_mul-2.ensures c.in-Some-checked_add.ensures c.in-Some-checked_mul-3.ensures.1

pub overflow_cast-m : goal.overflow_cast-m
overflow_cast-m c = grind (arith, common_steps)

pub overflow_cast-q : goal.overflow_cast-q
overflow_cast-q c = grind (arith, common_steps)

pub returns-in-None-checked_mul : goal.returns-in-None-checked_mul
returns-in-None-checked_mul c = grind (arith, common_steps)

pub returns-in_default-checked_add : goal.returns-in_default-checked_add
returns-in_default-checked_add c = grind (arith, common_steps)

pub returns-in_default-checked_mul : goal.returns-in_default-checked_mul
returns-in_default-checked_mul c = grind (arith, common_steps)

pub returns-in-None : goal.returns-in-None
returns-in-None c = grind (arith, common_steps)

pub returns-in_default : goal.returns-in_default
returns-in_default c = grind (arith, common_steps)
