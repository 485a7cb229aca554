use Rattle.std.proofs.lemmas.Grind.{common_steps}
use Rattle.std.proofs.Common.{arith}
use Rattle.cip_frac.proofs.Divisors.{positive_from_IsGcd}
use Rattle.cip_dict.proofs.whole_sums.short_common.Goals as goal

pub returns-else-rest-eq0 : goal.returns-else-rest-eq0
returns-else-rest-eq0 c = positive_from_IsGcd _ c.args.a c.short_gcd.result c.requires c.short_gcd.ensures

pub returns-then-rest-eq0 : goal.returns-then-rest-eq0
returns-then-rest-eq0 c = grind (arith, common_steps)

pub nonzero_rem-rest : goal.nonzero_rem-rest
nonzero_rem-rest c = grind (arith, common_steps)
