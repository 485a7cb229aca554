use Rattle.std.proofs.lemmas.Grind.{common_steps}
use Rattle.std.proofs.Common.{arith}
use Rattle.cip_frac.proofs.Halves.{same_itself}
use Rattle.cip_frac.proofs.gcd.denominators_gcd.Goals as goal

pub returns-then-b-d : goal.returns-then-b-d
returns-then-b-d c = same_itself c.args.b c.args.d c.if-b-d.true

pub returns-else-b-d : goal.returns-else-b-d
returns-else-b-d c = grind (arith, common_steps)
