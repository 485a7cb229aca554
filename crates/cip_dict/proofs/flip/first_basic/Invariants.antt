use Rattle.std.proofs.Common.{◌≡◌, None}
use Rattle.cip_bland.specs.Tables.{least}
use Rattle.cip_dict.specs.Lists.{basic_in}
use Rattle.cip_dict.proofs.flip.first_basic.Given as goal

abbrev pub invariant-loop-v : goal.invariant-loop-v
invariant-loop-v l = least l.v (basic_in l.standing) ≡ None
