use Rattle.std.proofs.lemmas.Grind.{common_steps}
use Rattle.std.proofs.Common.{arith}
use Rattle.cip_split.proofs.calls.split_rests_on_cutoff.Goals as goal

pub returns-else-rests_on_cutoff : goal.returns-else-rests_on_cutoff
returns-else-rests_on_cutoff c = grind (arith, common_steps)

pub returns-then-rests_on_cutoff : goal.returns-then-rests_on_cutoff
returns-then-rests_on_cutoff c = grind (arith, common_steps)
