use Rattle.std.proofs.Common.{◌≡◌}
use Rattle.cip_bland.specs.Tables.{table}
use Rattle.cip_bland.specs.EndAnswers.{change_of}
use Rattle.cip_simplex.proofs.ends.ray_answer.Given as goal

abbrev pub invariant-loop-v : goal.invariant-loop-v
invariant-loop-v l = l.ray.items ≡ table l.v (change_of l.dict l.j)
