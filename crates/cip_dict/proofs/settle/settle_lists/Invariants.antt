use Rattle.std.proofs.Common.{◌≡◌}
use Rattle.cip_dict.proofs.settle.settle_lists.Given as goal

abbrev pub invariant-loop-v : goal.invariant-loop-v
invariant-loop-v l = l.rows ≡ l.initial.rows
