use Rattle.std.proofs.Common.{◌≡◌, vec_len}
use Rattle.cip_master.proofs.starts.start_behind.Given as goal

abbrev pub invariant-loop-v : goal.invariant-loop-v
invariant-loop-v l = vec_len l.standing ≡ l.v
