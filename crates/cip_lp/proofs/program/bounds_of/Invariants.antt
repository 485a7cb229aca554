use Rattle.std.proofs.Common.{◌≡◌, take}
use Rattle.cip_lp.proofs.program.bounds_of.Given as goal

abbrev pub invariant-loop-own : goal.invariant-loop-own
invariant-loop-own l = l.bounds ≡ take l.own-index l.sides
