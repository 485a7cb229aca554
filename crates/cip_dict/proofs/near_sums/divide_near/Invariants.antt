use Rattle.cip_dict.proofs.NearSums.{IsDivided}
use Rattle.cip_dict.proofs.near_sums.divide_near.Given as goal

abbrev pub invariant-loop-at : goal.invariant-loop-at
invariant-loop-at l = IsDivided l.g l.at l.numbers l.initial.numbers
