use Rattle.cip_search.proofs.CompactPairs.{compacted_exact}
use Rattle.cip_search.proofs.Spreading.{left_back, left_onward, numbers_listed}
use Rattle.cip_search.proofs.reduction_laws.compacted_is_exact.Goals as goal
use Rattle.std.proofs.Common.{refl}

pub returns : goal.returns
returns c = record {
  pair = compacted_exact;
  back = left_back;
  onward = λ compacted forms stays rows point a h. left_onward compacted forms stays rows point _ refl a h;
  numbers = λ forms entries number entry h. numbers_listed forms entries number entry h;
}
