use Rattle.cip_rational.proofs.Rational.Rounding.{floor_le, floor_greatest, le_ceil, ceil_least, whole_gap}
use Rattle.cip_rational.proofs.rounding.Goals as goal

pub returns : goal.returns
returns c = record { floor_le = floor_le; floor_greatest = floor_greatest; le_ceil = le_ceil; ceil_least = ceil_least; gap = whole_gap }
