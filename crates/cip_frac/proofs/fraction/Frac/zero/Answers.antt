use Rattle.std.proofs.Common.{◌∙◌, pos, lit<}
use Rattle.cip_frac.proofs.Fields.{AreLowest-whole, zero_ratio}
use Rattle.cip_frac.proofs.fraction.Frac.zero.Goals as goal

pub of_lowest-requires : goal.of_lowest-requires
of_lowest-requires c = AreLowest-whole (pos 0) (lit< tt)

pub returns : goal.returns
returns c = c.of_lowest.ensures ∙ zero_ratio
