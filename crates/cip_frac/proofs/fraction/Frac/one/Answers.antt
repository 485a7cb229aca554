use Rattle.std.proofs.Common.{◌∙◌, pos, lit<}
use Rattle.cip_frac.proofs.Fields.{AreLowest-whole, one_ratio}
use Rattle.cip_frac.proofs.fraction.Frac.one.Goals as goal

pub of_lowest-requires : goal.of_lowest-requires
of_lowest-requires c = AreLowest-whole (pos 1) (lit< tt)

pub returns : goal.returns
returns c = c.of_lowest.ensures ∙ one_ratio
