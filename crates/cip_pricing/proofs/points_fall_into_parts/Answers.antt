use Rattle.cip_pricing.proofs.Parts.{dot_parts}
use Rattle.cip_pricing.proofs.Picked.{activity_renumbered}
use Rattle.cip_pricing.proofs.points_fall_into_parts.Goals as goal

pub returns : goal.returns
returns c = record {
  sums = dot_parts;
  rows = λ owners block row point h. activity_renumbered owners block row.terms
      point h;
}
