use Rattle.std.proofs.Common.{refl}
use Rattle.cip_text_rules.proofs.Quiet.{kept, least_broken, least_least}
use Rattle.cip_text_rules.specs.PointRules.{point_rules}
use Rattle.cip_text_rules.proofs.points.point_faults_are_least.Goals as goal

pub returns : goal.returns
returns c = record {
  broken = λ program given now kind e. least_broken (point_rules program given now) kind e;
  least = λ program given now kind e. least_least 0 (point_rules program given now) kind refl e;
  none = λ program given now e. kept (point_rules program given now) e;
}
