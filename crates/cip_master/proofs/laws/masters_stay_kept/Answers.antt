use Rattle.cip_master.proofs.Grown.{stay_kept}
use Rattle.cip_master.proofs.laws.masters_stay_kept.Goals as goal

pub returns : goal.returns
returns c = stay_kept
