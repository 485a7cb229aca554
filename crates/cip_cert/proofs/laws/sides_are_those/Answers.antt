use Rattle.cip_cert.proofs.Rounded.{low_is, high_is}
use Rattle.cip_cert.proofs.laws.sides_are_those.Goals as goal

pub returns : goal.returns
returns c = record { low = low_is; high = high_is }
