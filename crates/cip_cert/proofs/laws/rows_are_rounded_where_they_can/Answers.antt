use Rattle.cip_cert.proofs.Rounded.{rounds_where_it_can}
use Rattle.cip_cert.proofs.laws.rows_are_rounded_where_they_can.Goals as goal

pub returns : goal.returns
returns c = rounds_where_it_can
