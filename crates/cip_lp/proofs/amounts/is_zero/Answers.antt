use Rattle.cip_lp.proofs.ValueLaws.{zero_is}
use Rattle.cip_lp.proofs.amounts.is_zero.Goals as goal

pub returns : goal.returns
returns c = zero_is c.args.value c.is_zero.result c.is_zero.ensures
