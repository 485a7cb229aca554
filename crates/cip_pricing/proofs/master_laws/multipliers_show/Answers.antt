use Rattle.cip_pricing.proofs.Multiplied.{shown}
use Rattle.cip_pricing.proofs.master_laws.multipliers_show.Goals as goal

pub returns : goal.returns
returns c = λ program blocks box held lp costs y u d wide each m uses sums.
    shown program blocks box held lp costs y u wide each m uses sums
