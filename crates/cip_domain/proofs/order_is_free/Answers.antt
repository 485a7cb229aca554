use Rattle.cip_domain.proofs.Boxes.{narrowed-reverse}
use Rattle.cip_domain.proofs.order_is_free.Goals as goal

pub returns : goal.returns
returns c = narrowed-reverse
