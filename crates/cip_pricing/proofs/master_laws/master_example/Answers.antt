use Rattle.cip_pricing.proofs.MasterTried as tried
use Rattle.cip_pricing.proofs.master_laws.master_example.Goals as goal

pub returns : goal.returns
returns c = tried.master_example
