use Rattle.std.proofs.Common.{◌-◌, length}
use Rattle.cip_cert_tests.proofs.walks.+grow.Given as goal

abbrev pub decreases-grow : goal.decreases-grow
decreases-grow l = length l.costs.now - l.first
