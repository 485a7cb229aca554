use Rattle.std.proofs.Common.{length}
use Rattle.cip_solve_tests.proofs.wishes.+come_to.Given as goal

abbrev pub decreases-come_to : goal.decreases-come_to
decreases-come_to g l = length l.wishes.now
