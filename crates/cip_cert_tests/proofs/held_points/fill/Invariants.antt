use Rattle.cip_master.specs.KeptMasters.{ArePoolPoints}
use Rattle.cip_cert_tests.proofs.held_points.fill.Given as goal

abbrev pub invariant-loop-at : goal.invariant-loop-at
invariant-loop-at l = ArePoolPoints l.program l.blocks l.pool
