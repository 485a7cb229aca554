use Rattle.std.proofs.Common.{◌≡◌, drop}
use Rattle.cip_master.specs.BlockVerdicts.{first_faulty}
use Rattle.cip_master.proofs.checks.faulty_row.Given as goal

abbrev pub invariant-loop-at : goal.invariant-loop-at
invariant-loop-at l = first_faulty l.at (drop l.at l.rows) l.point ≡ first_faulty 0 l.rows l.point
