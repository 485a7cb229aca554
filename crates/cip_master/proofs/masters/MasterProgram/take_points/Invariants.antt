use Rattle.std.proofs.Common.{◌≡◌}
use Rattle.cip_master.specs.KeptMasters.{HasSeen}
use Rattle.cip_master.proofs.masters.MasterProgram.take_points.Given as goal

abbrev pub invariant-loop-at : goal.invariant-loop-at
invariant-loop-at l = record {
  at : l.self.seen ≡ l.at;
  seen : HasSeen l.program l.blocks l.bounds l.pool l.self;
}
