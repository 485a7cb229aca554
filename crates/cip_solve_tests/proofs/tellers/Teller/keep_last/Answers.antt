use Rattle.std.proofs.Common.{arith}
use Rattle.cip_solve_tests.proofs.Keeping.{kept_endings}
use Rattle.cip_solve_tests.proofs.tellers.Teller.keep_last.Goals as goal

pub invariant_of-self : goal.invariant_of-self
invariant_of-self c = record {
  room = omega (
    arith,
    kept_endings c.args.self.now.calls.items c.push_reserved.new.self.items c.args.call
        c.push_reserved.ensures.items,
    c.requires,
    c.args.self.now.room,
    c.push_reserved.ensures.len,
    c.push_reserved.ensures.capacity,
  );
}
