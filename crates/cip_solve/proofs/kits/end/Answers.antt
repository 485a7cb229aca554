use Rattle.std.proofs.lemmas.Grind.{common_steps}
use Rattle.std.proofs.Common.{arith}
use Rattle.cip_solve.proofs.SearchesEnded.{same_map, ended_kept}
use Rattle.cip_solve.proofs.kits.end.Goals as goal

pub returns : goal.returns
returns g c = record {
  ended = ended_kept c.args.kept _ _ _ _ c.take_trace.result c.if-not-kept.false c.close.ensures.closed (same_map _ _ _ c.close.ensures.start) (same_map _ _ _ c.close.ensures.shelf) c.take_trace.ensures.names c.take_trace.ensures.lines;
}

pub close-requires-clause-room : goal.close-requires-clause-room
close-requires-clause-room g c = omega arith

pub close-requires-clause-sound : goal.close-requires-clause-sound
close-requires-clause-sound g c = grind (arith, common_steps)

pub returns-then-not-kept : goal.returns-then-not-kept
returns-then-not-kept g c = grind (arith, common_steps)

pub take_trace-requires : goal.take_trace-requires
take_trace-requires g c = grind (arith, common_steps)
